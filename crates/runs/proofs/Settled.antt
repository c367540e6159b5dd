-- The settings after a request are those of a configure, else as they were: their floats fit the format.
use Prim.Native.Nat.{ℕ}
use mathlib.Core.Bool.{Bool, true, false}
use mathlib.Core.List.{List}
use Rattle.std.specs.Prelude.{None}
use mathlib.Core.Path.{◌≡◌, refl, sym, subst, ◌∙◌}
use Rattle.settings.specs.declared.Settings.{Settings}
use Rattle.settings_words.specs.FloatsFit.{FloatsFit}
use Rattle.rules.proofs.Effects.{flash_elim, flash_sound, named_sound, ready}
use Rattle.rules.proofs.Epochs.{count_moves, released_moves}
use Rattle.rules.proofs.Moves.{Moves, room_moves, dirty_moves, sound_listed, sound_same}
use Rattle.rules.proofs.Sound.{sound_touch, sound_load}
use Rattle.rules.proofs.Steps.{failed, stepped}
use Rattle.rules.proofs.Tests.{choose}
use Rattle.rules.specs.Allowed.{Sound}
use Rattle.rules.specs.Cache.{Cache, Work, start, touch}
use Rattle.rules.specs.Entries.{protected_for, released, changed_to}
use Rattle.rules.specs.Refusals.{Call, first_of, tests, refusal_of}
use Rattle.rules.specs.Requests.{Outcome, configured, effect, growth, loaded, named, step}
use Rattle.rules.specs.Resizing.{flashed}
use Rattle.rules.specs.Room.{make_room}
use Rattle.rules.specs.Rows.{is_here}
use Rattle.rules.specs.declared.request.Request.{Request}
use Rattle.rules.specs.declared.request.Request.TheVariants.{Insert, Protect, Release, ReleaseChanged, Pin, Unpin, Resize, Discard, Flush, Sync, Take, Configure}
use Rattle.runs.specs.Hosts.{FloatsOf}

moves_settings : {may sets : Bool} {w v : Work} → Moves may sets w v → v.cache.settings ≡ w.cache.settings
moves_settings Moves.done = refl
moves_settings (Moves.evicts a e g l d m) = moves_settings m
moves_settings (Moves.writes a e r k g l d s m) = moves_settings m
moves_settings (Moves.tunes n h k y m) = moves_settings m
moves_settings (Moves.ages y m) = moves_settings m
moves_settings (Moves.notes b m) = moves_settings m

flash_settings : (x : ℕ) (c : Cache) → (flashed x c).settings ≡ c.settings
flash_settings x c = flash_elim (λ (d : Cache). d.settings ≡ c.settings) x c (λ n h k b. refl)

module _ (c : Cache) (lent : ℕ) (message : List ℕ) (k : Sound c) (p : FloatsFit c.settings) where
  kept : {s : Settings} → s ≡ c.settings → FloatsFit s
  kept e = subst FloatsFit (sym e) p

  floats_after : (r : Request) → first_of (tests c lent message r) ≡ None → FloatsOf r → FloatsFit (effect c message r).cache.settings
  unfolding tests effect
  floats_after (Insert a s) h q = kept (moves_settings (room_moves {sets = false} s true (start (flashed s c)) (flash_sound s c k)) ∙ flash_settings s c)
  floats_after (Protect x a s) h q =
      let f = failed (tests c lent message (Protect x a s)) h in
      choose (λ (w : Work). FloatsFit w.cache.settings) (is_here c.rows a)
      (λ i. kept (moves_settings (count_moves true (start (touch a (protected_for x) c)) (sound_touch a (protected_for x) (λ e. refl) c k))))
      (λ i. let m = ready a s c k i (simp i at f.1.1.1.1.0) in
      let w = make_room s true (start (flashed s c)) in
      kept (moves_settings (count_moves false (loaded x a s w) (sound_load x a s w.cache m.free m.absent m.sound)) ∙ moves_settings m.moves))
  floats_after (Release a) h q = kept (moves_settings (released_moves {sets = false} a (touch a released c) (sound_touch a released (λ e. refl) c k)))
  floats_after (ReleaseChanged a s) h q =
      let d = named a s c in
      kept
      (moves_settings (released_moves {sets = false} a (touch a (λ e. released (changed_to s e)) d) (sound_touch a (λ e. released (changed_to s e)) (λ e. refl) d (named_sound a s c k)))
      ∙ flash_settings (growth a s c) c)
  floats_after (Pin a) h q = p
  floats_after (Unpin a) h q = p
  floats_after (Resize a s) h q = kept (flash_settings (growth a s c) c)
  floats_after (Discard a) h q = p
  floats_after Flush h q = p
  floats_after Sync h q = kept (moves_settings (dirty_moves {sets = false} 0 c.recency (start c) (sound_listed (start c) k)))
  floats_after Take h q = p
  floats_after (Configure s) h q = subst FloatsFit (sym (moves_settings (room_moves {sets = false} 0 false (start (configured s c)) (sound_same c (configured s c) refl refl k)))) q

pub step_floats : (c : Cache) (call : Call) → Sound c → FloatsFit c.settings → FloatsOf call.request → FloatsFit (step c call).cache.settings
unfolding refusal_of
step_floats c call k p q =
    stepped c call (λ (o : Outcome). FloatsFit o.cache.settings) (λ e. floats_after c call.lent call.message k p call.request e q) (λ r. p)
