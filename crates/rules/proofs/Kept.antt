-- What no request changes, and what uses up a number. An accepted request leaves a sound cache with its threshold, rows and mode, and a
-- refused one the cache as it was.
use Rattle.std.specs.Prelude.{if◌then◌else◌, None}
use Prim.Native.Nat.{ℕ, ◌+◌, ◌*◌, ◌≤◌}
use mathlib.Core.Path.{◌≡◌, refl, ◌∙◌}
use mathlib.Core.Bool.{true, false}
use mathlib.Core.List.{List}
use native.Mathlib.Omega.{arith}
use lib.ListN.{length}
use Rattle.settings.specs.declared.Mode.{Mode}
use Rattle.rules.specs.declared.request.Request.{Request}
use Rattle.rules.specs.declared.request.Request.TheVariants.{Insert, Protect, Release, ReleaseChanged, Pin, Unpin, Resize, Discard, Flush, Sync, Take, Configure}
use Rattle.rules.specs.Allowed.{Sound}
use Rattle.rules.specs.Cache.{Cache, Work, start, touch}
use Rattle.rules.specs.Entries.{protected_for, released, changed_to}
use Rattle.rules.specs.Hosts.{accepted}
use Rattle.rules.specs.Kept.{Kept, number_after}
use Rattle.rules.specs.Refusals.{Call, first_of, tests, refusal_of}
use Rattle.rules.specs.Requests.{configured, effect, loaded, named, step}
use Rattle.rules.specs.Rows.{is_here}
use Rattle.rules.proofs.Effects.{effects, named_books, named_sound, ready, room_for}
use Rattle.rules.proofs.Epochs.{count_moves, released_moves}
use Rattle.rules.proofs.Moves.{Stays, moves_stay, room_moves, dirty_moves, sound_listed, sound_same}
use Rattle.rules.proofs.Sound.{sound_touch, sound_load}
use Rattle.rules.proofs.Steps.{failed, stepped}
use Rattle.rules.proofs.Tests.{choose}

-- ---- the mode and the next number

joined : {m n o : Mode} {i j k : ℕ} → (n ≡ m) × (j ≡ i) → (o ≡ n) × (k ≡ j) → (o ≡ m) × (k ≡ i)
joined p q = (q.0 ∙ p.0, q.1 ∙ p.1)

-- after an accepted request
abbrev After : Cache → Request → Cache → Type 0
After c r d = (d.mode ≡ c.mode) × (d.next ≡ number_after c r)

module _ (c : Cache) (lent : ℕ) (message : List ℕ) (k : Sound c) where
  named_stays : (a s : ℕ) → Stays c (named a s c)
  named_stays a s = let b = named_books a s c in (b.mode, b.next)

  after : (r : Request) → first_of (tests c lent message r) ≡ None → After c r (effect c message r).cache
  unfolding tests effect
  after (Insert a s) h =
      let f = failed (tests c lent message (Insert a s)) h in
      moves_stay (ready a s c k f.1.1.1.0 f.1.1.1.1.0).moves
  after (Protect x a s) h =
      let f = failed (tests c lent message (Protect x a s)) h in
      choose (λ (w : Work). Stays c w.cache) (is_here c.rows a)
      (λ i. moves_stay (count_moves true (start (touch a (protected_for x) c)) (sound_touch a (protected_for x) (λ e. refl) c k)))
      (λ i. let m = ready a s c k i (simp i at f.1.1.1.1.0) in
      let w = room_for s c in
      joined (moves_stay m.moves) (moves_stay (count_moves false (loaded x a s w) (sound_load x a s w.cache m.free m.absent m.sound))))
  after (Release a) h = moves_stay (released_moves {sets = false} a (touch a released c) (sound_touch a released (λ e. refl) c k))
  after (ReleaseChanged a s) h =
      let d = named a s c in
      joined (named_stays a s)
      (moves_stay (released_moves {sets = false} a (touch a (λ e. released (changed_to s e)) d) (sound_touch a (λ e. released (changed_to s e)) (λ e. refl) d (named_sound a s c k))))
  after (Pin a) h = (refl, refl)
  after (Unpin a) h = (refl, refl)
  after (Resize a s) h = named_stays a s
  after (Discard a) h = (refl, refl)
  after Flush h = (refl, refl)
  after Sync h =
      let p = moves_stay (dirty_moves {sets = false} 0 c.recency (start c) (sound_listed (start c) k)) in
      (p.0, rw (p.0, p.1))
  after Take h = (refl, refl)
  after (Configure s) h = moves_stay (room_moves {sets = false} 0 false (start (configured s c)) (sound_same c (configured s c) refl refl k))

-- ---- every request

module _ (c : Cache) (call : Call) (k : Sound c) where
  pub step_kept : Kept c (step c call).cache
  unfolding refusal_of
  step_kept =
      stepped c call (λ o. Kept c o.cache)
      (λ e. (effects c call.lent call.message call.request k e).kept) (λ r. record { threshold = refl; rows = refl })

  pub mode_kept : (step c call).cache.mode ≡ c.mode
  unfolding refusal_of
  mode_kept = stepped c call (λ o. o.cache.mode ≡ c.mode) (λ e. (after c call.lent call.message k call.request e).0) (λ r. refl)

  -- an accepted request alone uses up a number
  pub step_number : (step c call).cache.next ≡ (if accepted (step c call) then number_after c call.request else c.next)
  unfolding refusal_of
  step_number =
      stepped c call (λ o. o.cache.next ≡ (if accepted o then number_after c call.request else c.next))
      (λ e. (after c call.lent call.message k call.request e).1) (λ r. refl)

  pub step_sound : Sound (step c call).cache
  unfolding refusal_of
  step_sound = stepped c call (λ o. Sound o.cache) (λ e. (effects c call.lent call.message call.request k e).sound) (λ r. k)

  -- one request gives at most 2 x rows + 1 orders
  pub step_orders : length (step c call).orders ≤ 2 * length c.rows + 1
  unfolding refusal_of
  step_orders =
      stepped c call (λ o. length o.orders ≤ 2 * length c.rows + 1)
      (λ e. (effects c call.lent call.message call.request k e).orders) (λ r. omega arith)
