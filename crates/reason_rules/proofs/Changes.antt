-- A request changes the maximum at most once, and names a change exactly if the maximum differs. Only a miss has two chances: a flash that
-- rose restarts the counters, so its access is the first of 100 at least and ends no epoch.
use Rattle.std.specs.Prelude.{if◌then◌else◌, Option, None, Some}
use Prim.Native.Nat.{ℕ, ◌+◌, ◌≤◌}
use mathlib.Core.Path.{◌≡◌, refl, sym, ap, subst, ◌∙◌}
use mathlib.Core.Logic.{◌↔◌}
use mathlib.Core.Bool.{Bool, true, false, ◌&&◌}
use mathlib.Core.List.{List, [], ◌∷◌, ◌++◌, append-nil}
use native.Mathlib.Omega.{arith}
use lib.Dec.{leb, ltb, eqb}
use lib.Ieee.{Float, eq}
use lib.ListN.{length}
use borrow.Author.Tests.{ltb-true, ltb-false, lt-leb, eqb-true, eqb-false}
use Rattle.fraction.specs.Fraction.{decimal, size_product, reserve_quotient}
use Rattle.settings.proofs.Passed as settings
use Rattle.settings.specs.declared.Decrease.TheVariants as decrease
use Rattle.settings.specs.declared.Decrease.{Decrease}
use Rattle.settings.specs.declared.Settings.{Settings}
use Rattle.rules.specs.declared.answer.Refusal.{Refusal}
use Rattle.rules.specs.declared.request.Request.TheVariants.{Insert, Protect, Release, ReleaseChanged, Pin, Unpin, Resize, Discard, Flush, Sync, Take, Configure}
use Rattle.rules.specs.declared.request.Request.{Request}
use Rattle.rules.specs.Allowed.{Sound, Allowed}
use Rattle.rules.specs.Cache.{Cache, Work, start, held, touch, restart, with_maximum}
use Rattle.rules.specs.Entries.{changed_to, protected_for, released}
use Rattle.rules.specs.Refusals.{Call, tests, first_of, refusal_of}
use Rattle.rules.specs.Requests.{loaded, room_if_released, growth, named, configured, judged, effect}
use Rattle.rules.specs.Resizing.{flashed, flashed_to, increased_in, lowered_in, is_above, evict_aged, age_out, decreased_by, resized, aged, end_epoch, counts, counted, count_access}
use Rattle.rules.specs.Room.{make_room}
use Rattle.rules.specs.Rows.{is_here}
use Rattle.rules.proofs.Effects.{flash_sound, named_sound}
use Rattle.rules.proofs.Epochs.{before_room, released_moves}
use Rattle.rules.proofs.Figures.{Figures, figures_of, moves_figures}
use Rattle.rules.proofs.Moves.{moves_sound, room_moves, aged_moves, dirty_moves, sound_listed, sound_same}
use Rattle.rules.proofs.Sound.{sound_touch}
use Rattle.rules.proofs.Tests.{split, choose, and_false}
use Rattle.reason_rules.specs.declared.Cause.TheVariants as cause
use Rattle.reason_rules.specs.declared.Cause.{Cause}
use Rattle.reason_rules.specs.declared.Change.{Change}
use Rattle.reason_rules.specs.Reasons.{rate_of, ends_epoch, flash_change, fall_change, age_out_change, decrease_change, resize_change, count_change, settings_change, changes_of, refusal_of_explain, granted, explain}
use Rattle.reason_rules.proofs.Choices.{if_true, if_false, choose_both}
use Rattle.reason_rules.proofs.Courses.{loaded_sound, explained_accepted}

-- the maximum before and after, and the changes named: none and it is the same, or one and it differs
pub data Differs (before after : ℕ) : List Change → Type 0 where
  same : after ≡ before → Differs before after []
  differs : {x : Change} → (after ≡ before → ⊥) → Differs before after (x ∷ [])

same_of : {before after : ℕ} → Differs before after [] → after ≡ before
same_of (same e) = e

-- a pass that changes no figure comes after
on : {before after later : ℕ} {m : List Change} → later ≡ after → Differs before after m → Differs before later m
on {before} {m = m} e d = subst (λ (i : ℕ). Differs before i m) (sym e) d

-- ---- each rule

flash_differs : (x : ℕ) (c : Cache) → Differs c.maximum (flashed x c).maximum (flash_change x c)
unfolding flashed
flash_differs x c =
    choose_both (λ (d : Cache) (m : List Change). Differs c.maximum d.maximum m) (ltb c.maximum (flashed_to x c))
    (λ h. let i = ltb-true c.maximum (flashed_to x c) h in differs (λ e. omega arith)) (λ h. same refl)

fall_differs : (x : Cause) (target : ℕ) (c : Cache) → Differs c.maximum (lowered_in target c) (fall_change x target c)
fall_differs x target c =
    choose (Differs c.maximum (lowered_in target c)) (ltb (lowered_in target c) c.maximum)
    (λ h. let i = ltb-true (lowered_in target c) c.maximum h in differs (λ e. omega arith))
    (λ h. let i = ltb-false (lowered_in target c) c.maximum h in same (omega arith))

settings_differs : (s : Settings) (c : Cache) → Differs c.maximum (configured s c).maximum (settings_change s c)
settings_differs s c =
    choose (Differs c.maximum (configured s c).maximum) (eqb (configured s c).maximum c.maximum)
    (λ h. same (eqb-true (configured s c).maximum c.maximum h)) (λ h. differs (eqb-false (configured s c).maximum c.maximum h))

module _ (w : Work) (k : Sound w.cache) where
  abbrev Resizes : Work → List Change → Type 0
  Resizes v m = Differs w.cache.maximum v.cache.maximum m

  age_differs : (epochs : ℕ) (reserve : Float) → Resizes (age_out epochs reserve w) (age_out_change epochs reserve w)
  unfolding age_out
  age_differs epochs reserve =
      let v = evict_aged epochs w.cache.recency w in
      let e : v.cache.maximum ≡ w.cache.maximum =
      ap (λ (f : Figures). f.maximum) (moves_figures (aged_moves w.cache.mode epochs w.cache.recency w refl (sound_listed w k))) in
      choose_both Resizes (eq reserve (decimal 1 1))
      (λ h. same e)
      (λ h. subst (λ (n : ℕ). Differs n (lowered_in (reserve_quotient (held v.cache) reserve) v.cache) (fall_change cause.AgeOut (reserve_quotient (held v.cache) reserve) v.cache)) e
      (fall_differs cause.AgeOut (reserve_quotient (held v.cache) reserve) v.cache))

  decrease_differs : (d : Decrease) (rate : Float) → Resizes (decreased_by d rate w) (decrease_change d rate w)
  decrease_differs decrease.Off rate = same refl
  decrease_differs (decrease.Threshold upper multiplier) rate =
      choose_both Resizes (is_above rate upper) (λ h. fall_differs cause.Threshold (size_product w.cache.maximum multiplier) w.cache) (λ h. same refl)
  decrease_differs (decrease.AgeOut epochs reserve) rate = age_differs epochs reserve
  decrease_differs (decrease.AgeOutWithThreshold upper epochs reserve) rate =
      choose_both Resizes (is_above rate upper) (λ h. age_differs epochs reserve) (λ h. same refl)

  resized_differs : (rate : Float) → Resizes (resized rate w) (resize_change rate w)
  unfolding resized resize_change
  resized_differs rate =
      let n = increased_in rate w.cache in
      choose_both Resizes (ltb w.cache.maximum n)
      (λ h. let i = ltb-true w.cache.maximum n h in differs (λ e. omega arith)) (λ h. decrease_differs w.cache.settings.decrease rate)

-- room changes no figure
room_same : (x : ℕ) (row : Bool) (w : Work) → Sound w.cache → figures_of (make_room x row w).cache ≡ figures_of w.cache
room_same x row w k = moves_figures (room_moves {sets = false} x row w k)

room_maximum : (x : ℕ) (row : Bool) (w : Work) → Sound w.cache → (make_room x row w).cache.maximum ≡ w.cache.maximum
room_maximum x row w k = ap (λ (f : Figures). f.maximum) (room_same x row w k)

released_maximum : (a : ℕ) (c : Cache) → Sound c → (room_if_released a c).cache.maximum ≡ c.maximum
released_maximum a c k = ap (λ (f : Figures). f.maximum) (moves_figures (released_moves {sets = false} a c k))

-- ---- counting

module _ (hit : Bool) (w : Work) (k : Sound w.cache) where
  abbrev Counts : Work → List Change → Type 0
  Counts v m = Differs w.cache.maximum v.cache.maximum m

  ended_differs : Counts (end_epoch (counted hit w)) (resize_change (rate_of (counted hit w)) (counted hit w))
  unfolding end_epoch
  ended_differs =
      let v = counted hit w in
      let c : Sound v.cache = sound_same w.cache v.cache refl refl k in
      on (room_maximum 0 false (aged (resized (rate_of v) v)) (moves_sound (before_room v c) c)) (resized_differs v c (rate_of v))

  count_differs : Counts (count_access hit w) (count_change hit w)
  unfolding count_access
  count_differs = go (counts w.cache.settings) (leb w.cache.settings.epoch (w.cache.accesses + 1))
    where
      go : (s t : Bool) → Counts (if s then (if t then end_epoch (counted hit w) else counted hit w) else w) (if s && t then resize_change (rate_of (counted hit w)) (counted hit w) else [])
      go true true = ended_differs
      go true false = same refl
      go false t = same refl

  -- the first access of an epoch does not end it
  count_first : w.cache.accesses ≡ 0 → 2 ≤ w.cache.settings.epoch → count_change hit w ≡ []
  count_first z e =
      let t = lt-leb w.cache.settings.epoch (w.cache.accesses + 1) (omega arith) in
      if_false (ends_epoch w.cache) _ [] (ap (λ (i : Bool). counts w.cache.settings && i) t ∙ and_false (counts w.cache.settings))

-- ---- by request

module _ (c : Cache) (lent : ℕ) (message : List ℕ) (k : Sound c) (long : 2 ≤ c.settings.epoch) where
  miss_differs : (s : ℕ) (w : Work) → Sound w.cache → figures_of w.cache ≡ figures_of (flashed s c)
      → Differs c.maximum (count_access false w).cache.maximum (flash_change s c ++ count_change false w)
  unfolding flashed
  miss_differs s w kw e =
      let n = flashed_to s c in
      split (ltb c.maximum n)
      (λ h. let f : flashed s c ≡ restart (with_maximum n c) = if_true (ltb c.maximum n) _ c h in
      let z : w.cache.accesses ≡ 0 = ap (λ (i : Figures). i.accesses) e ∙ ap (λ (d : Cache). d.accesses) f in
      let l : w.cache.settings.epoch ≡ c.settings.epoch = ap (λ (i : Figures). i.settings.epoch) e ∙ ap (λ (d : Cache). d.settings.epoch) f in
      let r = count_first false w kw z (omega arith) in
      let q = same_of (subst (Differs w.cache.maximum (count_access false w).cache.maximum) r (count_differs false w kw)) in
      rw (r, append-nil) (on (q ∙ ap (λ (i : Figures). i.maximum) e) (flash_differs s c)))
      (λ h. let f : flashed s c ≡ c = if_false (ltb c.maximum n) _ c h in
      let q : w.cache.maximum ≡ c.maximum = ap (λ (i : Figures). i.maximum) e ∙ ap (λ (d : Cache). d.maximum) f in
      let r : flash_change s c ≡ [] = if_false (ltb c.maximum n) _ [] h in
      rw r (subst (λ (i : ℕ). Differs i (count_access false w).cache.maximum (count_change false w)) q (count_differs false w kw)))

  all_differ : (r : Request) → first_of (tests c lent message r) ≡ None → Differs c.maximum (effect c message r).cache.maximum (changes_of c r)
  unfolding effect changes_of
  all_differ (Insert a s) h = on (room_maximum s true (start (flashed s c)) (flash_sound s c k)) (flash_differs s c)
  all_differ (Protect x a s) h =
      choose_both (λ (w : Work) (m : List Change). Differs c.maximum w.cache.maximum m) (is_here c.rows a)
      (λ p. count_differs true (start (touch a (protected_for x) c)) (sound_touch a (protected_for x) (λ e. refl) c k))
      (λ p. miss_differs s (loaded x a s (make_room s true (start (flashed s c)))) (loaded_sound c lent message k x a s h p)
      (room_same s true (start (flashed s c)) (flash_sound s c k)))
  all_differ (Release a) h = same (released_maximum a (touch a released c) (sound_touch a released (λ e. refl) c k))
  all_differ (ReleaseChanged a s) h =
      on (released_maximum a (touch a (λ e. released (changed_to s e)) (named a s c)) (sound_touch a (λ e. released (changed_to s e)) (λ e. refl) (named a s c) (named_sound a s c k)))
      (flash_differs (growth a s c) c)
  all_differ (Pin a) h = same refl
  all_differ (Unpin a) h = same refl
  all_differ (Resize a s) h = flash_differs (growth a s c) c
  all_differ (Discard a) h = same refl
  all_differ Flush h = same refl
  all_differ Sync h = same (ap (λ (f : Figures). f.maximum) (moves_figures (dirty_moves 0 c.recency (start c) (sound_listed (start c) k))))
  all_differ Take h = same refl
  all_differ (Configure s) h = on (room_maximum 0 false (start (configured s c)) (sound_same c (configured s c) refl refl k)) (settings_differs s c)

-- ---- the step

module _ (c : Cache) (call : Call) (lent : ℕ) (k : Allowed c) where
  step_differs : Differs c.maximum (explain c call lent).outcome.cache.maximum (explain c call lent).changes
  unfolding refusal_of
  step_differs = go (refusal_of_explain c call lent) refl
    where
      long : 2 ≤ c.settings.epoch
      long = let i = (settings.passed c.settings false k.settings).epoch.0 in omega arith

      go : (r : Option Refusal) → refusal_of_explain c call lent ≡ r
          → Differs c.maximum (judged r c (effect c call.message call.request)).cache.maximum (granted r (changes_of c call.request))
      go None e = all_differ c call.lent call.message k.sound long call.request (explained_accepted c call lent e)
      go (Some r) e = same refl

  -- at most one change
  pub one_change : length (explain c call lent).changes ≤ 1
  one_change = go step_differs
    where
      go : {n : ℕ} {m : List Change} → Differs c.maximum n m → length m ≤ 1
      go (same e) = omega arith
      go (differs d) = omega arith

  -- a change exactly if the maximum differs
  pub changed_iff : ((explain c call lent).changes ≡ []) ↔ ((explain c call lent).outcome.cache.maximum ≡ c.maximum)
  changed_iff = go step_differs
    where
      go : {n : ℕ} {m : List Change} → Differs c.maximum n m → (m ≡ []) ↔ (n ≡ c.maximum)
      go (same e) = (λ h. e, λ h. refl)
      go (differs d) = (λ h. absurd (let z : ◌≡◌ {A = ℕ} 1 0 = ap length h in omega arith), λ h. absurd (d h))
