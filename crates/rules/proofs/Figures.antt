-- The figures of a cache stay in range: each change of the maximum is cut to the range of the settings, and the counters
-- restart when the accesses reach the epoch's length.
use Rattle.std.specs.Prelude.{if◌then◌else◌, None, Some}
use Prim.Native.Nat.{ℕ, ◌+◌, ◌≤◌, ◌<◌, min, max}
use mathlib.Core.Path.{◌≡◌, refl, sym, subst}
use mathlib.Core.Bool.{Bool, true, false, not, ◌&&◌, false≢true}
use mathlib.Core.List.{List, [], ◌∷◌}
use native.Mathlib.Omega.{arith}
use lib.Dec.{leb, ltb}
use lib.Ieee.{Float, eq}
use borrow.Author.Tests.{leb-true, leb-false, ltb-true, ltb-false, not-false}
use Rattle.fraction.specs.Fraction.{decimal, size_product, hit_rate, reserve_quotient, exceeds_share}
use Rattle.settings.specs.Types.{Cap}
use Rattle.settings.specs.declared.Decrease.{Decrease}
use Rattle.settings.specs.declared.Decrease.TheVariants as decrease
use Rattle.settings.specs.declared.Flash.{Flash}
use Rattle.settings.specs.declared.Flash.TheVariants as flash
use Rattle.settings.specs.declared.Increase.{Increase}
use Rattle.settings.specs.declared.Increase.TheVariants as increase
use Rattle.settings.specs.declared.Settings.{Settings}
use Rattle.settings.specs.Limits.{size_allowed}
use Rattle.settings.specs.Validation.{bad_evictions, bad_preset, bad_initial, bad_clean, bad_largest, bad_smallest, bad_epoch, bad_increase, bad_increment, bad_flash, bad_decrease, bad_decrement, first_true, first_bad}
use Rattle.rules.specs.Allowed.{Sound}
use Rattle.rules.specs.Cache.{Cache, Work, held}
use Rattle.rules.specs.Limits.{count_stop}
use Rattle.rules.specs.Requests.{adds, brought, configured}
use Rattle.rules.specs.Resizing.{flash_maximum, flashed, increased_by, at_most, at_least, lower, evict_aged, age_out, decreased_by, resized, aged, end_epoch, counts, counted, count_access, is_full, is_below, is_above, flashed_to, increased_in, lowered_in}
use Rattle.rules.specs.Room.{make_room}
use Rattle.rules.proofs.Epochs.{before_room}
use Rattle.rules.proofs.Moves.{Moves, done, evicts, writes, tunes, ages, notes, moves_sound, room_moves, aged_moves, sound_listed, sound_same}
use Rattle.rules.proofs.Tests.{choose, both, neither}

-- ---- settings that configuring passes

abbrev AllFalse : List Bool → Type 0
AllFalse [] = Unit
AllFalse (b ∷ l) = (b ≡ false) × AllFalse l

none_true : (n : ℕ) (l : List Bool) → 1 ≤ n → first_true n l ≡ 0 → AllFalse l
none_true n [] p h = tt
none_true n (true ∷ l) p h = absurd (omega arith)
none_true n (false ∷ l) p h = (refl, none_true (ℕ.suc n) l (omega arith) h)

all_false : (n : ℕ) (l : List Bool) → AllFalse l → first_true n l ≡ 0
all_false n [] h = refl
all_false n (b ∷ l) h = rw h.0 (all_false (ℕ.suc n) l h.1)

abbrev fields : Settings → Bool → List Bool
fields s opening =
    bad_evictions s ∷ bad_preset s opening ∷ bad_initial s ∷ bad_clean s ∷ bad_largest s ∷ bad_smallest s ∷ bad_epoch s
    ∷ bad_increase s ∷ bad_increment s ∷ bad_flash s ∷ bad_decrease s ∷ bad_decrement s ∷ []

pub record Passed (s : Settings) : Type 0 where
  pub range : s.smallest ≤ s.largest
  pub epoch : 1 ≤ s.epoch
  pub initial : s.preset ≡ true → (s.smallest ≤ s.initial) × (s.initial ≤ s.largest)

pub passed : (s : Settings) → first_bad s false ≡ 0 → Passed s
unfolding first_bad
passed s h =
    let f = none_true 1 (fields s false) (omega arith) h in
    let epoch = both (leb 100 s.epoch) (leb s.epoch 1000000) (not-false _ f.1.1.1.1.1.1.0) in
    record {
      range = ltb-false s.largest s.smallest (neither (not (size_allowed s.smallest)) (ltb s.largest s.smallest) f.1.1.1.1.1.0).1;
      epoch = omega (arith, leb-true 100 s.epoch epoch.0);
      initial = λ p.
          let i = both (leb s.smallest s.initial) (leb s.initial s.largest) (not-false _ (simp p at f.1.1.0)) in
          (leb-true s.smallest s.initial i.0, leb-true s.initial s.largest i.1);
    }

-- opening asks more than configuring
pub passed_opening : (s : Settings) → first_bad s true ≡ 0 → (first_bad s false ≡ 0) × (s.preset ≡ true)
unfolding first_bad
passed_opening s h =
    let f = none_true 1 (fields s true) (omega arith) h in
    (all_false 1 (fields s false) (f.0, (refl, f.1.1)), not-false s.preset f.1.0)

-- ---- the figures

pub record Figures : Type 0 where
  pub settings : Settings
  pub maximum : ℕ
  pub accesses : ℕ
  pub hits : ℕ
  pub count : ℕ

abbrev pub figures_of : Cache → Figures
figures_of c = record { settings = c.settings; maximum = c.maximum; accesses = c.accesses; hits = c.hits; count = c.count }

pub record Ranged (f : Figures) : Type 0 where
  pub settings : first_bad f.settings false ≡ 0
  pub least : f.settings.smallest ≤ f.maximum
  pub most : f.maximum ≤ f.settings.largest
  pub hits : f.hits ≤ f.accesses
  pub count : f.count ≤ count_stop

-- the epoch has not ended
pub record InRange (f : Figures) : Type 0 where
  pub ranged : Ranged f
  pub early : f.accesses < f.settings.epoch

-- evictions and writes change no figure
pub moves_figures : {may : Bool} {w v : Work} → Moves may false w v → figures_of v.cache ≡ figures_of w.cache
moves_figures done = refl
moves_figures (evicts a e g l d m) = moves_figures m
moves_figures (writes a e r k g l d s m) = moves_figures m
moves_figures (tunes n h k y m) = absurd (false≢true y)
moves_figures (ages y m) = absurd (false≢true y)
moves_figures (notes b m) = moves_figures m

pub room_figures : (P : Figures → Type 0) (x : ℕ) (row : Bool) (w : Work) → Sound w.cache → P (figures_of w.cache) → P (figures_of (make_room x row w).cache)
room_figures P x row w k p = subst P (sym (moves_figures (room_moves x row w k))) p

module _ {f : Figures} where
  -- another maximum in the range
  ranged_maximum : (n : ℕ) → Ranged f → f.settings.smallest ≤ n → n ≤ f.settings.largest
      → Ranged (record { settings = f.settings; maximum = n; accesses = f.accesses; hits = f.hits; count = f.count })
  ranged_maximum n k p q = record { settings = k.settings; least = p; most = q; hits = k.hits; count = k.count }

  restarted : Ranged f → InRange (record { settings = f.settings; maximum = f.maximum; accesses = 0; hits = 0; count = f.count })
  restarted k = record {
    ranged = record { settings = k.settings; least = k.least; most = k.most; hits = omega arith; count = k.count };
    early = (passed f.settings k.settings).epoch;
  }

  pub recounted : (n : ℕ) → n ≤ count_stop → InRange f
      → InRange (record { settings = f.settings; maximum = f.maximum; accesses = f.accesses; hits = f.hits; count = n })
  recounted n h k =
      let r = k.ranged in
      record { ranged = record { settings = r.settings; least = r.least; most = r.most; hits = r.hits; count = h }; early = k.early }

-- ---- flash

flash_most : (f : Flash) (x m h l : ℕ) → m ≤ l → flash_maximum f x m h l ≤ l
flash_most flash.Off x m h l k = k
flash_most (flash.On n t) x m h l k = choose (λ (r : ℕ). r ≤ l) (exceeds_share x t m) (λ p. omega arith) (λ p. k)

pub flash_range : (x : ℕ) (c : Cache) → InRange (figures_of c) → InRange (figures_of (flashed x c))
unfolding flashed
flash_range x c k =
    let n = flashed_to x c in
    choose (λ (d : Cache). InRange (figures_of d)) (ltb c.maximum n)
    (λ h. restarted (ranged_maximum n k.ranged (let i = k.ranged.least in omega (arith, ltb-true c.maximum n h))
    (flash_most c.settings.flash x c.maximum (held c) c.settings.largest k.ranged.most)))
    (λ h. k)

-- ---- the end of an epoch

increase_most : (i : Increase) (k : Cap) (r : Float) (full : Bool) (m l : ℕ) → m ≤ l → increased_by i k r full m l ≤ l
increase_most increase.Off k r full m l h = h
increase_most (increase.Threshold x y) k r full m l h = choose (λ (n : ℕ). n ≤ l) (is_below r x && full) (λ p. go k) (λ p. h)
  where
    go : (k : Cap) → at_most k m (min (size_product m y) l) ≤ l
    go None = omega arith
    go (Some n) = omega arith

lower_range : (n : ℕ) (w : Work) → Ranged (figures_of w.cache) → Ranged (figures_of (lower n w).cache)
lower_range n w k =
    let i = least w.cache.settings.decrement in let j = k.least in let l = k.most in
    ranged_maximum (lowered_in n w.cache) k (omega arith) (omega arith)
  where
    least : (k : Cap) → w.cache.settings.smallest ≤ at_least k w.cache.maximum (max n w.cache.settings.smallest)
    least None = omega arith
    least (Some m) = omega arith

module _ (w : Work) (k : Sound w.cache) (r : Ranged (figures_of w.cache)) where
  age_out_range : (n : ℕ) (x : Float) → Ranged (figures_of (age_out n x w).cache)
  unfolding age_out
  age_out_range n x =
      let v = evict_aged n w.cache.recency w in
      let m = subst Ranged (sym (moves_figures (aged_moves w.cache.mode n w.cache.recency w refl (sound_listed w k)))) r in
      choose (λ (u : Work). Ranged (figures_of u.cache)) (eq x (decimal 1 1)) (λ h. m) (λ h. lower_range (reserve_quotient (held v.cache) x) v m)

  decrease_range : (d : Decrease) (x : Float) → Ranged (figures_of (decreased_by d x w).cache)
  decrease_range decrease.Off x = r
  decrease_range (decrease.Threshold u m) x =
      choose (λ (v : Work). Ranged (figures_of v.cache)) (is_above x u) (λ h. lower_range (size_product w.cache.maximum m) w r) (λ h. r)
  decrease_range (decrease.AgeOut n s) x = age_out_range n s
  decrease_range (decrease.AgeOutWithThreshold u n s) x =
      choose (λ (v : Work). Ranged (figures_of v.cache)) (is_above x u) (λ h. age_out_range n s) (λ h. r)

  resized_range : (x : Float) → Ranged (figures_of (resized x w).cache)
  unfolding resized
  resized_range x =
      let n = increased_in x w.cache in
      choose (λ (v : Work). Ranged (figures_of v.cache)) (ltb w.cache.maximum n)
      (λ h. ranged_maximum n r (let i = r.least in omega (arith, ltb-true w.cache.maximum n h))
      (increase_most w.cache.settings.increase w.cache.settings.increment x (is_full w.cache) w.cache.maximum w.cache.settings.largest r.most))
      (λ h. decrease_range w.cache.settings.decrease x)

  epoch_range : InRange (figures_of (end_epoch w).cache)
  unfolding end_epoch
  epoch_range =
      let x = hit_rate w.cache.hits w.cache.accesses in
      room_figures InRange 0 false (aged (resized x w)) (moves_sound (before_room w k) k) (restarted (resized_range x))

-- ---- counting

counted_range : (hit : Bool) (w : Work) → Ranged (figures_of w.cache) → Ranged (figures_of (counted hit w).cache)
counted_range hit w k = record { settings = k.settings; least = k.least; most = k.most; hits = go hit; count = k.count }
  where
    go : (t : Bool) → w.cache.hits + (if t then 1 else 0) ≤ w.cache.accesses + 1
    go true = let i = k.hits in omega arith
    go false = let i = k.hits in omega arith

pub count_range : (hit : Bool) (w : Work) → Sound w.cache → InRange (figures_of w.cache) → InRange (figures_of (count_access hit w).cache)
unfolding count_access
count_range hit w k r =
    let v = counted hit w in
    let R : Work → Type 0 = λ u. InRange (figures_of u.cache) in
    choose R (counts w.cache.settings)
    (λ c. choose R (leb w.cache.settings.epoch v.cache.accesses)
    (λ h. epoch_range v (sound_same w.cache v.cache refl refl k) (counted_range hit w r.ranged))
    (λ h. record { ranged = counted_range hit w r.ranged; early = leb-false _ v.cache.accesses h }))
    (λ c. r)

-- ---- the byte count, and configuring

pub adds_most : (t : Bool) (s n : ℕ) → n ≤ count_stop → adds t s n ≤ count_stop
adds_most true s n h = omega arith
adds_most false s n h = omega arith

pub configured_range : (s : Settings) (c : Cache) → first_bad s false ≡ 0 → c.count ≤ count_stop → InRange (figures_of (configured s c))
configured_range s c h n =
    let p = passed s h in
    let m = choose (λ (m : ℕ). (s.smallest ≤ m) × (m ≤ s.largest)) s.preset {y = brought c.maximum s} (λ t. p.initial t)
    (λ t. let i = p.range in omega arith) in
    restarted {f = figures_of (configured s c)} (record { settings = h; least = m.0; most = m.1; hits = omega arith; count = n })
