-- The changes and reasons that the steps of an epoch's end tell are the rules'.
use Rattle.std.specs.Prelude.{if◌then◌else◌, Option, None, Some}
use Prim.Native.Nat.{ℕ, ◌+◌, ◌-◌, ◌≤◌, ◌<◌}
use mathlib.Core.Bool.{Bool, true, false, ◌&&◌}
use mathlib.Core.List.{List, [], ◌++◌}
use mathlib.Core.Path.{◌≡◌, sym, ap, ap₂, ◌∙◌}
use native.Mathlib.Omega.{arith}
use lib.Dec.{leb, ltb}
use lib.Ieee.{Float, lt, eq}
use lib.ListN.{length, replicate}
use borrow.Author.Tests.{lt-ltb, le-ltb, le-leb, lt-leb}
use Rattle.fraction.specs.Fraction.{decimal, size_product, hit_rate, reserve_quotient}
use Rattle.settings.specs.declared.Decrease.{Decrease}
use Rattle.settings.specs.declared.Decrease.TheVariants as decrease
use Rattle.settings.specs.declared.Settings.{Settings}
use Rattle.rules.proofs.Tests.{and_false}
use Rattle.rules.specs.Cache.{Cache, Work, start, held, with_counters, restart}
use Rattle.rules.specs.Resizing.{lowered, lowered_in, increased_in, evict_aged, aged, counts}
use Rattle.reason_rules.proofs.Choices.{if_true, if_false}
use Rattle.reason_rules.specs.declared.Bound.{Bound}
use Rattle.reason_rules.specs.declared.Cause.{Cause}
use Rattle.reason_rules.specs.declared.Cause.TheVariants as cause
use Rattle.reason_rules.specs.declared.Change.{Change}
use Rattle.reason_rules.specs.declared.Reason.{Reason}
use Rattle.reason_rules.specs.declared.Reason.TheVariants as reason
use Rattle.reason_rules.specs.Bounds.{rise_bound}
use Rattle.reason_rules.specs.Reasons.{room_reasons, epoch_reasons, ends_epoch, count_reasons, increase_raw, fall_change, age_out_change, decrease_change, resize_change, count_change}
use Rattle.reasons.proofs.Changes.{change_if}
use Rattle.reasons.specs.Changes.{change_of, fell_to}
use Rattle.layout.proofs.Held.{holds_cache, onward}
use Rattle.layout.specs.Holds.{Holds}
use Rattle.layout.specs.Picture.{cache_in, rest_in}
use Rattle.table.specs.Told.{aged as aged_rows}
use Rattle.room.proofs.Reasons.{room_from}
use Rattle.room.specs.Did.{Did}
use Rattle.epoch.proofs.Laws.{lower_is, resized_in, counted_held}
use Rattle.epoch.specs.Counts.{increase_bound, epoch_change}

-- ---- the maximum lowered

pub fell_named : (c : Cache) (target : ℕ) (s : Settings) (maximum n : ℕ) (x : Cause) → s ≡ c.settings → maximum ≡ c.maximum
    → n ≡ lowered target s.decrement maximum s.smallest → fell_to n x target s.decrement maximum s.smallest ≡ change_of (fall_change x target c)
fell_named c target s maximum n x p q e =
    rw (lower_is c target s maximum n p q e, p, q) (change_if x _ (ltb (lowered_in target c) c.maximum))

pub scaled_named : (c : Cache) (maximum target : ℕ) (m : Float) {r : Option Change} → maximum ≡ c.maximum → target ≡ size_product maximum m
    → r ≡ change_of (fall_change cause.Threshold target c) → r ≡ change_of (fall_change cause.Threshold (size_product c.maximum m) c)
scaled_named c maximum target m p e h = h ∙ ap (λ (i : ℕ). change_of (fall_change cause.Threshold i c)) (e ∙ ap (λ (i : ℕ). size_product i m) p)

-- ---- age-out

module _ (n : ℕ) (reserve : Float) (table : List ℕ) where
  abbrev aged_in : Work
  aged_in = evict_aged n (cache_in table).recency (start (cache_in table))

  pub out_same : eq reserve (decimal 1 1) ≡ true → None ≡ change_of (age_out_change n reserve (start (cache_in table)))
  out_same e = ap change_of (sym (if_true (eq reserve (decimal 1 1)) [] _ e))

  pub out_named : {table₁ lent words : List ℕ} {before given : ℕ} (h target : ℕ) {r : Option Change} → eq reserve (decimal 1 1) ≡ false
      → Did aged_in (rest_in table) table₁ before lent words given → h ≡ held (cache_in table₁) → target ≡ reserve_quotient h reserve
      → r ≡ change_of (fall_change cause.AgeOut target (cache_in table₁)) → r ≡ change_of (age_out_change n reserve (start (cache_in table)))
  out_named {table₁} h target e d p q k =
      let i = holds_cache d.holds in
      let j : target ≡ reserve_quotient (held aged_in.cache) reserve = q ∙ ap (λ (x : ℕ). reserve_quotient x reserve) (p ∙ ap held i) in
      k ∙ ap₂ (λ (x : ℕ) (c : Cache). change_of (fall_change cause.AgeOut x c)) j i ∙ ap change_of (sym (if_false (eq reserve (decimal 1 1)) [] _ e))

-- ---- the decrease

module _ (rule : Decrease) (rate : Float) (w : Work) {r : Option Change} where
  pub off_named : rule ≡ decrease.Off → r ≡ None → r ≡ change_of (decrease_change rule rate w)
  off_named e p = rw e p

  module _ {upper multiplier : Float} (e : rule ≡ decrease.Threshold upper multiplier) where
    pub threshold_named : lt upper rate ≡ true → r ≡ change_of (fall_change cause.Threshold (size_product w.cache.maximum multiplier) w.cache)
        → r ≡ change_of (decrease_change rule rate w)
    threshold_named a p = rw e (p ∙ ap change_of (sym (if_true (lt upper rate) _ [] a)))

    pub threshold_same : lt upper rate ≡ false → r ≡ None → r ≡ change_of (decrease_change rule rate w)
    threshold_same a p = rw e (p ∙ ap change_of (sym (if_false (lt upper rate) _ [] a)))

  pub ages_named : {epochs : ℕ} {reserve : Float} → rule ≡ decrease.AgeOut epochs reserve → r ≡ change_of (age_out_change epochs reserve w)
      → r ≡ change_of (decrease_change rule rate w)
  ages_named e p = rw e p

  module _ {upper : Float} {epochs : ℕ} {reserve : Float} (e : rule ≡ decrease.AgeOutWithThreshold upper epochs reserve) where
    pub above_named : lt upper rate ≡ true → r ≡ change_of (age_out_change epochs reserve w) → r ≡ change_of (decrease_change rule rate w)
    above_named a p = rw e (p ∙ ap change_of (sym (if_true (lt upper rate) _ [] a)))

    pub above_same : lt upper rate ≡ false → r ≡ None → r ≡ change_of (decrease_change rule rate w)
    above_same a p = rw e (p ∙ ap change_of (sym (if_false (lt upper rate) _ [] a)))

-- ---- both steps

pub bound_is : (c : Cache) (s : Settings) (maximum : ℕ) → s ≡ c.settings → maximum ≡ c.maximum
    → rise_bound s.increment (increase_raw s.increase maximum) maximum s.largest ≡ increase_bound c
bound_is c s maximum p q = rw (p, q)

module _ (c : Cache) (rate : Float) (maximum n : ℕ) (p : maximum ≡ c.maximum) (e : n ≡ increased_in rate c) where
  pub rise_named : {b : Option Bound} → maximum < n → b ≡ increase_bound c → Some (record { cause = cause.Increase; bound = b }) ≡ change_of (resize_change rate (start c))
  unfolding resize_change
  rise_named l q =
      ap (λ (d : Option Bound). Some (record { cause = cause.Increase; bound = d })) q ∙ ap change_of (sym (if_true (ltb c.maximum (increased_in rate c)) _ _ (lt-ltb c.maximum (increased_in rate c) (omega arith))))

  pub rest_named : {r : Option Change} → n ≤ maximum → (s : Settings) → s ≡ c.settings → r ≡ change_of (decrease_change s.decrease rate (start c))
      → r ≡ change_of (resize_change rate (start c))
  unfolding resize_change
  rest_named l s q k =
      k ∙ ap (λ (x : Settings). change_of (decrease_change x.decrease rate (start c))) q
      ∙ ap change_of (sym (if_false (ltb c.maximum (increased_in rate c)) _ _ (le-ltb c.maximum (increased_in rate c) (omega arith))))

-- ---- the end of an epoch

pub rate_named : (c : Cache) (rate : Float) (h a : ℕ) {r : Option Change} → h ≡ c.hits → a ≡ c.accesses → rate ≡ hit_rate h a → r ≡ change_of (resize_change rate (start c))
    → r ≡ change_of (epoch_change c)
rate_named c rate h a p q e k = k ∙ ap (λ (x : Float). change_of (resize_change x (start c))) (e ∙ ap₂ (λ (i j : ℕ). hit_rate i j) p q)

module _ (table : List ℕ) {lent table₁ words₁ table₂ table₃ : List ℕ} {before given : ℕ} (d : Did (resized_in (cache_in table)) (rest_in table) table₁ before lent words₁ given)
    (k : Holds table₂ (aged_rows (cache_in table₁)) (rest_in table₁)) (m : Holds table₃ (restart (cache_in table₂)) (rest_in table₂)) where
  pub epoch_named : {l room : List Reason} → l ≡ replicate (given - before) reason.Aged ++ room → room ≡ room_reasons 0 false (start (cache_in table₃))
      → l ≡ epoch_reasons (start (cache_in table))
  unfolding epoch_reasons
  epoch_named {l} {room} e f =
      let v = resized_in (cache_in table) in
      let number = d.number in
      let i : given - before ≡ length v.orders - 0 = omega arith in
      let held : Holds table₃ (aged v).cache (rest_in table) = onward restart (onward aged_rows d.holds k) m in
      let j : room ≡ room_reasons 0 false (aged v) = f ∙ ap (λ (c : Cache). room_reasons 0 false (start c)) (holds_cache held) ∙ room_from 0 false (aged v) in
      e ∙ ap₂ (λ (n : ℕ) (r : List Reason). replicate n reason.Aged ++ r) i j

-- ---- counting

abbrev CountNamed : Bool → Cache → List Reason → Option Change → Type 0
CountNamed hit c l r = (l ≡ count_reasons hit (start c)) × (r ≡ change_of (count_change hit (start c)))

module _ (hit : Bool) (c : Cache) {l : List Reason} {r : Option Change} where
  no_epoch : ends_epoch c ≡ false → l ≡ [] → r ≡ None → CountNamed hit c l r
  no_epoch e p q = (p ∙ sym (if_false (ends_epoch c) _ [] e), q ∙ ap change_of (sym (if_false (ends_epoch c) _ [] e)))

  pub uncounted : counts c.settings ≡ false → l ≡ [] → r ≡ None → CountNamed hit c l r
  uncounted e p q = no_epoch (ap (λ (b : Bool). b && leb c.settings.epoch (c.accesses + 1)) e) p q

  module _ (n h : ℕ) (e : n ≡ c.accesses + 1) (f : h ≡ c.hits + (if hit then 1 else 0)) {table₁ rest : List ℕ} (k : Holds table₁ (with_counters n h c) rest) where
    pub counted_early : n < c.settings.epoch → l ≡ [] → r ≡ None → CountNamed hit c l r
    counted_early i p q =
        no_epoch
        (ap (λ (b : Bool). counts c.settings && b) (lt-leb c.settings.epoch (c.accesses + 1) (omega arith)) ∙ and_false (counts c.settings)) p q

    pub counted_due : counts c.settings ≡ true → c.settings.epoch ≤ n → l ≡ epoch_reasons (start (cache_in table₁)) → r ≡ change_of (epoch_change (cache_in table₁)) → CountNamed hit c l r
    counted_due on i p q =
        let same = holds_cache (counted_held hit c n h e f k) in
        let ends : ends_epoch c ≡ true = ap₂ (λ (a b : Bool). a && b) on (le-leb c.settings.epoch (c.accesses + 1) (omega arith)) in (
          p ∙ ap (λ (d : Cache). epoch_reasons (start d)) same ∙ sym (if_true (ends_epoch c) _ [] ends),
          q ∙ ap (λ (d : Cache). change_of (epoch_change d)) same ∙ ap change_of (sym (if_true (ends_epoch c) _ [] ends)),
        )
