-- The end of an epoch: each step's table lets the next begin, and all steps together are the rule.
use Rattle.std.specs.Prelude.{if◌then◌else◌, None, Some}
use mir.Val.{bool_byte}
use Prim.Native.Nat.{ℕ, ◌+◌, ◌≤◌, ◌<◌, min, max}
use mathlib.Core.Bool.{Bool, true, false, ◌&&◌, ◌||◌}
use mathlib.Core.List.{List, append-nil}
use mathlib.Core.Path.{◌≡◌, refl, sym, ap, ap₂, subst, ◌∙◌}
use native.Mathlib.Omega.{arith}
use lib.Dec.{leb, ltb}
use lib.Ieee.{Float, lt, eq}
use lib.ListN.{length}
use borrow.Author.Tests.{ltb-true, ltb-false, leb-true, leb-false}
use Rattle.fraction.specs.Fraction.{decimal, size_product, hit_rate, reserve_quotient}
use Rattle.settings.specs.Types.{Cap}
use Rattle.settings.specs.declared.Decrease.{Decrease}
use Rattle.settings.specs.declared.Decrease.TheVariants as decrease
use Rattle.settings.specs.declared.Increase.{Increase}
use Rattle.settings.specs.declared.Increase.TheVariants as increase
use Rattle.settings.specs.declared.Settings.{Settings}
use Rattle.settings.specs.Validation.{increases, decreases}
use Rattle.rules.proofs.Epochs.{resized_moves, before_room}
use Rattle.rules.proofs.Moved.{moved}
use Rattle.rules.proofs.Moves.{aged_moves, sound_listed}
use Rattle.rules.proofs.Tests.{choose, either}
use Rattle.rules.specs.Cache.{Cache, Work, start, with_maximum, with_counters, restart, held}
use Rattle.rules.specs.Resizing.{is_below, is_full, at_most, at_least, increased_by, increased_in, lowered, lowered_in, lower, evict_aged, age_out, decreased_by, resized, aged, end_epoch, counts, counted, count_access}
use Rattle.rules.specs.Room.{make_room}
use Rattle.layout.proofs.Held.{holds_cache, holds_rest, onward}
use Rattle.layout.specs.Holds.{Holds, Good}
use Rattle.layout.specs.Picture.{cache_in, rest_in}
use Rattle.table.proofs.Told.{good_rows}
use Rattle.table.specs.Asked.{GoodRows}
use Rattle.table.specs.Told.{aged as aged_rows}
use Rattle.room.proofs.After.{same_work, room_carries}
use Rattle.room.proofs.Kept.{did_start}
use Rattle.room.proofs.Orders.{did_then, did_onward, did_holds}
use Rattle.room.specs.After.{after}
use Rattle.room.specs.Did.{Did, Fits}

-- ---- the maximum lowered

at_least_above : (k : Cap) (m n : ℕ) → n ≤ at_least k m n
at_least_above None m n = omega arith
at_least_above (Some b) m n = omega arith

module _ (c : Cache) (target : ℕ) (s : Settings) (maximum n : ℕ) (p : s ≡ c.settings) (q : maximum ≡ c.maximum) (e : n ≡ lowered target s.decrement maximum s.smallest) where
  pub lower_is : n ≡ lowered_in target c
  lower_is = e ∙ rw (p, q)

  pub lower_least : c.settings.smallest ≤ c.maximum → c.settings.smallest ≤ n
  lower_least l = rw lower_is (omega (arith, l, at_least_above c.settings.decrement c.maximum (max target c.settings.smallest)))

  pub lower_most : c.maximum ≤ c.settings.largest → n ≤ c.settings.largest
  lower_most l = rw lower_is (omega arith)

  pub lower_held : {ws rest : List ℕ} → Holds ws (with_maximum n c) rest → Holds ws (lower target (start c)).cache rest
  lower_held {ws} {rest} h = subst (λ (i : ℕ). Holds ws (with_maximum i c) rest) lower_is h

pub scaled : (c : Cache) (maximum target : ℕ) (m : Float) {ws rest : List ℕ} → maximum ≡ c.maximum → target ≡ size_product maximum m
    → Holds ws (lower target (start c)).cache rest → Holds ws (lower (size_product c.maximum m) (start c)).cache rest
scaled c maximum target m {ws} {rest} p e h = subst (λ (i : ℕ). Holds ws (lower i (start c)).cache rest) (e ∙ ap (λ (i : ℕ). size_product i m) p) h

-- ---- the increase

pub increased_is : (c : Cache) (s : Settings) (maximum h n : ℕ) (above : Bool) (rate : Float) → s ≡ c.settings → maximum ≡ c.maximum → h ≡ held c
    → above ≡ c.exceeded → n ≡ increased_by s.increase s.increment rate (above || leb maximum h) maximum s.largest → n ≡ increased_in rate c
increased_is c s maximum h n above rate p q r t e = e ∙ rw (p, q, r, t)

increase_most : (i : Increase) (k : Cap) (r : Float) (full : Bool) (m l : ℕ) → m ≤ l → increased_by i k r full m l ≤ l
increase_most increase.Off k r full m l h = h
increase_most (increase.Threshold x y) k r full m l h = choose (λ (n : ℕ). n ≤ l) (is_below r x && full) (λ p. go k) (λ p. h)
  where
    go : (k : Cap) → at_most k m (min (size_product m y) l) ≤ l
    go None = omega arith
    go (Some n) = omega arith

pub increased_most : (c : Cache) (rate : Float) (n : ℕ) → n ≡ increased_in rate c → c.maximum ≤ c.settings.largest → n ≤ c.settings.largest
increased_most c rate n e l = rw e (increase_most c.settings.increase c.settings.increment rate (is_full c) c.maximum c.settings.largest l)

-- ---- age-out

module _ {table lent table₁ words₁ : List ℕ} {rows before given : ℕ} (n : ℕ) (g : GoodRows table rows)
    (d : Did (evict_aged n (cache_in table).recency (start (cache_in table))) (rest_in table) table₁ before lent words₁ given) where
  pub out_good : GoodRows table₁ rows
  out_good =
      let c = cache_in table in
      let s = g.good.steady.sound in
      good_rows d.holds (g.size ∙ sym (moved (aged_moves {sets = false} c.mode n c.recency (start c) refl (sound_listed (start c) s)) s).kept.rows)

  pub out_whole : (reserve : Float) → eq reserve (decimal 1 1) ≡ true → Did (age_out n reserve (start (cache_in table))) (rest_in table) table₁ before lent words₁ given
  unfolding age_out
  out_whole reserve e =
      choose (λ (w : Work). Did w (rest_in table) table₁ before lent words₁ given) (eq reserve (decimal 1 1)) (λ h. d) (λ h. either (eq reserve (decimal 1 1)) e h)

  pub out_lower : {table₂ : List ℕ} (reserve : Float) (h target : ℕ) → eq reserve (decimal 1 1) ≡ false → h ≡ held (cache_in table₁) → target ≡ reserve_quotient h reserve
      → Holds table₂ (lower target (start (cache_in table₁))).cache (rest_in table₁) → Did (age_out n reserve (start (cache_in table))) (rest_in table) table₂ before lent words₁ given
  unfolding age_out
  out_lower {table₂} reserve h target e p q k =
      let v = evict_aged n (cache_in table).recency (start (cache_in table)) in
      let same : target ≡ reserve_quotient (held v.cache) reserve = q ∙ ap (λ (i : ℕ). reserve_quotient i reserve) (p ∙ ap held (holds_cache d.holds)) in
      choose (λ (w : Work). Did w (rest_in table) table₂ before lent words₁ given) (eq reserve (decimal 1 1)) (λ y. either (eq reserve (decimal 1 1)) y e)
      (λ y. subst (λ (i : ℕ). Did (lower i v) (rest_in table) table₂ before lent words₁ given) same (did_onward (λ x. (lower target (start x)).cache) d k))

-- ---- the decrease

module _ (rule : Decrease) (rate : Float) (c : Cache) {rest table lent : List ℕ} {before : ℕ} where
  pub decrease_off : rule ≡ decrease.Off → Holds table c rest → Did (decreased_by rule rate (start c)) rest table before lent lent before
  decrease_off e h = rw e (did_holds h)

  -- a threshold that the rate is above, or is not
  module _ {upper multiplier : Float} (e : rule ≡ decrease.Threshold upper multiplier) where
    pub decrease_scaled : lt upper rate ≡ true → Holds table (lower (size_product c.maximum multiplier) (start c)).cache rest
        → Did (decreased_by rule rate (start c)) rest table before lent lent before
    decrease_scaled a h =
        rw e (choose (λ (w : Work). Did w rest table before lent lent before) (lt upper rate) (λ p. did_holds h) (λ p. either (lt upper rate) a p))

    pub decrease_stays : lt upper rate ≡ false → Holds table c rest → Did (decreased_by rule rate (start c)) rest table before lent lent before
    decrease_stays a h =
        rw e (choose (λ (w : Work). Did w rest table before lent lent before) (lt upper rate) (λ p. either (lt upper rate) p a) (λ p. did_holds h))

  pub decrease_ages : {epochs : ℕ} {reserve : Float} {words : List ℕ} {given : ℕ} → rule ≡ decrease.AgeOut epochs reserve → Did (age_out epochs reserve (start c)) rest table before lent words given
      → Did (decreased_by rule rate (start c)) rest table before lent words given
  decrease_ages e d = rw e d

  module _ {upper : Float} {epochs : ℕ} {reserve : Float} (e : rule ≡ decrease.AgeOutWithThreshold upper epochs reserve) where
    pub decrease_ages_above : {words : List ℕ} {given : ℕ} → lt upper rate ≡ true → Did (age_out epochs reserve (start c)) rest table before lent words given
        → Did (decreased_by rule rate (start c)) rest table before lent words given
    decrease_ages_above {words} {given} a d =
        rw e (choose (λ (w : Work). Did w rest table before lent words given) (lt upper rate) (λ p. d) (λ p. either (lt upper rate) a p))

    pub decrease_ages_not : lt upper rate ≡ false → Holds table c rest → Did (decreased_by rule rate (start c)) rest table before lent lent before
    decrease_ages_not a h =
        rw e (choose (λ (w : Work). Did w rest table before lent lent before) (lt upper rate) (λ p. either (lt upper rate) p a) (λ p. did_holds h))

-- ---- both steps

module _ (c : Cache) (rate : Float) (maximum n : ℕ) (p : maximum ≡ c.maximum) (e : n ≡ increased_in rate c) {rest table lent : List ℕ} {before : ℕ} where
  pub resized_up : maximum < n → Holds table (with_maximum n c) rest → Did (resized rate (start c)) rest table before lent lent before
  unfolding resized
  resized_up l h =
      choose (λ (w : Work). Did w rest table before lent lent before) (ltb c.maximum (increased_in rate c))
      (λ y. did_holds (subst (λ (i : ℕ). Holds table (with_maximum i c) rest) e h))
      (λ y. absurd (omega (arith, p, e, l, ltb-false c.maximum (increased_in rate c) y)))

  pub resized_not : {words : List ℕ} {given : ℕ} → n ≤ maximum → (s : Settings) → s ≡ c.settings → Did (decreased_by s.decrease rate (start c)) rest table before lent words given
      → Did (resized rate (start c)) rest table before lent words given
  unfolding resized
  resized_not {words} {given} l s q d =
      choose (λ (w : Work). Did w rest table before lent words given) (ltb c.maximum (increased_in rate c))
      (λ y. absurd (omega (arith, p, e, l, ltb-true c.maximum (increased_in rate c) y)))
      (λ y. subst (λ (x : Settings). Did (decreased_by x.decrease rate (start c)) rest table before lent words given) q d)

-- ---- the end of an epoch

pub rate_is : (c : Cache) (rate : Float) (h a : ℕ) {rest table lent words : List ℕ} {before given : ℕ} → h ≡ c.hits → a ≡ c.accesses → rate ≡ hit_rate h a
    → Did (resized rate (start c)) rest table before lent words given → Did (resized (hit_rate c.hits c.accesses) (start c)) rest table before lent words given
rate_is c rate h a {rest} {table} {lent} {words} {before} {given} p q e d =
    subst (λ (x : Float). Did (resized x (start c)) rest table before lent words given) (e ∙ ap₂ (λ (i j : ℕ). hit_rate i j) p q) d

abbrev pub resized_in : Cache → Work
resized_in c = resized (hit_rate c.hits c.accesses) (start c)

module _ {table lent table₁ words₁ : List ℕ} {rows before given : ℕ} (g : GoodRows table rows) (d : Did (resized_in (cache_in table)) (rest_in table) table₁ before lent words₁ given) where
  pub resized_good : GoodRows table₁ rows
  resized_good =
      let c = cache_in table in
      let s = g.good.steady.sound in
      good_rows d.holds (g.size ∙ sym (moved (resized_moves (start c) s (hit_rate c.hits c.accesses)) s).kept.rows)

  module _ {table₂ table₃ : List ℕ} (k : Holds table₂ (aged_rows (cache_in table₁)) (rest_in table₁)) (m : Holds table₃ (restart (cache_in table₂)) (rest_in table₂)) where
    pub aged_held : Holds table₃ (aged (resized_in (cache_in table))).cache (rest_in table)
    aged_held = onward restart (onward aged_rows d.holds k) m

    pub aged_good : GoodRows table₃ rows
    aged_good =
        let s = g.good.steady.sound in
        good_rows aged_held (g.size ∙ sym (moved (before_room (start (cache_in table)) s) s).kept.rows)

    -- each order given is one that can't come any more
    pub aged_fits : Fits (cache_in table) before lent → length words₁ ≡ length lent → Fits (cache_in table₃) given words₁
    aged_fits f l =
        let s = g.good.steady.sound in
        let o = (moved (before_room (start (cache_in table)) s) s).orders in
        let e = d.number in
        rw (holds_cache aged_held) (omega arith)

    pub epoch_joins : {table₄ words₂ : List ℕ} {r : ℕ} → Did (make_room 0 false (start (cache_in table₃))) (rest_in table₃) table₄ given words₁ words₂ r
        → Did (end_epoch (start (cache_in table))) (rest_in table) table₄ before lent words₂ r
    unfolding end_epoch
    epoch_joins {table₄} {words₂} {r} e =
        let v = resized_in (cache_in table) in
        let q : Did (make_room 0 false (start (aged v).cache)) (rest_in table) table₄ given words₁ words₂ r = rw (holds_cache aged_held, holds_rest aged_held) at e in
        let same : after v.orders (start (aged v).cache) ≡ aged v = same_work v.orders refl (append-nil v.orders) in
        subst (λ (w : Work). Did w (rest_in table) table₄ before lent words₂ r)
        (sym (room_carries v.orders 0 false (start (aged v).cache)) ∙ ap (make_room 0 false) same)
        (did_then d q)

-- ---- counting

pub counts_is : (c : Cache) (s : Settings) (i d : Bool) → s ≡ c.settings → i ≡ increases s.increase → d ≡ decreases s.decrease → i || d ≡ counts c.settings
counts_is c s i d p q r = ap₂ (λ (x y : Bool). x || y) q r ∙ ap counts p

pub one_if : (hit : Bool) → bool_byte hit ≡ (if hit then 1 else 0)
one_if true = refl
one_if false = refl

pub one_most : (hit : Bool) (n : ℕ) → n ≡ (if hit then 1 else 0) → n ≤ 1
one_most true n e = omega arith
one_most false n e = omega arith

pub count_off : {table lent : List ℕ} {before : ℕ} (hit : Bool) → Good table → counts (cache_in table).settings ≡ false
    → Did (count_access hit (start (cache_in table))) (rest_in table) table before lent lent before
unfolding count_access
count_off {table} {lent} {before} hit g e =
    choose (λ (w : Work). Did w (rest_in table) table before lent lent before) (counts (cache_in table).settings) (λ h. either (counts (cache_in table).settings) h e) (λ h. did_start g)

module _ (hit : Bool) (c : Cache) (n h : ℕ) (e : n ≡ c.accesses + 1) (f : h ≡ c.hits + (if hit then 1 else 0)) {table₁ rest : List ℕ} (k : Holds table₁ (with_counters n h c) rest) where
  pub counted_held : Holds table₁ (counted hit (start c)).cache rest
  counted_held = subst (λ (i : ℕ). Holds table₁ (with_counters i (c.hits + (if hit then 1 else 0)) c) rest) e (subst (λ (i : ℕ). Holds table₁ (with_counters n i c) rest) f k)

  pub count_good : {rows : ℕ} → rows ≡ length c.rows → GoodRows table₁ rows
  count_good s = good_rows k s

  pub count_fits : (before : ℕ) (lent : List ℕ) → Fits c before lent → Fits (cache_in table₁) before lent
  count_fits before lent l = rw (holds_cache k) l

  module _ (on : counts c.settings ≡ true) where
    pub count_early : {lent : List ℕ} {before : ℕ} → n < c.settings.epoch → Did (count_access hit (start c)) rest table₁ before lent lent before
    unfolding count_access
    count_early {lent} {before} l =
        choose (λ (w : Work). Did w rest table₁ before lent lent before) (counts c.settings)
        (λ y. choose (λ (w : Work). Did w rest table₁ before lent lent before) (leb c.settings.epoch (c.accesses + 1))
        (λ z. absurd (omega (arith, l, e, leb-true c.settings.epoch (c.accesses + 1) z)))
        (λ z. did_holds counted_held))
        (λ y. either (counts c.settings) on y)

    pub count_due : {table lent words : List ℕ} {before given : ℕ} → c.settings.epoch ≤ n
        → Did (end_epoch (start (cache_in table₁))) (rest_in table₁) table before lent words given → Did (count_access hit (start c)) rest table before lent words given
    unfolding count_access
    count_due {table} {lent} {words} {before} {given} l d =
        let q : Did (end_epoch (counted hit (start c))) rest table before lent words given = rw (holds_cache counted_held, holds_rest counted_held) at d in
        choose (λ (w : Work). Did w rest table before lent words given) (counts c.settings)
        (λ y. choose (λ (w : Work). Did w rest table before lent words given) (leb c.settings.epoch (c.accesses + 1))
        (λ z. q)
        (λ z. absurd (omega (arith, l, e, leb-false c.settings.epoch (c.accesses + 1) z))))
        (λ y. either (counts c.settings) on y)
