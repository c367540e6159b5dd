-- No pass reads the orders given before it: they stay in front of its own.
use Rattle.std.specs.Prelude.{if◌then◌else◌, Option, None, Some, option_map}
use Prim.Native.Nat.{ℕ, zero, suc, ◌+◌}
use mathlib.Core.Path.{◌≡◌, refl, ap, ◌∙◌}
use mathlib.Core.Bool.{Bool, true, false, ◌&&◌}
use mathlib.Core.List.{List, [], ◌∷◌, ◌++◌, append_assoc}
use lib.Dec.{ltb, leb}
use lib.Ieee.{Float, lt, eq}
use Rattle.fraction.specs.Fraction.{decimal, hit_rate}
use Rattle.settings.specs.declared.Decrease.{Decrease}
use Rattle.settings.specs.declared.Decrease.TheVariants as decrease
use Rattle.rules.specs.declared.order.Order.{Order}
use Rattle.settings.specs.declared.Mode.{Mode}
use Rattle.settings.specs.declared.Mode.TheVariants.{Alone, Lead, Standby}
use Rattle.room.specs.After.{after}
use Rattle.rules.specs.Addresses.{nearest}
use Rattle.rules.specs.Cache.{Work, with_maximum}
use Rattle.rules.specs.Resizing.{evict_aged, expel, aged_at, lower, increased_in, age_out, decreased_by, resized, aged, end_epoch, counts, count_access, counted, end_if_due}
use Rattle.rules.specs.Room.{evict, write, write_in_place, lacking, share_missing, look_at_tail, tail_turn, clean_turn, or_stay, turns, write_dirty, room_in, noticed, make_room}
use Rattle.rules.specs.Rows.{clean_at, dirty_at}

module _ (before : List Order) where
  pub same_work : {v w : Work} → v.cache ≡ w.cache → v.orders ≡ w.orders → v ≡ w
  same_work p q = λ i. record { cache = p i; orders = q i }

  evict_carries : (a : ℕ) (w : Work) → evict a (after before w) ≡ after before (evict a w)
  evict_carries a w = same_work refl (append_assoc before w.orders _)

  write_carries : (a : ℕ) (l : List ℕ) (w : Work) → write a l (after before w) ≡ after before (write a l w)
  write_carries a l w = same_work refl (append_assoc before w.orders _)

  -- a choice by a test of the cache
  chosen : (t : Bool) (u v : Work) {x y : Work} → x ≡ after before u → y ≡ after before v → (if t then x else y) ≡ after before (if t then u else v)
  chosen true u v p q = p
  chosen false u v p q = q

  pub dirty_carries : (x : ℕ) (l : List ℕ) (w : Work) → write_dirty x l (after before w) ≡ after before (write_dirty x l w)
  unfolding write_dirty
  dirty_carries x [] w = refl
  dirty_carries x (a ∷ l) w =
      ap (write_dirty x l) (chosen (ltb 0 (share_missing x w.cache) && dirty_at w.cache.rows a) (write_in_place a w) w (write_carries a w.cache.recency w) refl) ∙ dirty_carries x l _

  -- a turn of step 1 does not look at the orders before it
  abbrev Carries : (Work → Option Work) → Type 0
  Carries turn = (w : Work) → turn (after before w) ≡ option_map (after before) (turn w)

  pub tail_carries : Carries tail_turn
  tail_carries w = go w.cache.recency
    where
      go : (l : List ℕ) → look_at_tail l (after before w) ≡ option_map (after before) (look_at_tail l w)
      go [] = refl
      go (a ∷ l) = ap Some (chosen (dirty_at w.cache.rows a) (write a (l ++ a ∷ []) w) (evict a w) (write_carries a (l ++ a ∷ []) w) (evict_carries a w))

  pub clean_carries : Carries clean_turn
  clean_carries w = go (nearest (clean_at w.cache.rows) w.cache.recency)
    where
      go : (o : Option ℕ) → option_map (λ a. evict a (after before w)) o ≡ option_map (after before) (option_map (λ a. evict a w) o)
      go None = refl
      go (Some a) = ap Some (evict_carries a w)

  stay_carries : (o : Option Work) (w : Work) → or_stay (option_map (after before) o) (after before w) ≡ after before (or_stay o w)
  stay_carries None w = refl
  stay_carries (Some u) w = refl

  pub turns_carry : (turn : Work → Option Work) → Carries turn → (n x : ℕ) (row : Bool) (w : Work) → turns n turn x row (after before w) ≡ after before (turns n turn x row w)
  unfolding turns
  turns_carry turn h zero x row w = refl
  turns_carry turn h (suc n) x row w =
      ap (turns n turn x row) (chosen (lacking x row w.cache) (or_stay (turn w) w) w (ap (λ (o : Option Work). or_stay o (after before w)) (h w) ∙ stay_carries (turn w) w) refl)
      ∙ turns_carry turn h n x row _

  pub room_carries : (x : ℕ) (row : Bool) (w : Work) → make_room x row (after before w) ≡ after before (make_room x row w)
  unfolding make_room room_in
  room_carries x row w = chosen w.cache.settings.evictions (room_in w.cache.mode x row (noticed x w)) w (go w.cache.mode (noticed x w)) refl
    where
      go : (m : Mode) (u : Work) → room_in m x row (after before u) ≡ after before (room_in m x row u)
      go Alone u = rw (turns_carry tail_turn tail_carries _ x row u) (dirty_carries x _ _)
      go Lead u = turns_carry clean_turn clean_carries _ x row u
      go Standby u = turns_carry clean_turn clean_carries _ x row u

  expel_carries : (m : Mode) (a : ℕ) (w : Work) → expel m a (after before w) ≡ after before (expel m a w)
  expel_carries Alone a w =
      chosen (dirty_at w.cache.rows a) (evict a (write_in_place a w)) (evict a w) (ap (evict a) (write_carries a w.cache.recency w) ∙ evict_carries a _) (evict_carries a w)
  expel_carries Lead a w = chosen (dirty_at w.cache.rows a) w (evict a w) refl (evict_carries a w)
  expel_carries Standby a w = chosen (dirty_at w.cache.rows a) w (evict a w) refl (evict_carries a w)

  pub aged_carries : (n : ℕ) (l : List ℕ) (w : Work) → evict_aged n l (after before w) ≡ after before (evict_aged n l w)
  unfolding evict_aged
  aged_carries n [] w = refl
  aged_carries n (a ∷ l) w =
      ap (evict_aged n l) (chosen (aged_at n w.cache a) (expel w.cache.mode a w) w (expel_carries w.cache.mode a w) refl) ∙ aged_carries n l _

  out_carries : (n : ℕ) (reserve : Float) (w : Work) → age_out n reserve (after before w) ≡ after before (age_out n reserve w)
  unfolding age_out
  out_carries n reserve w = rw (aged_carries n w.cache.recency w) (chosen (eq reserve (decimal 1 1)) _ _ refl refl)

  decrease_carries : (d : Decrease) (rate : Float) (w : Work) → decreased_by d rate (after before w) ≡ after before (decreased_by d rate w)
  decrease_carries decrease.Off rate w = refl
  decrease_carries (decrease.Threshold upper multiplier) rate w = chosen (lt upper rate) (lower _ w) w refl refl
  decrease_carries (decrease.AgeOut epochs reserve) rate w = out_carries epochs reserve w
  decrease_carries (decrease.AgeOutWithThreshold upper epochs reserve) rate w = chosen (lt upper rate) (age_out epochs reserve w) w (out_carries epochs reserve w) refl

  pub resized_carries : (rate : Float) (w : Work) → resized rate (after before w) ≡ after before (resized rate w)
  unfolding resized
  resized_carries rate w =
      chosen (ltb w.cache.maximum (increased_in rate w.cache)) (record { cache = with_maximum (increased_in rate w.cache) w.cache; orders = w.orders })
      (decreased_by w.cache.settings.decrease rate w) refl (decrease_carries w.cache.settings.decrease rate w)

  end_carries : (w : Work) → end_epoch (after before w) ≡ after before (end_epoch w)
  unfolding end_epoch
  end_carries w =
      let rate = hit_rate w.cache.hits w.cache.accesses in
      ap (λ (v : Work). make_room 0 false (aged v)) (resized_carries rate w) ∙ room_carries 0 false (aged (resized rate w))

  pub count_carries : (hit : Bool) (w : Work) → count_access hit (after before w) ≡ after before (count_access hit w)
  unfolding count_access
  count_carries hit w =
      chosen (counts w.cache.settings) (end_if_due (counted hit w)) w
      (chosen (leb w.cache.settings.epoch (w.cache.accesses + 1)) (end_epoch (counted hit w)) (counted hit w) (end_carries (counted hit w)) refl)
      refl
