-- No reason and no change goes by the orders given before.
use Rattle.std.specs.Prelude.{if◌then◌else◌}
use Prim.Native.Nat.{ℕ, ◌-◌}
use mathlib.Core.Path.{◌≡◌, refl, sym, ap, ap₂, ◌∙◌}
use mathlib.Core.Bool.{Bool, false}
use mathlib.Core.List.{List, [], ◌++◌, append-nil}
use native.Mathlib.Omega.{arith}
use lib.Dec.{ltb}
use lib.Ieee.{Float, lt, eq}
use lib.ListN.{length, replicate, length-append}
use Rattle.fraction.specs.Fraction.{decimal, reserve_quotient}
use Rattle.settings.specs.declared.Decrease.{Decrease}
use Rattle.settings.specs.declared.Decrease.TheVariants as decrease
use Rattle.settings.specs.declared.Mode.{Mode}
use Rattle.settings.specs.declared.Mode.TheVariants.{Alone, Lead, Standby}
use Rattle.rules.specs.declared.order.Order.{Order}
use Rattle.rules.specs.Cache.{Work, start, held}
use Rattle.rules.specs.Loops.{turn_in}
use Rattle.rules.specs.Resizing.{resized, aged, increased_in, counted}
use Rattle.rules.specs.Room.{evict_by, noticed, make_room}
use Rattle.reason_rules.specs.declared.Cause.TheVariants as cause
use Rattle.reason_rules.specs.declared.Change.{Change}
use Rattle.reason_rules.specs.declared.Reason.{Reason}
use Rattle.reason_rules.specs.declared.Reason.TheVariants as reason
use Rattle.reason_rules.specs.Bounds.{rise_bound}
use Rattle.reason_rules.specs.Reasons.{because, pressing, first_pass, room_reasons, rate_of, epoch_reasons, ends_epoch, count_reasons, changed, increase_raw, fall_change, age_out_change, decrease_change, resize_change, count_change}
use Rattle.room.proofs.After.{same_work, turns_carry, tail_carries, clean_carries, aged_carries, resized_carries, room_carries}
use Rattle.room.specs.After.{after}

module _ (before : List Order) where
  because_carries : (r : Reason) (w v : Work) → because r (after before w) (after before v) ≡ because r w v
  because_carries r w v =
      let i = length-append before w.orders in
      let j = length-append before v.orders in
      let e : length (before ++ v.orders) - length (before ++ w.orders) ≡ length v.orders - length w.orders = omega arith in
      ap (λ (n : ℕ). replicate n r) e

  first_carries : (x : ℕ) (row : Bool) (w : Work) → first_pass x row (after before w) ≡ after before (first_pass x row w)
  first_carries x row w = go w.cache.mode (noticed x w)
    where
      go : (m : Mode) (u : Work) → evict_by (turn_in m) x row (after before u) ≡ after before (evict_by (turn_in m) x row u)
      go Alone u = turns_carry before (turn_in Alone) (tail_carries before) _ x row u
      go Lead u = turns_carry before (turn_in Lead) (clean_carries before) _ x row u
      go Standby u = turns_carry before (turn_in Standby) (clean_carries before) _ x row u

  reasons_carry : (x : ℕ) (row : Bool) (w : Work) → room_reasons x row (after before w) ≡ room_reasons x row w
  unfolding room_reasons
  reasons_carry x row w =
      let u = first_pass x row w in
      let p = ap (because (pressing x w.cache) (after before w)) (first_carries x row w) ∙ because_carries (pressing x w.cache) w u in
      let q = ap₂ (because reason.Share) (first_carries x row w) (room_carries before x row w) ∙ because_carries reason.Share u (make_room x row w) in
      ap (λ (l : List Reason). if w.cache.settings.evictions then l else []) (ap₂ (λ (l m : List Reason). l ++ m) p q)

  epoch_carries : (w : Work) → epoch_reasons (after before w) ≡ epoch_reasons w
  unfolding epoch_reasons
  epoch_carries w =
      let u = resized (rate_of w) w in
      let e = resized_carries before (rate_of w) w in
      ap₂ (λ (l m : List Reason). l ++ m) (ap (because reason.Aged (after before w)) e ∙ because_carries reason.Aged w u)
      (ap (λ (v : Work). room_reasons 0 false (aged v)) e ∙ reasons_carry 0 false (aged u))

  out_change : (n : ℕ) (reserve : Float) (w : Work) → age_out_change n reserve (after before w) ≡ age_out_change n reserve w
  out_change n reserve w =
      ap (λ (v : Work). if eq reserve (decimal 1 1) then [] else fall_change cause.AgeOut (reserve_quotient (held v.cache) reserve) v.cache)
      (aged_carries before n w.cache.recency w)

  decrease_change_told : (d : Decrease) (rate : Float) (w : Work) → decrease_change d rate (after before w) ≡ decrease_change d rate w
  decrease_change_told decrease.Off rate w = refl
  decrease_change_told (decrease.Threshold upper multiplier) rate w = refl
  decrease_change_told (decrease.AgeOut epochs reserve) rate w = out_change epochs reserve w
  decrease_change_told (decrease.AgeOutWithThreshold upper epochs reserve) rate w =
      ap (λ (l : List Change). if lt upper rate then l else []) (out_change epochs reserve w)

  resize_change_told : (rate : Float) (w : Work) → resize_change rate (after before w) ≡ resize_change rate w
  unfolding resize_change
  resize_change_told rate w =
      let c = w.cache in
      let b = rise_bound c.settings.increment (increase_raw c.settings.increase c.maximum) c.maximum c.settings.largest in
      ap (λ (l : List Change). if ltb c.maximum (increased_in rate c) then changed cause.Increase b else l) (decrease_change_told c.settings.decrease rate w)

-- work is its orders before none
alone_after : (w : Work) → after w.orders (start w.cache) ≡ w
alone_after w = same_work w.orders refl (append-nil w.orders)

pub room_from : (x : ℕ) (row : Bool) (w : Work) → room_reasons x row (start w.cache) ≡ room_reasons x row w
room_from x row w = sym (reasons_carry w.orders x row (start w.cache)) ∙ ap (room_reasons x row) (alone_after w)

module _ (hit : Bool) (w : Work) where
  counted_from : after w.orders (counted hit (start w.cache)) ≡ counted hit w
  counted_from = ap (counted hit) (alone_after w)

  pub count_from : count_reasons hit (start w.cache) ≡ count_reasons hit w
  count_from =
      ap (λ (l : List Reason). if ends_epoch w.cache then l else [])
      (sym (epoch_carries w.orders (counted hit (start w.cache))) ∙ ap epoch_reasons counted_from)

  pub change_from : count_change hit (start w.cache) ≡ count_change hit w
  change_from =
      let v = counted hit (start w.cache) in
      ap (λ (l : List Change). if ends_epoch w.cache then l else [])
      (sym (resize_change_told w.orders (rate_of v) v) ∙ ap (resize_change (rate_of v)) counted_from)
