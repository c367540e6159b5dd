-- Some word of the recency run is the row's number, and the first stands at the place.
use Prim.Native.Nat.{◌+◌, ◌-◌}
use mathlib.Core.Path.{◌≡◌}
use Rattle.std.proofs.Common.{arith, rules, tests}
use Rattle.std.proofs.lemmas.Iterator.{IsFirst-from_position, YieldsList-from_slice}
use Rattle.table.proofs.Told.{place_first}
use Rattle.table.proofs.lookup.recency_place.Goals as goal

pub returns : goal.returns
returns c =
    let p = c.requires in
    let at = c.recency_at-at.result in
    let row = c.args.row in
    let e : at + c.args.rows - at ≡ c.args.rows = omega arith in
    rw c.unwrap_or.ensures
    (place_first p.0 p.1 c.recency_at-at.ensures e p.2 c.position.result
    (IsFirst-from_position _ _ _ (λ w. w ≡ row) (λ w. w ≡ row → ⊥) c.position.ensures.ran (YieldsList-from_slice _ cc) (λ x q k. search (rules, tests)) (λ x q k. search (rules, tests))))
