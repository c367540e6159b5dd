-- A word is all ones exactly from the length on.
use mathlib.Core.Bool.{not}
use mathlib.Core.Path.{◌≡◌}
use Prim.Native.Nat.{◌+◌, ◌-◌, ◌≤◌}
use lib.Dec.{eqb}
use lib.ListN.{drop, length-take}
use Rattle.std.proofs.Common.{arith, rules}
use Rattle.std.proofs.lemmas.List.Sorted.{IsPartitionPoint-from_clause}
use Rattle.layout.specs.Layout.{ones}
use Rattle.table.proofs.Lengths.{run_parted, run_point}
use Rattle.table.proofs.runs.run_length.Goals as goal

pub returns : goal.returns
returns c =
    let r = c.requires in
    let n = c.args.n in
    let at = c.args.at in
    let e : at + n - at ≡ n = omega arith in
    let b : c.partition_point.result ≤ n = omega (arith, c.partition_point.ensures.bound, length-take (at + n - at) (drop at c.args.table.now)) in
    run_point r e _ b
    (IsPartitionPoint-from_clause (λ w. not (eqb w ones)) _ _ c.partition_point.ensures.partitioned (run_parted r e) (λ a r q k. search rules))
