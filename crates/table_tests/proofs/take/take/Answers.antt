-- What is noted is not kept.
use Prim.Native.Nat.{ℕ}
use lib.ListN.{length-replicate}
use Rattle.rules.specs.Limits.{most_rows}
use Rattle.table_tests.proofs.take.take.Goals as goal

pub take_noting-requires : goal.take_noting-requires
take_noting-requires c = (c.requires, length-replicate {A = ℕ} most_rows 0)
