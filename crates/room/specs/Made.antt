-- The reasons of the orders of one making of room, by how many each step gave.
use Rattle.std.specs.Prelude.{ℕ, Bool, List, ◌++◌, replicate, if◌then◌else◌}
use Rattle.reason_rules.specs.declared.Reason.{Reason}
use Rattle.reason_rules.specs.declared.Reason.TheVariants as reason

abbrev pub two_runs : Bool → ℕ → ℕ → List Reason
two_runs exceeded first share = replicate first (if exceeded then reason.Bytes else reason.Rows) ++ replicate share reason.Share
