-- Runs put into the words of a slice.
use Rattle.std.specs.Prelude.{ℕ, ◌+◌, List}
use Rattle.reason_rules.specs.declared.Reason.TheVariants as reason
use Rattle.reason_rules.specs.Reasons.{reason_number}
use Rattle.reasons.specs.declared.runs.RoomRuns.{RoomRuns}
use Rattle.reasons.specs.declared.runs.Runs.{Runs}
use Rattle.layout.specs.Leaves.{fill_part}

-- How many orders there are.
abbrev pub orders_in : Runs → ℕ
orders_in r = r.room.first + r.room.share + r.load + r.aged + r.again.first + r.again.share

-- The runs of one making of room, from a word on.
abbrev pub room_put : ℕ → RoomRuns → List ℕ → List ℕ
room_put from r ws = fill_part (from + r.first) r.share (reason_number reason.Share) (fill_part from r.first (reason_number r.reason) ws)
