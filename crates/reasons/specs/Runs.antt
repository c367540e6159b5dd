-- The reasons of orders that are told by runs.
use Rattle.std.specs.Prelude.{List, ◌++◌, replicate}
use Rattle.reason_rules.specs.declared.Reason.{Reason}
use Rattle.reason_rules.specs.declared.Reason.TheVariants as reason
use Rattle.reasons.specs.declared.runs.RoomRuns.{RoomRuns}
use Rattle.reasons.specs.declared.runs.Runs.{Runs}

abbrev pub room_runs : RoomRuns → List Reason
room_runs r = replicate r.first r.reason ++ replicate r.share reason.Share

abbrev pub all_runs : Runs → List Reason
all_runs r = room_runs r.room ++ (replicate r.load reason.Load ++ (replicate r.aged reason.Aged ++ room_runs r.again))
