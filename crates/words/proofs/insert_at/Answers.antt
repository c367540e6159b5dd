-- The words from pos on move up by one.
use Rattle.std.proofs.Common.{arith, ◌∙◌, length-take, length-drop}
use Rattle.words.specs.Runs.{inserted}
use Rattle.words.proofs.Shifts.{moved_up, from_pos, inserted_from}
use Rattle.words.proofs.insert_at.Goals as goal

pub returns : goal.returns
returns c =
    let s = c.args in
    from_pos s.run.now _ s.pos (inserted 0 s.v) (moved_up _ _ s.v (simp (length-take, length-drop) (omega arith)) c.copy_within.ensures.after) ∙ inserted_from s.run.now s.pos s.v (omega arith)
