-- The words from pos on move down by one.
use Rattle.std.proofs.Common.{arith, ◌∙◌, length-take, length-drop}
use Rattle.words.specs.Runs.{removed}
use Rattle.words.proofs.Shifts.{moved_down, from_pos, removed_from}
use Rattle.words.proofs.remove_at.Goals as goal

pub returns : goal.returns
returns c =
    let s = c.args in
    from_pos s.run.now _ s.pos (removed 0) (moved_down _ _ (simp (length-take, length-drop) (omega arith)) c.copy_within.ensures.after) ∙ removed_from s.run.now s.pos
