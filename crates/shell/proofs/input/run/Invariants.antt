-- What is kept lies within the buffer.
use Rattle.std.proofs.Common.{◌≤◌, length}
use Rattle.shell.proofs.input.run.Given as goal

abbrev pub invariant-loop-turn : goal.invariant-loop-turn
invariant-loop-turn g l = l.kept ≤ length l.buf
