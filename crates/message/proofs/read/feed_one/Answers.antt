-- The byte was the last one of an address, or not.
use Rattle.std.proofs.Common.{arith}
use Rattle.message.proofs.Whole.{none_left, next_going, next_address}
use Rattle.message.proofs.read.feed_one.Goals as goal
use Rattle.message.proofs.read.feed_one.Goals.{in-Some, in_default}

pub returns : goal.returns
returns c = elim c.match-fed.branch [
  | in-Some w ↦ rw w.addresses-is (record { each = λ x k. rw w.keep.ensures (next_address (omega arith) k c.in_ok-fed.ensures w.in-Some.is) })
  | in_default w ↦ rw w.addresses-is (record { each = λ x k. next_going (omega arith) k c.in_ok-fed.ensures (none_left _ w.in_default.not-Some) })
]
