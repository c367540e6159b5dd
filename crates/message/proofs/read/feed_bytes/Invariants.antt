-- What the first bytes lead to.
use Rattle.std.proofs.Common.{take}
use Rattle.rules.specs.Messages.{Reading, feed_all}
use Rattle.message.specs.Reads.{Reads}
use Rattle.message.proofs.read.feed_bytes.Given as goal

abbrev pub invariant-loop-byte : goal.invariant-loop-byte
invariant-loop-byte l = (x : Reading) → Reads x l.fn.r l.initial.addresses → Reads (feed_all (take l.byte-index l.bytes) x) l.reader l.addresses
