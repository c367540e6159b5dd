use Rattle.std.proofs.Common.{arith}
use Rattle.rules.specs.Messages.{feed_all}
use Rattle.message.proofs.Whole.{reads_sound, reads_on, wrong_on}
use Rattle.message.proofs.read.feed_bytes.Goals as goal

pub loop-byte-init : goal.loop-byte-init
unfolding feed_all
loop-byte-init c = λ x k. k

pub feed_one-requires : goal.feed_one-requires
feed_one-requires c =
    let k = c.loop-byte.invariant c.requires.reading c.requires.reads in
    (reads_sound k, k.kept.long)

pub returns-in_err-reader : goal.returns-in_err-reader
returns-in_err-reader c =
    rw c.from_residual.ensures (record { each = λ x k. wrong_on c.args.bytes.now x c.loop-byte.byte-index (omega arith) (c.in_err-reader.ensures.each _ (c.loop-byte.invariant x k)) })

pub loop-byte-preserved : goal.loop-byte-preserved
loop-byte-preserved c = λ x k. reads_on c.args.bytes.now x c.loop-byte.byte-index (omega arith) (c.in_ok-reader.ensures.each _ (c.loop-byte.invariant x k))
