use Rattle.std.proofs.Common.{length, sym, ◌∙◌, arith}
use Rattle.rules.specs.Messages.{going, fresh_reader}
use Rattle.message.proofs.Whole.{after_wrong, rest_fed, reads_start, whole_wrong, whole_read}
use Rattle.message.proofs.read.read_message.Goals as goal

pub feed_bytes-requires : goal.feed_bytes-requires
feed_bytes-requires c = record { reading = going fresh_reader; reads = reads_start c.args.addresses.now c.requires }

pub returns-in_default : goal.returns-in_default
returns-in_default c = whole_wrong c.args.message.now _ (after_wrong c.args.message.now c.min-head.result (length c.args.message.now) (omega arith) (c.in_default.ensures.each (going fresh_reader) (reads_start c.args.addresses.now c.requires)))

pub read_fields-fields-requires : goal.read_fields-fields-requires
read_fields-fields-requires c = (omega arith, c.in-Some.ensures.each (going fresh_reader) (reads_start c.args.addresses.now c.requires))

pub returns-in_default-feed_bytes : goal.returns-in_default-feed_bytes
returns-in_default-feed_bytes c =
    let k = c.read_fields-fields.ensures in
    whole_wrong c.args.message.now _ (sym (rest_fed c.args.message.now c.read_fields-fields.result.at k.0) ∙ c.in_default-feed_bytes.ensures.each _ k.1)

pub returns : goal.returns
returns c =
    let k = c.read_fields-fields.ensures in
    whole_read c.args.message.now _ (rw (rest_fed c.args.message.now c.read_fields-fields.result.at k.0) at (c.in-Some-feed_bytes.ensures.each _ k.1)) c.ended.ensures
