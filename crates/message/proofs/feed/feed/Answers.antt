-- What the rules say at each place.
use Rattle.std.proofs.Common.{arith}
use Rattle.message.proofs.Bytewise.{at_number_head, at_number, at_count_head, at_count, at_tag, at_length, at_address, at_last, at_the_end, at_nothing, feeds_by, feeds_wrong, number_small, count_small, part_small, taken_small}
use Rattle.message.specs.Feeding.{having}
use Rattle.rules.specs.Messages.{feed}
use Rattle.message.proofs.feed.feed.Goals as goal

pub returns-in-0-to-2 : goal.returns-in-0-to-2
returns-in-0-to-2 c = feeds_by (feed c.args.byte) (λ list. at_number_head c.args.byte (having list c.args.r) (omega arith)) (rw (c.number_head.ensures, c.from-b.ensures) at c.expect.ensures)

pub number_byte-requires : goal.number_byte-requires
number_byte-requires c = (omega arith, omega arith, number_small c.requires (omega arith))

pub returns-in-3-to-10 : goal.returns-in-3-to-10
returns-in-3-to-10 c = feeds_by (feed c.args.byte) (λ list. at_number c.args.byte (having list c.args.r) (omega arith) (omega arith)) (rw c.from-b.ensures at c.number_byte.ensures)

pub returns-in-11-to-13 : goal.returns-in-11-to-13
returns-in-11-to-13 c = feeds_by (feed c.args.byte) (λ list. at_count_head c.args.byte (having list c.args.r) (omega arith) (omega arith)) (rw (c.length_byte.ensures, c.from-b.ensures) at c.expect-in-11-to-13.ensures)

pub count_byte-requires : goal.count_byte-requires
count_byte-requires c = (omega arith, omega arith, count_small c.requires (omega arith))

pub returns-in-14-to-15 : goal.returns-in-14-to-15
returns-in-14-to-15 c = feeds_by (feed c.args.byte) (λ list. at_count c.args.byte (having list c.args.r) (omega arith) (omega arith)) (rw c.from-b.ensures at c.count_byte.ensures)

pub returns-in-16 : goal.returns-in-16
returns-in-16 c = feeds_by (feed c.args.byte) (λ list. at_tag c.args.byte (having list c.args.r) (omega arith) (omega arith)) (rw c.from-b.ensures at c.tag.ensures)

pub returns-in-17-to-18 : goal.returns-in-17-to-18
returns-in-17-to-18 c = feeds_by (feed c.args.byte) (λ list. at_length c.args.byte (having list c.args.r) (omega arith) (λ e. omega arith) (omega arith)) (rw (c.length_byte-in-17-to-18.ensures, c.from-b.ensures) at c.expect-in-17-to-18.ensures)

pub address_byte-requires : goal.address_byte-requires
address_byte-requires c = (omega arith, omega arith, part_small c.requires (omega arith))

pub returns-in-19-to-25 : goal.returns-in-19-to-25
returns-in-19-to-25 c = feeds_by (feed c.args.byte) (λ list. at_address c.args.byte (having list c.args.r) (omega arith) (omega arith) (omega arith)) (rw c.from-b.ensures at c.address_byte.ensures)

pub last_byte-requires : goal.last_byte-requires
last_byte-requires c = (omega arith, part_small c.requires (omega arith), taken_small c.requires (omega arith))

pub returns-in-26 : goal.returns-in-26
returns-in-26 c = feeds_by (feed c.args.byte) (λ list. at_last c.args.byte (having list c.args.r) (omega arith) (omega arith)) (rw c.from-b.ensures at c.last_byte.ensures)

pub returns-in-27-to-28 : goal.returns-in-27-to-28
returns-in-27-to-28 c = feeds_by (feed c.args.byte) (λ list. at_the_end c.args.byte (having list c.args.r) (omega arith) (omega arith) (λ e. omega arith) (omega arith)) (rw c.from-b.ensures at c.expect-in-27-to-28.ensures)

pub returns-in-29-to-18446744073709551615 : goal.returns-in-29-to-18446744073709551615
returns-in-29-to-18446744073709551615 c = feeds_wrong (λ list. at_nothing c.args.byte (having list c.args.r) (omega arith) (omega arith))
