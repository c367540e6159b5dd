-- The two tests; else the front, the fields and the end.
use Rattle.message.proofs.Putting.{few_bytes, long_list, is_written_byte, all_put}
use Rattle.message.proofs.write.write_message.Goals as goal

pub returns-then-bytes-fields : goal.returns-then-bytes-fields
returns-then-bytes-fields c = let s = c.args in few_bytes s.bytes.now s.number s.list.now c.if-bytes-fields.true

pub returns-then-count-gt-MOST_LISTED : goal.returns-then-count-gt-MOST_LISTED
returns-then-count-gt-MOST_LISTED c = let s = c.args in long_list s.bytes.now s.number s.list.now c.if-bytes-fields.false c.if-count-gt-MOST_LISTED.true

pub returns : goal.returns
returns c = let s = c.args in is_written_byte s.bytes.now s.number s.list.now c.if-bytes-fields.false c.if-count-gt-MOST_LISTED.false (all_put s.bytes.now s.number s.list.now c.put_front.ensures c.put_addresses.ensures c.put_tag.ensures)
