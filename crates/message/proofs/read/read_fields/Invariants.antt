-- Fields have been read up to a place.
use Rattle.std.proofs.Common.{◌≡◌, ◌+◌, ◌-◌, ◌*◌}
use Rattle.message.specs.Reads.{after, Reads}
use Rattle.message.proofs.read.read_fields.Given as goal

abbrev pub invariant-loop-taken : goal.invariant-loop-taken
invariant-loop-taken l = record {
  at : l.at ≡ l.from + (l.taken - l.fn.r.taken) * 11;
  taken : l.reader.taken ≡ l.taken;
  place : l.reader.place ≡ l.fn.r.place;
  count : l.reader.count ≡ l.fn.r.count;
  reads : Reads (after l.at l.bytes) l.reader l.addresses;
}
