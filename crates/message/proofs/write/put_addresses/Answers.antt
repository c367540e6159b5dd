use Rattle.std.proofs.Common.{refl, rules}
use Rattle.message.proofs.Putting.{fields_start, fields_next}
use Rattle.message.proofs.write.put_addresses.Goals as goal

pub loop-i-init : goal.loop-i-init
loop-i-init c = (refl, fields_start c.args.list.now c.args.part.now)

pub loop-i-preserved : goal.loop-i-preserved
loop-i-preserved c = (search rules, fields_next c.args.list.now c.args.part.now c.loop-i.i c.loop-i-test.true c.loop-i.invariant.1 c.put_number.ensures)
