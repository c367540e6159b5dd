-- What the evictions leave lets the maximum be lowered, and both together are the rule.
use lib.Ieee.{of_bits, round}
use mathlib.Core.Path.{◌∙◌}
use Rattle.room.proofs.Orders.{did_number}
use Rattle.epoch.proofs.Laws.{out_good, out_whole, out_lower}
use Rattle.epoch.proofs.Named.{out_same, out_named}
use Rattle.epoch.proofs.decrease.age_out.Goals as goal

pub returns-then-reserve : goal.returns-then-reserve
unfolding of_bits round
returns-then-reserve c =
    record { did = did_number c.nothing.ensures.0 (out_whole c.args.epochs c.requires.0 c.evict_aged-given.ensures c.args.reserve c.if-reserve.true); change = c.nothing.ensures.1 ∙ out_same c.args.epochs c.args.reserve c.args.table.now c.if-reserve.true }

pub held_bytes-requires : goal.held_bytes-requires
held_bytes-requires c =
    out_good c.args.epochs c.requires.0 c.evict_aged-given.ensures

pub lower_to-change-requires : goal.lower_to-change-requires
lower_to-change-requires c =
    (out_good c.args.epochs c.requires.0 c.evict_aged-given.ensures).good

pub returns : goal.returns
unfolding of_bits round
returns c =
    record { did = out_lower c.args.epochs c.requires.0 c.evict_aged-given.ensures c.args.reserve c.held_bytes.result c.reserve_quotient-target.result c.if-reserve.false c.held_bytes.ensures c.reserve_quotient-target.ensures c.lower_to-change.ensures.holds; change = out_named c.args.epochs c.args.reserve c.args.table.now c.held_bytes.result c.reserve_quotient-target.result c.if-reserve.false c.evict_aged-given.ensures c.held_bytes.ensures c.reserve_quotient-target.ensures c.lower_to-change.ensures.change }
