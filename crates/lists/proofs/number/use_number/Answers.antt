-- The mode decides whether the number moves on.
use Rattle.lists.proofs.Numbering.{numbered_lead, numbered_not}
use Rattle.layout.specs.Picture.{cache_in}
use Rattle.rules.specs.Messages.{next_after}
use mathlib.Core.Path.{ap, ◌∙◌}
use Rattle.lists.proofs.number.use_number.Goals as goal

pub returns-then-is_lead : goal.returns-then-is_lead
returns-then-is_lead c = numbered_lead (cache_in c.args.table.now) (rw c.mode.ensures at c.is_lead.ensures) c.if-is_lead.true (c.next_after.ensures ∙ ap next_after c.next_number-next.ensures) c.set_next.ensures

pub returns-else-is_lead : goal.returns-else-is_lead
returns-else-is_lead c = numbered_not (cache_in c.args.table.now) (rw c.mode.ensures at c.is_lead.ensures) c.if-is_lead.false c.requires
