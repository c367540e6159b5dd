-- Alone writes, and the other modes do not.
use mathlib.Core.Path.{ap, ◌∙◌}
use Rattle.rules.specs.Refusals.{is_alone}
use Rattle.epoch.proofs.age.evict_aged.Goals as goal

pub expel-requires : goal.expel-requires
expel-requires c = (c.requires.0, c.is_alone-writes.ensures ∙ ap is_alone c.requires.1, c.requires.2)
