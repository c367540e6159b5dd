-- The mode's number decides; a threshold of 0 is refused as no mode is.
use mathlib.Core.Path.{◌∙◌}
use borrow.Author.Tests.{ne_eqb}
use Rattle.settings.specs.declared.Mode.TheVariants.{Alone, Lead, Standby}
use Rattle.numbers.specs.Meanings.{meaning, mode_of_raw}
use Rattle.speldervacht.proofs.Opening.{in_mode, in_no_mode}
use Rattle.speldervacht.proofs.open_in.Goals as goal

pub returns-in-0 : goal.returns-in-0
unfolding mode_of_raw meaning
returns-in-0 c = rw c.in-0.is (c.«open».ensures ∙ in_mode _ _ _ _ Alone)

pub returns-in-1 : goal.returns-in-1
unfolding mode_of_raw meaning
returns-in-1 c = rw c.in-1.is (c.open-in-1.ensures ∙ in_mode _ _ _ _ Lead)

pub returns-in-2 : goal.returns-in-2
unfolding mode_of_raw meaning
returns-in-2 c = rw c.in-2.is (c.open-in-2.ensures ∙ in_mode _ _ _ _ Standby)

pub returns-in_default : goal.returns-in_default
unfolding mode_of_raw meaning
returns-in_default c = simp (ne_eqb _ _ c.in_default.in_default-own.rest.0.0.1, ne_eqb _ _ c.in_default.in_default-own.rest.0.1, ne_eqb _ _ c.in_default.in_default-own.rest.1) (c.open-in_default.ensures ∙ in_no_mode _ _ _ _)
