-- The default settings with 0.3 named are those that every mode had before, and a lead's and a standby's are as they were.
use mathlib.Core.Path.{◌≡◌, refl}
use Rattle.fraction.specs.Fraction.{decimal}
use Rattle.settings.specs.declared.Mode.TheVariants.{Alone, Lead, Standby}
use Rattle.settings.specs.Defaults.{defaults, defaults_before, with_clean}

pub named_as_before : with_clean (decimal 3 10) (defaults Alone) ≡ defaults_before
unfolding with_clean defaults defaults_before
named_as_before = refl

pub lead_as_before : defaults Lead ≡ defaults_before
unfolding defaults defaults_before
lead_as_before = refl

pub standby_as_before : defaults Standby ≡ defaults_before
unfolding defaults defaults_before
standby_as_before = refl
