-- The word of each default fraction is that of the float nearest to what its mode has. Assumes nothing.
use Rattle.std.proofs.Common.{◌≡◌}
use mathlib.Core.Logic.{◌⊎◌, inl, inr}
use lib.Ieee.{binary64, of_bits, round}
use Rattle.settings.specs.declared.Mode.{Mode}
use Rattle.settings.specs.declared.Mode.TheVariants.{Alone, Lead, Standby}
use Rattle.settings.specs.Defaults.{default_clean}

pub of_alone : {m : Mode} → m ≡ Alone → of_bits binary64 4576918229304087675 ≡ default_clean m
unfolding of_bits round
of_alone e = rw e

pub of_lead : {m : Mode} → m ≡ Lead → of_bits binary64 4599075939470750515 ≡ default_clean m
unfolding of_bits round
of_lead e = rw e

pub of_standby : {m : Mode} → m ≡ Standby → of_bits binary64 4599075939470750515 ≡ default_clean m
unfolding of_bits round
of_standby e = rw e

pub of_either : {m : Mode} → (m ≡ Lead) ⊎ (m ≡ Standby) → of_bits binary64 4599075939470750515 ≡ default_clean m
of_either (inl e) = of_lead e
of_either (inr e) = of_standby e
