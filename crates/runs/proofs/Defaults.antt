-- A run that is opened alone with 0.3 named and the other defaults gets the answers, tables and orders that it got when 0.3 was the default of
-- every mode; and so does one that is opened as a lead or a standby with the defaults.
use mathlib.Core.Path.{◌≡◌, ap}
use Rattle.fraction.specs.Fraction.{decimal}
use Rattle.settings.proofs.Defaults.{named_as_before, lead_as_before, standby_as_before}
use Rattle.settings.specs.Defaults.{defaults, defaults_before, with_clean}
use Rattle.settings.specs.declared.Mode.{Mode}
use Rattle.settings.specs.declared.Mode.TheVariants.{Alone, Lead, Standby}
use Rattle.settings.specs.declared.Settings.{Settings}
use Rattle.cache.specs.Tables.{open_words}
use Rattle.runs.specs.Defaults.{AsBefore, run_from}

as_before : (mode : Mode) → (s : Settings) → s ≡ defaults_before → AsBefore mode s
as_before mode s same table rows threshold calls = ap (λ (x : Settings). run_from (open_words table rows mode threshold x) calls) same

pub runs_as_before : AsBefore Alone (with_clean (decimal 3 10) (defaults Alone))
runs_as_before = as_before Alone (with_clean (decimal 3 10) (defaults Alone)) named_as_before

pub lead_runs_as_before : AsBefore Lead (defaults Lead)
lead_runs_as_before = as_before Lead (defaults Lead) lead_as_before

pub standby_runs_as_before : AsBefore Standby (defaults Standby)
standby_runs_as_before = as_before Standby (defaults Standby) standby_as_before
