-- Changes of the maximum over numbers.
use Rattle.std.specs.Prelude.{ℕ, ◌+◌, ◌-◌, List, [], ◌∷◌, ltb, eqb, if◌then◌else◌, Option, None, Some}
use Rattle.fraction.specs.Fraction.{size_product}
use Rattle.settings.specs.Types.{Cap}
use Rattle.settings.specs.declared.Flash.{Flash}
use Rattle.settings.specs.declared.Flash.TheVariants as flash
use Rattle.settings.specs.declared.Settings.{Settings}
use Rattle.rules.specs.Resizing.{free_space}
use Rattle.reason_rules.specs.declared.Cause.{Cause}
use Rattle.reason_rules.specs.declared.Cause.TheVariants as cause
use Rattle.reason_rules.specs.declared.Change.{Change}
use Rattle.reason_rules.specs.Bounds.{fall_bound, settings_bound}

-- The one change of a list that has at most one.
abbrev pub change_of : List Change → Option Change
change_of [] = None
change_of (x ∷ l) = Some x

-- The first of two, if it is one, else the second.
abbrev pub first_of : Option Change → Option Change → Option Change
first_of None y = y
first_of (Some x) y = Some x

-- The flash's own value.
abbrev pub flash_value : Flash → ℕ → ℕ → ℕ → ℕ
flash_value flash.Off x maximum held = maximum
flash_value (flash.On multiple threshold) x maximum held = maximum + (size_product x multiple - free_space maximum held)

-- From the maximum down to n, which a target gave.
abbrev pub fell_to : ℕ → Cause → ℕ → Cap → ℕ → ℕ → Option Change
fell_to n x target k maximum smallest = if ltb n maximum then Some (record { cause = x; bound = fall_bound k target maximum smallest }) else None

-- From the maximum to n, which settings gave.
abbrev pub set_to : ℕ → Settings → ℕ → Option Change
set_to n s maximum = if eqb n maximum then None else Some (record { cause = cause.Settings; bound = settings_bound s maximum })
