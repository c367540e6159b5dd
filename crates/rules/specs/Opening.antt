-- Opening a cache.
use Rattle.std.specs.Prelude.{ℕ, Bool, true, false, not, ◌||◌, List, [], ◌∷◌, eqb, ltb, Option, Some, None}
use Rattle.settings.specs.Validation.{first_bad}
use Rattle.settings.specs.declared.Settings.{Settings}
use Rattle.rules.specs.declared.answer.Refusal.{Refusal}
use Rattle.rules.specs.declared.answer.Refusal.TheVariants as refusal
use Rattle.settings.specs.declared.Mode.{Mode}
use Rattle.rules.specs.Limits.{most_rows, most_threshold}
use Rattle.rules.specs.Refusals.{Test, first_of, bad_field}

abbrev pub is_missing : Option Mode → Bool
is_missing None = true
is_missing (Some m) = false

-- 1 for a row count out of limits or a lent table too short, 5 for a mode or threshold outside document 01 (no mode is
-- one outside it), 12 for the settings, of which the initial size has to be set.
abbrev pub opening_tests : ℕ → Bool → Option Mode → ℕ → Settings → List Test
opening_tests rows long_enough mode threshold s =
    (eqb rows 0 || ltb most_rows rows || not long_enough, refusal.Table)
    ∷ (is_missing mode || eqb threshold 0 || ltb most_threshold threshold, refusal.Mode)
    ∷ (bad_field (first_bad s true), refusal.Setting (first_bad s true)) ∷ []

-- If it is not refused, the cache is `fresh rows mode threshold s`.
unfoldable pub refusal_of_opening : ℕ → Bool → Option Mode → ℕ → Settings → Option Refusal
refusal_of_opening rows long_enough mode threshold s = first_of (opening_tests rows long_enough mode threshold s)
