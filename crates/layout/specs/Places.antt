-- Where an entry goes: its row, and its place among the rising addresses.
use Rattle.std.specs.Prelude.{ℕ, suc, List, [], ◌∷◌, ltb, if◌then◌else◌, None, Some}
use Rattle.rules.specs.Types.{Row}

-- The lowest free row; the number of rows where none is free.
unfoldable pub lowest_free : List Row → ℕ
lowest_free [] = 0
lowest_free (None ∷ rows) = 0
lowest_free (Some e ∷ rows) = suc (lowest_free rows)

-- How many of a rising list are below a.
unfoldable pub place_of : ℕ → List ℕ → ℕ
place_of a [] = 0
place_of a (b ∷ rest) = if ltb b a then suc (place_of a rest) else 0
