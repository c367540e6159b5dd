-- What a piece of input leaves.
use Rattle.std.specs.Prelude.{ℕ, ◌≤◌, Option, Some, None}

-- An unfinished line lies within so many bytes; where nothing is left the run is over.
abbrev pub Within : Option ℕ → ℕ → Type 0
Within (Some place) n = place ≤ n
Within None n = Unit {0}
