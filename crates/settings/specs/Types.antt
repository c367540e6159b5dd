-- A cap.
use Rattle.std.specs.Prelude.{ℕ, Option}

-- The cap on one change of the maximum, in bytes, if there is one.
abbrev pub Cap : Type 0
Cap = Option ℕ
