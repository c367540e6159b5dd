-- Held bytes that a caller may know.
use Rattle.std.specs.Prelude.{ℕ, Option}

abbrev pub Held : Type 0
Held = Option ℕ
