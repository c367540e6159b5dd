-- What the clean share wants of the recency list.
use Rattle.std.specs.Prelude.{ℕ, ◌-◌}
use Rattle.rules.specs.Cache.{Cache, minimum_clean}
use Rattle.rules.specs.Room.{unused_bytes}

-- The clean bytes that the recency list has to have, beside the unused ones.
abbrev pub wanted_bytes : ℕ → Cache → ℕ
wanted_bytes x c = minimum_clean c - unused_bytes x c
