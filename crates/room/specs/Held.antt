-- Held bytes that the caller may know.
use Rattle.std.specs.Prelude.{◌≡◌, None, Some}
use Rattle.rules.specs.Cache.{Cache}
use Rattle.rules.specs.Rows.{held_bytes}
use Rattle.room.specs.Types.{Held}

-- If they are known, they are those of the cache.
abbrev pub HeldIs : Held → Cache → Type 0
HeldIs (Some n) c = n ≡ held_bytes c.rows
HeldIs None c = Unit
