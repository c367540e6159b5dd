-- What is known of the held bytes from one request of a batch to the next.
use Rattle.std.specs.Prelude.{ℕ, ◌&&◌, eqb, leb, if◌then◌else◌, None}
use Rattle.room.specs.Types.{Held}

-- Protects and releases, the kinds 2 to 4, that gave no orders leave them.
abbrev pub kept_for : ℕ → ℕ → Held → Held
kept_for kind orders held = if eqb orders 0 && (leb 2 kind && leb kind 4) then held else None
