-- The first step of making room, alone and in the other modes.
use Rattle.std.specs.Prelude.{ℕ, Bool, true, false, Option}
use Rattle.rules.specs.Cache.{Cache, Work, start}
use Rattle.rules.specs.Room.{tail_turn, clean_turn, evict_by}

abbrev pub turn_in : Bool → (Work → Option Work)
turn_in true = tail_turn
turn_in false = clean_turn

abbrev pub evict_in : Bool → ℕ → Bool → Cache → Work
evict_in alone x row c = evict_by (turn_in alone) x row (start c)
