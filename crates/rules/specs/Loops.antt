-- Document 01's loops: while a test holds, a turn, until there is nothing to turn to.
use Rattle.std.specs.Prelude.{◌≡◌, Bool, true, false, Option, None, Some, option_map}
use Rattle.settings.specs.declared.Mode.{Mode}
use Rattle.settings.specs.declared.Mode.TheVariants.{Alone, Lead, Standby}
use Rattle.rules.specs.Addresses.{nearest}
use Rattle.rules.specs.Cache.{Work, recency_list}
use Rattle.rules.specs.Room.{tail_turn, clean_turn, write_in_place}
use Rattle.rules.specs.Rows.{dirty_at}

-- `While test turn w v`: from w, while the test holds and there is a turn, the turn is made; v is left.
pub data While (test : Work → Bool) (turn : Work → Option Work) : Work → Work → Type 0 where
  met : {w : Work} → test w ≡ false → While test turn w w
  none_left : {w : Work} → test w ≡ true → turn w ≡ None → While test turn w w
  again : {w u v : Work} → test w ≡ true → turn w ≡ Some u → While test turn u v → While test turn w v

-- `Reached test turn w v`: such a loop from w comes by v, at its start or after some turns.
pub data Reached (test : Work → Bool) (turn : Work → Option Work) : Work → Work → Type 0 where
  here : {w : Work} → Reached test turn w w
  later : {w u v : Work} → test w ≡ true → turn w ≡ Some u → Reached test turn u v → Reached test turn w v

-- A turn of step 1 of making room, by mode.
abbrev pub turn_in : Mode → Work → Option Work
turn_in Alone w = tail_turn w
turn_in Lead w = clean_turn w
turn_in Standby w = clean_turn w

-- Step 2, and sync: the dirty entry nearest the tail is written and keeps its place.
abbrev pub dirty_turn : Work → Option Work
dirty_turn w = option_map (λ a. write_in_place a w) (nearest (dirty_at w.cache.rows) (recency_list w.cache))
