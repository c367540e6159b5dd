-- What a release does once the hold is gone.
use Rattle.std.specs.Prelude.{false, List, [], if◌then◌else◌}
use Rattle.rules.specs.declared.entry.Hold.{Hold}
use Rattle.rules.specs.Cache.{Cache, Work, start}
use Rattle.rules.specs.Entries.{is_held}
use Rattle.rules.specs.Room.{make_room}
use Rattle.reason_rules.specs.declared.Reason.{Reason}
use Rattle.reason_rules.specs.Reasons.{room_reasons}

-- Room for nothing, unless the hold that is left holds the entry.
abbrev pub room_unless_held : Hold → Cache → Work
room_unless_held hold c = if is_held hold then start c else make_room 0 false (start c)

-- The reasons of the orders for it.
abbrev pub reasons_unless_held : Hold → Cache → List Reason
reasons_unless_held hold c = if is_held hold then [] else room_reasons 0 false (start c)
