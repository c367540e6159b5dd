-- An entry that may be pinned is held, so that it stays unlisted.
use mathlib.Core.Bool.{true}
use Rattle.rules.specs.Entries.{with_pin}
use Rattle.rules.specs.Requests.{effect}
use Rattle.layout.specs.Picture.{cache_in}
use Rattle.table.proofs.Amended.{asks_set, told_set}
use Rattle.pin.proofs.Pinned.{pin_keeps, held_listed}
use Rattle.refusals.proofs.Unrefused.{pinnable}
use Rattle.pin.proofs.pin.Goals as goal

pub set_entry-requires : goal.set_entry-requires
set_entry-requires c =
    asks_set (with_pin true) (pin_keeps true c.entry_of-e.result) c.with_pin.ensures (record { good = c.requires.0.good; size = c.row_count-rows.ensures }) c.requires.1 c.entry_of-e.ensures
    (held_listed c.entry_of-e.result ((pinnable (cache_in c.args.table.now) c.args.address c.requires.0.accepted).held c.entry_of-e.result c.entry_of-e.ensures))

pub returns : goal.returns
unfolding effect
returns c =
    told_set (with_pin true) (pin_keeps true c.entry_of-e.result) c.with_pin.ensures (record { good = c.requires.0.good; size = c.row_count-rows.ensures }) c.requires.1 c.entry_of-e.ensures c.set_entry.ensures
