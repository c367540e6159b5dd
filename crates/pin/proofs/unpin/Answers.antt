-- The entry is touched with no pin.
use mathlib.Core.Bool.{false}
use Rattle.rules.specs.Entries.{with_pin}
use Rattle.rules.specs.Requests.{effect}
use Rattle.table.proofs.Amended.{asks_touch, told_touch}
use Rattle.pin.proofs.Pinned.{pin_keeps}
use Rattle.pin.proofs.unpin.Goals as goal

pub touch_entry-requires : goal.touch_entry-requires
touch_entry-requires c =
    asks_touch (with_pin false) (pin_keeps false c.entry_of-e.result) c.with_pin.ensures (record { good = c.requires.0.good; size = c.row_count-rows.ensures }) c.requires.1 c.entry_of-e.ensures

pub returns : goal.returns
unfolding effect
returns c =
    told_touch (with_pin false) (pin_keeps false c.entry_of-e.result) c.with_pin.ensures (record { good = c.requires.0.good; size = c.row_count-rows.ensures }) c.requires.1 c.entry_of-e.ensures c.touch_entry.ensures
