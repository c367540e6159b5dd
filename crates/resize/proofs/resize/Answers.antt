-- Naming the size keeps the entry's row, and it takes the size there and is listed as before.
use Rattle.rules.specs.Requests.{effect}
use Rattle.reason_rules.specs.Reasons.{changes_of}
use Rattle.layout.specs.Picture.{cache_in}
use Rattle.table.proofs.Told.{told_address}
use Rattle.resize.proofs.Resized.{own_get, own_change, named_asks, named_told}
use Rattle.refusals.proofs.Unrefused.{resizable}
use Rattle.resize.proofs.resize.Goals as goal

pub name_size-change-requires : goal.name_size-change-requires
name_size-change-requires c =
    ((record { good = c.requires.0.good; size = c.row_count-rows.ensures }), own_get (cache_in c.args.table.now).rows c.args.address c.entry_of-e.result c.entry_of-e.ensures, (resizable (cache_in c.args.table.now) c.args.address c.args.size c.requires.0.accepted).0)

pub set_entry-requires : goal.set_entry-requires
set_entry-requires c =
    named_asks (cache_in c.args.table.now) c.entry_of-e.result.address c.args.size c.name_size-change.ensures.holds (resizable (cache_in c.args.table.now) c.args.address c.args.size c.requires.0.accepted).0 c.changed_to.ensures c.row_count-rows.ensures c.requires.1 c.entry_of-e.ensures

pub returns : goal.returns
unfolding effect changes_of
returns c =
    record { holds = named_told (cache_in c.args.table.now) c.entry_of-e.result.address c.args.size c.name_size-change.ensures.holds (resizable (cache_in c.args.table.now) c.args.address c.args.size c.requires.0.accepted).0 c.changed_to.ensures c.row_count-rows.ensures c.requires.1 c.entry_of-e.ensures (told_address (cache_in c.args.table.now).rows c.args.address c.entry_of-e.result c.entry_of-e.ensures) c.set_entry.ensures; change = own_change (cache_in c.args.table.now) c.args.address c.args.size c.entry_of-e.result c.entry_of-e.ensures c.name_size-change.ensures.change }
