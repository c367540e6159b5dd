-- The order is put, and the new entry, clean and held, comes into a free row; no list has it.
use Rattle.layout.specs.Picture.{cache_in}
use Rattle.protect.proofs.Loaded.{load_adds, load_did}
use Rattle.protect.proofs.load.Goals as goal

pub add_entry-requires : goal.add_entry-requires
add_entry-requires c =
    (c.requires.0, load_adds c.args.access c.args.address c.args.size c.joined-hold.ensures c.new_entry.ensures c.requires.1 c.requires.2 c.requires.3 c.requires.4)

pub returns : goal.returns
returns c =
    load_did c.args.access c.args.address c.args.size c.joined-hold.ensures c.new_entry.ensures (cache_in c.args.table.now) c.order_put.ensures c.add_entry.ensures
