-- An entry neither held nor pinned stands in the list, so it goes from its three places.
use mathlib.Core.Path.{sym, ◌∙◌}
use Rattle.rules.specs.Requests.{effect}
use Rattle.layout.specs.Picture.{cache_in}
use Rattle.table.proofs.Told.{found_at, found_no, place_key}
use Rattle.discard.proofs.Discarded.{nothing_goes, stands_listed}
use Rattle.discard.proofs.discard.Goals as goal

pub returns-in_default : goal.returns-in_default
unfolding effect
returns-in_default c =
    nothing_goes c.args.address c.requires.0.good (found_no (cache_in c.args.table.now).rows c.args.address (sym c.requires.1 ∙ c.in_default.is))

pub recency_place-pos-requires : goal.recency_place-pos-requires
recency_place-pos-requires c =
    let f = found_at (cache_in c.args.table.now).rows c.args.address _ (sym c.requires.1 ∙ c.in-Some.is) in
    ((record { good = c.requires.0.good; size = c.row_count-rows.ensures }), f.0, stands_listed (cache_in c.args.table.now) c.args.address c.requires.0.accepted c.requires.0.good.steady.sound f.0.here)

pub drop_entry-requires : goal.drop_entry-requires
drop_entry-requires c =
    let f = found_at (cache_in c.args.table.now).rows c.args.address _ (sym c.requires.1 ∙ c.in-Some.is) in
    ((record { good = c.requires.0.good; size = c.row_count-rows.ensures }), record { listed = c.recency_place-pos.ensures; placed = rw f.1 (place_key (record { good = c.requires.0.good; size = c.row_count-rows.ensures }) c.args.address f.0.here); number = f.0.number })

pub returns : goal.returns
unfolding effect
returns c = c.drop_entry.ensures
