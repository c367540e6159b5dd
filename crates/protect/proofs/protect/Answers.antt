-- An address that is found is a hit, and else it is a miss.
use mathlib.Core.Bool.{true}
use mathlib.Core.Path.{sym, ap, ◌∙◌}
use lib.ListN.{length}
use Rattle.rules.specs.Requests.{effect}
use Rattle.rules.specs.Rows.{passes}
use Rattle.layout.specs.Picture.{cache_in}
use Rattle.table.proofs.Told.{found_at, found_no}
use Rattle.refusals.proofs.Unrefused.{protectable}
use Rattle.protect.proofs.Protected.{explains_hit, explains_miss}
use Rattle.protect.proofs.protect.Goals as goal

pub miss-requires : goal.miss-requires
miss-requires c =
    let p = protectable (cache_in c.args.table.now) (length c.args.orders.now) c.args.access c.args.address c.args.size c.requires.0.accepted in
    let n = found_no (cache_in c.args.table.now).rows c.args.address (sym c.requires.1 ∙ c.in-None.is) in
    ((record { good = c.requires.0.good; size = c.row_count-rows.ensures }), c.requires.0.allowed, n, p.words, p.address, p.size, p.row n)

pub hit_row-requires : goal.hit_row-requires
hit_row-requires c =
    let p = protectable (cache_in c.args.table.now) (length c.args.orders.now) c.args.access c.args.address c.args.size c.requires.0.accepted in
    let f = found_at (cache_in c.args.table.now).rows c.args.address _ (sym c.requires.1 ∙ c.in-Some.is) in
    ((record { good = c.requires.0.good; size = c.row_count-rows.ensures }), c.requires.0.allowed, f.0, p.words, p.free)

pub returns-in-None : goal.returns-in-None
unfolding effect
returns-in-None c =
    let d = cache_in c.args.table.now in
    let n = found_no d.rows c.args.address (sym c.requires.1 ∙ c.in-None.is) in
    record { did = rw n c.miss.ensures.did; explains = explains_miss c.args.access c.args.address c.args.size d (ap (passes (λ e. true)) n) c.miss.ensures.named }

pub returns-in-Some : goal.returns-in-Some
unfolding effect
returns-in-Some c =
    let d = cache_in c.args.table.now in
    let f = found_at d.rows c.args.address _ (sym c.requires.1 ∙ c.in-Some.is) in
    record { did = rw f.0.here c.hit_row.ensures.did; explains = explains_hit c.args.access c.args.address c.args.size d f.0.here c.hit_row.ensures.named }
