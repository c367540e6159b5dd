-- With evictions off nothing is done. With them on it is noted whether the maximum is exceeded, which leaves the rows, and then both steps
-- are done, as the mode has them.
use Prim.Native.Nat.{◌+◌}
use mathlib.Core.Path.{sym, ap, ◌∙◌}
use native.Mathlib.Omega.{arith}
use lib.ListN.{length}
use borrow.Author.Tests.{not-true, not-false}
use Rattle.rules.specs.Refusals.{is_alone}
use Rattle.settings.specs.declared.Settings.{Settings}
use Rattle.rules.specs.Cache.{Cache}
use Rattle.layout.proofs.Held.{holds_good, holds_cache}
use Rattle.layout.specs.Picture.{cache_in}
use Rattle.room.proofs.Joined.{room_off, room_on, noted_good, noted_fits, noted_held, noted_joins, reasons_off, reasons_on}
use Rattle.room.proofs.Orders.{did_number}
use Rattle.room.specs.First.{evict_in}
use Rattle.room.proofs.room.make_room.Goals as goal

pub returns-then-not-s : goal.returns-then-not-s
returns-then-not-s c =
    let off = sym (ap (λ (s : Settings). s.evictions) c.settings-s.ensures) ∙ not-true _ c.if-not-s.true in
    record { did = room_off c.args.size c.args.row c.requires.0.good off; named = reasons_off c.args.size c.args.row (cache_in c.args.table.now) off c.no_runs.ensures }

pub mode-requires : goal.mode-requires
mode-requires c = holds_good c.begin_room-found.ensures.holds

pub room_in-steps-requires : goal.room_in-steps-requires
room_in-steps-requires c =
    let t = c.args.table.now in
    let n = c.begin_room-found.ensures.holds in (
      noted_good t c.args.size n c.requires.0,
      c.is_alone-alone.ensures ∙ ap is_alone c.mode.ensures,
      c.requires.1,
      noted_fits t c.args.size n c.args.before c.args.orders.now c.requires.2,
      noted_held t c.args.size n c.begin_room-found.ensures.figures.0,
    )

pub made_by-requires : goal.made_by-requires
made_by-requires c = (omega (arith, c.room_in-steps.ensures.first.0), c.room_in-steps.ensures.first.1)

pub returns : goal.returns
returns c =
    let t = c.args.table.now in
    let on = sym (ap (λ (s : Settings). s.evictions) c.settings-s.ensures) ∙ not-false _ c.if-not-s.false in
    let n = c.begin_room-found.ensures.holds in
    let m = c.made_by.ensures in
    let d = room_on c.args.size c.args.row (cache_in t) on (noted_joins t c.args.size n c.args.row c.room_in-steps.ensures.did) in record {
      did = did_number m.0 d;
      named = m.1 ∙ reasons_on c.args.size c.args.row (cache_in t) c.args.before c.room_in-steps.result.first c.room_in-steps.result.given on (c.is_alone-alone.ensures ∙ ap is_alone (c.mode.ensures ∙ ap (λ (d : Cache). d.mode) (holds_cache n))) c.begin_room-found.ensures.figures.1
          (c.room_in-steps.ensures.first.0 ∙ ap (λ (d : Cache). c.args.before + length (evict_in c.is_alone-alone.result c.args.size c.args.row d).orders) (holds_cache n)) d.number;
    }
