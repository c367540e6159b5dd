-- Each request's own function does its work.
use mathlib.Core.List.{[]}
use mathlib.Core.Path.{refl, ap, ◌∙◌}
use Rattle.rules.specs.Refusals.{tests, refusal_of}
use Rattle.rules.specs.Requests.{effect}
use Rattle.reason_rules.specs.Reasons.{reasons_of, changes_of}
use Rattle.room.proofs.Orders.{did_number}
use Rattle.layout.specs.Picture.{cache_in}
use Rattle.refusals.proofs.Here.{release_row, changed_row, pin_row, unpin_row, resize_row}
use Rattle.refusals.specs.Named.{found_for}
use Rattle.cache.proofs.Carried.{named, gave, gave_none, told, told_none}
use borrow.Author.Rules.{rules}
use Rattle.cache.proofs.work.carry_out.Goals as goal

pub insert-requires : goal.insert-requires
unfolding refusal_of tests
insert-requires c = named _ [] c.requires.0 c.in-Insert.is refl

pub protect-requires : goal.protect-requires
unfolding refusal_of tests
protect-requires c = (named _ [] c.requires.0 c.in-Protect.is refl, c.requires.2 ∙ ap (found_for (cache_in c.args.table.now).rows) c.in-Protect.is)

pub release-requires : goal.release-requires
unfolding refusal_of tests
release-requires c =
    let u = named _ [] c.requires.0 c.in-Release.is refl in
    (u, release_row c.row_in-row.ensures u (c.requires.2 ∙ ap (found_for (cache_in c.args.table.now).rows) c.in-Release.is), c.requires.3)

pub release_changed-requires : goal.release_changed-requires
unfolding refusal_of tests
release_changed-requires c =
    let u = named _ [] c.requires.0 c.in-ReleaseChanged.is refl in
    (u, changed_row c.row_in-row.ensures u (c.requires.2 ∙ ap (found_for (cache_in c.args.table.now).rows) c.in-ReleaseChanged.is))

pub pin-requires : goal.pin-requires
unfolding refusal_of tests
pin-requires c =
    let u = named _ [] c.requires.0 c.in-Pin.is refl in
    (u, pin_row c.row_in-row.ensures u (c.requires.2 ∙ ap (found_for (cache_in c.args.table.now).rows) c.in-Pin.is))

pub unpin-requires : goal.unpin-requires
unfolding refusal_of tests
unpin-requires c =
    let u = named _ [] c.requires.0 c.in-Unpin.is refl in
    (u, unpin_row c.row_in-row.ensures u (c.requires.2 ∙ ap (found_for (cache_in c.args.table.now).rows) c.in-Unpin.is))

pub resize-change-requires : goal.resize-change-requires
unfolding refusal_of tests
resize-change-requires c =
    let u = named _ [] c.requires.0 c.in-Resize.is refl in
    (u, resize_row c.row_in-row.ensures u (c.requires.2 ∙ ap (found_for (cache_in c.args.table.now).rows) c.in-Resize.is))

pub discard-requires : goal.discard-requires
unfolding refusal_of tests
discard-requires c = (named _ [] c.requires.0 c.in-Discard.is refl, c.requires.2 ∙ ap (found_for (cache_in c.args.table.now).rows) c.in-Discard.is)

pub flush-requires : goal.flush-requires
unfolding refusal_of tests
flush-requires c = named _ [] c.requires.0 c.in-Flush.is refl

pub sync-requires : goal.sync-requires
unfolding refusal_of tests
sync-requires c = named _ [] c.requires.0 c.in-Sync.is refl

pub configure-requires : goal.configure-requires
unfolding refusal_of tests
configure-requires c = named _ [] c.requires.0 c.in-Configure.is refl

pub returns-in-Insert : goal.returns-in-Insert
unfolding effect
returns-in-Insert c =
    let d = cache_in c.args.table.now in
    record { did = gave d c.args.message.now _ c.in-Insert.is c.insert.ensures.did refl; explains = told d _ c.in-Insert.is c.insert.ensures.explains }

pub returns-in-Protect : goal.returns-in-Protect
unfolding effect
returns-in-Protect c =
    let d = cache_in c.args.table.now in
    record { did = gave d c.args.message.now _ c.in-Protect.is c.protect.ensures.did refl; explains = told d _ c.in-Protect.is c.protect.ensures.explains }

pub returns-in-Release : goal.returns-in-Release
unfolding effect
returns-in-Release c =
    let d = cache_in c.args.table.now in
    record { did = gave d c.args.message.now _ c.in-Release.is c.release.ensures.did refl; explains = told d _ c.in-Release.is c.release.ensures.explains }

pub returns-in-ReleaseChanged : goal.returns-in-ReleaseChanged
unfolding effect
returns-in-ReleaseChanged c =
    let d = cache_in c.args.table.now in
    record { did = gave d c.args.message.now _ c.in-ReleaseChanged.is c.release_changed.ensures.did refl; explains = told d _ c.in-ReleaseChanged.is c.release_changed.ensures.explains }

pub returns-in-Pin : goal.returns-in-Pin
unfolding effect reasons_of changes_of
returns-in-Pin c =
    let d = cache_in c.args.table.now in
    record { did = did_number c.no_orders.ensures.0 (gave_none d c.args.message.now _ c.in-Pin.is c.pin.ensures refl); explains = told_none d _ c.in-Pin.is c.no_orders.ensures.1 refl c.no_orders.ensures.2 }

pub returns-in-Unpin : goal.returns-in-Unpin
unfolding effect reasons_of changes_of
returns-in-Unpin c =
    let d = cache_in c.args.table.now in
    record { did = did_number c.no_orders-in-Unpin.ensures.0 (gave_none d c.args.message.now _ c.in-Unpin.is c.unpin.ensures refl); explains = told_none d _ c.in-Unpin.is c.no_orders-in-Unpin.ensures.1 refl c.no_orders-in-Unpin.ensures.2 }

pub returns-in-Resize : goal.returns-in-Resize
unfolding effect reasons_of changes_of
returns-in-Resize c =
    let d = cache_in c.args.table.now in
    record { did = did_number c.no_orders-in-Resize.ensures.0 (gave_none d c.args.message.now _ c.in-Resize.is c.resize-change.ensures.holds refl); explains = told_none d _ c.in-Resize.is c.no_orders-in-Resize.ensures.1 refl (c.no_orders-in-Resize.ensures.2 ∙ c.resize-change.ensures.change) }

pub returns-in-Discard : goal.returns-in-Discard
unfolding effect reasons_of changes_of
returns-in-Discard c =
    let d = cache_in c.args.table.now in
    record { did = did_number c.no_orders-in-Discard.ensures.0 (gave_none d c.args.message.now _ c.in-Discard.is c.discard.ensures refl); explains = told_none d _ c.in-Discard.is c.no_orders-in-Discard.ensures.1 refl c.no_orders-in-Discard.ensures.2 }

pub returns-in-Flush : goal.returns-in-Flush
unfolding effect
returns-in-Flush c =
    let d = cache_in c.args.table.now in
    record { did = gave d c.args.message.now _ c.in-Flush.is c.flush.ensures.did refl; explains = told d _ c.in-Flush.is c.flush.ensures.explains }

pub returns-in-Sync : goal.returns-in-Sync
unfolding effect
returns-in-Sync c =
    let d = cache_in c.args.table.now in
    record { did = gave d c.args.message.now _ c.in-Sync.is c.sync.ensures.did refl; explains = told d _ c.in-Sync.is c.sync.ensures.explains }

pub returns-in-Take : goal.returns-in-Take
returns-in-Take c = absurd (c.requires.1 c.in-Take.is)

pub returns-in-Configure : goal.returns-in-Configure
unfolding effect
returns-in-Configure c =
    let d = cache_in c.args.table.now in
    record { did = gave d c.args.message.now _ c.in-Configure.is c.configure.ensures.did refl; explains = told d _ c.in-Configure.is c.configure.ensures.explains }
