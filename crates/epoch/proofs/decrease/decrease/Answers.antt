-- By the cases of the rule.
use Rattle.layout.specs.Picture.{cache_in}
use Rattle.rules.specs.Cache.{start}
use Rattle.room.proofs.Orders.{did_number}
use Rattle.epoch.proofs.Laws.{decrease_off, decrease_scaled, decrease_stays, decrease_ages, decrease_ages_above, decrease_ages_not}
use Rattle.epoch.proofs.Named.{off_named, threshold_named, threshold_same, ages_named, above_named, above_same}
use Rattle.epoch.proofs.decrease.decrease.Goals as goal

pub returns-then-upper-rate : goal.returns-then-upper-rate
returns-then-upper-rate c =
    let d = cache_in c.args.table.now in
    record { did = decrease_scaled c.args.rule c.args.rate d c.in-Threshold.is c.if-upper-rate.true c.scale_down.ensures.holds; change = threshold_named c.args.rule c.args.rate (start d) c.in-Threshold.is c.if-upper-rate.true c.scale_down.ensures.change }

pub returns-then-upper-rate-2 : goal.returns-then-upper-rate-2
returns-then-upper-rate-2 c =
    let d = cache_in c.args.table.now in
    record { did = decrease_ages_above c.args.rule c.args.rate d c.in-AgeOutWithThreshold.is c.if-upper-rate-2.true c.age_out-then-upper-rate-2.ensures.did; change = above_named c.args.rule c.args.rate (start d) c.in-AgeOutWithThreshold.is c.if-upper-rate-2.true c.age_out-then-upper-rate-2.ensures.change }

pub returns-in-Off : goal.returns-in-Off
returns-in-Off c =
    let d = cache_in c.args.table.now in
    record { did = did_number c.nothing.ensures.0 (decrease_off c.args.rule c.args.rate d c.in-Off.is c.requires.0.good); change = off_named c.args.rule c.args.rate (start d) c.in-Off.is c.nothing.ensures.1 }

pub returns-else-upper-rate : goal.returns-else-upper-rate
returns-else-upper-rate c =
    let d = cache_in c.args.table.now in
    record { did = did_number c.nothing-in-Threshold.ensures.0 (decrease_stays c.args.rule c.args.rate d c.in-Threshold.is c.if-upper-rate.false c.requires.0.good); change = threshold_same c.args.rule c.args.rate (start d) c.in-Threshold.is c.if-upper-rate.false c.nothing-in-Threshold.ensures.1 }

pub returns-in-AgeOut : goal.returns-in-AgeOut
returns-in-AgeOut c =
    let d = cache_in c.args.table.now in
    record { did = decrease_ages c.args.rule c.args.rate d c.in-AgeOut.is c.age_out.ensures.did; change = ages_named c.args.rule c.args.rate (start d) c.in-AgeOut.is c.age_out.ensures.change }

pub returns-else-upper-rate-2 : goal.returns-else-upper-rate-2
returns-else-upper-rate-2 c =
    let d = cache_in c.args.table.now in
    record { did = did_number c.nothing-in-AgeOutWithThreshold.ensures.0 (decrease_ages_not c.args.rule c.args.rate d c.in-AgeOutWithThreshold.is c.if-upper-rate-2.false c.requires.0.good); change = above_same c.args.rule c.args.rate (start d) c.in-AgeOutWithThreshold.is c.if-upper-rate-2.false c.nothing-in-AgeOutWithThreshold.ensures.1 }
