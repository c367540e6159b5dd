-- The counters are those of the rule, and at the epoch length the end of the epoch is the rule's.
use Prim.Native.Nat.{ℕ, ◌+◌}
use mathlib.Core.Bool.{false}
use mathlib.Core.Path.{sym, ap, ap₂, ◌∙◌}
use native.Mathlib.Omega.{arith}
use Rattle.settings.proofs.Passed.{passed}
use Rattle.settings.specs.declared.Settings.{Settings}
use Rattle.layout.specs.Picture.{cache_in}
use Rattle.epoch.proofs.Laws.{counts_is, one_if, one_most, count_off, count_good, count_fits, count_early, count_due}
use Rattle.room.proofs.Orders.{did_number}
use Rattle.epoch.proofs.Named.{uncounted, counted_early, counted_due}
use Rattle.epoch.proofs.count.count_access.Goals as goal

pub returns-then-not-increases-decreases : goal.returns-then-not-increases-decreases
returns-then-not-increases-decreases c =
    let off = sym (counts_is (cache_in c.args.table.now) c.settings-s.result c.increases.result c.decreases.result c.settings-s.ensures c.increases.ensures c.decreases.ensures) ∙ c.if-not-increases-decreases.true in
    let n = c.no_end.ensures in
    record { did = did_number n.0 (count_off c.args.hit c.requires.0.good off); named = uncounted c.args.hit (cache_in c.args.table.now) off n.1 n.2 }

pub overflow_add-n : goal.overflow_add-n
overflow_add-n c =
    omega (arith, c.accesses-n.ensures, c.requires.1, (passed (cache_in c.args.table.now).settings false c.requires.0.good.steady.settings).epoch.1)

pub overflow_add-h : goal.overflow_add-h
overflow_add-h c =
    omega (arith, c.hits.ensures, c.requires.1, c.requires.2, one_most c.args.hit c.from.result (c.from.ensures ∙ one_if c.args.hit), (passed (cache_in c.args.table.now).settings false c.requires.0.good.steady.settings).epoch.1)

pub returns-then-n-s : goal.returns-then-n-s
returns-then-n-s c =
    let n = c.no_end-then-n-s.ensures in
    record { did = did_number n.0 (count_early c.args.hit (cache_in c.args.table.now) (c.accesses-n.result + 1) (c.hits.result + c.from.result) (ap (λ (x : ℕ). x + 1) c.accesses-n.ensures) (ap₂ (λ (x y : ℕ). x + y) c.hits.ensures (c.from.ensures ∙ one_if c.args.hit)) c.set_counters.ensures (sym (counts_is (cache_in c.args.table.now) c.settings-s.result c.increases.result c.decreases.result c.settings-s.ensures c.increases.ensures c.decreases.ensures) ∙ c.if-not-increases-decreases.false) (omega (arith, ap (λ (x : Settings). x.epoch) c.settings-s.ensures, c.if-n-s.true))); named = counted_early c.args.hit (cache_in c.args.table.now) (c.accesses-n.result + 1) (c.hits.result + c.from.result) (ap (λ (x : ℕ). x + 1) c.accesses-n.ensures) (ap₂ (λ (x y : ℕ). x + y) c.hits.ensures (c.from.ensures ∙ one_if c.args.hit)) c.set_counters.ensures (omega (arith, ap (λ (x : Settings). x.epoch) c.settings-s.ensures, c.if-n-s.true)) n.1 n.2 }

pub end_epoch-requires : goal.end_epoch-requires
end_epoch-requires c =
    (count_good c.args.hit (cache_in c.args.table.now) (c.accesses-n.result + 1) (c.hits.result + c.from.result) (ap (λ (x : ℕ). x + 1) c.accesses-n.ensures) (ap₂ (λ (x y : ℕ). x + y) c.hits.ensures (c.from.ensures ∙ one_if c.args.hit)) c.set_counters.ensures c.requires.0.size, count_fits c.args.hit (cache_in c.args.table.now) (c.accesses-n.result + 1) (c.hits.result + c.from.result) (ap (λ (x : ℕ). x + 1) c.accesses-n.ensures) (ap₂ (λ (x y : ℕ). x + y) c.hits.ensures (c.from.ensures ∙ one_if c.args.hit)) c.set_counters.ensures c.args.before c.args.orders.now c.requires.3)

pub returns : goal.returns
returns c =
    let on = sym (counts_is (cache_in c.args.table.now) c.settings-s.result c.increases.result c.decreases.result c.settings-s.ensures c.increases.ensures c.decreases.ensures) ∙ c.if-not-increases-decreases.false in
    record { did = count_due c.args.hit (cache_in c.args.table.now) (c.accesses-n.result + 1) (c.hits.result + c.from.result) (ap (λ (x : ℕ). x + 1) c.accesses-n.ensures) (ap₂ (λ (x y : ℕ). x + y) c.hits.ensures (c.from.ensures ∙ one_if c.args.hit)) c.set_counters.ensures on (omega (arith, ap (λ (x : Settings). x.epoch) c.settings-s.ensures, c.if-n-s.false)) c.end_epoch.ensures.did; named = counted_due c.args.hit (cache_in c.args.table.now) (c.accesses-n.result + 1) (c.hits.result + c.from.result) (ap (λ (x : ℕ). x + 1) c.accesses-n.ensures) (ap₂ (λ (x y : ℕ). x + y) c.hits.ensures (c.from.ensures ∙ one_if c.args.hit)) c.set_counters.ensures on (omega (arith, ap (λ (x : Settings). x.epoch) c.settings-s.ensures, c.if-n-s.false)) c.end_epoch.ensures.named.0 c.end_epoch.ensures.named.1 }
