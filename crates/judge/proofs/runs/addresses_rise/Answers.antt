use Rattle.std.proofs.Common.{ap, arith}
use Rattle.judge.specs.declared.row.RowWords.{RowWords}
use Rattle.judge.proofs.Ascending.{rest_at, kept_on}
use Rattle.judge.proofs.runs.addresses_rise.Goals as goal

pub loop-word-preserved : goal.loop-word-preserved
loop-word-preserved c =
    let e = rest_at c.in-Some.ensures.cases.0 c.loop-word.word-index in
    let w = c.in-Some-get-2.ensures in
    let a = ap (λ (x : RowWords). x.address) w.1 in
    rw (w.1, ← e) (kept_on _ _ _ c.loop-word.invariant (rw e w.0) (rw (e, ← a) c.if-next-last.false) (rw (e, ← a) (omega arith)))
