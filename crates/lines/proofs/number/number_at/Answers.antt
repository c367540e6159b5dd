use Rattle.std.proofs.Common.{◌≡◌, ◌+◌, ◌-◌, ◌*◌, get_or, sym, ◌∙◌, arith}
use Rattle.lines.proofs.Laws.{started, ended, stopped, passed, went_on}
use Rattle.lines.proofs.number.number_at.Goals as goal

pub loop-i-init : goal.loop-i-init
loop-i-init c = started c.args.s.now c.args.at c.requires

pub returns-then-not-is_digit : goal.returns-then-not-is_digit
returns-then-not-is_digit c = c.number_of.ensures ∙ stopped c.loop-i.invariant c.loop-i-test.true (sym c.is_digit.ensures ∙ c.if-not-is_digit.true)

pub returns-in_err-checked_mul : goal.returns-in_err-checked_mul
returns-in_err-checked_mul c =
    c.from_residual.ensures
    ∙ passed c.loop-i.invariant c.loop-i-test.true (sym c.is_digit.ensures ∙ c.if-not-is_digit.false) (omega (arith, c.in_err-checked_mul.ensures))

pub returns-in_err-value : goal.returns-in_err-value
returns-in_err-value c =
    c.from_residual-in_err-value.ensures
    ∙ passed c.loop-i.invariant c.loop-i-test.true (sym c.is_digit.ensures ∙ c.if-not-is_digit.false) (omega (arith, c.in_ok-checked_mul.ensures, c.in_err-value.ensures, c.from-digit.ensures))

pub loop-i-preserved : goal.loop-i-preserved
loop-i-preserved c =
    let next : c.in_ok-value.value ≡ c.loop-i.value * 10 + (get_or c.args.s.now c.loop-i.i 0 - 48) = omega (arith, c.in_ok-checked_mul.ensures, c.in_ok-value.ensures, c.from-digit.ensures) in
    rw next (went_on c.loop-i.invariant c.loop-i-test.true (sym c.is_digit.ensures ∙ c.if-not-is_digit.false) (omega (arith, c.in_ok-checked_mul.ensures, c.in_ok-value.ensures, c.from-digit.ensures)))

pub returns : goal.returns
returns c = c.number_of-2.ensures ∙ ended c.loop-i.invariant (omega arith)
