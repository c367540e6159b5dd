-- `judge` gives the verdict on the table's words: it answers whether each part fits, and the words fit exactly where the verdict is true.
use Rattle.std.proofs.Common.{ap, arith}
use Rattle.judge.specs.declared.header.Opening.{Opening}
use Rattle.judge.proofs.Says.{says_no, says_by, denies}
use Rattle.judge.proofs.Parts.{from_settings}
use Rattle.judge.proofs.Verdicts.{answered}
use Rattle.judge.proofs.judge.Goals as goal

pub returns-then-table-lt-HEADER : goal.returns-then-table-lt-HEADER
returns-then-table-lt-HEADER c = answered (says_no (λ p. let h = p.whole in omega arith))

pub returns-then-not-opening_allowed : goal.returns-then-not-opening_allowed
returns-then-not-opening_allowed c =
    answered (says_no (λ p. denies (rw c.opening_in-opening.ensures at c.opening_allowed.ensures) c.if-not-opening_allowed.true p.opening))

pub returns-then-table-end : goal.returns-then-table-end
returns-then-table-end c =
    answered (says_no (λ p. let h = p.long in omega (arith, c.layout_words-end.ensures, ap (λ (o : Opening). o.rows) c.opening_in-opening.ensures)))

pub returns-then-not-settings_allowed : goal.returns-then-not-settings_allowed
returns-then-not-settings_allowed c =
    answered (says_no (λ p. denies (from_settings c.args.table.now (rw c.figures_in.ensures at c.settings_allowed.ensures)) c.if-not-settings_allowed.true p.settings))

pub returns : goal.returns
returns c =
    answered (says_by
    (λ q. record {
      whole = omega arith;
      opening = (rw c.opening_in-opening.ensures at c.opening_allowed.ensures).sound c.if-not-opening_allowed.false;
      long = omega (arith, c.layout_words-end.ensures, ap (λ (o : Opening). o.rows) c.opening_in-opening.ensures);
      settings = (from_settings c.args.table.now (rw c.figures_in.ensures at c.settings_allowed.ensures)).sound c.if-not-settings_allowed.false;
      parts = q;
    })
    (λ p. p.parts)
    (rw (c.recency_at-recency.ensures, c.addresses_at-order.ensures, c.layout_words-end.ensures, c.opening_in-opening.ensures) at c.parts_allowed.ensures))
