-- An answer with the change of the maximum, as numbers.
use Rattle.std.specs.Prelude.{ℕ, Option, None, Some}
use Rattle.rules.specs.Types.{Answer}
use Rattle.rules.specs.Answers.{answer_number, answer_field, answer_orders}
use Rattle.reason_rules.specs.declared.Change.{Change}
use Rattle.reason_rules.specs.Bounds.{bound_number}
use Rattle.reason_rules.specs.Reasons.{cause_number}
use Rattle.numbers.specs.declared.raw.RawExplanation.{RawExplanation}

-- 0 for no change.
abbrev pub change_cause : Option Change → ℕ
change_cause None = 0
change_cause (Some x) = cause_number x.cause

-- 0 for no change, and for none that cut it.
abbrev pub change_bound : Option Change → ℕ
change_bound None = 0
change_bound (Some x) = bound_number x.bound

abbrev pub explanation_numbers : Answer → Option Change → RawExplanation
explanation_numbers a x = record {
  number = answer_number a;
  field = answer_field a;
  orders = answer_orders a;
  cause = change_cause x;
  bound = change_bound x;
}
