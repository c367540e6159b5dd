-- What a host is told before a request is what it is answered then.
use Rattle.std.specs.Prelude.{None, Some, Ok, Err}
use Prim.Native.Nat.{ℕ}
use mathlib.Core.List.{List}
use mathlib.Core.Path.{◌≡◌, refl, ap, ◌∙◌}
use lib.ListN.{length}
use Rattle.rules.specs.Answers.{verdict_in}
use Rattle.rules.specs.Types.{Answer}
use Rattle.cache.proofs.AskAnswers.{ask_step}
use Rattle.numbers.specs.Meanings.{asked_of_raw}
use Rattle.numbers.specs.Answers.{answer_numbers, verdict_numbers}
use Rattle.speldervacht.specs.Numbers.{step_asked, left_numbers, step_numbers, ask_asked, ask_numbers}
use Rattle.numbers.specs.declared.raw.RawAnswer.{RawAnswer}
use Rattle.numbers.specs.declared.raw.RawRequest.{RawRequest}
use Rattle.numbers.specs.declared.raw.RawVerdict.{RawVerdict}
use Rattle.numbers.specs.Types.{Asked}

-- the number and the field of an answer
abbrev pub told_by : RawAnswer → RawVerdict
told_by a = record { number = a.number; field = a.field }

same_numbers : (a : Answer) → verdict_numbers (verdict_in a) ≡ told_by (answer_numbers a)
same_numbers (Ok n) = refl
same_numbers (Err r) = refl

module _ (table orders message : List ℕ) where
  asked_step : (q : Asked) → verdict_numbers (ask_asked table (length orders) message q) ≡ told_by (left_numbers (step_asked table orders message q)).answer
  asked_step None = refl
  asked_step (Some r) = ap verdict_numbers (ask_step table orders message r) ∙ same_numbers (step_asked table orders message (Some r)).answer

  pub told_before : (w : RawRequest) → ask_numbers table (length orders) message w ≡ told_by (step_numbers table orders message w).answer
  unfolding ask_numbers step_numbers
  told_before w = asked_step (asked_of_raw w)
