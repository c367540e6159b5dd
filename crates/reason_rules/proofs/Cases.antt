-- The worked cases with their reasons hold, and their setups are valid, by computation.
use mathlib.Core.Path.{◌≡◌, refl}
use mathlib.Core.Bool.{true}
use mathlib.Core.List.{map, ◌++◌}
use Rattle.fraction.specs.Examples.{every}
use Rattle.rules.specs.Cases.{after, cache_of, is_valid}
use Rattle.rules.proofs.Cases.{computing}
use Rattle.reason_rules.specs.ReasonCases.{reason_cases, refused_cases, change_cases, told, tell}
use Rattle.reason_rules.specs.Reasons.{room_reasons, epoch_reasons, reasons_of, resize_change, changes_of}

pub worked_reasons : map told reason_cases ≡ map (λ x. x.tells) reason_cases
unfolding computing cache_of after tell room_reasons epoch_reasons reasons_of resize_change changes_of
worked_reasons = refl

pub worked_refused : map told refused_cases ≡ map (λ x. x.tells) refused_cases
unfolding computing cache_of after tell room_reasons epoch_reasons reasons_of resize_change changes_of
worked_refused = refl

pub worked_changes : map told change_cases ≡ map (λ x. x.tells) change_cases
unfolding computing cache_of after tell room_reasons epoch_reasons reasons_of resize_change changes_of
worked_changes = refl

pub valid : every (λ x. is_valid x.setup) (reason_cases ++ (refused_cases ++ change_cases)) ≡ true
unfolding computing every is_valid cache_of after
valid = refl
