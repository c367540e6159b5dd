-- The change that a list names, where a test decides whether it has one.
use Rattle.std.specs.Prelude.{if◌then◌else◌, Option, None, Some}
use mathlib.Core.Bool.{Bool, true, false}
use mathlib.Core.List.{List, [], ◌++◌}
use mathlib.Core.Path.{◌≡◌, refl}
use Rattle.reason_rules.specs.declared.Bound.{Bound}
use Rattle.reason_rules.specs.declared.Cause.{Cause}
use Rattle.reason_rules.specs.declared.Change.{Change}
use Rattle.reason_rules.specs.Reasons.{changed}
use Rattle.reasons.specs.Changes.{change_of, first_of}

module _ (x : Cause) (b : Option Bound) where
  pub change_if : (t : Bool) → (if t then Some (record { cause = x; bound = b }) else None) ≡ change_of (if t then changed x b else [])
  change_if true = refl
  change_if false = refl

  pub change_unless : (t : Bool) → (if t then None else Some (record { cause = x; bound = b })) ≡ change_of (if t then [] else changed x b)
  change_unless true = refl
  change_unless false = refl

  -- a list that has it goes before another
  pub first_change : (t : Bool) (l : List Change) → first_of (change_of (if t then changed x b else [])) (change_of l) ≡ change_of ((if t then changed x b else []) ++ l)
  first_change true l = refl
  first_change false l = refl
