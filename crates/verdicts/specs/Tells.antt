-- A verdict, test by test.
use Rattle.std.specs.Prelude.{Bool, List, ◌≡◌, if◌then◌else◌, Err}
use Rattle.rules.specs.declared.answer.Refusal.{Refusal}
use Rattle.rules.specs.Refusals.{Test, first_of}
use Rattle.rules.specs.Answers.{verdict_of}
use Rattle.rules.specs.Types.{Verdict}

-- A test before others that have a verdict.
abbrev pub tested_before : Bool → Refusal → Verdict → Verdict
tested_before t r v = if t then Err r else v

-- The verdict is that of the first of the tests that passes.
pub record Tells (v : Verdict) (l : List Test) : Type 0 where
  pub same : v ≡ verdict_of (first_of l)
