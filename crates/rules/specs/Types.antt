-- What a row has, and what a request answers.
use Rattle.std.specs.Prelude.{ℕ, Option, Result}
use Rattle.rules.specs.declared.answer.Refusal.{Refusal}
use Rattle.rules.specs.declared.entry.Entry.{Entry}

-- A row: free, or with an entry.
abbrev pub Row : Type 0
Row = Option Entry

-- What a request answers: how many orders it gave, or why it is refused.
abbrev pub Answer : Type 0
Answer = Result ℕ Refusal

-- What a request would be answered: accepted, or why not.
abbrev pub Verdict : Type 0
Verdict = Result (Unit {0}) Refusal
