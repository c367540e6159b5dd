-- An explained request on the words of a table: what it answers, names and leaves, on any input.
use Rattle.std.specs.Prelude.{ℕ, List, ◌++◌, map, length, drop, if◌then◌else◌, Err, Option, None}
use Rattle.rules.specs.declared.answer.Refusal.TheVariants as refusal
use Rattle.rules.specs.declared.request.Request.{Request}
use Rattle.rules.specs.Hosts.{asking}
use Rattle.reason_rules.specs.declared.Change.{Change}
use Rattle.reason_rules.specs.declared.Reason.{Reason}
use Rattle.reason_rules.specs.Reasons.{reason_number, explain}
use Rattle.reasons.specs.Changes.{change_of}
use Rattle.layout.specs.Picture.{cache_in}
use Rattle.judge.specs.Verdict.{judge_words}
use Rattle.cache.specs.Tables.{Left, left, carried_out}
use Rattle.explain.specs.declared.explaining.Explained.{Explained}

-- What a step leaves, the words of the reason slice after it, and the change of the maximum.
pub record Explanation : Type 0 where
  pub left : Left
  pub reasons : List ℕ
  pub change : Option Change

abbrev pub explained : Explained → List ℕ → List ℕ → List ℕ → Explanation
explained r table orders reasons = record { left = left r.answer table orders; reasons = reasons; change = r.change }

-- Reasons in the words lent for them, one word each, written as orders are: the words past the last stay.
unfoldable pub reason_words : List Reason → List ℕ → List ℕ
reason_words l ws = map reason_number l ++ drop (length l) ws

-- By the rules, on the cache that the words picture; 1 if they picture none.
unfoldable pub explain_words : List ℕ → List ℕ → List ℕ → List ℕ → Request → Explanation
explain_words table orders reasons message r =
    if judge_words table
    then (let x = explain (cache_in table) (asking r message (length orders)) (length reasons) in
    record {
      left = carried_out x.outcome.answer x.outcome table orders;
      reasons = reason_words x.reasons reasons;
      change = change_of x.changes;
    })
    else record { left = left (Err refusal.Table) table orders; reasons = reasons; change = None }
