-- What an explained request promises on any words.
use Rattle.std.specs.Prelude.{ℕ, ◌≡◌, true, false, List, length, Err, None}
use Rattle.rules.specs.declared.answer.Refusal.{Refusal}
use Rattle.rules.specs.declared.request.Request.{Request}
use Rattle.rules.specs.Hosts.{asking}
use Rattle.rules.specs.Requests.{step}
use Rattle.reason_rules.specs.declared.Change.{Change}
use Rattle.reason_rules.specs.declared.Reason.{Reason}
use Rattle.reason_rules.specs.Courses.{Course}
use Rattle.reason_rules.specs.Reasons.{too_few_reasons}
use Rattle.reasons.specs.Changes.{change_of}
use Rattle.layout.specs.Picture.{cache_in}
use Rattle.judge.specs.Verdict.{judge_words}
use Rattle.cache.specs.Tables.{left, step_words}
use Rattle.explain.specs.Explanation.{reason_words, explain_words}

module _ (table orders reasons message : List ℕ) (r : Request) where
  -- As ever: with reason words enough, or on words that picture no cache, the answer, the table and the orders are the step's.
  abbrev pub AsEver : Type 0
  AsEver = (judge_words table ≡ true → too_few_reasons (cache_in table) r (length reasons) ≡ false) → (explain_words table orders reasons message r).left ≡ step_words table orders message r

  -- A refusal names no reason and no change, and changes no lent word.
  abbrev pub NamesNothing : Type 0
  NamesNothing = (x : Refusal) → (explain_words table orders reasons message r).left.answer ≡ Err x
      → explain_words table orders reasons message r ≡ (record { left = left (Err x) table orders; reasons = reasons; change = None })

  -- The rule named is the rule: what an accepted request names is its course, which has one answer only.
  pub record NamesCourse : Type 0 where
    pub reasons_named : List Reason
    pub changes_named : List Change
    pub course : Course (cache_in table) (asking r message (length orders)) (step (cache_in table) (asking r message (length orders))) reasons_named changes_named
    pub words : (explain_words table orders reasons message r).reasons ≡ reason_words reasons_named reasons
    pub change : (explain_words table orders reasons message r).change ≡ change_of changes_named
