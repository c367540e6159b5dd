-- Asking: what a request would answer.
use Rattle.std.specs.Prelude.{ℕ, false, true, List, if◌then◌else◌, Err}
use Rattle.rules.specs.declared.answer.Refusal.TheVariants as refusal
use Rattle.rules.specs.Types.{Verdict}
use Rattle.rules.specs.declared.request.Request.{Request}
use Rattle.rules.specs.Answers.{verdict_of}
use Rattle.rules.specs.Hosts.{asking}
use Rattle.rules.specs.Refusals.{refusal_of}
use Rattle.layout.specs.Picture.{cache_in}
use Rattle.judge.specs.Verdict.{judge_words}

-- What a request would answer: by the rules' tests, on the cache that the words picture; 1 if they picture none.
unfoldable pub ask_words : List ℕ → ℕ → List ℕ → Request → Verdict
ask_words table lent message r =
    if judge_words table then verdict_of (refusal_of (cache_in table) (asking r message lent)) else Err refusal.Table
