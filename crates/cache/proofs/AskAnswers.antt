-- What asking tells: by the tests on a table that passes, and else 1. It is what step would answer.
use Prim.Native.Nat.{ℕ}
use mathlib.Core.Bool.{true, false}
use mathlib.Core.List.{List}
use Rattle.std.specs.Prelude.{Option, None, Some, Err}
use mathlib.Core.Path.{◌≡◌, refl, sym, ap, ◌∙◌}
use lib.ListN.{length}
use Rattle.rules.proofs.Tests.{split}
use Rattle.rules.specs.Answers.{verdict_of, verdict_in}
use Rattle.rules.specs.Cache.{Cache, Work}
use Rattle.rules.specs.Hosts.{asking}
use Rattle.rules.specs.Refusals.{refusal_of}
use Rattle.rules.specs.Requests.{effect, judged, step}
use Rattle.rules.specs.declared.answer.Refusal.{Refusal}
use Rattle.rules.specs.declared.answer.Refusal.TheVariants as refusal
use Rattle.rules.specs.Types.{Verdict}
use Rattle.rules.specs.declared.request.Request.{Request}
use Rattle.layout.specs.Picture.{cache_in}
use Rattle.judge.specs.Verdict.{judge_words}
use Rattle.cache.specs.Asked.{ask_words}
use Rattle.cache.specs.Tables.{step_words}
use Rattle.cache.proofs.StepAnswers.{same_answer}

module _ (ws message : List ℕ) (lent : ℕ) (r : Request) where
  pub ask_damaged : judge_words ws ≡ false → Err refusal.Table ≡ ask_words ws lent message r
  unfolding ask_words
  ask_damaged v = rw v

  pub ask_told : {v₀ : Verdict} → judge_words ws ≡ true → v₀ ≡ verdict_of (refusal_of (cache_in ws) (asking r message lent)) → v₀ ≡ ask_words ws lent message r
  unfolding ask_words
  ask_told v p = rw v p

-- ---- what step would answer

judged_verdict : (o : Option Refusal) (c : Cache) (w : Work) → verdict_of o ≡ verdict_in (judged o c w).answer
judged_verdict None c w = refl
judged_verdict (Some r) c w = refl

module _ (ws os message : List ℕ) (r : Request) where
  passed : judge_words ws ≡ true → ask_words ws (length os) message r ≡ verdict_in (step_words ws os message r).answer
  unfolding ask_words step
  passed v =
      let call = asking r message (length os) in
      rw v (judged_verdict (refusal_of (cache_in ws) call) (cache_in ws) (effect (cache_in ws) message r)) ∙ ap verdict_in (sym (same_answer ws os message r v))

  damaged : judge_words ws ≡ false → ask_words ws (length os) message r ≡ verdict_in (step_words ws os message r).answer
  unfolding ask_words step_words
  damaged v = rw v

  pub ask_step : ask_words ws (length os) message r ≡ verdict_in (step_words ws os message r).answer
  ask_step = split (judge_words ws) passed damaged
