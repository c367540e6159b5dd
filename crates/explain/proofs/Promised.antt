-- The promises of an explained request hold on any words: by whether the words picture a cache, and by the refusal.
use Prim.Native.Nat.{ℕ}
use mathlib.Core.Bool.{Bool, true, false, true≢false}
use mathlib.Core.List.{List}
use Rattle.std.specs.Prelude.{Option, None, Some, Ok, Err}
use mathlib.Core.Path.{◌≡◌, refl, sym, ap, ◌∙◌}
use lib.ListN.{length}
use Rattle.rules.proofs.Tests.{split}
use Rattle.rules.specs.Types.{Answer}
use Rattle.rules.specs.declared.answer.Refusal.{Refusal}
use Rattle.rules.specs.declared.answer.Refusal.TheVariants as refusal
use Rattle.rules.specs.declared.request.Request.{Request}
use Rattle.rules.specs.Hosts.{asking}
use Rattle.rules.specs.Refusals.{Call}
use Rattle.rules.specs.Requests.{Outcome, judged, effect}
use Rattle.reason_rules.proofs.Courses.{as_ever, course, explained_accepted}
use Rattle.reason_rules.specs.Reasons.{refusal_of_explain, granted, reasons_of, changes_of, explain}
use Rattle.reasons.specs.Changes.{change_of}
use Rattle.layout.specs.Picture.{cache_in}
use Rattle.judge.proofs.Verdicts.{sound}
use Rattle.judge.specs.Verdict.{judge_words}
use Rattle.cache.proofs.StepAnswers.{step_damaged, carried}
use Rattle.cache.specs.Tables.{left, carried_out}
use Rattle.explain.proofs.Answers.{made}
use Rattle.explain.proofs.Put.{put_none}
use Rattle.explain.specs.Explanation.{Explanation, reason_words, explain_words}
use Rattle.explain.specs.Promises.{AsEver, NamesNothing, NamesCourse}

abbrev is_accepted : Answer → Bool
is_accepted (Ok n) = true
is_accepted (Err x) = false

module _ (ws os rs message : List ℕ) (r : Request) where
  abbrev call : Call
  call = asking r message (length os)

  abbrev words : Explanation
  words = explain_words ws os rs message r

  damaged : judge_words ws ≡ false → words ≡ made (left (Err refusal.Table) ws os) rs None
  unfolding explain_words
  damaged v = rw v

  -- by the refusal, on words that picture a cache
  by_refusal : judge_words ws ≡ true → (o : Option Refusal) → refusal_of_explain (cache_in ws) call (length rs) ≡ o
      → words
      ≡ (let x = judged o (cache_in ws) (effect (cache_in ws) message r) in
      made (carried_out x.answer x ws os) (reason_words (granted o (reasons_of (cache_in ws) r)) rs) (change_of (granted o (changes_of (cache_in ws) r))))
  unfolding explain_words
  by_refusal v o e = rw (v, e)

  pub as_ever_words : AsEver ws os rs message r
  unfolding explain_words
  as_ever_words h =
      split (judge_words ws)
      (λ v. ap (λ (x : Explanation). x.left) (by_rules v) ∙ ap (λ (o : Outcome). carried_out o.answer o ws os) (as_ever (cache_in ws) call (length rs) (h v)) ∙ sym (carried ws os message r v))
      (λ v. ap (λ (x : Explanation). x.left) (damaged v) ∙ step_damaged ws os message r v)
    where
      by_rules : judge_words ws ≡ true
          → words ≡ (let x = explain (cache_in ws) call (length rs) in made (carried_out x.outcome.answer x.outcome ws os) (reason_words x.reasons rs) (change_of x.changes))
      by_rules v = rw v

  refused_words : {x y : Refusal} → words ≡ made (left (Err y) ws os) rs None → words.left.answer ≡ Err x
      → words ≡ made (left (Err x) ws os) rs None
  refused_words p e = p ∙ ap (λ (a : Answer). made (left a ws os) rs None) (sym (ap (λ (x : Explanation). x.left.answer) p) ∙ e)

  pub names_nothing : NamesNothing ws os rs message r
  names_nothing x e =
      split (judge_words ws) (λ v. go v (refusal_of_explain (cache_in ws) call (length rs)) refl) (λ v. refused_words (damaged v) e)
    where
      go : judge_words ws ≡ true → (o : Option Refusal) → refusal_of_explain (cache_in ws) call (length rs) ≡ o → words ≡ made (left (Err x) ws os) rs None
      go v None f = absurd (true≢false (sym (ap (λ (y : Explanation). is_accepted y.left.answer) (by_refusal v None f)) ∙ ap is_accepted e))
      go v (Some y) f = refused_words (by_refusal v (Some y) f ∙ ap (λ (l : List ℕ). made (left (Err y) ws os) l None) (put_none rs)) e

  pub names_course : (n : ℕ) → words.left.answer ≡ Ok n → NamesCourse ws os rs message r
  names_course n e =
      split (judge_words ws) (λ v. go v (refusal_of_explain (cache_in ws) call (length rs)) refl)
      (λ v. absurd (true≢false (sym (ap is_accepted e) ∙ ap (λ (y : Explanation). is_accepted y.left.answer) (damaged v))))
    where
      go : judge_words ws ≡ true → (o : Option Refusal) → refusal_of_explain (cache_in ws) call (length rs) ≡ o → NamesCourse ws os rs message r
      go v None f = record {
        reasons_named = reasons_of (cache_in ws) r;
        changes_named = changes_of (cache_in ws) r;
        course = course (cache_in ws) call (sound ws v).0 (explained_accepted (cache_in ws) call (length rs) f);
        words = ap (λ (x : Explanation). x.reasons) (by_refusal v None f);
        change = ap (λ (x : Explanation). x.change) (by_refusal v None f);
      }
      go v (Some y) f = absurd (true≢false (sym (ap is_accepted e) ∙ ap (λ (x : Explanation). is_accepted x.left.answer) (by_refusal v (Some y) f)))
