-- What a request on a table that passes comes to: the rules' answer, the words of the cache that they give, and their orders.
use Rattle.std.specs.Prelude.{Ok, Err}
use Prim.Native.Nat.{ℕ, suc}
use mathlib.Core.Bool.{Bool, true, false, not}
use mathlib.Core.List.{List, [], ◌∷◌, ◌++◌, append-nil, append_assoc}
use mathlib.Core.Path.{◌≡◌, refl, sym, ap, ◌∙◌}
use native.Mathlib.Omega.{arith}
use lib.ListN.{length, length-append}
use borrow.Author.Tests.{not-true, not-false}
use Rattle.rules.proofs.Steps.{stepped}
use Rattle.rules.specs.Answers.{verdict_of}
use Rattle.rules.specs.Hosts.{asking}
use Rattle.rules.specs.Refusals.{refusal_of}
use Rattle.rules.specs.Requests.{Outcome, effect, step}
use Rattle.rules.specs.Types.{Answer, Verdict}
use Rattle.rules.specs.declared.answer.Refusal.TheVariants as refusal
use Rattle.rules.specs.declared.answer.Refusal.{Refusal}
use Rattle.rules.specs.declared.order.Order.{Order}
use Rattle.rules.specs.declared.request.Request.{Request}
use Rattle.layout.proofs.Ordered.{written_none, written_next}
use Rattle.layout.specs.Picture.{cache_in, rest_in, written}
use Rattle.judge.proofs.Verdicts.{sound, good}
use Rattle.judge.specs.Verdict.{judge_words}
use Rattle.verdicts.proofs.Telling.{verdict_some, verdict_none}
use Rattle.refusals.specs.Unrefused.{Unrefused}
use Rattle.room.proofs.Answered.{answered_not, answered_done}
use Rattle.room.specs.Answered.{Answered}
use Rattle.room.specs.Did.{put_orders, Did}
use Rattle.cache.specs.Tables.{Left, left, carried_out, step_words}

-- ---- orders one after the other are the orders written

put_written : (ws : List ℕ) (orders : List Order) → put_orders 0 orders ws ≡ written orders ws
unfolding put_orders
put_written ws orders = ap (put_orders 0 orders) (sym (written_none ws)) ∙ go [] orders
  where
    go : (done l : List Order) → put_orders (length done) l (written done ws) ≡ written (done ++ l) ws
    go done [] = ap (λ (m : List Order). written m ws) (sym (append-nil done))
    go done (o ∷ l) =
        let e : suc (length done) ≡ length (done ++ o ∷ []) = let n = length-append done (o ∷ []) in omega arith in
        ap (put_orders (suc (length done)) l) (written_next done o ws)
        ∙ ap (λ (n : ℕ). put_orders n l (written (done ++ o ∷ []) ws)) e
        ∙ go (done ++ o ∷ []) l
        ∙ ap (λ (m : List Order). written m ws) (append_assoc done (o ∷ []) l)

-- ---- the verdict as it came out

module _ {r v : Bool} (e : r ≡ v) where
  pub passes_told : not r ≡ false → v ≡ true
  passes_told h = sym e ∙ not-false r h

  pub fails_told : not r ≡ true → v ≡ false
  fails_told h = sym e ∙ not-true r h

-- ---- the equation

-- an answer by another name
pub same_left : {a b : Answer} {out words : List ℕ} {l : Left} → a ≡ b → left b out words ≡ l → left a out words ≡ l
same_left {out = out} {words} e p = ap (λ (x : Answer). left x out words) e ∙ p

pub step_damaged : (ws os message : List ℕ) (r : Request) → judge_words ws ≡ false → left (Err refusal.Table) ws os ≡ step_words ws os message r
unfolding step_words
step_damaged ws os message r v = rw v

module _ (ws os message : List ℕ) (r : Request) (v : judge_words ws ≡ true) {out words : List ℕ} {ans : Answer} where
  outcome_left : (o : Outcome) → Answered o (rest_in ws) out os words ans → left ans out words ≡ left o.answer out (written o.orders os)
  outcome_left o a = rw (a.answer, a.orders, put_written os o.orders)

  -- from what the request's own function tells
  pub step_left : Answered (step (cache_in ws) (asking r message (length os))) (rest_in ws) out os words ans → left ans out words ≡ step_words ws os message r
  unfolding step_words
  step_left a =
      rw v
      (stepped (cache_in ws) (asking r message (length os)) (λ (o : Outcome). Answered o (rest_in ws) out os words ans → left ans out words ≡ carried_out o.answer o ws os)
      (λ e b. outcome_left _ b ∙ rw b.holds.words)
      (λ x b. outcome_left _ b ∙ rw (b.holds.words, ← (sound ws v).1, written_none os))
      a)

-- ---- the answer

module _ (ws os message : List ℕ) (r : Request) (v : judge_words ws ≡ true) where
  pub carried : let o = step (cache_in ws) (asking r message (length os)) in step_words ws os message r ≡ carried_out o.answer o ws os
  unfolding step_words
  carried = rw v

  answer_of : (a : Answer) (o : Outcome) → (carried_out a o ws os).answer ≡ a
  answer_of (Ok n) o = refl
  answer_of (Err x) o = refl

  pub same_answer : (step_words ws os message r).answer ≡ (step (cache_in ws) (asking r message (length os))).answer
  same_answer = let o = step (cache_in ws) (asking r message (length os)) in ap (λ x. x.answer) carried ∙ answer_of o.answer o

-- ---- by the tests, and by the work

module _ (ws os message : List ℕ) (r : Request) (v : judge_words ws ≡ true) {v₀ : Verdict} (p : v₀ ≡ verdict_of (refusal_of (cache_in ws) (asking r message (length os)))) where
  pub step_not : (x : Refusal) → v₀ ≡ Err x → left (Err x) ws os ≡ step_words ws os message r
  step_not x e = step_left ws os message r v (answered_not (asking r message (length os)) os x (good ws v) (verdict_some _ x (sym p ∙ e)))

  pub not_refused : v₀ ≡ Ok tt → Unrefused ws (asking r message (length os))
  not_refused e = record { good = good ws v; allowed = (sound ws v).0; accepted = verdict_none _ (sym p ∙ e) }

  pub step_did : v₀ ≡ Ok tt → {out words : List ℕ} {given : ℕ} → Did (effect (cache_in ws) message r) (rest_in ws) out 0 os words given → left (Ok given) out words ≡ step_words ws os message r
  step_did e d = step_left ws os message r v (answered_done (cache_in ws) (asking r message (length os)) (verdict_none _ (sym p ∙ e)) d)
