-- What an explained request comes to: what the step comes to, with the rules' reasons and change, or a refusal that names none.
use Rattle.std.specs.Prelude.{if◌then◌else◌, Option, None, Some, Err}
use Prim.Native.Nat.{ℕ, ◌+◌, ◌*◌, ◌≤◌}
use mathlib.Core.Bool.{Bool, true, false, ◌&&◌, true≢false}
use mathlib.Core.List.{List, []}
use mathlib.Core.Path.{◌≡◌, refl, sym, ap, ap₂, ◌∙◌}
use native.Mathlib.Omega.{arith}
use lib.Dec.{ltb}
use lib.ListN.{length}
use borrow.Author.Tests.{ltb-false}
use Rattle.rules.specs.Types.{Answer}
use Rattle.rules.specs.declared.answer.Refusal.{Refusal}
use Rattle.rules.specs.declared.answer.Refusal.TheVariants as refusal
use Rattle.rules.specs.declared.request.Request.{Request}
use Rattle.rules.specs.declared.request.Request.TheVariants.{Insert, Protect, Release, ReleaseChanged, Pin, Unpin, Resize, Discard, Flush, Sync, Take, Configure}
use Rattle.rules.proofs.Tests.{split}
use Rattle.rules.specs.Cache.{Cache}
use Rattle.rules.specs.Given.{can_order}
use Rattle.rules.specs.Hosts.{asking}
use Rattle.rules.specs.Refusals.{Call, refusal_of}
use Rattle.rules.specs.Requests.{Outcome, effect, step, judged}
use Rattle.reason_rules.proofs.Choices.{if_true, if_false}
use Rattle.reason_rules.proofs.Courses.{as_ever, reasons_fit}
use Rattle.reason_rules.specs.declared.Change.{Change}
use Rattle.reason_rules.specs.declared.Reason.{Reason}
use Rattle.reason_rules.specs.Reasons.{too_few_reasons, refusal_of_explain, granted, reasons_of, changes_of, explain}
use Rattle.reasons.specs.Changes.{change_of}
use Rattle.layout.specs.Picture.{cache_in, rest_in}
use Rattle.judge.proofs.Verdicts.{sound}
use Rattle.judge.specs.Verdict.{judge_words}
use Rattle.cache.proofs.StepAnswers.{carried}
use Rattle.cache.specs.Tables.{Left, left, carried_out, step_words}
use Rattle.explain.proofs.Put.{put_none}
use Rattle.explain.specs.Explanation.{Explanation, reason_words, explain_words}

abbrev pub made : Left → List ℕ → Option Change → Explanation
made l reasons x = record { left = l; reasons = reasons; change = x }

-- equal in each part
same_parts : {l m : Left} {is js : List ℕ} {x y : Option Change} → l ≡ m → is ≡ js → x ≡ y → made l is x ≡ made m js y
same_parts p q r = λ i. record { left = p i; reasons = q i; change = r i }

-- a request that can't give orders has no reasons
unordered : (c : Cache) (r : Request) → can_order r ≡ false → reasons_of c r ≡ []
unfolding reasons_of
unordered c (Insert a s) h = absurd (true≢false h)
unordered c (Protect x a s) h = absurd (true≢false h)
unordered c (Release a) h = absurd (true≢false h)
unordered c (ReleaseChanged a s) h = absurd (true≢false h)
unordered c (Pin a) h = refl
unordered c (Unpin a) h = refl
unordered c (Resize a s) h = refl
unordered c (Discard a) h = refl
unordered c Flush h = absurd (true≢false h)
unordered c Sync h = absurd (true≢false h)
unordered c Take h = refl
unordered c (Configure s) h = absurd (true≢false h)

none_granted : (o : Option Refusal) {l : List Reason} → l ≡ [] → granted o l ≡ []
none_granted None e = e
none_granted (Some x) e = refl

-- the test of the reason words, by the number of rows that was read
pub few_is : (ws rs : List ℕ) (r : Request) {rows : ℕ} {t : Bool} → rows ≡ length (cache_in ws).rows → (can_order r && ltb (length rs) (2 * rows + 1)) ≡ t
    → too_few_reasons (cache_in ws) r (length rs) ≡ t
few_is ws rs r e h = ap (λ (n : ℕ). can_order r && ltb (length rs) (2 * n + 1)) (sym e) ∙ h

module _ (ws os rs message : List ℕ) (r : Request) where
  pub explain_damaged : {a : Answer} {x : Option Change} → judge_words ws ≡ false → a ≡ Err refusal.Table → x ≡ None
      → made (left a ws os) rs x ≡ explain_words ws os rs message r
  unfolding explain_words
  explain_damaged v p q = rw (v, p, q)

  module _ (v : judge_words ws ≡ true) where
    abbrev call : Call
    call = asking r message (length os)

    abbrev few : Bool
    few = too_few_reasons (cache_in ws) r (length rs)

    -- too few reason words
    pub explain_few : few ≡ true → {a : Answer} {x : Option Change} → a ≡ Err refusal.OrderWords → x ≡ None
        → made (left a ws os) rs x ≡ explain_words ws os rs message r
    unfolding explain_words
    explain_few h p q = rw (v, h, p, q, put_none rs)

    -- enough of them, and the step was done
    module _ (h : few ≡ false) where
      refusal_same : refusal_of_explain (cache_in ws) call (length rs) ≡ refusal_of (cache_in ws) call
      refusal_same = if_false few (Some refusal.OrderWords) _ h

      -- a request that gives no orders has no reasons, and one that can has words enough for them
      pub reasons_enough : {l : List Reason} → l ≡ granted (refusal_of (cache_in ws) call) (reasons_of (cache_in ws) r) → length l ≤ length rs
      reasons_enough {l} p =
          let e : l ≡ (explain (cache_in ws) call (length rs)).reasons = p ∙ ap (λ (o : Option Refusal). granted o (reasons_of (cache_in ws) r)) (sym refusal_same) in
          let i : length l ≡ length (explain (cache_in ws) call (length rs)).reasons = ap (λ (m : List Reason). length m) e in
          let j = reasons_fit (cache_in ws) call (length rs) (sound ws v).0 in
          split (can_order r)
          (λ o. let k = ltb-false (length rs) (2 * length (cache_in ws).rows + 1) (sym (ap (λ (b : Bool). b && ltb (length rs) (2 * length (cache_in ws).rows + 1)) o) ∙ h) in omega arith)
          (λ o. let k = ap (λ (m : List Reason). length m) (p ∙ none_granted (refusal_of (cache_in ws) call) (unordered (cache_in ws) r o)) in omega arith)

      pub explain_done : {a : Answer} {out words reasons : List ℕ} {l : List Reason} {x : Option Change} → left a out words ≡ step_words ws os message r
          → reasons ≡ reason_words l rs → l ≡ granted (refusal_of (cache_in ws) call) (reasons_of (cache_in ws) r)
          → x ≡ change_of (granted (refusal_of (cache_in ws) call) (changes_of (cache_in ws) r))
          → made (left a out words) reasons x ≡ explain_words ws os rs message r
      unfolding explain_words
      explain_done p q s t =
          let o = ap (λ (x : Outcome). carried_out x.answer x ws os) (sym (as_ever (cache_in ws) call (length rs) h)) in
          let l = ap (λ (x : Option Refusal). granted x (reasons_of (cache_in ws) r)) (sym refusal_same) in
          let m = ap (λ (x : Option Refusal). granted x (changes_of (cache_in ws) r)) (sym refusal_same) in
          same_parts (p ∙ carried ws os message r v ∙ o) (q ∙ ap (λ (x : List Reason). reason_words x rs) (s ∙ l)) (t ∙ ap change_of m) ∙ rw v
