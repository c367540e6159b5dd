-- How a verdict is told, test by test.
use Prim.Native.Nat.{ℕ}
use mathlib.Core.Bool.{Bool, true, false}
use mathlib.Core.List.{List, [], ◌∷◌}
use Rattle.std.specs.Prelude.{Option, None, Some, Ok, Err}
use mathlib.Core.Path.{◌≡◌, refl, sym, ap, ◌∙◌}
use Rattle.rules.specs.declared.answer.Refusal.{Refusal}
use Rattle.rules.specs.declared.request.Request.{Request}
use Rattle.rules.specs.Cache.{Cache}
use Rattle.rules.specs.Hosts.{asking}
use Rattle.rules.specs.Refusals.{Test, first_of, tests, refusal_of}
use Rattle.rules.specs.Answers.{verdict_of}
use Rattle.rules.specs.Types.{Verdict}
use Rattle.verdicts.specs.Tells.{Tells, tested_before}

-- no test passes
pub done : Tells (Ok tt) []
unfolding first_of
done = record { same = refl }

first_of_next : (t : Bool) (r : Refusal) (l : List Test) → tested_before t r (verdict_of (first_of l)) ≡ verdict_of (first_of ((t, r) ∷ l))
unfolding first_of
first_of_next true r l = refl
first_of_next false r l = refl

-- one test more, as a function makes it that has its outcome
pub on : {t u : Bool} {r : Refusal} {l : List Test} {v w : Verdict} → w ≡ tested_before t r v → t ≡ u → Tells v l → Tells w ((u, r) ∷ l)
on {t} {u} {r} {l} e p k = record { same = e ∙ ap (tested_before t r) k.same ∙ ap (λ (b : Bool). tested_before b r (verdict_of (first_of l))) p ∙ first_of_next u r l }

-- the first test that passes
pub stops : {u : Bool} {r : Refusal} {l : List Test} → u ≡ true → Tells (Err r) ((u, r) ∷ l)
unfolding first_of
stops e = record { same = rw e }

-- a test that fails
pub past : {u : Bool} {r : Refusal} {l : List Test} {v : Verdict} → u ≡ false → Tells v l → Tells v ((u, r) ∷ l)
past {u} {r} {l} {v} p k = record { same = k.same ∙ ap (λ (b : Bool). tested_before b r (verdict_of (first_of l))) (sym p) ∙ first_of_next u r l }

-- by the request that was matched
pub matched : (c : Cache) (message : List ℕ) (lent : ℕ) {q r : Request} {v : Verdict} → q ≡ r → Tells v (tests c lent message r) → v ≡ verdict_of (refusal_of c (asking q message lent))
unfolding refusal_of
matched c message lent e k = k.same ∙ ap (λ (r : Request). verdict_of (first_of (tests c lent message r))) (sym e)

-- ---- a refusal, or none, of a verdict

pub verdict_some : (o : Option Refusal) (r : Refusal) → verdict_of o ≡ Err r → o ≡ Some r
verdict_some None r e = cc
verdict_some (Some q) r e = cc

pub verdict_none : (o : Option Refusal) → verdict_of o ≡ Ok tt → o ≡ None
verdict_none None e = refl
verdict_none (Some q) e = cc
