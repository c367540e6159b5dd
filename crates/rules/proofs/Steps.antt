-- A step: what holds of an accepted request's effect and of a refused one's cache holds of the step.
use mathlib.Core.Path.{sym, ◌≡◌, refl}
use mathlib.Core.Bool.{true, false, true≢false}
use Rattle.std.proofs.lemmas.Option.{none-some}
use Rattle.std.specs.Prelude.{Option, None, Some, Ok, Err}
use mathlib.Core.List.{List, [], ◌∷◌}
use lib.ListN.{length}
use Rattle.rules.specs.declared.answer.Refusal.{Refusal}
use Rattle.rules.specs.Cache.{Cache, Work}
use Rattle.rules.specs.Hosts.{accepted}
use Rattle.rules.specs.Kept.{Untouched}
use Rattle.rules.specs.Refusals.{Call, Test, first_of, refusal_of}
use Rattle.rules.specs.Requests.{Outcome, judged, effect, step}
use Rattle.rules.proofs.Tests.{split}

-- ---- the tests

-- each test fails
abbrev pub Failed : List Test → Type 0
Failed [] = Unit
Failed (t ∷ rest) = (t.0 ≡ false) × Failed rest

-- the tests of a request that is accepted have failed
pub failed : (l : List Test) → first_of l ≡ None → Failed l
unfolding first_of
failed [] h = tt
failed (t ∷ rest) h = split t.0 (λ p. absurd (none-some t.1 (sym (simp p at h)))) (λ p. (p, failed rest (simp p at h)))

-- ---- the outcome

pub outcome : (P : Outcome → Type 0) (o : Option Refusal) (c : Cache) (w : Work)
    → (o ≡ None → P (record { answer = Ok (length w.orders); cache = w.cache; orders = w.orders }))
    → ((r : Refusal) → P (record { answer = Err r; cache = c; orders = [] })) → P (judged o c w)
outcome P None c w f g = f refl
outcome P (Some r) c w f g = g r

module _ (c : Cache) (call : Call) where
  -- a property of the outcome, of an accepted request from its effect
  pub stepped : (P : Outcome → Type 0) → (refusal_of c call ≡ None → P (judged None c (effect c call.message call.request)))
      → ((r : Refusal) → P (record { answer = Err r; cache = c; orders = [] })) → P (step c call)
  unfolding step
  stepped P = outcome P (refusal_of c call) c (effect c call.message call.request)

  pub accepts : refusal_of c call ≡ None → accepted (step c call) ≡ true
  unfolding step
  accepts e = rw e

  pub step_refused : accepted (step c call) ≡ false → Untouched c (step c call)
  step_refused =
      stepped (λ o. accepted o ≡ false → Untouched c o) (λ e h. absurd (true≢false h)) (λ r h. record { cache = refl; orders = refl })
