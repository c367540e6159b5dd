-- The first in the order of judging is given: each request's tests stand by rising rank, and the first that passes is taken. But for take
-- it is the lowest number.
use Prim.Native.Nat.{ℕ}
use mathlib.Core.Path.{◌≡◌, refl, subst}
use mathlib.Core.Bool.{Bool}
use Rattle.std.specs.Prelude.{Option}
use mathlib.Core.List.{List, [], ◌∷◌, map}
use native.Mathlib.Omega.{arith}
use Rattle.settings.specs.declared.Settings.{Settings}
use Rattle.rules.specs.declared.answer.Refusal.{Refusal}
use Rattle.settings.specs.declared.Mode.{Mode}
use Rattle.rules.specs.declared.request.Request.{Request}
use Rattle.rules.specs.declared.request.Request.TheVariants.{Insert, Protect, Release, ReleaseChanged, Pin, Unpin, Resize, Discard, Flush, Sync, Take, Configure}
use Rattle.rules.specs.Answers.{refusal_number}
use Rattle.rules.specs.Cache.{Cache}
use Rattle.rules.specs.Opening.{refusal_of_opening, opening_tests}
use Rattle.rules.specs.Precedence.{rank, NoTake, passing, Lowest}
use Rattle.rules.specs.Refusals.{Call, Test, tests, first_of, refusal_of}
use Rattle.rules.specs.Rising.{Above, Rising}
use Rattle.rules.proofs.Tests.{split, choose}

module _ (place : Refusal → ℕ) where
  abbrev places : List Test → List ℕ
  places l = map (λ t. place t.1) l

  above_passing : (n : ℕ) (l : List Test) → Above n (places l) → Above n (passing place l)
  unfolding passing
  above_passing n [] h = tt
  above_passing n (t ∷ l) h = choose (Above n) t.0 (λ p. (h.0, above_passing n l h.1)) (λ p. above_passing n l h.1)

  lowest : (l : List Test) → Rising (places l) → Lowest place (first_of l) (passing place l)
  unfolding passing first_of
  lowest [] h = refl
  lowest (t ∷ l) h =
      split t.0
      (λ p. rw p (passing place l, refl, above_passing (place t.1) l h.0))
      (λ p. rw p (lowest l h.1))

rising_tests : (c : Cache) (lent : ℕ) (message : List ℕ) (r : Request) → Rising (places (rank r) (tests c lent message r))
unfolding tests
rising_tests c lent message (Insert a s) = omega arith
rising_tests c lent message (Protect x a s) = omega arith
rising_tests c lent message (Release a) = omega arith
rising_tests c lent message (ReleaseChanged a s) = omega arith
rising_tests c lent message (Pin a) = omega arith
rising_tests c lent message (Unpin a) = omega arith
rising_tests c lent message (Resize a s) = omega arith
rising_tests c lent message (Discard a) = omega arith
rising_tests c lent message Flush = omega arith
rising_tests c lent message Sync = omega arith
rising_tests c lent message Take = omega arith
rising_tests c lent message (Configure s) = omega arith

pub lowest_of_request : (c : Cache) (call : Call)
    → Lowest (rank call.request) (refusal_of c call) (passing (rank call.request) (tests c call.lent call.message call.request))
unfolding refusal_of
lowest_of_request c call =
    lowest (rank call.request) (tests c call.lent call.message call.request) (rising_tests c call.lent call.message call.request)

-- but for take this is the lowest number
by_number : (r : Request) → NoTake r → rank r ≡ refusal_number
by_number (Insert a s) n = refl
by_number (Protect x a s) n = refl
by_number (Release a) n = refl
by_number (ReleaseChanged a s) n = refl
by_number (Pin a) n = refl
by_number (Unpin a) n = refl
by_number (Resize a s) n = refl
by_number (Discard a) n = refl
by_number Flush n = refl
by_number Sync n = refl
by_number Take n = absurd (n refl)
by_number (Configure s) n = refl

pub lowest_number : (c : Cache) (call : Call) → NoTake call.request
    → Lowest refusal_number (refusal_of c call) (passing refusal_number (tests c call.lent call.message call.request))
lowest_number c call n =
    subst (λ (place : Refusal → ℕ). Lowest place (refusal_of c call) (passing place (tests c call.lent call.message call.request))) (by_number call.request n) (lowest_of_request c call)

pub lowest_of_opening : (n : ℕ) (long : Bool) (m : Option Mode) (t : ℕ) (s : Settings)
    → Lowest refusal_number (refusal_of_opening n long m t s) (passing refusal_number (opening_tests n long m t s))
unfolding refusal_of_opening
lowest_of_opening n long m t s = lowest refusal_number (opening_tests n long m t s) (omega arith)
