-- What a test says, and what a failed test rules out.
use mathlib.Core.Path.{◌≡◌, refl, sym, ◌∙◌}
use mathlib.Core.Bool.{Bool, true, false, false≢true}
use Rattle.judge.specs.Fits.{Says}

pub no : {X : Type 0} (b : Bool) → b ≡ false → b ≡ true → X
no b p q = absurd (false≢true (sym p ∙ q))

module _ {P : Type 0} where
  pub says_no : (P → ⊥) → Says false P
  says_no f = record { sound = λ e. no _ refl e; complete = λ p. absurd (f p) }

  pub says_yes : P → Says true P
  says_yes p = record { sound = λ e. p; complete = λ e. refl }

  -- a last test that says Q, by which P comes out
  pub says_by : {r : Bool} {Q : Type 0} → (Q → P) → (P → Q) → Says r Q → Says r P
  says_by f g s = record { sound = λ e. f (s.sound e); complete = λ p. s.complete (g p) }

  pub denies : {r : Bool} → Says r P → r ≡ false → P → ⊥
  denies {r} s e p = no r e (s.complete p)
