-- Two hosts: what holds of each of the two still does after one goes on.
use mathlib.Core.Path.{◌≡◌, refl}
use Rattle.rules.specs.Sides.{Side, one, two, other, Pair, at, put}

module _ {A B : Type 0} (P : Side → A → B → Type 0) {h : Pair A} {k : Pair B} where
  -- the one goes on in both pairs
  pub each_put : (x : Side) {a : A} {b : B} → P x a b → ((y : Side) → P y (at y h) (at y k)) → (y : Side) → P y (at y (put x a h)) (at y (put x b k))
  each_put one p q one = p
  each_put one p q two = q two
  each_put two p q one = q one
  each_put two p q two = p

module _ {A : Type 0} where
  pub put_same : (x : Side) (h : Pair A) → put x (at x h) h ≡ h
  put_same one h = refl
  put_same two h = refl

  pub at_other : (x : Side) (a : A) (h : Pair A) → at (other x) (put x a h) ≡ at (other x) h
  at_other one a h = refl
  at_other two a h = refl
