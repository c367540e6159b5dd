-- Tests and choices.
use Rattle.std.specs.Prelude.{if◌then◌else◌}
use Prim.Native.Nat.{ℕ}
use mathlib.Core.Path.{◌≡◌, refl, sym, ap, ◌∙◌}
use mathlib.Core.Bool.{Bool, true, false, ◌&&◌, ◌||◌, false≢true, true≢false}
use lib.Dec.{eqb}
use borrow.Author.Tests.{eqb-true, eqb-false, ne_eqb}

-- ---- either way that a test comes out

pub split {ℓ} : {P : Type ℓ} (t : Bool) → (t ≡ true → P) → (t ≡ false → P) → P
split true f g = f refl
split false f g = g refl

pub choose {κ} : {A : Type 0} (P : A → Type κ) (t : Bool) {x y : A} → (t ≡ true → P x) → (t ≡ false → P y) → P (if t then x else y)
choose P true f g = f refl
choose P false f g = g refl

pub if_same : {A : Type 0} (t : Bool) (x : A) → (if t then x else x) ≡ x
if_same true x = refl
if_same false x = refl

pub either : {A : Type 0} (t : Bool) → t ≡ true → t ≡ false → A
either t p q = absurd (true≢false (sym p ∙ q))

-- ---- conjunctions and disjunctions

pub or_true : (t : Bool) → t || true ≡ true
or_true true = refl
or_true false = refl

pub or_false : (t : Bool) → t || false ≡ t
or_false true = refl
or_false false = refl

pub or_comm : (s t : Bool) → s || t ≡ t || s
or_comm true t = sym (or_true t)
or_comm false t = sym (or_false t)

pub and_true : (t : Bool) → t && true ≡ t
and_true true = refl
and_true false = refl

pub and_false : (t : Bool) → t && false ≡ false
and_false true = refl
and_false false = refl

pub neither : (s t : Bool) → s || t ≡ false → (s ≡ false) × (t ≡ false)
neither true t h = absurd (true≢false h)
neither false t h = (refl, h)

pub both : (s t : Bool) → s && t ≡ true → (s ≡ true) × (t ≡ true)
both true t h = (refl, h)
both false t h = absurd (false≢true h)

-- ---- addresses

-- where x is a, x and a are tested against b alike
pub alike : (x a b : ℕ) → eqb x a ≡ true → eqb x b ≡ eqb a b
alike x a b p = ap (λ (k : ℕ). eqb k b) (eqb-true x a p)

-- where x is not a and a is b, x is not b
pub apart : (x a b : ℕ) → eqb x a ≡ false → eqb a b ≡ true → eqb x b ≡ false
apart x a b p q = ap (λ (k : ℕ). eqb x k) (sym (eqb-true a b q)) ∙ p

pub swap : (x y : ℕ) → eqb x y ≡ false → eqb y x ≡ false
swap x y p = ne_eqb y x (λ q. eqb-false x y p (sym q))
