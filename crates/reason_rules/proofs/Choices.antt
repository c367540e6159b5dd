-- Choices whose test is known, and two choices by one test.
use Rattle.std.specs.Prelude.{if◌then◌else◌}
use mathlib.Core.Path.{◌≡◌, refl, ap}
use mathlib.Core.Bool.{Bool, true, false}

pub if_true : {A : Type 0} (t : Bool) (x y : A) → t ≡ true → (if t then x else y) ≡ x
if_true t x y h = ap (λ (s : Bool). if s then x else y) h

pub if_false : {A : Type 0} (t : Bool) (x y : A) → t ≡ false → (if t then x else y) ≡ y
if_false t x y h = ap (λ (s : Bool). if s then x else y) h

pub choose_both {ν} : {A : Type 0} {B : Type 0} (P : A → B → Type ν) (t : Bool) {x y : A} {u v : B} → (t ≡ true → P x u) → (t ≡ false → P y v)
    → P (if t then x else y) (if t then u else v)
choose_both P true f g = f refl
choose_both P false f g = g refl
