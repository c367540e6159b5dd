-- Rows by number: a row that is written is the entry at its address changed, removed or placed, since addresses are distinct.
use Rattle.std.specs.Prelude.{if◌then◌else◌, None, Some}
use Prim.Native.Nat.{ℕ, zero, suc, ◌<◌}
use mathlib.Core.Bool.{true, false, false≢true}
use mathlib.Core.List.{List, [], ◌∷◌}
use Rattle.std.proofs.lemmas.Option.{none-some}
use mathlib.Core.Path.{◌≡◌, refl, sym, ap, ◌∙◌}
use native.Mathlib.Omega.{arith}
use lib.Dec.{eqb}
use lib.ListN.{length, get_or, set}
use borrow.Author.Tests.{eqb-true, eq-eqb}
use Rattle.rules.specs.declared.entry.Entry.{Entry}
use Rattle.rules.specs.Types.{Row}
use Rattle.rules.specs.Allowed.{Distinct}
use Rattle.rules.specs.Rows.{get, amend, remove, place, has_free}
use Rattle.rules.proofs.Found.{amend_absent, remove_absent}
use Rattle.rules.proofs.Tests.{split, choose, alike}
use Rattle.layout.specs.Picture.{row_number, addresses}
use Rattle.layout.specs.Places.{lowest_free}

-- ---- a row that is written

used_is : {x e : Entry} → Some x ≡ Some e → x ≡ e
used_is p = cc

pub not_used : {A : Type 0} {e : Entry} → None ≡ Some e → A
not_used p = absurd (let z : ◌≡◌ {A = ℕ} 0 1 = cc in omega arith)

-- the entry of row i is what is found at its address
pub get_row : (rows : List Row) (i : ℕ) (e : Entry) → Distinct rows → get_or rows i None ≡ Some e → get rows e.address ≡ Some e
unfolding get
get_row [] i e d h = not_used h
get_row (None ∷ rows) zero e d h = not_used h
get_row (None ∷ rows) (suc i) e d h = get_row rows i e d h
get_row (Some x ∷ rows) zero e d h = rw (used_is h, eq-eqb e.address e.address refl)
get_row (Some x ∷ rows) (suc i) e d h =
    split (eqb x.address e.address)
    (λ p. absurd (none-some e (sym (sym (get_row rows i e d.1 h) ∙ ap (get rows) (sym (eqb-true x.address e.address p)) ∙ d.0))))
    (λ p. rw p (get_row rows i e d.1 h))

-- a later row has another address
other : (rows : List Row) (i : ℕ) (x e : Entry) → Distinct (Some x ∷ rows) → get_or rows i None ≡ Some e → eqb x.address e.address ≡ false
other rows i x e d h =
    split (eqb x.address e.address)
    (λ p. absurd (none-some e (sym (sym (get_row rows i e d.1 h) ∙ ap (get rows) (sym (eqb-true x.address e.address p)) ∙ d.0))))
    (λ p. p)

-- and the first row's address is in no later row
alone : (rows : List Row) (x e : Entry) → Distinct (Some x ∷ rows) → x ≡ e → get rows e.address ≡ None
alone rows x e d p = ap (λ (z : Entry). get rows z.address) (sym p) ∙ d.0

pub amend_row : (f : Entry → Entry) (rows : List Row) (i : ℕ) (e : Entry) → Distinct rows → get_or rows i None ≡ Some e
    → amend e.address f rows ≡ set rows i (Some (f e))
unfolding amend
amend_row f [] i e d h = not_used h
amend_row f (None ∷ rows) zero e d h = not_used h
amend_row f (None ∷ rows) (suc i) e d h = ap (λ (r : List Row). None ∷ r) (amend_row f rows i e d h)
amend_row f (Some x ∷ rows) zero e d h =
    let p = used_is h in
    rw (p, eq-eqb e.address e.address refl, amend_absent e.address f rows (alone rows x e d p))
amend_row f (Some x ∷ rows) (suc i) e d h = rw (other rows i x e d h, amend_row f rows i e d.1 h)

pub remove_row : (rows : List Row) (i : ℕ) (e : Entry) → Distinct rows → get_or rows i None ≡ Some e → remove e.address rows ≡ set rows i None
unfolding remove
remove_row [] i e d h = not_used h
remove_row (None ∷ rows) zero e d h = not_used h
remove_row (None ∷ rows) (suc i) e d h = ap (λ (r : List Row). None ∷ r) (remove_row rows i e d h)
remove_row (Some x ∷ rows) zero e d h =
    let p = used_is h in
    rw (p, eq-eqb e.address e.address refl, remove_absent e.address rows (alone rows x e d p))
remove_row (Some x ∷ rows) (suc i) e d h = rw (other rows i x e d h, remove_row rows i e d.1 h)

pub place_row : (e : Entry) (rows : List Row) → place e rows ≡ set rows (lowest_free rows) (Some e)
unfolding place lowest_free
place_row e [] = refl
place_row e (None ∷ rows) = refl
place_row e (Some x ∷ rows) = ap (λ (r : List Row). Some x ∷ r) (place_row e rows)

pub lowest_low : (rows : List Row) → has_free rows ≡ true → lowest_free rows < length rows
unfolding has_free lowest_free
lowest_low [] h = absurd (false≢true h)
lowest_low (None ∷ rows) h = omega arith
lowest_low (Some e ∷ rows) h = let k = lowest_low rows h in omega arith

-- ---- row numbers after a change

pub number_remove : (a b : ℕ) (rows : List Row) → eqb a b ≡ false → row_number (remove a rows) b ≡ row_number rows b
unfolding row_number remove
number_remove a b [] h = refl
number_remove a b (None ∷ rows) h = ap suc (number_remove a b rows h)
number_remove a b (Some e ∷ rows) h =
    split (eqb e.address a)
    (λ p. rw (p, alike e.address a b p, h) (ap suc (number_remove a b rows h)))
    (λ p. rw (p, number_remove a b rows h))

pub number_place : (e : Entry) (b : ℕ) (rows : List Row) → eqb e.address b ≡ false → row_number (place e rows) b ≡ row_number rows b
unfolding row_number place
number_place e b [] h = refl
number_place e b (None ∷ rows) h = rw h
number_place e b (Some x ∷ rows) h = rw (number_place e b rows h)

pub number_new : (e : Entry) (rows : List Row) → has_free rows ≡ true → get rows e.address ≡ None → row_number (place e rows) e.address ≡ lowest_free rows
unfolding has_free lowest_free place row_number get
number_new e [] h n = absurd (false≢true h)
number_new e (None ∷ rows) h n = rw (eq-eqb e.address e.address refl)
number_new e (Some x ∷ rows) h n =
    split (eqb x.address e.address)
    (λ p. absurd (none-some x (sym (simp p at n))))
    (λ p. rw p (ap suc (number_new e rows h (simp p at n))))

-- an entry that keeps its address keeps its row's number, and the addresses stay
module _ (a : ℕ) (f : Entry → Entry) (keeps : (e : Entry) → (f e).address ≡ e.address) where
  same_address : (x : Entry) → (if eqb x.address a then f x else x).address ≡ x.address
  same_address x = choose (λ (y : Entry). y.address ≡ x.address) (eqb x.address a) (λ p. keeps x) (λ p. refl)

  pub number_amend : (rows : List Row) (b : ℕ) → row_number (amend a f rows) b ≡ row_number rows b
  unfolding row_number amend
  number_amend [] b = refl
  number_amend (None ∷ rows) b = ap suc (number_amend rows b)
  number_amend (Some x ∷ rows) b = rw (same_address x, number_amend rows b)

  pub addresses_amend : (rows : List Row) → addresses (amend a f rows) ≡ addresses rows
  unfolding addresses amend
  addresses_amend [] = refl
  addresses_amend (None ∷ rows) = addresses_amend rows
  addresses_amend (Some x ∷ rows) = rw (same_address x, addresses_amend rows)
