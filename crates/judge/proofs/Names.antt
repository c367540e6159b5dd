-- Rows by number and by address: lists of one kind and of the other name the same rows.
use Prim.Native.Nat.{ℕ, zero, suc}
use mathlib.Core.Path.{◌≡◌, refl, sym, ap, ◌∙◌}
use mathlib.Core.Bool.{Bool, true, false}
use Rattle.std.proofs.lemmas.Option.{none-some}
use Rattle.std.specs.Prelude.{None, Some}
use mathlib.Core.List.{List, [], ◌∷◌, map}
use borrow.Author.Tests.{eq-eqb, eqb-true}
use lib.Dec.{eqb}
use lib.ListN.{get_or}
use Rattle.rules.specs.declared.entry.Entry.{Entry}
use Rattle.rules.specs.Types.{Row}
use Rattle.rules.specs.Addresses.{elem, twice}
use Rattle.rules.specs.Allowed.{Distinct}
use Rattle.rules.specs.Rows.{get, passes}
use Rattle.rules.proofs.Found.{present}
use Rattle.rules.proofs.Lists.{elem_first}
use Rattle.rules.proofs.Tests.{split, neither}
use Rattle.layout.specs.Picture.{address_of, row_number, address_at}
use Rattle.layout.proofs.Numbers.{stands}
use Rattle.layout.proofs.Rows.{not_used, get_row}
use Rattle.judge.proofs.Says.{no}
use Rattle.judge.proofs.Marking.{or_right}
use Rattle.judge.proofs.RowWords.{test_row}

-- two tests that hold together are one
pub both : (a b : Bool) → (a ≡ true → b ≡ true) → (b ≡ true → a ≡ true) → a ≡ b
both true b f g = sym (f refl)
both false true f g = g refl
both false false f g = refl

pub not_true_false : (b : Bool) → (b ≡ true → ⊥) → b ≡ false
not_true_false true f = absurd (f refl)
not_true_false false f = refl

-- ---- one row

-- a row that passes has an entry
pub record Has (test : Entry → Bool) (row : Row) : Type 0 where
  pub entry : Entry
  pub is : row ≡ Some entry
  pub passes : test entry ≡ true

pub has : (test : Entry → Bool) (row : Row) → test_row test row ≡ true → Has test row
has test None h = no _ refl h
has test (Some e) h = record { entry = e; is = refl; passes = h }

-- an address that passes has a row
pub record Found (test : Entry → Bool) (rows : List Row) (a : ℕ) : Type 0 where
  pub entry : Entry
  pub is : get_or rows (row_number rows a) None ≡ Some entry
  pub at : entry.address ≡ a
  pub passes : test entry ≡ true

pub found : (test : Entry → Bool) (rows : List Row) (a : ℕ) → passes test (get rows a) ≡ true → Found test rows a
found test rows a h =
    let p = present test (get rows a) h in
    let s = stands rows a p.0 p.1 in
    record { entry = p.0; is = s.row; at = s.address; passes = p.2 }

-- ---- an entry's address leads to its row

apart : (x e : Entry) (rows : List Row) → get rows x.address ≡ None → get rows e.address ≡ Some e → eqb x.address e.address ≡ false
apart x e rows d g =
    not_true_false _ (λ p. none-some e (sym (sym g ∙ ap (get rows) (sym (eqb-true x.address e.address p)) ∙ d)))

pub number_back : (rows : List Row) → Distinct rows → (i : ℕ) (e : Entry) → get_or rows i None ≡ Some e → row_number rows e.address ≡ i
unfolding row_number
number_back [] d i e h = not_used h
number_back (None ∷ rows) d zero e h = not_used h
number_back (None ∷ rows) d (suc i) e h = ap suc (number_back rows d i e h)
number_back (Some x ∷ rows) d zero e h = let q : x ≡ e = cc in rw (q, eq-eqb e.address e.address refl)
number_back (Some x ∷ rows) d (suc i) e h =
    rw (apart x e rows d.0 (get_row rows i e d.1 h)) (ap suc (number_back rows d.1 i e h))

-- ---- mapped lists

pub record From (f : ℕ → ℕ) (xs : List ℕ) (y : ℕ) : Type 0 where
  pub of : ℕ
  pub inside : elem of xs ≡ true
  pub is : f of ≡ y

module _ (f : ℕ → ℕ) where
  pub elem_to : (xs : List ℕ) (x : ℕ) → elem x xs ≡ true → elem (f x) (map f xs) ≡ true
  unfolding elem
  elem_to [] x h = h
  elem_to (y ∷ xs) x h =
      split (eqb y x)
      (λ p. rw (eq-eqb (f y) (f x) (ap f (eqb-true y x p))))
      (λ p. or_right (eqb (f y) (f x)) (elem (f x) (map f xs)) (elem_to xs x (rw p at h)))

  pub elem_from : (xs : List ℕ) (y : ℕ) → elem y (map f xs) ≡ true → From f xs y
  unfolding elem
  elem_from [] y h = no _ refl h
  elem_from (x ∷ xs) y h =
      split (eqb (f x) y)
      (λ p. record { of = x; inside = rw (eq-eqb x x refl); is = eqb-true (f x) y p })
      (λ p. let r = elem_from xs y (rw p at h) in record { of = r.of; inside = or_right (eqb x r.of) (elem r.of xs) r.inside; is = r.is })

  -- where g leads back from what f gives
  module _ (g : ℕ → ℕ) where
    pub map_back : (xs : List ℕ) → ((x : ℕ) → elem x xs ≡ true → g (f x) ≡ x) → map g (map f xs) ≡ xs
    unfolding elem
    map_back [] h = refl
    map_back (x ∷ xs) h = λ j. h x (elem_first x xs) j ∷ map_back xs (λ y k. h y (or_right (eqb x y) (elem y xs) k)) j

    pub twice_to : (xs : List ℕ) → ((x : ℕ) → elem x xs ≡ true → g (f x) ≡ x) → twice xs ≡ false → twice (map f xs) ≡ false
    unfolding elem twice
    twice_to [] h t = refl
    twice_to (x ∷ xs) h t =
        let k = neither (elem x xs) (twice xs) t in
        let e : elem (f x) (map f xs) ≡ false = not_true_false _ (λ q.
        let r = elem_from xs (f x) q in
        let s : r.of ≡ x = sym (h r.of (or_right (eqb x r.of) (elem r.of xs) r.inside)) ∙ ap g r.is ∙ h x (elem_first x xs) in
        no _ k.0 (rw s at r.inside)) in
        rw e (twice_to xs (λ y q. h y (or_right (eqb x y) (elem y xs) q)) k.1)

-- ---- a list by number and by address

module _ (rows : List Row) (d : Distinct rows) (test : Entry → Bool) where
  leads : (i : ℕ) (e : Entry) → get_or rows i None ≡ Some e → test e ≡ true → passes test (get rows e.address) ≡ true
  leads i e h t = rw (get_row rows i e d h) t

  pub by_number : (xs : List ℕ) → ((a : ℕ) → elem a xs ≡ passes test (get rows a)) → (r : ℕ) → elem r (map (row_number rows) xs) ≡ test_row test (get_or rows r None)
  by_number xs f r =
      both _ _
      (λ h. let m = elem_from (row_number rows) xs r h in
      let q = found test rows m.of (sym (f m.of) ∙ m.inside) in
      ap (λ (i : ℕ). test_row test (get_or rows i None)) (sym m.is) ∙ ap (test_row test) q.is ∙ q.passes)
      (λ h. let q = has test (get_or rows r None) h in
      ap (λ (i : ℕ). elem i (map (row_number rows) xs)) (sym (number_back rows d r q.entry q.is))
      ∙ elem_to (row_number rows) xs q.entry.address (f q.entry.address ∙ leads r q.entry q.is q.passes))

  module _ (ys : List ℕ) (f : (r : ℕ) → elem r ys ≡ test_row test (get_or rows r None)) where
    pub by_address : (a : ℕ) → elem a (map (address_at rows) ys) ≡ passes test (get rows a)
    by_address a =
        both _ _
        (λ h. let m = elem_from (address_at rows) ys a h in
        let q = has test (get_or rows m.of None) (sym (f m.of) ∙ m.inside) in
        let e : q.entry.address ≡ a = ap address_of (sym q.is) ∙ m.is in
        rw e at (leads m.of q.entry q.is q.passes))
        (λ h. let q = found test rows a h in
        let e : address_at rows (row_number rows a) ≡ a = ap address_of q.is ∙ q.at in
        ap (λ (b : ℕ). elem b (map (address_at rows) ys)) (sym e)
        ∙ elem_to (address_at rows) ys (row_number rows a) (f (row_number rows a) ∙ ap (test_row test) q.is ∙ q.passes))

    -- a number of the list is read back from its address
    pub numbered : (i : ℕ) → elem i ys ≡ true → row_number rows (address_at rows i) ≡ i
    numbered i h =
        let q = has test (get_or rows i None) (sym (f i) ∙ h) in
        ap (λ (row : Row). row_number rows (address_of row)) q.is ∙ number_back rows d i q.entry q.is
