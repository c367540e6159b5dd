-- The order of a flush: an address is put before the first that is not below it, so the list rises, and a rising list is fixed by what
-- stands in it.
use Rattle.std.specs.Prelude.{None, Some}
use Prim.Native.Nat.{ℕ, ◌≤◌, ◌<◌}
use mathlib.Core.Path.{◌≡◌, refl, sym, ap, ap₂, subst, ◌∙◌}
use mathlib.Core.Bool.{Bool, true, false, ◌||◌, false≢true}
use mathlib.Core.List.{List, [], ◌∷◌}
use native.Mathlib.Omega.{arith}
use lib.Dec.{eqb, leb}
use borrow.Author.Tests.{eqb-true, eqb-false, ne_eqb, leb-true, leb-false}
use Rattle.rules.specs.Types.{Row}
use Rattle.rules.specs.Addresses.{elem, twice, insert_rising}
use Rattle.rules.specs.Allowed.{Distinct}
use Rattle.rules.specs.Rising.{Above, Rising, FlushOrder}
use Rattle.rules.specs.Rows.{get, passes, dirty_at, dirty_rising}
use Rattle.rules.proofs.Lists.{elem_first}
use Rattle.rules.proofs.Tests.{split, choose, or_true, neither}

-- ---- a rising list is fixed by what stands in it

above_not : (n : ℕ) (l : List ℕ) → Above n l → elem n l ≡ false
unfolding elem
above_not n [] h = refl
above_not n (a ∷ l) h = rw (ne_eqb a n (λ q. let k = h.0 in omega arith)) (above_not n l h.1)

-- the first of a rising list is the least of what is in it
least : (a b : ℕ) (l : List ℕ) → Above b l → elem a (b ∷ l) ≡ true → b ≤ a
unfolding elem
least a b l h e =
    split (eqb b a)
    (λ p. let q = eqb-true b a p in omega arith)
    (λ p. let q = go l h (simp p at e) in omega arith)
  where
    go : (l : List ℕ) → Above b l → elem a l ≡ true → b < a
    go [] h e = absurd (false≢true e)
    go (x ∷ l) h e = split (eqb x a) (λ p. subst (λ (y : ℕ). b < y) (eqb-true x a p) h.0) (λ p. go l h.1 (simp p at e))

pub rising_unique : (l m : List ℕ) → Rising l → Rising m → ((b : ℕ) → elem b l ≡ elem b m) → l ≡ m
unfolding elem
rising_unique [] [] h k s = refl
rising_unique [] (a ∷ m) h k s = absurd (false≢true (s a ∙ elem_first a m))
rising_unique (a ∷ l) [] h k s = absurd (false≢true (sym (s a) ∙ elem_first a l))
rising_unique (a ∷ l) (b ∷ m) h k s =
    let p = least a b m k.0 (sym (s a) ∙ elem_first a l) in
    let q = least b a l h.0 (s b ∙ elem_first b m) in
    let e : a ≡ b = omega arith in
    ap₂ (λ (x : ℕ) (r : List ℕ). x ∷ r) e (rising_unique l m h.1 k.1 (λ x. tail e x))
  where
    tail : a ≡ b → (x : ℕ) → elem x l ≡ elem x m
    tail e x =
        split (eqb a x)
        (λ p. let i = eqb-true a x p in
        ap (λ (y : ℕ). elem y l) (sym i) ∙ above_not a l h.0 ∙ sym (above_not b m k.0) ∙ ap (λ (y : ℕ). elem y m) (sym e ∙ i))
        (λ p. let j = s x in simp (p, ← e) at j)

pub rising_once : (l : List ℕ) → Rising l → twice l ≡ false
unfolding twice
rising_once [] h = refl
rising_once (a ∷ l) h = rw (above_not a l h.0) (rising_once l h.1)

-- ---- the dirty addresses

pub elem_insert : (a b : ℕ) (l : List ℕ) → elem b (insert_rising a l) ≡ eqb a b || elem b l
unfolding elem insert_rising
elem_insert a b [] = refl
elem_insert a b (x ∷ l) =
    choose (λ (m : List ℕ). elem b m ≡ eqb a b || (eqb x b || elem b l)) (leb a x) (λ p. refl)
    (λ p. rw (elem_insert a b l) (or_swap (eqb x b) (eqb a b)))
  where
    or_swap : (s t : Bool) → s || (t || elem b l) ≡ t || (s || elem b l)
    or_swap true t = sym (or_true t)
    or_swap false t = refl

elem_dirty : (rows : List Row) (b : ℕ) → Distinct rows → elem b (dirty_rising rows) ≡ dirty_at rows b
unfolding elem dirty_rising get
elem_dirty [] b d = refl
elem_dirty (None ∷ rows) b d = elem_dirty rows b d
elem_dirty (Some e ∷ rows) b d =
    split e.dirty
    (λ p. split (eqb e.address b)
    (λ q. simp (p, q, elem_insert))
    (λ q. simp (p, q, elem_insert, elem_dirty rows b d.1)))
    (λ p. split (eqb e.address b)
    (λ q. simp (p, q, elem_dirty rows b d.1, ← ap (get rows) (eqb-true e.address b q), d.0))
    (λ q. simp (p, q, elem_dirty rows b d.1)))

above_insert : (n a : ℕ) (l : List ℕ) → n < a → Above n l → Above n (insert_rising a l)
unfolding insert_rising
above_insert n a [] h k = (h, tt)
above_insert n a (x ∷ l) h k = choose (λ (m : List ℕ). Above n m) (leb a x) (λ p. (h, k)) (λ p. (k.0, above_insert n a l h k.1))

above_trans : (n x : ℕ) (l : List ℕ) → n < x → Above x l → Above n l
above_trans n x [] h k = tt
above_trans n x (a ∷ l) h k = (let i = k.0 in omega arith, above_trans n x l h k.1)

rising_insert : (a : ℕ) (l : List ℕ) → Rising l → elem a l ≡ false → Rising (insert_rising a l)
unfolding insert_rising elem
rising_insert a [] h n = (tt, tt)
rising_insert a (x ∷ l) h n =
    let i = neither (eqb x a) (elem a l) n in
    choose (λ (m : List ℕ). Rising m) (leb a x)
    (λ p. let q : a < x = omega (arith, leb-true a x p, eqb-false x a i.0) in ((q, above_trans a x l q h.0), h))
    (λ p. (above_insert x a l (leb-false a x p) h.0, rising_insert a l h.1 i.1))

rising_dirty : (rows : List Row) → Distinct rows → Rising (dirty_rising rows)
unfolding dirty_rising
rising_dirty [] d = tt
rising_dirty (None ∷ rows) d = rising_dirty rows d
rising_dirty (Some e ∷ rows) d =
    choose (λ (m : List ℕ). Rising m) e.dirty
    (λ p. rising_insert e.address (dirty_rising rows) (rising_dirty rows d.1) (elem_dirty rows e.address d.1 ∙ ap (passes (λ x. x.dirty)) d.0))
    (λ p. rising_dirty rows d.1)

pub flush_order : (rows : List Row) → Distinct rows → FlushOrder rows (dirty_rising rows)
flush_order rows d = record { rising = rising_dirty rows d; dirty = λ a. elem_dirty rows a d }

pub flush_unique : (rows : List Row) (l : List ℕ) → Distinct rows → FlushOrder rows l → l ≡ dirty_rising rows
flush_unique rows l d o = rising_unique l (dirty_rising rows) o.rising (rising_dirty rows d) (λ b. o.dirty b ∙ sym (elem_dirty rows b d))
