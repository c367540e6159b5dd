-- What is found at an address after the rows changed.
use Rattle.std.specs.Prelude.{if◌then◌else◌, Option, None, Some, option_map}
use Prim.Native.Nat.{ℕ}
use mathlib.Core.Path.{◌≡◌, refl, sym, ap, ◌∙◌}
use mathlib.Core.Bool.{Bool, true, false, false≢true, true≢false}
use Rattle.std.proofs.lemmas.Option.{none-some}
use mathlib.Core.List.{List, [], ◌∷◌}
use lib.Dec.{eqb}
use lib.ListN.{length}
use Rattle.rules.specs.declared.entry.Entry.{Entry}
use Rattle.rules.specs.Types.{Row}
use Rattle.rules.specs.Allowed.{Distinct}
use Rattle.rules.specs.Rows.{get, passes, amend, amend_each, amend_all, remove, place, has_free}
use Rattle.rules.proofs.Tests.{split, choose, if_same, alike, apart, swap}

-- ---- remove

pub get_remove : (a b : ℕ) (rows : List Row) → get (remove a rows) b ≡ (if eqb a b then None else get rows b)
unfolding get remove
get_remove a b [] = sym (if_same (eqb a b) None)
get_remove a b (None ∷ rows) = get_remove a b rows
get_remove a b (Some e ∷ rows) =
    split (eqb e.address a)
    (λ p. split (eqb a b)
    (λ q. simp (p, q, get_remove a b rows))
    (λ q. simp (p, q, alike e.address a b p, get_remove a b rows)))
    (λ p. split (eqb a b)
    (λ q. simp (p, q, apart e.address a b p q, get_remove a b rows))
    (λ q. simp (p, q, get_remove a b rows)))

pub remove_absent : (a : ℕ) (rows : List Row) → get rows a ≡ None → remove a rows ≡ rows
unfolding get remove
remove_absent a [] n = refl
remove_absent a (None ∷ rows) n = ap (λ (r : List Row). None ∷ r) (remove_absent a rows n)
remove_absent a (Some e ∷ rows) n =
    split (eqb e.address a)
    (λ p. absurd (none-some e (sym (simp p at n))))
    (λ p. simp (p, remove_absent a rows (simp p at n)))

-- ---- amend

module _ (a : ℕ) (f : Entry → Entry) (keeps : (e : Entry) → (f e).address ≡ e.address) where
  pub get_amend : (b : ℕ) (rows : List Row) → get (amend a f rows) b ≡ (if eqb a b then option_map f (get rows b) else get rows b)
  unfolding get amend
  get_amend b [] = sym (if_same (eqb a b) None)
  get_amend b (None ∷ rows) = get_amend b rows
  get_amend b (Some e ∷ rows) =
      split (eqb e.address a)
      (λ p. split (eqb a b)
      (λ q. simp (p, q, keeps, alike e.address a b p, get_amend b rows))
      (λ q. simp (p, q, keeps, alike e.address a b p, get_amend b rows)))
      (λ p. split (eqb a b)
      (λ q. simp (p, q, apart e.address a b p q, get_amend b rows))
      (λ q. simp (p, q, get_amend b rows)))

pub amend_absent : (a : ℕ) (f : Entry → Entry) (rows : List Row) → get rows a ≡ None → amend a f rows ≡ rows
unfolding get amend
amend_absent a f [] n = refl
amend_absent a f (None ∷ rows) n = ap (λ (r : List Row). None ∷ r) (amend_absent a f rows n)
amend_absent a f (Some e ∷ rows) n =
    split (eqb e.address a)
    (λ p. absurd (none-some e (sym (simp p at n))))
    (λ p. simp (p, amend_absent a f rows (simp p at n)))

-- ---- every entry

module _ (f : Entry → Entry) (keeps : (e : Entry) → (f e).address ≡ e.address) where
  pub get_amend_all : (b : ℕ) (rows : List Row) → get (amend_all f rows) b ≡ option_map f (get rows b)
  unfolding get amend_all
  get_amend_all b [] = refl
  get_amend_all b (None ∷ rows) = get_amend_all b rows
  get_amend_all b (Some e ∷ rows) = split (eqb e.address b) (λ q. simp (keeps, q)) (λ q. simp (keeps, q, get_amend_all b rows))

-- ---- place

pub get_place : (e : Entry) (b : ℕ) (rows : List Row) → has_free rows ≡ true → get rows e.address ≡ None
    → get (place e rows) b ≡ (if eqb e.address b then Some e else get rows b)
unfolding get place has_free
get_place e b [] h n = absurd (false≢true h)
get_place e b (None ∷ rows) h n = refl
get_place e b (Some x ∷ rows) h n =
    split (eqb x.address e.address)
    (λ p. absurd (none-some x (sym (simp p at n))))
    (λ p. let ih = get_place e b rows h (simp p at n) in
    split (eqb e.address b)
    (λ q. simp (q, apart x.address e.address b p q, ih))
    (λ q. simp (q, ih)))

-- ---- distinct addresses

pub distinct_remove : (a : ℕ) (rows : List Row) → Distinct rows → Distinct (remove a rows)
unfolding remove
distinct_remove a [] d = tt
distinct_remove a (None ∷ rows) d = distinct_remove a rows d
distinct_remove a (Some e ∷ rows) d =
    choose (λ (r : Row). Distinct (r ∷ remove a rows)) (eqb e.address a)
    (λ p. distinct_remove a rows d.1)
    (λ p. (rw (get_remove a e.address rows, d.0) (if_same (eqb a e.address) None), distinct_remove a rows d.1))

pub distinct_amend : (a : ℕ) (f : Entry → Entry) (keeps : (e : Entry) → (f e).address ≡ e.address) (rows : List Row) → Distinct rows → Distinct (amend a f rows)
unfolding amend
distinct_amend a f keeps [] d = tt
distinct_amend a f keeps (None ∷ rows) d = distinct_amend a f keeps rows d
distinct_amend a f keeps (Some e ∷ rows) d =
    let same : (if eqb e.address a then f e else e).address ≡ e.address = choose (λ (x : Entry). x.address ≡ e.address) (eqb e.address a) (λ p. keeps e) (λ p. refl) in
    (rw (same, get_amend a f keeps e.address rows, d.0) (if_same (eqb a e.address) None), distinct_amend a f keeps rows d.1)

pub distinct_amend_all : (f : Entry → Entry) (keeps : (e : Entry) → (f e).address ≡ e.address) (rows : List Row) → Distinct rows → Distinct (amend_all f rows)
unfolding amend_all
distinct_amend_all f keeps [] d = tt
distinct_amend_all f keeps (None ∷ rows) d = distinct_amend_all f keeps rows d
distinct_amend_all f keeps (Some e ∷ rows) d = (rw (keeps e, get_amend_all f keeps e.address rows, d.0), distinct_amend_all f keeps rows d.1)

pub distinct_place : (e : Entry) (rows : List Row) → has_free rows ≡ true → get rows e.address ≡ None → Distinct rows → Distinct (place e rows)
unfolding place get has_free
distinct_place e [] h n d = tt
distinct_place e (None ∷ rows) h n d = (n, d)
distinct_place e (Some x ∷ rows) h n d =
    split (eqb x.address e.address)
    (λ p. absurd (none-some x (sym (simp p at n))))
    (λ p. let m = simp p at n in
    (rw (get_place e x.address rows h m, d.0, swap x.address e.address p), distinct_place e rows h m d.1))

-- ---- the number of rows, and free rows

pub length_remove : (a : ℕ) (rows : List Row) → length (remove a rows) ≡ length rows
unfolding remove
length_remove a [] = refl
length_remove a (None ∷ rows) = ap (λ n. ℕ.suc n) (length_remove a rows)
length_remove a (Some e ∷ rows) = ap (λ n. ℕ.suc n) (length_remove a rows)

pub length_amend : (a : ℕ) (f : Entry → Entry) (rows : List Row) → length (amend a f rows) ≡ length rows
unfolding amend
length_amend a f [] = refl
length_amend a f (None ∷ rows) = ap (λ n. ℕ.suc n) (length_amend a f rows)
length_amend a f (Some e ∷ rows) = ap (λ n. ℕ.suc n) (length_amend a f rows)

pub length_each : (l : List ℕ) (f : Entry → Entry) (rows : List Row) → length (amend_each l f rows) ≡ length rows
unfolding amend_each
length_each [] f rows = refl
length_each (a ∷ l) f rows = length_each l f (amend a f rows) ∙ length_amend a f rows

pub length_amend_all : (f : Entry → Entry) (rows : List Row) → length (amend_all f rows) ≡ length rows
unfolding amend_all
length_amend_all f [] = refl
length_amend_all f (None ∷ rows) = ap (λ n. ℕ.suc n) (length_amend_all f rows)
length_amend_all f (Some e ∷ rows) = ap (λ n. ℕ.suc n) (length_amend_all f rows)

pub length_place : (e : Entry) (rows : List Row) → length (place e rows) ≡ length rows
unfolding place
length_place e [] = refl
length_place e (None ∷ rows) = refl
length_place e (Some x ∷ rows) = ap (λ n. ℕ.suc n) (length_place e rows)

pub free_remove : (a : ℕ) (rows : List Row) → has_free rows ≡ true → has_free (remove a rows) ≡ true
unfolding has_free remove
free_remove a [] h = h
free_remove a (None ∷ rows) h = refl
free_remove a (Some e ∷ rows) h =
    choose (λ (r : Row). has_free (r ∷ remove a rows) ≡ true) (eqb e.address a) (λ p. refl) (λ p. free_remove a rows h)

-- the row of an entry that goes is free
pub free_removed : (test : Entry → Bool) (a : ℕ) (rows : List Row) → passes test (get rows a) ≡ true → has_free (remove a rows) ≡ true
unfolding get has_free remove
free_removed test a [] h = h
free_removed test a (None ∷ rows) h = refl
free_removed test a (Some e ∷ rows) h =
    choose (λ (r : Row). has_free (r ∷ remove a rows) ≡ true) (eqb e.address a) (λ p. refl) (λ p. free_removed test a rows (simp p at h))

pub free_amend : (a : ℕ) (f : Entry → Entry) (rows : List Row) → has_free (amend a f rows) ≡ has_free rows
unfolding amend has_free
free_amend a f [] = refl
free_amend a f (None ∷ rows) = refl
free_amend a f (Some e ∷ rows) = free_amend a f rows

-- ---- a test of what is found

pub pass_map : (f : Entry → Entry) (test : Entry → Bool) (o : Option Entry) → passes test (option_map f o) ≡ passes (λ e. test (f e)) o
pass_map f test None = refl
pass_map f test (Some e) = refl

pub absent : (o : Option Entry) → passes (λ e. true) o ≡ false → o ≡ None
absent None h = refl
absent (Some e) h = absurd (true≢false h)

-- an entry that is there
pub present : (test : Entry → Bool) (o : Option Entry) → passes test o ≡ true → (e : Entry) × (o ≡ Some e) × (test e ≡ true)
present test None h = absurd (false≢true h)
present test (Some e) h = (e, refl, h)
