-- The rows with their two lists of row numbers, and the same by address.
use Prim.Native.Nat.{ℕ, zero, suc, ◌+◌, ◌≤◌, ◌<◌}
use mathlib.Core.Path.{◌≡◌, refl, sym, ap, ◌∙◌}
use mathlib.Core.Bool.{Bool, true, false}
use mathlib.Core.Logic.{dite}
use Rattle.std.specs.Prelude.{Option, None, Some}
use mathlib.Core.List.{List, [], ◌∷◌, map}
use native.Mathlib.Omega.{arith}
use native.Mathlib.Decide.{ℕ_discrete, dec_lt}
use borrow.Author.Tests.{ne_eqb, eqb-true}
use lib.Dec.{eqb}
use lib.ListN.{length, get_or, get_or-eq_default}
use Rattle.rules.specs.declared.entry.Entry.{Entry}
use Rattle.rules.specs.Types.{Row}
use Rattle.rules.specs.Addresses.{elem, twice}
use Rattle.rules.specs.Allowed.{EntryAllowed, Distinct, Sound}
use Rattle.rules.specs.Cache.{Cache}
use Rattle.rules.specs.Entries.{is_listed}
use Rattle.rules.specs.Rows.{get, passes}
use Rattle.rules.proofs.Lists.{elem_first}
use Rattle.rules.proofs.Tests.{split}
use Rattle.layout.specs.Picture.{address_of, row_number, address_at, addresses}
use Rattle.layout.proofs.Cuts.{elem_at}
use Rattle.layout.proofs.Numbers.{here_of, address_back, elem_addresses, rising_addresses, stands}
use Rattle.layout.proofs.ReadBack.{RowAllowed}
use Rattle.layout.proofs.Rows.{get_row}
use Rattle.layout.proofs.Rising as ri
use Rattle.judge.proofs.Says.{no}
use Rattle.judge.proofs.Marking.{or_right}
use Rattle.judge.proofs.RowWords.{test_row}
use Rattle.judge.proofs.Names.{not_true_false, map_back, twice_to, by_number, by_address, numbered}

-- ---- rising keys, by place and by what follows

module _ (key : ℕ → ℕ) where
  abbrev pub Rising : List ℕ → Type 0
  Rising xs = (i : ℕ) → i + 1 < length xs → key (get_or xs i 0) < key (get_or xs (i + 1) 0)

  tail_rising : (x : ℕ) (xs : List ℕ) → Rising (x ∷ xs) → Rising xs
  tail_rising x xs f i h =
      let e : suc i + 1 ≡ suc (i + 1) = omega arith in
      rw e at (f (suc i) (omega arith))

  above : (x : ℕ) (xs : List ℕ) → Rising (x ∷ xs) → (z : ℕ) → elem z xs ≡ true → key x < key z
  unfolding elem
  above x [] f z e = no _ refl e
  above x (y ∷ ys) f z e =
      let k : key x < key y = f 0 (omega arith) in
      dite (ℕ_discrete y z)
      (λ (q : y ≡ z). rw (← q) k)
      (λ (q : y ≡ z → ⊥).
      let e' : elem z ys ≡ true = rw (ne_eqb y z q) at e in
      omega (arith, above y ys (tail_rising x (y ∷ ys) f) z e'))

  above_all : (n : ℕ) (ys : List ℕ) → ((z : ℕ) → elem z ys ≡ true → n < key z) → ri.Above n (map key ys)
  unfolding elem
  above_all n [] h = tt
  above_all n (y ∷ ys) h = (h y (elem_first y ys), above_all n ys (λ z k. h z (or_right (eqb y z) (elem z ys) k)))

  rising_map : (xs : List ℕ) → Rising xs → ri.Rising (map key xs)
  rising_map [] h = tt
  rising_map (x ∷ xs) h = (above_all (key x) xs (λ z k. above x xs h z k), rising_map xs (tail_rising x xs h))

  rising_by : (xs : List ℕ) → ri.Rising (map key xs) → Rising xs
  rising_by [] h i k = absurd (omega arith)
  rising_by (x ∷ []) h i k = absurd (omega arith)
  rising_by (x ∷ y ∷ xs) h zero k = h.0.0
  rising_by (x ∷ y ∷ xs) h (suc i) k =
      let e : suc i + 1 ≡ suc (i + 1) = omega arith in
      rw e (rising_by (y ∷ xs) h.1 i (omega arith))

  -- one key, one number
  one_key : (xs : List ℕ) → Rising xs → (i j : ℕ) → elem i xs ≡ true → elem j xs ≡ true → key i ≡ key j → i ≡ j
  unfolding elem
  one_key [] h i j a b e = no _ refl a
  one_key (x ∷ xs) h i j a b e =
      split (eqb x i)
      (λ p. split (eqb x j)
      (λ q. sym (eqb-true x i p) ∙ eqb-true x j q)
      (λ q. absurd (omega (arith, above x xs h j (rw q at b), ap key (eqb-true x i p)))))
      (λ p. split (eqb x j)
      (λ q. absurd (omega (arith, above x xs h i (rw p at a), ap key (eqb-true x j q))))
      (λ q. one_key xs (tail_rising x xs h) i j (rw p at a) (rw q at b) e))

  pub rising_once : (xs : List ℕ) → Rising xs → twice xs ≡ false
  unfolding twice
  rising_once [] f = refl
  rising_once (x ∷ xs) f =
      let e : elem x xs ≡ false = not_true_false (elem x xs) (λ q. omega (arith, above x xs f x q)) in
      rw e (rising_once xs (tail_rising x xs f))

-- ---- distinct addresses, from one row for each

distinct_from : (rows : List Row) → ((i j : ℕ) (e x : Entry) → get_or rows i None ≡ Some e → get_or rows j None ≡ Some x → e.address ≡ x.address → i ≡ j) → Distinct rows
distinct_from [] f = tt
distinct_from (None ∷ rows) f = distinct_from rows (λ i j e x h k q. let p = f (suc i) (suc j) e x h k q in omega arith)
distinct_from (Some e ∷ rows) f = (gone (get rows e.address) refl, distinct_from rows (λ i j e x h k q. let p = f (suc i) (suc j) e x h k q in omega arith))
  where
    gone : (o : Option Entry) → get rows e.address ≡ o → get rows e.address ≡ None
    gone None q = q
    gone (Some x) q =
        let s = stands rows e.address x q in
        absurd (let p = f 0 (suc (row_number rows e.address)) e x refl s.row (sym s.address) in omega arith)

-- ---- rows with the numbers of the listed and of the used

pub record Numbered (rows : List Row) (recency order : List ℕ) : Type 0 where
  pub allowed : (r : ℕ) → RowAllowed (get_or rows r None)
  pub listed : (r : ℕ) → elem r recency ≡ test_row is_listed (get_or rows r None)
  pub once : twice recency ≡ false
  pub used : (r : ℕ) → elem r order ≡ test_row (λ e. true) (get_or rows r None)
  pub rises : Rising (address_at rows) order

module _ {rows : List Row} {recency order : List ℕ} (n : Numbered rows recency order) where
  pub distinct_of : Distinct rows
  distinct_of =
      distinct_from rows (λ i j e x h k q.
      one_key (address_at rows) order n.rises i j (n.used i ∙ ap (test_row (λ y. true)) h) (n.used j ∙ ap (test_row (λ y. true)) k)
      (ap address_of h ∙ q ∙ ap address_of (sym k)))

  pub listed_of : (a : ℕ) → elem a (map (address_at rows) recency) ≡ passes is_listed (get rows a)
  listed_of = by_address rows distinct_of is_listed recency n.listed

  number_listed : (i : ℕ) → elem i recency ≡ true → row_number rows (address_at rows i) ≡ i
  number_listed = numbered rows distinct_of is_listed recency n.listed

  pub once_of : twice (map (address_at rows) recency) ≡ false
  once_of = twice_to (address_at rows) (row_number rows) recency number_listed n.once

  pub recency_back : map (row_number rows) (map (address_at rows) recency) ≡ recency
  recency_back = map_back (address_at rows) (row_number rows) recency number_listed

  -- the order is the one that the rows fix
  order_is : map (address_at rows) order ≡ addresses rows
  order_is =
      ri.rising_unique (map (address_at rows) order) (addresses rows) (rising_map (address_at rows) order n.rises) (rising_addresses rows distinct_of)
      (λ a. by_address rows distinct_of (λ e. true) order n.used a ∙ sym (elem_addresses rows a))

  pub order_back : map (row_number rows) (addresses rows) ≡ order
  order_back =
      ap (map (row_number rows)) (sym order_is)
      ∙ map_back (address_at rows) (row_number rows) order (numbered rows distinct_of (λ e. true) order n.used)

  pub entries_of : (a : ℕ) (e : Entry) → get rows a ≡ Some e → EntryAllowed e
  entries_of a e h = rw (stands rows a e h).row at (n.allowed (row_number rows a))

-- ---- the rows of a sound cache

row_allowed : (row : Row) → ((e : Entry) → row ≡ Some e → EntryAllowed e) → RowAllowed row
row_allowed None f = tt
row_allowed (Some e) f = f e refl

module _ (c : Cache) (sound : Sound c) (entries : (a : ℕ) (e : Entry) → get c.rows a ≡ Some e → EntryAllowed e) where
  listed_back : (a : ℕ) → elem a c.recency ≡ true → address_at c.rows (row_number c.rows a) ≡ a
  listed_back a h = address_back c.rows a (here_of is_listed (get c.rows a) (sym (sound.listed a) ∙ h))

  used_back : (a : ℕ) → elem a (addresses c.rows) ≡ true → address_at c.rows (row_number c.rows a) ≡ a
  used_back a h = address_back c.rows a (sym (elem_addresses c.rows a) ∙ h)

  pub numbered_of : Numbered c.rows (map (row_number c.rows) c.recency) (map (row_number c.rows) (addresses c.rows))
  numbered_of = record {
    allowed = λ r. row_allowed (get_or c.rows r None) (λ e q. entries e.address e (get_row c.rows r e sound.distinct q));
    listed = by_number c.rows sound.distinct is_listed c.recency sound.listed;
    once = twice_to (row_number c.rows) (address_at c.rows) c.recency listed_back sound.once;
    used = by_number c.rows sound.distinct (λ e. true) (addresses c.rows) (elem_addresses c.rows);
    rises =
        rising_by (address_at c.rows) (map (row_number c.rows) (addresses c.rows))
        (rw (map_back (row_number c.rows) (address_at c.rows) (addresses c.rows) used_back) (rising_addresses c.rows sound.distinct));
  }

-- ---- numbers of rows

-- where a number stands
pub record At (xs : List ℕ) (x : ℕ) : Type 0 where
  pub place : ℕ
  pub low : place < length xs
  pub is : get_or xs place 0 ≡ x

pub at : (xs : List ℕ) (x : ℕ) → elem x xs ≡ true → At xs x
unfolding elem
at [] x h = no _ refl h
at (y ∷ xs) x h =
    split (eqb y x)
    (λ p. record { place = 0; low = omega arith; is = eqb-true y x p })
    (λ p. let r = at xs x (rw p at h) in record { place = suc r.place; low = let l = r.low in omega arith; is = r.is })

-- the numbers of rows that pass a test are below the row count
pub number_below : (rows : List Row) (test : Entry → Bool) (xs : List ℕ) → ((r : ℕ) → elem r xs ≡ test_row test (get_or rows r None)) → (i : ℕ) → i < length xs
    → get_or xs i 0 < length rows
number_below rows test xs f i h =
    dite (dec_lt (get_or xs i 0) (length rows)) (λ (l : get_or xs i 0 < length rows). l)
    (λ (l : get_or xs i 0 < length rows → ⊥).
    no _ (f (get_or xs i 0) ∙ ap (test_row test) (get_or-eq_default rows None {n = get_or xs i 0} (omega arith))) (elem_at i xs h))

-- and a row past them is not among them
pub none_past : (n : ℕ) (xs : List ℕ) → ((i : ℕ) → i < length xs → get_or xs i 0 < n) → (r : ℕ) → n ≤ r → elem r xs ≡ false
unfolding elem
none_past n [] f r h = refl
none_past n (x ∷ xs) f r h =
    let b : x < n = f 0 (omega arith) in
    rw (ne_eqb x r (λ (e : x ≡ r). omega arith), none_past n xs (λ i k. f (suc i) (omega arith)) r h)
