-- Row numbers for addresses, and how many rows are used.
use Prim.Native.Nat.{ℕ, suc, ◌<◌, ◌≤◌}
use mathlib.Core.Bool.{Bool, true, false, false≢true}
use mathlib.Core.List.{List, [], ◌∷◌, map}
use Rattle.std.proofs.lemmas.Option.{none-some}
use Rattle.std.specs.Prelude.{Option, None, Some}
use mathlib.Core.Path.{◌≡◌, refl, sym, ap, ap₂, ◌∙◌}
use native.Mathlib.Omega.{arith}
use lib.Dec.{eqb, ltb}
use lib.ListN.{length, get_or}
use borrow.Author.Tests.{eqb-true, eqb-false, ltb-true, ltb-false, lt-ltb, le-ltb}
use Rattle.rules.specs.declared.entry.Entry.{Entry}
use Rattle.rules.specs.Types.{Row}
use Rattle.rules.specs.Addresses.{elem, strike, twice, insert_rising}
use Rattle.rules.specs.Allowed.{Distinct, Sound}
use Rattle.rules.specs.Cache.{Cache}
use Rattle.rules.specs.Entries.{is_listed, with_dirty}
use Rattle.rules.specs.Rising.{Rising}
use Rattle.rules.specs.Rows.{get, passes, amend_all, remove, place, has_free, dirty_rising, is_here}
use Rattle.rules.proofs.Found.{present, get_remove, distinct_remove, distinct_amend_all}
use Rattle.rules.proofs.Lists.{elem_first, elem_strike, strike_absent, twice_strike}
use Rattle.rules.proofs.Rising.{rising_unique, rising_once, flush_order}
use Rattle.rules.proofs.Rising.{elem_insert}
use Rattle.rules.proofs.Tests.{split, choose, neither}
use Rattle.layout.specs.Picture.{row_number, address_at, addresses}
use Rattle.layout.proofs.Rising.{Each, each_of, each_then, rising_strike, length_insert, insert_swap}

-- ---- where an address stands

pub record Stands (rows : List Row) (a : ℕ) (e : Entry) : Type 0 where
  pub row : get_or rows (row_number rows a) None ≡ Some e
  pub low : row_number rows a < length rows
  pub address : e.address ≡ a

pub stands : (rows : List Row) (a : ℕ) (e : Entry) → get rows a ≡ Some e → Stands rows a e
unfolding get row_number
stands [] a e h = absurd (none-some e h)
stands (None ∷ rows) a e h = let k = stands rows a e h in record { row = k.row; low = let l = k.low in omega arith; address = k.address }
stands (Some x ∷ rows) a e h =
    split (eqb x.address a)
    (λ p. let q : Some x ≡ Some e = simp p at h in
    let s : x ≡ e = cc in
    record { row = rw (p, s); low = rw p (omega arith); address = sym (ap (λ (z : Entry). z.address) s) ∙ eqb-true x.address a p })
    (λ p. let k = stands rows a e (simp p at h) in record { row = rw p k.row; low = rw p (let l = k.low in omega arith); address = k.address })

-- an address that has a row
pub here_of : (test : Entry → Bool) (o : Option Entry) → passes test o ≡ true → passes (λ e. true) o ≡ true
here_of test None h = absurd (false≢true h)
here_of test (Some e) h = refl

module _ (rows : List Row) (a : ℕ) (h : is_here rows a ≡ true) where
  pub number_low : row_number rows a < length rows
  number_low = let p = present (λ e. true) (get rows a) h in (stands rows a p.0 p.1).low

  pub address_back : address_at rows (row_number rows a) ≡ a
  address_back = let p = present (λ e. true) (get rows a) h in let s = stands rows a p.0 p.1 in rw s.row s.address

abbrev pub Here : List Row → ℕ → Type 0
Here rows a = is_here rows a ≡ true

pub map_back : (rows : List Row) (l : List ℕ) → Each (Here rows) l → map (address_at rows) (map (row_number rows) l) ≡ l
map_back rows [] h = refl
map_back rows (a ∷ l) h = ap₂ (λ (x : ℕ) (y : List ℕ). x ∷ y) (address_back rows a h.0) (map_back rows l h.1)

pub numbers_low : (rows : List Row) (n : ℕ) (l : List ℕ) → length rows ≤ n → Each (Here rows) l → Each (λ (r : ℕ). r < n) (map (row_number rows) l)
numbers_low rows n l k h = each_then (Here rows) (λ (r : ℕ). r < n) (row_number rows) l (λ b m. let i = number_low rows b m in omega arith) h

-- ---- the rising list of all addresses

-- they are the dirty addresses of rows whose every entry is dirty
as_dirty : (rows : List Row) → addresses rows ≡ dirty_rising (amend_all (with_dirty true) rows)
unfolding addresses dirty_rising amend_all
as_dirty [] = refl
as_dirty (None ∷ rows) = as_dirty rows
as_dirty (Some e ∷ rows) = ap (insert_rising e.address) (as_dirty rows)

pub rising_addresses : (rows : List Row) → Distinct rows → Rising (addresses rows)
rising_addresses rows d =
    rw (as_dirty rows) (flush_order (amend_all (with_dirty true) rows) (distinct_amend_all (with_dirty true) (λ e. refl) rows d)).rising

pub elem_addresses : (rows : List Row) (b : ℕ) → elem b (addresses rows) ≡ is_here rows b
unfolding elem addresses get
elem_addresses [] b = refl
elem_addresses (None ∷ rows) b = elem_addresses rows b
elem_addresses (Some e ∷ rows) b =
    split (eqb e.address b)
    (λ q. simp (q, elem_insert))
    (λ q. simp (q, elem_insert, elem_addresses rows b))

pub addresses_remove : (a : ℕ) (rows : List Row) → Distinct rows → addresses (remove a rows) ≡ strike a (addresses rows)
addresses_remove a rows d =
    rising_unique (addresses (remove a rows)) (strike a (addresses rows))
    (rising_addresses (remove a rows) (distinct_remove a rows d)) (rising_strike a (addresses rows) (rising_addresses rows d))
    (λ b. rw (elem_addresses (remove a rows) b, elem_strike a b (addresses rows), elem_addresses rows b, get_remove a b rows)
    (split (eqb a b) (λ q. simp q) (λ q. simp q)))

pub addresses_place : (e : Entry) (rows : List Row) → has_free rows ≡ true → get rows e.address ≡ None
    → addresses (place e rows) ≡ insert_rising e.address (addresses rows)
unfolding addresses place has_free get
addresses_place e [] h n = absurd (false≢true h)
addresses_place e (None ∷ rows) h n = refl
addresses_place e (Some x ∷ rows) h n =
    split (eqb x.address e.address)
    (λ p. absurd (none-some x (sym (simp p at n))))
    (λ p. ap (insert_rising x.address) (addresses_place e rows h (simp p at n)) ∙ either_way x.address e.address (addresses rows) p)
  where
    either_way : (a b : ℕ) (l : List ℕ) → eqb a b ≡ false → insert_rising a (insert_rising b l) ≡ insert_rising b (insert_rising a l)
    either_way a b l p =
        split (ltb a b)
        (λ q. insert_swap a b l (ltb-true a b q))
        (λ q. sym (insert_swap b a l (omega (arith, ltb-false a b q, eqb-false a b p))))

-- ---- how many rows are used

pub used_most : (rows : List Row) → length (addresses rows) ≤ length rows
unfolding addresses
used_most [] = omega arith
used_most (None ∷ rows) = let h = used_most rows in omega arith
used_most (Some e ∷ rows) = let h = used_most rows in let l = length_insert e.address (addresses rows) in omega arith

ltb_suc : (m n : ℕ) → ltb m n ≡ ltb (suc m) (suc n)
ltb_suc m n =
    split (ltb m n)
    (λ p. p ∙ sym (lt-ltb (suc m) (suc n) (omega (arith, ltb-true m n p))))
    (λ p. p ∙ sym (le-ltb (suc m) (suc n) (omega (arith, ltb-false m n p))))

-- a row is free where fewer are used than there are
pub free_is : (rows : List Row) → has_free rows ≡ ltb (length (addresses rows)) (length rows)
unfolding has_free addresses
free_is [] = refl
free_is (None ∷ rows) = let h = used_most rows in sym (lt-ltb (length (addresses rows)) (suc (length rows)) (omega arith))
free_is (Some e ∷ rows) =
    free_is rows ∙ ltb_suc (length (addresses rows)) (length rows)
    ∙ ap (λ (n : ℕ). ltb n (suc (length rows))) (sym (length_insert e.address (addresses rows)))

strike_one : (a : ℕ) (l : List ℕ) → twice l ≡ false → length l ≤ suc (length (strike a l))
unfolding twice strike
strike_one a [] h = omega arith
strike_one a (x ∷ l) h =
    let k = neither (elem x l) (twice l) h in
    choose (λ (m : List ℕ). suc (length l) ≤ suc (length m)) (eqb x a)
    (λ p. let e = ap length (strike_absent a l (ap (λ (y : ℕ). elem y l) (sym (eqb-true x a p)) ∙ k.0)) in omega arith)
    (λ p. let ih = strike_one a l k.1 in omega arith)

-- a list of distinct addresses that have rows is no longer than the used rows
pub pigeon : (rows : List Row) (l : List ℕ) → twice l ≡ false → ((b : ℕ) → elem b l ≡ true → is_here rows b ≡ true) → length l ≤ length (addresses rows)
unfolding addresses get
pigeon [] [] t h = omega arith
pigeon [] (a ∷ l) t h = absurd (false≢true (h a (elem_first a l)))
pigeon (None ∷ rows) l t h = pigeon rows l t h
pigeon (Some e ∷ rows) l t h =
    let k = strike_one e.address l t in
    let ih = pigeon rows (strike e.address l) (twice_strike e.address l t) later in
    let i = length_insert e.address (addresses rows) in
    omega arith
  where
    later : (b : ℕ) → elem b (strike e.address l) ≡ true → is_here rows b ≡ true
    later b m =
        split (eqb e.address b)
        (λ p. absurd (false≢true (sym (elem_strike e.address b l ∙ simp p) ∙ m)))
        (λ p. let q = h b (sym (elem_strike e.address b l ∙ simp p) ∙ m) in simp p at q)

-- ---- the two runs of a sound cache

module _ (c : Cache) (s : Sound c) where
  listed_here : (b : ℕ) → elem b c.recency ≡ true → is_here c.rows b ≡ true
  listed_here b m = here_of is_listed (get c.rows b) (sym (s.listed b) ∙ m)

  pub recency_here : Each (Here c.rows) c.recency
  recency_here = each_of (Here c.rows) c.recency listed_here

  pub addresses_here : Each (Here c.rows) (addresses c.rows)
  addresses_here = each_of (Here c.rows) (addresses c.rows) (λ b m. sym (elem_addresses c.rows b) ∙ m)

  pub addresses_once : twice (addresses c.rows) ≡ false
  addresses_once = rising_once (addresses c.rows) (rising_addresses c.rows s.distinct)

  pub listed_used : length c.recency ≤ length (addresses c.rows)
  listed_used = pigeon c.rows c.recency s.once listed_here

  pub listed_most : length c.recency ≤ length c.rows
  listed_most = let l = listed_used in let u = used_most c.rows in omega arith
