-- The rows that a list names, marked and noted: a row is marked exactly when an address passed stands in it, and those passed are dirty
-- and distinct, so that there are no more of them than rows.
use Rattle.std.proofs.lemmas.Option.{none-some}
use Rattle.std.specs.Prelude.{None, Some}
use Prim.Native.Nat.{ℕ, zero, suc, ◌+◌, ◌≤◌, ◌<◌}
use mathlib.Core.Bool.{Bool, true, false, not, ◌||◌, false≢true}
use mathlib.Core.List.{List, [], ◌∷◌, ◌++◌, map}
use mathlib.Core.Logic.{⊎_elim}
use mathlib.Core.Path.{◌≡◌, refl, sym, ap, ap₂, ◌∙◌}
use native.Mathlib.Nat.{eq-or-lt_of_le}
use native.Mathlib.Numerals.{add-one}
use native.Mathlib.Omega.{arith}
use lib.Dec.{eqb}
use lib.ListN.{length, get_or, take, drop, set, replicate, length-set, length-replicate, length-take}
use lib.Seq.{take_all, take-suc, split_at, get_or-set_same, get_or-set_other}
use borrow.Author.Tests.{eqb-true, eqb-false, eq-eqb, not-false}
use Rattle.rules.proofs.Lists.{elem_append, elem_first, twice_last}
use Rattle.rules.proofs.Tests.{split, either, or_true, or_false, neither, swap}
use Rattle.rules.specs.Addresses.{elem, some_address, twice}
use Rattle.rules.specs.Rows.{get, is_here, dirty_at}
use Rattle.rules.specs.Types.{Row}
use Rattle.layout.proofs.Cuts.{elem_at}
use Rattle.layout.proofs.Numbers.{here_of, number_low, pigeon, used_most}
use Rattle.layout.specs.Picture.{row_number}
use Rattle.rules.specs.Limits.{most_rows}
use Rattle.table.proofs.Told.{number_one, found_at, found_no}
use Rattle.table.specs.Asked.{RowOf}
use Rattle.table.specs.Told.{found_in}
use Rattle.table.specs.declared.lookup.Found.{Found}
use Rattle.taken_list.specs.Listed.{bad_list, dirty_found, Named, JudgedBad}

-- ---- lists in two parts

-- an address that stood before
pub twice_again : (a : ℕ) (p q : List ℕ) → elem a p ≡ true → twice (p ++ a ∷ q) ≡ true
unfolding elem twice
twice_again a [] q e = absurd (false≢true e)
twice_again a (x ∷ p) q e =
    split (eqb x a)
    (λ h. let s : elem x (p ++ a ∷ q) ≡ true = elem_append x p (a ∷ q) ∙ ap (λ (b : Bool). elem x p || b) (ap (λ (y : ℕ). elem x (y ∷ q)) (sym (eqb-true x a h)) ∙ elem_first x q) ∙ or_true (elem x p) in
    rw s)
    (λ h. rw (twice_again a p q (simp h at e)) (or_true (elem x (p ++ a ∷ q))))

some_append : (test : ℕ → Bool) (p q : List ℕ) → some_address test (p ++ q) ≡ (some_address test p || some_address test q)
unfolding some_address
some_append test [] q = refl
some_append test (x ∷ p) q = rw (some_append test p q) (go (test x))
  where
    go : (s : Bool) → (s || (some_address test p || some_address test q)) ≡ ((s || some_address test p) || some_address test q)
    go true = refl
    go false = refl

some_at : (test : ℕ → Bool) (a : ℕ) (p q : List ℕ) → test a ≡ true → some_address test (p ++ a ∷ q) ≡ true
unfolding some_address
some_at test a [] q e = rw e
some_at test a (x ∷ p) q e = rw (some_at test a p q e) (or_true (test x))

map_last : (f : ℕ → ℕ) (a : ℕ) (p : List ℕ) → map f (p ++ a ∷ []) ≡ map f p ++ f a ∷ []
map_last f a [] = refl
map_last f a (x ∷ p) = ap (λ (l : List ℕ). f x ∷ l) (map_last f a p)

-- ---- rows and addresses

elem_map : (f : ℕ → ℕ) (a : ℕ) (p : List ℕ) → elem a p ≡ true → elem (f a) (map f p) ≡ true
unfolding elem
elem_map f a [] e = absurd (false≢true e)
elem_map f a (x ∷ p) e =
    split (eqb x a)
    (λ h. rw (eq-eqb (f x) (f a) (ap f (eqb-true x a h))))
    (λ h. rw (elem_map f a p (simp h at e)) (or_true (eqb (f x) (f a))))

-- a row that an address passed stands in is its row alone
elem_row : (rows : List Row) (a : ℕ) (p : List ℕ) → is_here rows a ≡ true → some_address (λ b. not (dirty_at rows b)) p ≡ false
    → elem (row_number rows a) (map (row_number rows) p) ≡ true → elem a p ≡ true
unfolding elem some_address
elem_row rows a [] h s e = absurd (false≢true e)
elem_row rows a (x ∷ p) h s e =
    let k = neither (not (dirty_at rows x)) (some_address (λ b. not (dirty_at rows b)) p) s in
    split (eqb (row_number rows x) (row_number rows a))
    (λ q. let i = number_one rows x a (here_of (λ e. e.dirty) (get rows x) (not-false (dirty_at rows x) k.0)) h (eqb-true (row_number rows x) (row_number rows a) q) in
    rw (eq-eqb x a i))
    (λ q. rw (elem_row rows a p h k.1 (simp q at e)) (or_true (eqb x a)))

-- ---- what a search for a dirty address tells

module _ (rows : List Row) (a : ℕ) where
  pub in_dirty : dirty_at rows a ≡ true → dirty_found rows a ≡ found_in rows a
  unfolding dirty_found
  in_dirty d = rw d

  pub in_clean : dirty_at rows a ≡ false → dirty_found rows a ≡ None
  unfolding dirty_found
  in_clean d = rw d

  pub in_none : found_in rows a ≡ None → dirty_found rows a ≡ None
  in_none e = in_clean (rw (found_no rows a e))

  dirty_none : dirty_found rows a ≡ None → dirty_at rows a ≡ false
  dirty_none e =
      split (dirty_at rows a)
      (λ d. let n = found_no rows a (sym (in_dirty d) ∙ e) in let z : dirty_at rows a ≡ false = rw n in either (dirty_at rows a) d z)
      (λ d. d)

  module _ {f : Found} (e : dirty_found rows a ≡ Some f) where
    told_dirty : dirty_at rows a ≡ true
    told_dirty =
        split (dirty_at rows a)
        (λ d. d)
        (λ d. absurd (none-some f (sym (in_clean d) ∙ e)))

    pub told_found : found_in rows a ≡ Some f
    told_found = sym (in_dirty told_dirty) ∙ e

    told_row : RowOf rows a f.row
    told_row = (found_at rows a f told_found).0

-- ---- addresses that are dirty here

dirty_all : (rows : List Row) (l : List ℕ) → some_address (λ b. not (dirty_at rows b)) l ≡ false → (a : ℕ) → elem a l ≡ true → dirty_at rows a ≡ true
unfolding elem some_address
dirty_all rows [] s a e = absurd (false≢true e)
dirty_all rows (x ∷ l) s a e =
    let k = neither (not (dirty_at rows x)) (some_address (λ b. not (dirty_at rows b)) l) s in
    split (eqb x a)
    (λ p. ap (dirty_at rows) (sym (eqb-true x a p)) ∙ not-false (dirty_at rows x) k.0)
    (λ p. dirty_all rows l k.1 a (simp p at e))

-- distinct ones are no more than rows
few_named : (rows : List Row) (l : List ℕ) → twice l ≡ false → some_address (λ b. not (dirty_at rows b)) l ≡ false → length l ≤ length rows
few_named rows l t s =
    let p = pigeon rows l t (λ b m. here_of (λ e. e.dirty) (get rows b) (dirty_all rows l s b m)) in
    let u = used_most rows in
    omega arith

-- ---- the walk

pub record Marked (rows : List Row) (list named : List ℕ) (seen : List Bool) (i : ℕ) : Type 0 where
  pub low : i ≤ length list
  pub size : length seen ≡ most_rows
  pub once : twice (take i list) ≡ false
  pub dirty : some_address (λ a. not (dirty_at rows a)) (take i list) ≡ false
  pub marks : (r : ℕ) → get_or seen r false ≡ elem r (map (row_number rows) (take i list))
  pub long : length named ≡ most_rows
  pub noted : (k : ℕ) → k < i → get_or named k 0 ≡ row_number rows (get_or list k 0)

none_seen : (k r : ℕ) → get_or (replicate k false) r false ≡ false
none_seen zero zero = refl
none_seen zero (suc r) = refl
none_seen (suc k) zero = refl
none_seen (suc k) (suc r) = none_seen k r

pub marked_start : (rows : List Row) (list named : List ℕ) → length named ≡ most_rows → Marked rows list named (replicate most_rows false) 0
unfolding elem twice some_address
marked_start rows list named l = record {
  low = omega arith;
  size = length-replicate most_rows false;
  once = refl;
  dirty = refl;
  marks = none_seen most_rows;
  long = l;
  noted = λ k h. absurd (omega arith);
}

-- one more row marked
seen_set : (seen : List Bool) (row r : ℕ) → row < length seen → get_or (set seen row true) r false ≡ (get_or seen r false || eqb row r)
seen_set seen row r h =
    split (eqb row r)
    (λ q. rw (q, ← eqb-true row r q, get_or-set_same seen row true false h) (sym (or_true (get_or seen row false))))
    (λ q. rw (q, or_false (get_or seen r false)) (get_or-set_other seen row r true false (eqb-false r row (swap row r q))))

-- more addresses than rows: one of them comes twice or is not dirty
pub long_bad : (rows : List Row) (l : List ℕ) → length rows < length l → bad_list rows l ≡ true
long_bad rows l h =
    split (bad_list rows l)
    (λ b. b)
    (λ b. let n = neither (twice l) _ b in let f = few_named rows l n.0 n.1 in absurd (omega arith))

pub judged_bad : {rows : List Row} {list named : List ℕ} → bad_list rows list ≡ true → JudgedBad rows list named true
judged_bad b = record { verdict = sym b; noted = λ e. absurd (false≢true (sym e)) }

module _ {rows : List Row} {list named : List ℕ} {seen : List Bool} {i : ℕ} (k : Marked rows list named seen i) where
  module _ (h : i < length list) where
    whole : list ≡ take i list ++ get_or list i 0 ∷ drop (suc i) list
    whole = split_at list i 0 h

    pub bad_absent : dirty_found rows (get_or list i 0) ≡ None → JudgedBad rows list named true
    bad_absent e = judged_bad
        (ap (λ (b : Bool). twice list || b)
        (ap (some_address (λ a. not (dirty_at rows a))) whole
        ∙ some_at (λ a. not (dirty_at rows a)) (get_or list i 0) (take i list) (drop (suc i) list) (ap not (dirty_none rows (get_or list i 0) e)))
        ∙ or_true (twice list))

    module _ {f : Found} (e : dirty_found rows (get_or list i 0) ≡ Some f) (few : length rows ≤ most_rows) where
      is_row : RowOf rows (get_or list i 0) f.row
      is_row = told_row rows (get_or list i 0) e

      pub row_low : f.row < most_rows
      row_low = let l = number_low rows (get_or list i 0) is_row.here in let n = is_row.number in omega arith

      pub bad_again : get_or seen f.row false ≡ true → JudgedBad rows list named true
      bad_again s =
          let m = elem_row rows (get_or list i 0) (take i list) is_row.here k.dirty
          (ap (λ (x : ℕ). elem x (map (row_number rows) (take i list))) (sym is_row.number) ∙ sym (k.marks f.row) ∙ s) in
          judged_bad (ap (λ (b : Bool). b || some_address (λ a. not (dirty_at rows a)) list) (ap twice whole ∙ twice_again (get_or list i 0) (take i list) (drop (suc i) list) m))

      module _ (s : get_or seen f.row false ≡ false) where
        low_seen : f.row < length seen
        low_seen = let l = row_low in let z = k.size in omega arith

        front : take (i + 1) list ≡ take i list ++ get_or list i 0 ∷ []
        front = rw add-one (take-suc list i 0 h)

        once_on : twice (take (i + 1) list) ≡ false
        once_on =
            let new : elem (get_or list i 0) (take i list) ≡ false =
            split (elem (get_or list i 0) (take i list))
            (λ m. either (get_or seen f.row false) (k.marks f.row ∙ ap (λ (x : ℕ). elem x (map (row_number rows) (take i list))) is_row.number ∙ elem_map (row_number rows) (get_or list i 0) (take i list) m) s)
            (λ m. m) in
            rw front (twice_last (get_or list i 0) (take i list) k.once new)

        dirty_on : some_address (λ a. not (dirty_at rows a)) (take (i + 1) list) ≡ false
        unfolding some_address
        dirty_on = rw front (some_append (λ a. not (dirty_at rows a)) (take i list) (get_or list i 0 ∷ []) ∙ rw (k.dirty, told_dirty rows (get_or list i 0) e))

        pub place_low : i < most_rows
        place_low = let m = few_named rows (take (i + 1) list) once_on dirty_on in let n = length-take (i + 1) list in omega arith

        noted_on : (j : ℕ) → j < i + 1 → get_or (set named i f.row) j 0 ≡ row_number rows (get_or list j 0)
        noted_on j l =
            let p = place_low in
            let z = k.long in
            ⊎_elim
            (λ (q : j ≡ i). rw q (get_or-set_same named i f.row 0 (omega arith) ∙ is_row.number))
            (λ (q : j < i). get_or-set_other named i j f.row 0 (λ n. omega arith) ∙ k.noted j q)
            (eq-or-lt_of_le {n = j} {m = i} (omega arith))

        pub marked_on : Marked rows list (set named i f.row) (set seen f.row true) (i + 1)
        unfolding elem
        marked_on = record {
          low = omega arith;
          size = length-set seen f.row true ∙ k.size;
          once = once_on;
          dirty = dirty_on;
          marks = λ x. seen_set seen f.row x low_seen
              ∙ rw (front, map_last (row_number rows) (get_or list i 0) (take i list), elem_append x (map (row_number rows) (take i list)) (row_number rows (get_or list i 0) ∷ []), ← is_row.number, k.marks x)
              (ap (λ (b : Bool). elem x (map (row_number rows) (take i list)) || b) (sym (or_false (eqb f.row x))));
          long = length-set named i f.row ∙ k.long;
          noted = noted_on;
        }

  pub good_list : length rows ≤ most_rows → length list ≤ i → JudgedBad rows list named false
  good_list few h =
      let t = take_all i list h in
      let good : bad_list rows list ≡ false = ap₂ (λ (s u : Bool). s || u) (ap twice (sym t) ∙ k.once) (ap (some_address (λ a. not (dirty_at rows a))) (sym t) ∙ k.dirty) in
      let m = few_named rows list (neither (twice list) _ good).0 (neither (twice list) _ good).1 in
      record { verdict = sym good; noted = λ e. record { good = good; few = omega arith; each = λ j l. k.noted j (omega arith) } }

-- the rows noted are the list's
pub named_row : {rows : List Row} {list named : List ℕ} → Named rows list named → (i : ℕ) → i < length list → RowOf rows (get_or list i 0) (get_or named i 0)
named_row {rows} {list} n i h =
    let a = get_or list i 0 in
    let dirty = dirty_all rows list (neither (twice list) _ n.good).1 a (elem_at i list h) in
    record { number = n.each i h; here = here_of (λ e. e.dirty) (get rows a) dirty }

pub named_low : {rows : List Row} {list named : List ℕ} → length rows ≤ most_rows → Named rows list named → (i : ℕ) → i < length list → get_or named i 0 < most_rows
named_low {rows} {list} few n i h =
    let r = named_row n i h in
    let l = number_low rows (get_or list i 0) r.here in
    let e = r.number in
    omega arith
