-- Entries that become clean one by one: the addresses stay, and so does what is found elsewhere.
use Prim.Native.Nat.{ℕ, ◌+◌, ◌≤◌, ◌<◌}
use mathlib.Core.Bool.{false}
use mathlib.Core.List.{List, [], ◌∷◌, ◌++◌}
use mathlib.Core.Path.{◌≡◌, refl, sym, ap, subst, ◌∙◌}
use native.Mathlib.Numerals.{add-one}
use native.Mathlib.Omega.{arith}
use lib.Dec.{eqb}
use lib.ListN.{length, get_or, take}
use lib.Seq.{take_all, take-suc, length-take-le}
use Rattle.std.proofs.lemmas.List.{get_or-take}
use Rattle.rules.proofs.Found.{get_amend, length_each}
use Rattle.rules.proofs.Tests.{neither}
use Rattle.rules.specs.Addresses.{elem}
use Rattle.rules.specs.Cache.{Cache, with_rows, amend_at}
use Rattle.rules.specs.Entries.{cleaned}
use Rattle.rules.specs.Rows.{get, amend, amend_each}
use Rattle.rules.specs.declared.entry.Entry.{Entry}
use Rattle.rules.specs.Types.{Row}
use Rattle.layout.proofs.Held.{holds_cache, holds_rest}
use Rattle.layout.proofs.Numbers.{elem_addresses, number_low}
use Rattle.layout.proofs.Rows.{addresses_amend, number_amend}
use Rattle.layout.specs.Holds.{Holds}
use Rattle.layout.specs.Picture.{row_number, addresses, cache_in, rest_in}
use Rattle.table.proofs.Told.{good_rows}
use Rattle.table.specs.Asked.{GoodRows, RowOf}
use Rattle.table_tests.specs.Noted.{Noted}
use Rattle.taken_list.proofs.Marked.{named_row}
use Rattle.lists.specs.Taken.{taken}

-- ---- entries cleaned one by one

pub each_last : (p : List ℕ) (a : ℕ) (f : Entry → Entry) (rows : List Row) → amend_each (p ++ a ∷ []) f rows ≡ amend a f (amend_each p f rows)
unfolding amend_each
each_last [] a f rows = refl
each_last (x ∷ p) a f rows = each_last p a f (amend x f rows)

pub each_other : (p : List ℕ) (a : ℕ) (rows : List Row) → elem a p ≡ false → get (amend_each p cleaned rows) a ≡ get rows a
unfolding amend_each elem
each_other [] a rows n = refl
each_other (x ∷ p) a rows n =
    let k = neither (eqb x a) (elem a p) n in
    each_other p a (amend x cleaned rows) k.1 ∙ get_amend x cleaned (λ e. refl) a rows ∙ rw k.0

pub each_addresses : (p : List ℕ) (rows : List Row) → addresses (amend_each p cleaned rows) ≡ addresses rows
unfolding amend_each
each_addresses [] rows = refl
each_addresses (x ∷ p) rows = each_addresses p (amend x cleaned rows) ∙ addresses_amend x cleaned (λ e. refl) rows

each_number : (p : List ℕ) (rows : List Row) (a : ℕ) → row_number (amend_each p cleaned rows) a ≡ row_number rows a
unfolding amend_each
each_number [] rows a = refl
each_number (x ∷ p) rows a = each_number p (amend x cleaned rows) a ∙ number_amend x cleaned (λ e. refl) rows a

-- rows stay where they are
pub each_row : (p : List ℕ) {rows : List Row} {a row : ℕ} → RowOf rows a row → RowOf (amend_each p cleaned rows) a row
each_row p {rows} {a} r = record {
  number = r.number ∙ sym (each_number p rows a);
  here = sym (elem_addresses (amend_each p cleaned rows) a) ∙ ap (elem a) (each_addresses p rows) ∙ elem_addresses rows a ∙ r.here;
}

module _ {ws : List ℕ} (c : Cache) {rest : List ℕ} (p : List ℕ) (h : Holds ws (taken p c) rest) where
  pub taken_rows : {n : ℕ} → n ≡ length c.rows → GoodRows ws n
  taken_rows e = good_rows h (e ∙ sym (length_each p cleaned c.rows))

  pub taken_row : {a row : ℕ} → RowOf c.rows a row → RowOf (cache_in ws).rows a row
  taken_row r = rw (holds_cache h) (each_row p r)

  pub taken_last : {out : List ℕ} (a : ℕ) → Holds out (amend_at a cleaned (cache_in ws)) (rest_in ws) → Holds out (taken (p ++ a ∷ []) c) rest
  taken_last {out} a k =
      subst (λ (rows : List Row). Holds out (with_rows rows c.recency c) rest) (sym (each_last p a cleaned c.rows))
      (subst (λ (r : List ℕ). Holds out (amend_at a cleaned (taken p c)) r) (holds_rest h) (subst (λ (d : Cache). Holds out (amend_at a cleaned d) (rest_in ws)) (holds_cache h) k))

-- ---- a list's entries cleaned

pub record Cleaning (c : Cache) (rest list ws : List ℕ) (i : ℕ) : Type 0 where
  pub low : i ≤ length list
  pub holds : Holds ws (taken (take i list) c) rest

pub cleaning_start : {ws : List ℕ} {c : Cache} {rest : List ℕ} (list : List ℕ) → Holds ws c rest → Cleaning c rest list ws 0
unfolding amend_each
cleaning_start list h = record { low = omega arith; holds = h }

module _ {c : Cache} {rest list ws : List ℕ} {i : ℕ} (k : Cleaning c rest list ws i) where
  pub cleaning_on : {out : List ℕ} → i < length list → Holds out (amend_at (get_or list i 0) cleaned (cache_in ws)) (rest_in ws) → Cleaning c rest list out (i + 1)
  cleaning_on {out} h m = record {
    low = omega arith;
    holds = subst (λ (l : List ℕ). Holds out (taken l c) rest) (sym (ap (λ (n : ℕ). take n list) (add-one i) ∙ take-suc list i 0 h)) (taken_last c (take i list) k.holds (get_or list i 0) m);
  }

  pub cleaning_end : length list ≤ i → Holds ws (taken list c) rest
  cleaning_end h = subst (λ (l : List ℕ). Holds ws (taken l c) rest) (take_all i list h) k.holds

-- ---- by the rows noted

-- the rows of the addresses are the first of the row numbers
pub noted_first : {c : Cache} {list named : List ℕ} {n : ℕ} → Noted c list named n → n ≤ length named → Noted c list (take n named) (length (take n named))
noted_first {named = named} {n} k low = record {
  count = length-take-le n named low ∙ k.count;
  rows = record { good = k.rows.good; few = k.rows.few; each = λ i h. get_or-take n named i 0 (omega (arith, k.count)) ∙ k.rows.each i h };
}

module _ {c : Cache} {list named : List ℕ} {n i row : ℕ} (k : Noted c list named n) (h : i < n) (here : row ≡ get_or named i 0) where
  pub noted_low : row < length c.rows
  noted_low =
      let r = named_row k.rows i (omega (arith, k.count)) in
      let l = number_low c.rows (get_or list i 0) r.here in
      let e = r.number in
      omega arith

  module _ {rest ws : List ℕ} (w : Cleaning c rest list ws i) where
    pub noted_rows : {m : ℕ} → m ≡ length c.rows → GoodRows ws m
    noted_rows e = taken_rows c (take i list) w.holds e

    noted_row : RowOf (cache_in ws).rows (get_or list i 0) row
    noted_row = rw here (taken_row c (take i list) w.holds (named_row k.rows i (omega (arith, k.count))))

    module _ {a : ℕ} (e : (b : ℕ) → RowOf (cache_in ws).rows b row → a ≡ b) where
      pub noted_address : RowOf (cache_in ws).rows a row
      noted_address = rw (e (get_or list i 0) noted_row) noted_row

      pub noted_on : {out : List ℕ} → Holds out (amend_at a cleaned (cache_in ws)) (rest_in ws) → Cleaning c rest list out (i + 1)
      noted_on {out} m = cleaning_on w (omega (arith, k.count)) (subst (λ (b : ℕ). Holds out (amend_at b cleaned (cache_in ws)) (rest_in ws)) (e (get_or list i 0) noted_row) m)
