-- What a good table tells, in the code's own terms.
use Rattle.std.proofs.lemmas.Option.{same_Some, none-some}
use Prim.Native.Nat.{ℕ, suc, ◌+◌, ◌<◌, ◌≤◌}
use Rattle.std.specs.List.{AllWithin, HoldsAt}
use Rattle.std.specs.Option.{MatchOption, unwrap_or}
use Rattle.std.proofs.Common.{Option, None, Some}
use mathlib.Core.Bool.{Bool, true, false, false≢true}
use mathlib.Core.List.{List, [], ◌∷◌}
use Rattle.std.specs.Prelude.{None, Some}
use mathlib.Core.Path.{◌≡◌, refl, sym, ap, ◌∙◌}
use native.Mathlib.Omega.{arith}
use lib.Dec.{eqb}
use lib.ListN.{length, get_or, take, drop, length-map, length-take, length-drop}
use borrow.Author.Tests.{eqb-true}
use Rattle.rules.specs.declared.entry.Entry.{Entry}
use Rattle.rules.specs.Types.{Row}
use Rattle.rules.specs.Addresses.{elem}
use Rattle.rules.specs.Cache.{Cache}
use Rattle.rules.specs.Entries.{is_listed}
use Rattle.rules.specs.Rows.{get, is_here, dirty_at, size_at}
use Rattle.rules.proofs.Found.{present, absent}
use Rattle.rules.proofs.Tests.{split}
use Rattle.layout.specs.Holds.{Holds}
use Rattle.layout.specs.Layout.{width, row_at, recency_at, addresses_at}
use Rattle.layout.specs.Picture.{row_number, address_at, addresses, row_words, run, run_of, entry_of, cache_in}
use Rattle.layout.specs.Places.{place_of}
use Rattle.layout.proofs.Held.{RunAt, run_recency, run_addresses, holds_cache, holds_good, holds_recency, holds_address, holds_word, holds_entry, recency_get, address_get}
use Rattle.layout.proofs.Numbers.{stands, here_of, number_low, address_back, elem_addresses, rising_addresses}
use Rattle.table.specs.declared.lookup.Found.{Found}
use Rattle.table.specs.Asked.{GoodRows, RunIn, RowOf, PlaceIn, DropAt}
use Rattle.table.specs.Told.{found_in}
use Rattle.table.proofs.Between.{place_elem}
use Rattle.table.proofs.Lengths.{at_number, word_of}

-- a table that holds a cache is good
pub good_rows : {ws : List ℕ} {c : Cache} {rest : List ℕ} {rows : ℕ} → Holds ws c rest → rows ≡ length c.rows → GoodRows ws rows
good_rows h e = record { good = holds_good h; size = rw (holds_cache h) e }

module _ {ws : List ℕ} {rows : ℕ} (g : GoodRows ws rows) where
  -- ---- the runs

  run_in : (at : ℕ) (l : List ℕ) → at + length (cache_in ws).rows ≤ length ws → RunAt g.good at l → RunIn ws at rows
  run_in at l k r = rw g.size (record { fits = k; all = r.all ∙ ap (run (length (cache_in ws).rows)) (sym r.own) })

  pub recency_run_same : RunIn ws (recency_at rows) rows
  recency_run_same = let s = g.size in let l = g.good.long in run_in (recency_at rows) (cache_in ws).recency (omega arith) (rw s (run_recency g.good))

  pub address_run : RunIn ws (addresses_at rows) rows
  address_run = let s = g.size in let l = g.good.long in run_in (addresses_at rows) (addresses (cache_in ws).rows) (omega arith) (rw s (run_addresses g.good))

  pub recency_length : length (run_of rows (drop (recency_at rows) ws)) ≡ length (cache_in ws).recency
  recency_length = rw g.size (ap length (run_recency g.good).own ∙ length-map (cache_in ws).recency (row_number (cache_in ws).rows))

  pub address_length : length (run_of rows (drop (addresses_at rows) ws)) ≡ length (addresses (cache_in ws).rows)
  address_length = rw g.size (ap length (run_addresses g.good).own ∙ length-map (addresses (cache_in ws).rows) (row_number (cache_in ws).rows))

  pub recency_number : (pos : ℕ) → pos < length (cache_in ws).recency → RowOf (cache_in ws).rows (get_or (cache_in ws).recency pos 0) (get_or ws (recency_at rows + pos) 0)
  recency_number pos l = record { number = rw g.size (holds_recency g.good pos l); here = recency_get g.good pos l }

  pub address_number : (pos : ℕ) → pos < length (addresses (cache_in ws).rows) → RowOf (cache_in ws).rows (get_or (addresses (cache_in ws).rows) pos 0) (get_or ws (addresses_at rows + pos) 0)
  address_number pos l = record { number = rw g.size (holds_address g.good pos l); here = address_get g.good pos l }

  -- ---- a row

  pub row_word : (i k : ℕ) → i < rows → k < width → get_or ws (row_at i + k) 0 ≡ get_or (row_words (get_or (cache_in ws).rows i None)) k 0
  row_word i k l q = let s = g.size in holds_word g.good i k (omega arith) q

  module _ {a row : ℕ} (r : RowOf (cache_in ws).rows a row) where
    pub row_low : row < rows
    row_low = let n = number_low (cache_in ws).rows a r.here in let s = g.size in let e = r.number in omega arith

    -- and its words are in the table
    pub row_fits : row_at row + width ≤ length ws
    row_fits = let n = row_low in let s = g.size in let l = g.good.long in omega arith

    pub read_get : get (cache_in ws).rows a ≡ Some (entry_of ws row)
    read_get =
        let p = present (λ e. true) (get (cache_in ws).rows a) r.here in
        p.1 ∙ ap Some (sym (ap (entry_of ws) r.number ∙ holds_entry g.good a p.0 p.1))

    pub read_address : (entry_of ws row).address ≡ a
    read_address = (stands (cache_in ws).rows a (entry_of ws row) read_get).address

    pub read_key : get_or ws (row_at row) 0 ≡ a
    unfolding entry_of
    read_key = read_address

  -- ---- an address

  pub elem_here : (a : ℕ) → elem a (cache_in ws).recency ≡ true → is_here (cache_in ws).rows a ≡ true
  elem_here a h = here_of is_listed (get (cache_in ws).rows a) (sym (g.good.steady.sound.listed a) ∙ h)

  -- an address that is there stands at its place among the rising addresses
  pub place_key : (a : ℕ) → is_here (cache_in ws).rows a ≡ true → PlaceIn (addresses (cache_in ws).rows) a (place_of a (addresses (cache_in ws).rows))
  place_key a h = place_elem a _ (rising_addresses (cache_in ws).rows g.good.steady.sound.distinct) (elem_addresses (cache_in ws).rows a ∙ h)

  pub key_here : (a pos : ℕ) → PlaceIn (addresses (cache_in ws).rows) a pos → is_here (cache_in ws).rows a ≡ true
  key_here a pos p = rw p.same at (address_get g.good pos p.low)

-- the row of an entry that stands in the recency list
pub drop_row : {ws : List ℕ} {rows a pos place row : ℕ} → GoodRows ws rows → DropAt (cache_in ws) a pos place row → RowOf (cache_in ws).rows a row
drop_row {pos = pos} g d = record { number = d.number; here = rw d.listed.same at (recency_get g.good pos d.listed.low) }

-- ---- what an entry that was read tells

module _ (rows : List Row) (a : ℕ) (e : Entry) (r : get rows a ≡ Some e) where
  pub told_size : e.size ≡ size_at rows a
  told_size = rw r

  pub told_dirty : e.dirty ≡ dirty_at rows a
  told_dirty = rw r

  pub told_address : e.address ≡ a
  told_address = (stands rows a e r).address

-- ---- what a find tells

pub found_here : (rows : List Row) (a : ℕ) → is_here rows a ≡ true → found_in rows a ≡ Some (record { place = place_of a (addresses rows); row = row_number rows a })
unfolding found_in
found_here rows a h = rw h

pub found_none : (rows : List Row) (a : ℕ) → is_here rows a ≡ false → found_in rows a ≡ None
unfolding found_in
found_none rows a h = rw h

-- an address that was found has a row, and stands at its place
pub found_at : (rows : List Row) (a : ℕ) (f : Found) → found_in rows a ≡ Some f → RowOf rows a f.row × (f.place ≡ place_of a (addresses rows))
found_at rows a f e =
    split (is_here rows a)
    (λ h. let p = same_Some _ f (sym (found_here rows a h) ∙ e) in
    (record { number = ap (λ (g : Found). g.row) (sym p); here = h }, ap (λ (g : Found). g.place) (sym p)))
    (λ h. absurd (none-some f (sym (found_none rows a h) ∙ e)))

pub found_place : {ws : List ℕ} {rows : ℕ} → GoodRows ws rows → (a : ℕ) (f : Found) → found_in (cache_in ws).rows a ≡ Some f → PlaceIn (addresses (cache_in ws).rows) a f.place
found_place {ws} g a f e = let h = found_at (cache_in ws).rows a f e in rw h.1 (place_key g a h.0.here)

pub found_absent : (rows : List Row) (a : ℕ) → found_in rows a ≡ None → is_here rows a ≡ false
found_absent rows a e =
    split (is_here rows a)
    (λ h. absurd (none-some _ (sym e ∙ found_here rows a h)))
    (λ h. h)

pub found_no : (rows : List Row) (a : ℕ) → found_in rows a ≡ None → get rows a ≡ None
found_no rows a e = absent (get rows a) (found_absent rows a e)

pub false_of : (t : Bool) → (t ≡ true → ⊥) → t ≡ false
false_of true h = absurd (h refl)
false_of false h = refl

-- rows of addresses that have one are told apart
pub number_one : (rows : List Row) (a b : ℕ) → is_here rows a ≡ true → is_here rows b ≡ true → row_number rows a ≡ row_number rows b → a ≡ b
number_one rows a b h k e = sym (address_back rows a h) ∙ ap (address_at rows) e ∙ address_back rows b k

-- ---- the place of a listed row

elem_place : (a : ℕ) (l : List ℕ) → elem a l ≡ true → (k : ℕ) × PlaceIn l a k
unfolding elem
elem_place a [] e = absurd (false≢true e)
elem_place a (b ∷ l) e =
    split (eqb b a)
    (λ p. (0, record { low = omega arith; same = eqb-true b a p }))
    (λ p. let k = elem_place a l (simp p at e) in (suc k.0, record { low = let i = k.1.low in omega arith; same = k.1.same }))

module _ {ws : List ℕ} {rows a row : ℕ} (g : GoodRows ws rows) (r : RowOf (cache_in ws).rows a row) where
  pub place_hit : (i : ℕ) → i < rows → get_or ws (recency_at rows + i) 0 ≡ row → PlaceIn (cache_in ws).recency a i
  place_hit i l e =
      let few = g.good.steady.rows in
      let s = g.size in
      let n = row_low g r in
      let k : i < length (cache_in ws).recency = let m = at_number (recency_run_same g) i l (λ q. omega arith) in let z = recency_length g in omega arith in
      let w = recency_number g i k in
      record { low = k; same = number_one (cache_in ws).rows _ a w.here r.here (sym w.number ∙ e ∙ r.number) }

  pub place_missed : elem a (cache_in ws).recency ≡ true → ((k : ℕ) → k < rows → get_or ws (recency_at rows + k) 0 ≡ row → ⊥) → ⊥
  place_missed m none_is =
      let p = elem_place a (cache_in ws).recency m in
      let l = g.good.listed in
      let s = g.size in
      let i = p.1.low in
      none_is p.0 (omega arith) ((recency_number g p.0 i).number ∙ ap (row_number (cache_in ws).rows) p.1.same ∙ sym r.number)

  -- the first word of the run that is the row's number stands at its place
  pub place_first : {at k : ℕ} → at ≡ recency_at rows → k ≡ rows → elem a (cache_in ws).recency ≡ true → (o : Option ℕ)
      → MatchOption o
      (AllWithin (λ w. w ≡ row → ⊥) (take k (drop at ws)) 0 (length (take k (drop at ws))))
      (λ i. (i < length (take k (drop at ws))) × HoldsAt (λ w. w ≡ row) (take k (drop at ws)) i × AllWithin (λ w. w ≡ row → ⊥) (take k (drop at ws)) 0 i)
      → PlaceIn (cache_in ws).recency a (unwrap_or o rows)
  place_first {at} {k} q e m None n =
      let r : RunIn ws at rows = rw q (recency_run_same g) in
      let f = r.fits in
      let s = length-take k (drop at ws) in
      let t = length-drop at ws in
      absurd (place_missed m (λ i l w. n i 0 (omega arith) (omega arith) (word_of r e i 0 l ∙ ap (λ (p : ℕ). get_or ws (p + i) 0) q ∙ w)))
  place_first {at} {k} q e m (Some i) h =
      let r : RunIn ws at rows = rw q (recency_run_same g) in
      let s = length-take k (drop at ws) in
      let l : i < rows = let z = h.0 in omega arith in
      place_hit i l (ap (λ (p : ℕ). get_or ws (p + i) 0) (sym q) ∙ sym (word_of r e i 0 l) ∙ h.1 0)
