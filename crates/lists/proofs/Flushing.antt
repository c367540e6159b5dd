-- A flush walks the rising addresses. Those dirty are the rules' list, since both rise and have the same addresses; an address that
-- is still to come was not cleaned, so it is dirty, and of the size, as at the start.
use Rattle.std.specs.Prelude.{if◌then◌else◌, Option, Some, option_map, None, unwrap_or}
use Prim.Native.Nat.{ℕ, suc, ◌+◌, ◌≤◌, ◌<◌}
use mathlib.Core.Bool.{Bool, true, false, ◌&&◌}
use mathlib.Core.List.{List, [], ◌∷◌, ◌++◌}
use mathlib.Core.Option
use mathlib.Core.Path.{◌≡◌, refl, sym, ap, ap₂, subst, ◌∙◌}
use native.Mathlib.Numerals.{add-one}
use native.Mathlib.Omega.{arith}
use lib.Dec.{eqb}
use lib.ListN.{length, get_or, take, drop, length-map, length-append}
use lib.Seq.{take_all, take-suc, split_at}
use borrow.Author.Tests.{eqb-true}
use Rattle.rules.proofs.Rising.{flush_unique}
use Rattle.rules.proofs.Tests.{split, choose, either, and_true, and_false}
use Rattle.rules.specs.Addresses.{elem, twice}
use Rattle.rules.specs.Allowed.{Distinct, Sound}
use Rattle.rules.specs.Cache.{Cache, amend_at}
use Rattle.rules.specs.Entries.{cleaned}
use Rattle.rules.specs.Requests.{writes_of}
use Rattle.rules.specs.Rising as rules-rising
use Rattle.rules.specs.Rows.{get, passes, amend_each, dirty_at, dirty_rising, size_at}
use Rattle.rules.specs.declared.entry.Entry.{Entry}
use Rattle.rules.specs.Types.{Row}
use Rattle.rules.specs.declared.order.Kind.TheVariants.{Write}
use Rattle.rules.specs.declared.order.Order.{Order}
use Rattle.layout.proofs.Held.{holds_cache}
use Rattle.layout.proofs.Numbers.{elem_addresses, rising_addresses, addresses_once}
use Rattle.layout.proofs.Rising.{Above, Rising}
use Rattle.layout.specs.Holds.{Holds}
use Rattle.layout.specs.Leaves.{put_order}
use Rattle.layout.specs.Picture.{addresses, cache_in, rest_in}
use Rattle.room.proofs.Orders.{put_next}
use Rattle.room.specs.Did.{put_orders, Did}
use Rattle.table.specs.Asked.{GoodRows}
use Rattle.table.specs.Told.{Gives}
use Rattle.lists.specs.Flushed.{all_written}
use Rattle.lists.specs.Taken.{taken}
use Rattle.lists.proofs.Cleaning.{each_other, each_addresses, taken_rows, taken_last}
use Rattle.taken_list.proofs.Marked.{twice_again}

-- ---- the dirty addresses of a list

unfoldable pub dirty_of : List Row → List ℕ → List ℕ
dirty_of rows [] = []
dirty_of rows (a ∷ l) = if dirty_at rows a then a ∷ dirty_of rows l else dirty_of rows l

elem_of : (rows : List Row) (b : ℕ) (l : List ℕ) → elem b (dirty_of rows l) ≡ (dirty_at rows b && elem b l)
unfolding dirty_of elem
elem_of rows b [] = sym (and_false (dirty_at rows b))
elem_of rows b (a ∷ l) =
    split (eqb a b)
    (λ q. split (dirty_at rows a)
    (λ d. rw (d, q, ← ap (dirty_at rows) (eqb-true a b q), d))
    (λ d. rw (d, elem_of rows b l, q, ← ap (dirty_at rows) (eqb-true a b q), d)))
    (λ q. split (dirty_at rows a) (λ d. rw (d, q) (elem_of rows b l)) (λ d. rw (d, q) (elem_of rows b l)))

above_of : (rows : List Row) (n : ℕ) (l : List ℕ) → Above n l → rules-rising.Above n (dirty_of rows l)
unfolding dirty_of
above_of rows n [] h = tt
above_of rows n (a ∷ l) h =
    choose (λ (m : List ℕ). rules-rising.Above n m) (dirty_at rows a) (λ d. (h.0, above_of rows n l h.1)) (λ d. above_of rows n l h.1)

rising_of : (rows : List Row) (l : List ℕ) → Rising l → rules-rising.Rising (dirty_of rows l)
unfolding dirty_of
rising_of rows [] h = tt
rising_of rows (a ∷ l) h =
    choose (λ (m : List ℕ). rules-rising.Rising m) (dirty_at rows a) (λ d. (above_of rows a l h.0, rising_of rows l h.1)) (λ d. rising_of rows l h.1)

dirty_here : (o : Option Entry) → (passes (λ e. e.dirty) o && passes (λ e. true) o) ≡ passes (λ e. e.dirty) o
dirty_here None = refl
dirty_here (Some e) = and_true e.dirty

dirty_all : (rows : List Row) → Distinct rows → dirty_of rows (addresses rows) ≡ dirty_rising rows
dirty_all rows d =
    flush_unique rows (dirty_of rows (addresses rows)) d
    (record {
      rising = rising_of rows (addresses rows) (rising_addresses rows d);
      dirty = λ b. elem_of rows b (addresses rows) ∙ ap (λ (t : Bool). dirty_at rows b && t) (elem_addresses rows b) ∙ dirty_here (get rows b);
    })

dirty_last : (rows : List Row) (l : List ℕ) (a : ℕ) → dirty_at rows a ≡ true → dirty_of rows (l ++ a ∷ []) ≡ dirty_of rows l ++ a ∷ []
unfolding dirty_of
dirty_last rows [] a d = rw d
dirty_last rows (x ∷ l) a d =
    split (dirty_at rows x)
    (λ q. rw (q, dirty_last rows l a d))
    (λ q. rw (q, dirty_last rows l a d))

clean_last : (rows : List Row) (l : List ℕ) (a : ℕ) → dirty_at rows a ≡ false → dirty_of rows (l ++ a ∷ []) ≡ dirty_of rows l
unfolding dirty_of
clean_last rows [] a d = rw d
clean_last rows (x ∷ l) a d =
    split (dirty_at rows x)
    (λ q. rw (q, clean_last rows l a d))
    (λ q. rw (q, clean_last rows l a d))

-- ---- orders one by one

abbrev pub write_of : List Row → ℕ → Order
write_of rows a = record { kind = Write; address = a; size = size_at rows a }

writes_last : (rows : List Row) (l : List ℕ) (a : ℕ) → writes_of rows (l ++ a ∷ []) ≡ writes_of rows l ++ write_of rows a ∷ []
writes_last rows [] a = refl
writes_last rows (x ∷ l) a = ap (λ (m : List Order). write_of rows x ∷ m) (writes_last rows l a)

-- ---- the walk

-- after some places: those dirty among them are clean and written
pub record Flushing (c : Cache) (rest lent ws words : List ℕ) (place given : ℕ) : Type 0 where
  pub low : place ≤ length (addresses c.rows)
  pub few : given ≤ place
  pub long : length words ≡ length lent
  pub holds : Holds ws (taken (dirty_of c.rows (take place (addresses c.rows))) c) rest
  pub orders : words ≡ put_orders 0 (writes_of c.rows (dirty_of c.rows (take place (addresses c.rows)))) lent
  pub number : given ≡ length (dirty_of c.rows (take place (addresses c.rows)))

pub flushing_start : {ws : List ℕ} {c : Cache} {rest : List ℕ} (lent : List ℕ) → Holds ws c rest → Flushing c rest lent ws lent 0 0
unfolding dirty_of amend_each put_orders
flushing_start lent h = record { low = omega arith; few = omega arith; long = refl; holds = h; orders = refl; number = refl }

module _ {c : Cache} {rest lent ws words : List ℕ} {place given : ℕ} (s : Sound c) (k : Flushing c rest lent ws words place given) where
  pub flushing_rows : {n : ℕ} → n ≡ length c.rows → GoodRows ws n
  flushing_rows e = taken_rows c (dirty_of c.rows (take place (addresses c.rows))) k.holds e

  -- the addresses are those of the start
  pub flushing_same : addresses (cache_in ws).rows ≡ addresses c.rows
  flushing_same = ap (λ (x : Cache). addresses x.rows) (holds_cache k.holds) ∙ each_addresses (dirty_of c.rows (take place (addresses c.rows))) c.rows

  pub flushing_end : length (addresses c.rows) ≤ place → Did (all_written c) rest ws 0 lent words given
  flushing_end h =
      let e : dirty_of c.rows (take place (addresses c.rows)) ≡ dirty_rising c.rows = ap (dirty_of c.rows) (take_all place (addresses c.rows) h) ∙ dirty_all c.rows s.distinct in
      let n : given ≡ length (dirty_rising c.rows) = k.number ∙ ap length e in
      let m = length-map (dirty_rising c.rows) (write_of c.rows) in
      record {
        holds = subst (λ (l : List ℕ). Holds ws (taken l c) rest) e k.holds;
        orders = k.orders ∙ ap (λ (l : List ℕ). put_orders 0 (writes_of c.rows l) lent) e;
        number = omega arith;
      }

  module _ (h : place < length (addresses c.rows)) where
    front : take (place + 1) (addresses c.rows) ≡ take place (addresses c.rows) ++ get_or (addresses c.rows) place 0 ∷ []
    front = ap (λ (n : ℕ). take n (addresses c.rows)) (add-one place) ∙ take-suc (addresses c.rows) place 0 h

    -- the address at the place did not come yet
    new : elem (get_or (addresses c.rows) place 0) (dirty_of c.rows (take place (addresses c.rows))) ≡ false
    new =
        elem_of c.rows (get_or (addresses c.rows) place 0) (take place (addresses c.rows))
        ∙ ap (λ (t : Bool). dirty_at c.rows (get_or (addresses c.rows) place 0) && t)
        (split (elem (get_or (addresses c.rows) place 0) (take place (addresses c.rows)))
        (λ m. either (twice (addresses c.rows)) (ap twice (split_at (addresses c.rows) place 0 h) ∙ twice_again (get_or (addresses c.rows) place 0) (take place (addresses c.rows)) (drop (suc place) (addresses c.rows)) m) (addresses_once c s))
        (λ m. m))
        ∙ and_false (dirty_at c.rows (get_or (addresses c.rows) place 0))

    -- so what is found at it is as at the start
    found_as : get (cache_in ws).rows (get_or (addresses (cache_in ws).rows) place 0) ≡ get c.rows (get_or (addresses c.rows) place 0)
    found_as =
        ap (λ (l : List ℕ). get (cache_in ws).rows (get_or l place 0)) flushing_same
        ∙ ap (λ (x : Cache). get x.rows (get_or (addresses c.rows) place 0)) (holds_cache k.holds)
        ∙ each_other (dirty_of c.rows (take place (addresses c.rows))) (get_or (addresses c.rows) place 0) c.rows new

    dirty_as : (t : Bool) {b : Bool} → b ≡ dirty_at (cache_in ws).rows (get_or (addresses (cache_in ws).rows) place 0) → b ≡ t → dirty_at c.rows (get_or (addresses c.rows) place 0) ≡ t
    dirty_as t r e = ap (passes (λ x. x.dirty)) (sym found_as) ∙ sym r ∙ e

    -- a clean entry is passed
    pub flushing_past : {b : Bool} {out more : List ℕ} {n : ℕ} → b ≡ dirty_at (cache_in ws).rows (get_or (addresses (cache_in ws).rows) place 0) → b ≡ false
        → out ≡ ws → more ≡ words → n ≡ given → Flushing c rest lent out more (place + 1) n
    flushing_past r t x y z =
        let e : dirty_of c.rows (take (place + 1) (addresses c.rows)) ≡ dirty_of c.rows (take place (addresses c.rows)) = ap (dirty_of c.rows) front ∙ clean_last c.rows (take place (addresses c.rows)) (get_or (addresses c.rows) place 0) (dirty_as false r t) in
        record {
          low = omega arith;
          few = let f = k.few in omega arith;
          long = ap length y ∙ k.long;
          holds = rw x (subst (λ (l : List ℕ). Holds ws (taken l c) rest) (sym e) k.holds);
          orders = y ∙ k.orders ∙ ap (λ (l : List ℕ). put_orders 0 (writes_of c.rows l) lent) (sym e);
          number = z ∙ k.number ∙ ap length (sym e);
        }

    -- a dirty one is written
    pub flushing_on : {b : Bool} {out out' more more' : List ℕ} {size n : ℕ} → b ≡ dirty_at (cache_in ws).rows (get_or (addresses (cache_in ws).rows) place 0) → b ≡ true → length more ≡ length words
        → Gives Write (get_or (addresses (cache_in ws).rows) place 0) (amend_at (get_or (addresses (cache_in ws).rows) place 0) cleaned) ws out given words more size
        → out' ≡ out → more' ≡ more → n ≡ given + 1 → Flushing c rest lent out' more' (place + 1) n
    flushing_on {out = out} {more = more} r t same g x y z =
        let p : List ℕ = dirty_of c.rows (take place (addresses c.rows)) in
        let a : ℕ = get_or (addresses c.rows) place 0 in
        let e : dirty_of c.rows (take (place + 1) (addresses c.rows)) ≡ p ++ a ∷ [] = ap (dirty_of c.rows) front ∙ dirty_last c.rows (take place (addresses c.rows)) a (dirty_as true r t) in
        let here : get_or (addresses (cache_in ws).rows) place 0 ≡ a = ap (λ (l : List ℕ). get_or l place 0) flushing_same in
        let held : Holds out (amend_at a cleaned (cache_in ws)) (rest_in ws) = subst (λ (x : ℕ). Holds out (amend_at x cleaned (cache_in ws)) (rest_in ws)) here g.holds in
        let size : size_at (cache_in ws).rows (get_or (addresses (cache_in ws).rows) place 0) ≡ size_at c.rows a = ap (λ (o : Option Entry). unwrap_or (option_map (λ x. x.size) o) 0) found_as in
        let written : more ≡ put_order given (write_of c.rows a) words = g.orders ∙ ap₂ (λ (x s : ℕ). put_order given (record { kind = Write; address = x; size = s }) words) here size in
        let i : given ≡ 0 + length (writes_of c.rows p) = let m = length-map p (write_of c.rows) in let q = k.number in omega arith in
        record {
          low = omega arith;
          few = let f = k.few in omega arith;
          long = ap length y ∙ same ∙ k.long;
          holds = rw x (subst (λ (l : List ℕ). Holds out (taken l c) rest) (sym e) (taken_last c p k.holds a held));
          orders = y
              ∙ written
              ∙ ap₂ (λ (j : ℕ) (l : List ℕ). put_order j (write_of c.rows a) l) i k.orders
              ∙ sym (put_next 0 (writes_of c.rows p) (write_of c.rows a) lent)
              ∙ ap (λ (m : List Order). put_orders 0 m lent) (sym (writes_last c.rows p a))
              ∙ ap (λ (l : List ℕ). put_orders 0 (writes_of c.rows l) lent) (sym e);
          number = let q = k.number in let u = ap length e in let v = length-append p (a ∷ []) in omega arith;
        }
