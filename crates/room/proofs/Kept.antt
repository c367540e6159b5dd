-- What every loop keeps: the table holds a cache, the orders given are in the words lent, and those that can still come fit. What an
-- entry of the recency list that is evicted or written changes.
use Prim.Native.Nat.{ℕ, ◌+◌, ◌*◌, ◌-◌, ◌<◌, ◌≤◌}
use mathlib.Core.Bool.{Bool, true, false, not, ◌&&◌, ◌||◌}
use mathlib.Core.List.{List, [], ◌∷◌}
use Rattle.std.specs.Prelude.{Some}
use mathlib.Core.Path.{◌≡◌, refl, sym, ap, ◌∙◌}
use native.Mathlib.Omega.{arith}
use lib.Dec.{ltb}
use lib.ListN.{length, get_or, length-append}
use borrow.Author.Tests.{not-true, not-false}
use Rattle.rules.proofs.Found.{present, free_removed, free_amend}
use Rattle.rules.proofs.Moved.{left, orders_left}
use Rattle.rules.proofs.Moves.{clean_of}
use Rattle.rules.proofs.Totals.{total_remove, total_amend, total_same}
use Rattle.rules.specs.Allowed.{Sound}
use Rattle.rules.specs.Cache.{Cache, Work, with_rows, start, give}
use Rattle.rules.specs.Entries.{is_listed, cleaned}
use Rattle.rules.specs.Room.{lacking}
use Rattle.rules.specs.Rows.{get, passes, amend, remove, has_free, held_bytes, clean_at, dirty_at, size_at}
use Rattle.rules.specs.declared.entry.Entry.{Entry}
use Rattle.rules.specs.declared.order.Kind.{Kind}
use Rattle.rules.specs.declared.order.Order.{Order}
use Rattle.layout.proofs.Cuts.{length_cut, cut_strike, elem_at}
use Rattle.layout.proofs.Held.{holds_rest}
use Rattle.layout.specs.Holds.{Holds, Good}
use Rattle.layout.specs.Leaves.{put_order}
use Rattle.layout.specs.Picture.{cache_in, rest_in}
use Rattle.table.proofs.Told.{good_rows}
use Rattle.table.specs.Asked.{GoodRows}
use Rattle.table.specs.Told.{dropped, Gives}
use Rattle.room.proofs.Orders.{put_none, put_next}
use Rattle.room.specs.Did.{Did, Fits}

-- a test that the code negates, as it came out
module _ {r t : Bool} (e : r ≡ t) where
  pub is_so : not r ≡ false → t ≡ true
  is_so h = sym e ∙ not-false r h

  pub is_not : not r ≡ true → t ≡ false
  is_not h = sym e ∙ not-true r h

abbrev pub work : Cache → List Order → Work
work c orders = record { cache = c; orders = orders }

-- what a function that gives an order tells, by the caches before and after it
pub record Gave (kind : Kind) (a : ℕ) (c d : Cache) (rest ws : List ℕ) (given : ℕ) (before after : List ℕ) (answer : ℕ) : Type 0 where
  pub holds : Holds ws d rest
  pub size : answer ≡ size_at c.rows a
  pub orders : after ≡ put_order given (record { kind = kind; address = a; size = size_at c.rows a }) before

pub gave : {kind : Kind} {a : ℕ} {change : Cache → Cache} {ws vs : List ℕ} {given : ℕ} {before after : List ℕ} {answer : ℕ}
    → Gives kind a change ws vs given before after answer → Gave kind a (cache_in ws) (change (cache_in ws)) (rest_in ws) vs given before after answer
gave g = record { holds = g.holds; size = g.size; orders = g.orders }

-- nothing done yet
pub did_start : {table lent : List ℕ} {before : ℕ} → Good table → Did (start (cache_in table)) (rest_in table) table before lent lent before
did_start {lent = lent} {before} g = record { holds = g; orders = put_none before lent; number = omega arith }

pub record Kept (rows before : ℕ) (rest lent table words : List ℕ) (given : ℕ) (c : Cache) (orders : List Order) : Type 0 where
  pub did : Did (work c orders) rest table before lent words given
  pub size : rows ≡ length c.rows
  pub fits : (given + left c) * 3 ≤ length lent

pub kept_start : {rows before : ℕ} {table lent : List ℕ} → GoodRows table rows → Fits (cache_in table) before lent
    → Kept rows before (rest_in table) lent table lent before (cache_in table) []
kept_start g f = record {
  did = did_start g.good;
  size = g.size;
  fits = f;
}

module _ {rows before : ℕ} {rest lent table words : List ℕ} {given : ℕ} {c : Cache} {orders : List Order} (k : Kept rows before rest lent table words given c orders) where
  pub kept_good : GoodRows table rows
  kept_good = good_rows k.did.holds k.size

  -- one order given, and one fewer to come
  pub kept_gives : {kind : Kind} {a : ℕ} {d : Cache} {table' words' : List ℕ} {answer : ℕ} → Gave kind a c d rest table' given words words' answer
      → length d.rows ≡ length c.rows → left d + 1 ≡ left c → Kept rows before rest lent table' words' (given + 1) d (give kind a (size_at c.rows a) orders)
  kept_gives {kind} {a} {d} g l o = record {
    did = record {
      holds = g.holds;
      orders = g.orders ∙ rw (k.did.orders, k.did.number) (sym (put_next before orders _ lent));
      number = let e = k.did.number in let f = length-append orders (record { kind = kind; address = a; size = size_at c.rows a } ∷ []) in omega arith;
    };
    size = k.size ∙ sym l;
    fits = let f = k.fits in omega arith;
  }

  -- the table as a callee names it
  pub kept_told : {kind : Kind} {a : ℕ} {d : Cache} {table' words' : List ℕ} {answer : ℕ} → Gave kind a c d (rest_in table) table' given words words' answer
      → Gave kind a c d rest table' given words words' answer
  kept_told g = rw (holds_rest k.did.holds) at g

-- ---- an entry of the recency list

module _ (c : Cache) (s : Sound c) (pos : ℕ) (low : pos < length c.recency) where
  pub at_listed : passes is_listed (get c.rows (get_or c.recency pos 0)) ≡ true
  at_listed = sym (s.listed (get_or c.recency pos 0)) ∙ elem_at pos c.recency low

  found : (e : Entry) × (get c.rows (get_or c.recency pos 0) ≡ Some e) × (is_listed e ≡ true)
  found = present is_listed (get c.rows (get_or c.recency pos 0)) at_listed

  pub left_evict : dirty_at c.rows (get_or c.recency pos 0) ≡ false → left (dropped (get_or c.recency pos 0) c) + 1 ≡ left c
  left_evict d =
      let p = found in
      let q = rw p.1 at d in
      let h = simp (p.1, p.2, q) at (total_remove orders_left (get_or c.recency pos 0) c.rows s.distinct) in
      omega arith

  pub left_write : (l : List ℕ) → dirty_at c.rows (get_or c.recency pos 0) ≡ true
      → left (with_rows (amend (get_or c.recency pos 0) cleaned c.rows) l c) + 1 ≡ left c
  left_write l d =
      let p = found in
      let q = rw p.1 at d in
      let h = simp (p.1, p.2, q) at (total_amend orders_left (get_or c.recency pos 0) cleaned c.rows s.distinct) in
      omega arith

  -- its size leaves the held bytes
  pub held_evict : held_bytes (remove (get_or c.recency pos 0) c.rows) + size_at c.rows (get_or c.recency pos 0) ≡ held_bytes c.rows
  held_evict = total_remove (λ e. e.size) (get_or c.recency pos 0) c.rows s.distinct

  pub free_evict : has_free (remove (get_or c.recency pos 0) c.rows) ≡ true
  free_evict = free_removed is_listed (get_or c.recency pos 0) c.rows at_listed

  pub listed_evict : length (dropped (get_or c.recency pos 0) c).recency + 1 ≡ length c.recency
  listed_evict = let e = ap length (cut_strike pos c.recency s.once low) in let f = length_cut pos c.recency low in omega arith

  pub at_clean : dirty_at c.rows (get_or c.recency pos 0) ≡ false → clean_at c.rows (get_or c.recency pos 0) ≡ true
  at_clean d = clean_of is_listed (get c.rows (get_or c.recency pos 0)) at_listed d

-- ---- what a room-making loop carries along

pub record Figures (maximum held : ℕ) (free : Bool) (listed : ℕ) (c : Cache) : Type 0 where
  pub maximum_is : maximum ≡ c.maximum
  pub held_is : held ≡ held_bytes c.rows
  pub free_is : free ≡ has_free c.rows
  pub listed_is : listed ≡ length c.recency

module _ {maximum held : ℕ} {free : Bool} {listed : ℕ} {c : Cache} (f : Figures maximum held free listed c) where
  lacking_is : (x : ℕ) (row : Bool) → (ltb maximum (held + x) || row && not free) ≡ lacking x row c
  lacking_is x row = rw (f.maximum_is, f.held_is, f.free_is)

  -- the loop's test, as it came out
  module _ (x : ℕ) (row : Bool) {r : Bool} (e : r ≡ (ltb maximum (held + x) || row && not free)) where
    pub still_lacking : not r ≡ false → lacking x row c ≡ true
    still_lacking = is_so (e ∙ lacking_is x row)

    pub no_longer_lacking : not r ≡ true → lacking x row c ≡ false
    no_longer_lacking = is_not (e ∙ lacking_is x row)

  pub figures_evict : (s : Sound c) (pos : ℕ) → pos < length c.recency
      → Figures maximum (held - size_at c.rows (get_or c.recency pos 0)) true (listed - 1) (dropped (get_or c.recency pos 0) c)
  figures_evict s pos low = record {
    maximum_is = f.maximum_is;
    held_is = let e = f.held_is in let h = held_evict c s pos low in omega arith;
    free_is = sym (free_evict c s pos low);
    listed_is = let e = f.listed_is in let h = listed_evict c s pos low in omega arith;
  }

  -- a write
  pub figures_write : (a : ℕ) (l : List ℕ) → length l ≡ length c.recency → Figures maximum held free listed (with_rows (amend a cleaned c.rows) l c)
  figures_write a l e = record {
    maximum_is = f.maximum_is;
    held_is = f.held_is ∙ sym (total_same (λ e. e.size) a cleaned (λ e. refl) c.rows);
    free_is = f.free_is ∙ sym (free_amend a cleaned c.rows);
    listed_is = f.listed_is ∙ sym e;
  }
