-- The loop of age-out: what the rule does from a place on is what it does from the start.
use Rattle.std.specs.Prelude.{if◌then◌else◌, Option, Some, option_map, None}
use Prim.Native.Nat.{ℕ, suc, ◌+◌, ◌-◌, ◌<◌, ◌≤◌}
use mathlib.Core.Bool.{Bool, true, false, true≢false}
use mathlib.Core.List.{List, []}
use mathlib.Core.Path.{◌≡◌, refl, sym, ap, subst, ◌∙◌}
use native.Mathlib.Numerals.{add-one}
use native.Mathlib.Omega.{arith}
use lib.Dec.{leb}
use lib.ListN.{length, get_or, drop, drop_of_length-le}
use lib.Seq.{drop-cons}
use borrow.Author.Tests.{eq-eqb}
use Rattle.rules.proofs.Found.{get_amend, length_remove, length_amend}
use Rattle.rules.proofs.Moved.{left}
use Rattle.rules.specs.Refusals.{is_alone}
use Rattle.rules.specs.Cache.{Cache, Work, start, give, amend_at}
use Rattle.rules.specs.Entries.{cleaned}
use Rattle.rules.specs.Resizing.{aged_at, expel, evict_aged}
use Rattle.rules.specs.Room.{evict, write_in_place}
use Rattle.rules.specs.Rows.{get, passes, amend, dirty_at, size_at}
use Rattle.rules.specs.declared.entry.Entry.{Entry}
use Rattle.rules.specs.Types.{Row}
use Rattle.rules.specs.declared.order.Kind.{Kind}
use Rattle.rules.specs.declared.order.Order.{Order}
use Rattle.settings.specs.declared.Mode.{Mode}
use Rattle.settings.specs.declared.Mode.TheVariants.{Alone, Lead, Standby}
use Rattle.layout.proofs.Cuts.{drop_cut, cut_strike}
use Rattle.layout.proofs.Held.{holds_cache}
use Rattle.layout.specs.Picture.{cache_in, rest_in}
use Rattle.table.specs.Asked.{GoodRows}
use Rattle.table.specs.Told.{dropped}
use Rattle.room.proofs.Kept.{Gave, work, Kept, kept_start, kept_gives, kept_told, left_evict, left_write, listed_evict}
use Rattle.room.specs.Did.{Did, Fits}

-- ---- one entry

-- the test of an entry's age, once the entry is read
pub told_aged : (o : Option Entry) (e : Entry) (n : ℕ) → o ≡ Some e → leb n e.idle ≡ passes (λ x. leb n x.idle) o
told_aged o e n p = rw p

-- a clean entry is evicted in every mode
expel_clean : (m : Mode) (a : ℕ) (w : Work) → dirty_at w.cache.rows a ≡ false → expel m a w ≡ evict a w
expel_clean Alone a w d = ap (λ (b : Bool). if b then evict a (write_in_place a w) else evict a w) d
expel_clean Lead a w d = ap (λ (b : Bool). if b then w else evict a w) d
expel_clean Standby a w d = ap (λ (b : Bool). if b then w else evict a w) d

-- a dirty one is kept where nothing is written
expel_dirty : (m : Mode) (a : ℕ) (w : Work) → is_alone m ≡ false → dirty_at w.cache.rows a ≡ true → expel m a w ≡ w
expel_dirty Alone a w h d = absurd (true≢false h)
expel_dirty Lead a w h d = ap (λ (b : Bool). if b then w else evict a w) d
expel_dirty Standby a w h d = ap (λ (b : Bool). if b then w else evict a w) d

-- and written before it goes where writing is allowed
expel_written : (m : Mode) (a : ℕ) (w : Work) → is_alone m ≡ true → dirty_at w.cache.rows a ≡ true → expel m a w ≡ evict a (write_in_place a w)
expel_written Alone a w h d = ap (λ (b : Bool). if b then evict a (write_in_place a w) else evict a w) d
expel_written Lead a w h d = absurd (true≢false (sym h))
expel_written Standby a w h d = absurd (true≢false (sym h))

-- a write keeps the idle count, and the entry is clean then
module _ (a : ℕ) (rows : List Row) where
  written : get (amend a cleaned rows) a ≡ option_map cleaned (get rows a)
  written = get_amend a cleaned (λ e. refl) a rows ∙ ap (λ (b : Bool). if b then option_map cleaned (get rows a) else get rows a) (eq-eqb a a refl)

  written_aged : (n : ℕ) → passes (λ e. leb n e.idle) (get (amend a cleaned rows) a) ≡ passes (λ e. leb n e.idle) (get rows a)
  written_aged n = ap (passes (λ e. leb n e.idle)) written ∙ go (get rows a)
    where
      go : (o : Option Entry) → passes (λ e. leb n e.idle) (option_map cleaned o) ≡ passes (λ e. leb n e.idle) o
      go None = refl
      go (Some e) = refl

  written_clean : dirty_at (amend a cleaned rows) a ≡ false
  written_clean = ap (passes (λ e. e.dirty)) written ∙ go (get rows a)
    where
      go : (o : Option Entry) → passes (λ e. e.dirty) (option_map cleaned o) ≡ false
      go None = refl
      go (Some e) = refl

-- ---- the rule's steps

module _ (n : ℕ) (c : Cache) (orders : List Order) (pos : ℕ) (low : pos < length c.recency) where
  looks : (t : Bool) → aged_at n c (get_or c.recency pos 0) ≡ t
      → evict_aged n (drop pos c.recency) (work c orders)
      ≡ evict_aged n (drop (suc pos) c.recency) (if t then expel c.mode (get_or c.recency pos 0) (work c orders) else work c orders)
  unfolding evict_aged
  looks t e =
      rw (drop-cons c.recency pos 0 low)
      (ap (λ (b : Bool). evict_aged n (drop (suc pos) c.recency) (if b then expel c.mode (get_or c.recency pos 0) (work c orders) else work c orders)) e)

  -- an aged entry goes as the mode has it
  goes : {v : Work} → aged_at n c (get_or c.recency pos 0) ≡ true → expel c.mode (get_or c.recency pos 0) (work c orders) ≡ v
      → evict_aged n (drop pos c.recency) (work c orders) ≡ evict_aged n (drop (suc pos) c.recency) v
  goes h e = looks true h ∙ ap (evict_aged n (drop (suc pos) c.recency)) e

-- ---- what the loop keeps

pub record Aging (n : ℕ) (writes : Bool) (c₀ : Cache) (rows before : ℕ) (rest lent table words : List ℕ) (listed pos given : ℕ) (c : Cache) : Type 0 where
  pub orders : List Order
  pub kept : Kept rows before rest lent table words given c orders
  pub may : writes ≡ is_alone c.mode
  pub listed_is : listed ≡ length c.recency
  pub low : pos ≤ listed
  pub to_do : evict_aged n (drop pos c.recency) (work c orders) ≡ evict_aged n c₀.recency (start c₀)

pub aging_start : {rows before : ℕ} {table lent : List ℕ} {listed : ℕ} {writes : Bool} (n : ℕ) → GoodRows table rows → writes ≡ is_alone (cache_in table).mode → Fits (cache_in table) before lent
    → listed ≡ length (cache_in table).recency
    → Aging n writes (cache_in table) rows before (rest_in table) lent table lent listed 0 before (cache_in table)
aging_start n g m f l = record { orders = []; kept = kept_start g f; may = m; listed_is = l; low = omega arith; to_do = refl }

module _ {n : ℕ} {writes : Bool} {c₀ : Cache} {rows before : ℕ} {rest lent table words : List ℕ} {listed pos given : ℕ} {c : Cache}
    (k : Aging n writes c₀ rows before rest lent table words listed pos given c) where
  pub within : pos < listed → pos < length c.recency
  within p = let e = k.listed_is in omega arith

  -- an order given is one fewer to come
  pub evicts_one : pos < listed → dirty_at c.rows (get_or c.recency pos 0) ≡ false → left (dropped (get_or c.recency pos 0) c) + 1 ≡ left c
  evicts_one p = left_evict c k.kept.did.holds.steady.sound pos (within p)

  pub writes_one : pos < listed → dirty_at c.rows (get_or c.recency pos 0) ≡ true → left (amend_at (get_or c.recency pos 0) cleaned c) + 1 ≡ left c
  writes_one p = left_write c k.kept.did.holds.steady.sound pos (within p) c.recency

  -- past an entry that stays
  passes_by : pos < listed → evict_aged n (drop pos c.recency) (work c k.orders) ≡ evict_aged n (drop (suc pos) c.recency) (work c k.orders)
      → Aging n writes c₀ rows before rest lent table words listed (pos + 1) given c
  passes_by p e = record {
    orders = k.orders;
    kept = k.kept;
    may = k.may;
    listed_is = k.listed_is;
    low = omega arith;
    to_do = rw (add-one pos) (sym e ∙ k.to_do);
  }

  pub aging_young : pos < listed → aged_at n c (get_or c.recency pos 0) ≡ false → Aging n writes c₀ rows before rest lent table words listed (pos + 1) given c
  aging_young p h = passes_by p (looks n c k.orders pos (within p) false h)

  pub aging_dirty : pos < listed → writes ≡ false → aged_at n c (get_or c.recency pos 0) ≡ true → dirty_at c.rows (get_or c.recency pos 0) ≡ true
      → Aging n writes c₀ rows before rest lent table words listed (pos + 1) given c
  aging_dirty p m h d =
      passes_by p
      (goes n c k.orders pos (within p) h (expel_dirty c.mode (get_or c.recency pos 0) (work c k.orders) (sym k.may ∙ m) d))

  pub aging_evict : {table' words' : List ℕ} {answer : ℕ} → pos < listed → aged_at n c (get_or c.recency pos 0) ≡ true → dirty_at c.rows (get_or c.recency pos 0) ≡ false
      → Gave Kind.Evict (get_or c.recency pos 0) c (dropped (get_or c.recency pos 0) c) (rest_in table) table' given words words' answer
      → Aging n writes c₀ rows before rest lent table' words' (listed - 1) pos (given + 1) (dropped (get_or c.recency pos 0) c)
  aging_evict p h d g =
      let s = k.kept.did.holds.steady.sound in
      let q = within p in
      record {
        orders = give Kind.Evict (get_or c.recency pos 0) (size_at c.rows (get_or c.recency pos 0)) k.orders;
        kept = kept_gives k.kept (kept_told k.kept g) (length_remove (get_or c.recency pos 0) c.rows) (evicts_one p d);
        may = k.may;
        listed_is = let e = k.listed_is in let z = listed_evict c s pos q in omega arith;
        low = omega arith;
        to_do = ap (λ (r : List ℕ). evict_aged n r (evict (get_or c.recency pos 0) (work c k.orders))) (ap (drop pos) (cut_strike pos c.recency s.once q) ∙ drop_cut pos c.recency)
            ∙ sym (goes n c k.orders pos q h (expel_clean c.mode (get_or c.recency pos 0) (work c k.orders) d)) ∙ k.to_do;
      }

  -- an aged dirty entry is written, and what is evicted next is what the rule evicts
  pub aging_write : {table' words' : List ℕ} {answer : ℕ} → pos < listed → writes ≡ true → aged_at n c (get_or c.recency pos 0) ≡ true → dirty_at c.rows (get_or c.recency pos 0) ≡ true
      → Gave Kind.Write (get_or c.recency pos 0) c (amend_at (get_or c.recency pos 0) cleaned c) (rest_in table) table' given words words' answer
      → Aging n writes c₀ rows before rest lent table' words' listed pos (given + 1) (amend_at (get_or c.recency pos 0) cleaned c)
  aging_write p m h d g =
      let q = within p in
      let a = get_or c.recency pos 0 in
      let after = give Kind.Write a (size_at c.rows a) k.orders in
      record {
        orders = after;
        kept = kept_gives k.kept (kept_told k.kept g) (length_amend a cleaned c.rows) (writes_one p d);
        may = k.may;
        listed_is = k.listed_is;
        low = k.low;
        to_do =
            goes n (amend_at a cleaned c) after pos q (written_aged a c.rows n ∙ h) (expel_clean c.mode a (work (amend_at a cleaned c) after) (written_clean a c.rows))
            ∙ sym (goes n c k.orders pos q h (expel_written c.mode a (work c k.orders) (sym k.may ∙ m) d)) ∙ k.to_do;
      }

  pub aging_end : listed ≤ pos → Did (evict_aged n c₀.recency (start c₀)) rest table before lent words given
  unfolding evict_aged
  aging_end h =
      let m : length c.recency ≤ pos = (let e = k.listed_is in omega arith) in
      subst (λ (w : Work). Did w rest table before lent words given)
      (sym (ap (λ (r : List ℕ). evict_aged n r (work c k.orders)) (drop_of_length-le c.recency m)) ∙ k.to_do)
      k.kept.did

-- a cache that a table holds is the one in it
pub aging_in : {n : ℕ} {writes : Bool} {c₀ : Cache} {rows before : ℕ} {rest lent table words : List ℕ} {listed pos given : ℕ} {c : Cache}
    → Aging n writes c₀ rows before rest lent table words listed pos given c → Aging n writes c₀ rows before rest lent table words listed pos given (cache_in table)
aging_in {n} {writes} {c₀} {rows} {before} {rest} {lent} {table} {words} {listed} {pos} {given} {c} k =
    subst (λ (d : Cache). Aging n writes c₀ rows before rest lent table words listed pos given d) (sym (holds_cache k.kept.did.holds)) k
