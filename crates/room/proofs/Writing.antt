-- The loop of the clean share: what the rule does from a place on is what it does from the start.
use Rattle.std.specs.Prelude.{if◌then◌else◌}
use Prim.Native.Nat.{ℕ, suc, ◌+◌, ◌-◌, ◌<◌, ◌≤◌}
use mathlib.Core.Bool.{Bool, true, false, ◌&&◌}
use mathlib.Core.List.{List, [], ◌∷◌}
use mathlib.Core.Path.{◌≡◌, refl, sym, ap, ap₂, subst, ◌∙◌}
use native.Mathlib.Numerals.{add-one}
use native.Mathlib.Omega.{arith}
use lib.Dec.{ltb}
use lib.ListN.{length, get_or, drop, drop_of_length-le}
use lib.Seq.{drop-cons}
use borrow.Author.Tests.{lt-ltb, le-ltb}
use Rattle.rules.proofs.Found.{length_amend}
use Rattle.rules.proofs.Tests.{and_false}
use Rattle.rules.proofs.Share.{missing_write}
use Rattle.rules.specs.Cache.{Cache, Work, start, give, amend_at}
use Rattle.rules.specs.Entries.{cleaned}
use Rattle.rules.specs.Room.{share_missing, write_in_place, write_dirty}
use Rattle.rules.specs.Rows.{dirty_at, size_at}
use Rattle.rules.specs.declared.order.Kind.{Kind}
use Rattle.rules.specs.declared.order.Order.{Order}
use Rattle.layout.proofs.Cuts.{elem_at}
use Rattle.layout.proofs.Held.{holds_cache}
use Rattle.layout.specs.Picture.{cache_in, rest_in}
use Rattle.table.specs.Asked.{GoodRows}
use Rattle.room.proofs.Kept.{Gave, work, Kept, kept_start, kept_gives, kept_told, left_write}
use Rattle.room.specs.Did.{Did, Fits}

-- ---- the rule's steps

rests : (x : ℕ) (l : List ℕ) (w : Work) → ltb 0 (share_missing x w.cache) ≡ false → write_dirty x l w ≡ w
unfolding write_dirty
rests x [] w h = refl
rests x (a ∷ l) w h = rw h (rests x l w h)

module _ (x : ℕ) (c : Cache) (orders : List Order) (pos : ℕ) (low : pos < length c.recency) where
  looks : (t : Bool) → ltb 0 (share_missing x c) && dirty_at c.rows (get_or c.recency pos 0) ≡ t
      → write_dirty x (drop pos c.recency) (work c orders)
      ≡ write_dirty x (drop (suc pos) c.recency) (if t then write_in_place (get_or c.recency pos 0) (work c orders) else work c orders)
  unfolding write_dirty
  looks t e =
      rw (drop-cons c.recency pos 0 low)
      (ap (λ (b : Bool). write_dirty x (drop (suc pos) c.recency) (if b then write_in_place (get_or c.recency pos 0) (work c orders) else work c orders)) e)

  skips : dirty_at c.rows (get_or c.recency pos 0) ≡ false
      → write_dirty x (drop pos c.recency) (work c orders) ≡ write_dirty x (drop (suc pos) c.recency) (work c orders)
  skips d = looks false (ap (λ (t : Bool). ltb 0 (share_missing x c) && t) d ∙ and_false (ltb 0 (share_missing x c)))

  writes : ltb 0 (share_missing x c) ≡ true → dirty_at c.rows (get_or c.recency pos 0) ≡ true
      → write_dirty x (drop pos c.recency) (work c orders) ≡ write_dirty x (drop (suc pos) c.recency) (write_in_place (get_or c.recency pos 0) (work c orders))
  writes m d = looks true (ap₂ (λ (s t : Bool). s && t) m d)

-- ---- what the loop keeps

pub record Writing (x : ℕ) (c₀ : Cache) (rows before : ℕ) (rest lent : List ℕ) (listed : ℕ) (table words : List ℕ) (missing pos given : ℕ) (c : Cache) : Type 0 where
  pub orders : List Order
  pub kept : Kept rows before rest lent table words given c orders
  pub missing_is : missing ≡ share_missing x c
  pub listed_is : listed ≡ length c.recency
  pub low : pos ≤ listed
  pub to_do : write_dirty x (drop pos c.recency) (work c orders) ≡ write_dirty x c₀.recency (start c₀)

pub writing_start : {rows before : ℕ} {table lent : List ℕ} {x missing listed : ℕ} → GoodRows table rows → Fits (cache_in table) before lent
    → missing ≡ share_missing x (cache_in table) → listed ≡ length (cache_in table).recency
    → Writing x (cache_in table) rows before (rest_in table) lent listed table lent missing 0 before (cache_in table)
writing_start g f m l = record { orders = []; kept = kept_start g f; missing_is = m; listed_is = l; low = omega arith; to_do = refl }

module _ {x : ℕ} {c₀ : Cache} {rows before : ℕ} {rest lent : List ℕ} {listed : ℕ} {table words : List ℕ} {missing pos given : ℕ} {c : Cache}
    (k : Writing x c₀ rows before rest lent listed table words missing pos given c) where
  share_met : missing ≡ 0 → ltb 0 (share_missing x c) ≡ false
  share_met h = let m = k.missing_is in le-ltb 0 (share_missing x c) (omega arith)

  share_missed : (missing ≡ 0 → ⊥) → ltb 0 (share_missing x c) ≡ true
  share_missed h = let m = k.missing_is in lt-ltb 0 (share_missing x c) (omega arith)

  pub within : pos < listed → pos < length c.recency
  within p = let e = k.listed_is in omega arith

  pub writing_skip : pos < listed → dirty_at c.rows (get_or c.recency pos 0) ≡ false → Writing x c₀ rows before rest lent listed table words missing (pos + 1) given c
  writing_skip p d = record {
    orders = k.orders;
    kept = k.kept;
    missing_is = k.missing_is;
    listed_is = k.listed_is;
    low = omega arith;
    to_do = rw (add-one pos) (sym (skips x c k.orders pos (within p) d) ∙ k.to_do);
  }

  pub writing_write : {table' words' : List ℕ} {answer : ℕ} → pos < listed → (missing ≡ 0 → ⊥) → dirty_at c.rows (get_or c.recency pos 0) ≡ true
      → Gave Kind.Write (get_or c.recency pos 0) c (amend_at (get_or c.recency pos 0) cleaned c) (rest_in table) table' given words words' answer
      → Writing x c₀ rows before rest lent listed table' words' (missing - answer) (pos + 1) (given + 1) (amend_at (get_or c.recency pos 0) cleaned c)
  writing_write p m d g =
      let s = k.kept.did.holds.steady.sound in
      let q = within p in
      record {
        orders = give Kind.Write (get_or c.recency pos 0) (size_at c.rows (get_or c.recency pos 0)) k.orders;
        kept = kept_gives k.kept (kept_told k.kept g) (length_amend (get_or c.recency pos 0) cleaned c.rows) (left_write c s pos q c.recency d);
        missing_is = ap₂ (λ (m n : ℕ). m - n) k.missing_is g.size ∙ sym (missing_write x (get_or c.recency pos 0) c s.once (elem_at pos c.recency q) d);
        listed_is = k.listed_is;
        low = omega arith;
        to_do = rw (add-one pos) (sym (writes x c k.orders pos q (share_missed m) d) ∙ k.to_do);
      }

  ends : write_dirty x (drop pos c.recency) (work c k.orders) ≡ work c k.orders → Did (write_dirty x c₀.recency (start c₀)) rest table before lent words given
  ends e = subst (λ (w : Work). Did w rest table before lent words given) (sym e ∙ k.to_do) k.kept.did

  pub writing_met : missing ≡ 0 → Did (write_dirty x c₀.recency (start c₀)) rest table before lent words given
  writing_met h = ends (rests x (drop pos c.recency) (work c k.orders) (share_met h))

  pub writing_end : listed ≤ pos → Did (write_dirty x c₀.recency (start c₀)) rest table before lent words given
  unfolding write_dirty
  writing_end h =
      let m : length c.recency ≤ pos = (let e = k.listed_is in omega arith) in
      ends (ap (λ (r : List ℕ). write_dirty x r (work c k.orders)) (drop_of_length-le c.recency m))

-- a cache that a table holds is the one in it
pub writing_in : {x : ℕ} {c₀ : Cache} {rows before : ℕ} {rest lent : List ℕ} {listed : ℕ} {table words : List ℕ} {missing pos given : ℕ} {c : Cache}
    → Writing x c₀ rows before rest lent listed table words missing pos given c
    → Writing x c₀ rows before rest lent listed table words missing pos given (cache_in table)
writing_in {x} {c₀} {rows} {before} {rest} {lent} {listed} {table} {words} {missing} {pos} {given} {c} k =
    subst (λ (d : Cache). Writing x c₀ rows before rest lent listed table words missing pos given d) (sym (holds_cache k.kept.did.holds)) k
