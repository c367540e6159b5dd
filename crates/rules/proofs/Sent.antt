-- The list that a flush or a sync sends: each address once, and of a dirty record. A write makes its record clean, so none is written twice.
use Rattle.std.specs.Prelude.{if◌then◌else◌, Option, None}
use Prim.Native.Nat.{ℕ}
use mathlib.Core.Path.{◌≡◌, refl, sym, ap, subst, ◌∙◌}
use mathlib.Core.Bool.{Bool, true, false, ◌&&◌, ◌||◌, false≢true, true≢false}
use mathlib.Core.List.{List, [], ◌∷◌, ◌++◌, map}
use lib.Dec.{eqb, ltb}
use borrow.Author.Tests.{eqb-true}
use Rattle.rules.specs.Types.{Row}
use Rattle.rules.specs.declared.order.Order.{Order}
use Rattle.rules.specs.declared.request.Request.{Request}
use Rattle.rules.specs.Addresses.{elem, twice}
use Rattle.rules.specs.Allowed.{Sound}
use Rattle.rules.specs.Cache.{Cache, Work, start}
use Rattle.rules.specs.Ledger.{Sends, flush, sync, hear_list, names, is_in, dirty_size, ledger_of}
use Rattle.rules.specs.Requests.{effect, writes_of}
use Rattle.rules.specs.Room.{write_in_place, write_dirty, share_missing}
use Rattle.rules.specs.Rows.{get, dirty_at, dirty_rising}
use Rattle.rules.proofs.Follow.{same_ledger, dirty_in_same, sizes_cleaned, takes_list}
use Rattle.rules.proofs.Lists.{twice_last}
use Rattle.rules.proofs.Rising.{flush_order, rising_once}
use Rattle.rules.proofs.Tests.{split, choose, both, or_true, or_false}

-- the addresses of orders
abbrev pub addresses : List Order → List ℕ
addresses orders = map (λ w. w.address) orders

names_last : (l : List Order) (o : Order) (b : ℕ) → names (addresses (l ++ o ∷ [])) b ≡ names (addresses l) b || eqb o.address b
unfolding names
names_last [] o b = or_false (eqb o.address b)
names_last (x ∷ l) o b = rw (names_last l o b) (go (eqb x.address b))
  where
    go : (t : Bool) → t || (names (addresses l) b || eqb o.address b) ≡ t || names (addresses l) b || eqb o.address b
    go true = refl
    go false = refl

names_before : (l : List Order) (o : Order) (b : ℕ) → eqb o.address b ≡ false → names (addresses (l ++ o ∷ [])) b ≡ true → names (addresses l) b ≡ true
names_before l o b q h = simp (q, or_false) at (sym (names_last l o b) ∙ h)

-- an order was given, after which there is no dirty record at its address
without_last : (l : List Order) (o : Order) (b : ℕ) (old : Option ℕ) {new : Option ℕ} → new ≡ (if names (addresses l) b then None else old)
    → (if eqb o.address b then None else new) ≡ (if names (addresses (l ++ o ∷ [])) b then None else old)
without_last l o b old h = rw (names_last l o b, h) (go (eqb o.address b) (names (addresses l) b))
  where
    go : (s t : Bool) → (if s then None else (if t then None else old)) ≡ (if t || s then None else old)
    go true t = rw (or_true t)
    go false t = rw (or_false t)

-- ---- a sync under way

pub names_elem : (l : List ℕ) (b : ℕ) → names l b ≡ elem b l
unfolding names elem
names_elem [] b = refl
names_elem (a ∷ l) b = ap (λ (t : Bool). eqb a b || t) (names_elem l b)

map_last : (l : List Order) (o : Order) → addresses (l ++ o ∷ []) ≡ addresses l ++ o.address ∷ []
map_last [] o = refl
map_last (x ∷ l) o = ap (λ (r : List ℕ). x.address ∷ r) (map_last l o)

-- a list of orders, each of a record that was dirty, none of one that is
record Sending (c : Cache) (w : Work) : Type 0 where
  sizes : (b : ℕ) → dirty_size (get w.cache.rows b) ≡ (if names (addresses w.orders) b then None else dirty_size (get c.rows b))
  once : twice (addresses w.orders) ≡ false
  dirty : (b : ℕ) → names (addresses w.orders) b ≡ true → dirty_at c.rows b ≡ true

module _ (a : ℕ) (c : Cache) (w : Work) (k : Sending c w) (d : dirty_at w.cache.rows a ≡ true) where
  -- it has not been written
  unwritten : names (addresses w.orders) a ≡ false
  unwritten =
      split (names (addresses w.orders) a)
      (λ p. absurd (true≢false (sym d ∙ dirty_in_same (get w.cache.rows a) ∙ ap is_in (rw p at (k.sizes a)))))
      (λ p. p)

  was_dirty : dirty_at c.rows a ≡ true
  was_dirty =
      dirty_in_same (get c.rows a) ∙ ap is_in (sym (rw unwritten at (k.sizes a))) ∙ sym (dirty_in_same (get w.cache.rows a)) ∙ d

  sending_write : Sending c (write_in_place a w)
  sending_write = record {
    sizes = λ b. sizes_cleaned a w.cache.rows b ∙ without_last w.orders _ b (dirty_size (get c.rows b)) (k.sizes b);
    once = rw (map_last w.orders) (twice_last a (addresses w.orders) k.once (sym (names_elem (addresses w.orders) a) ∙ unwritten));
    dirty = λ b h.
        split (eqb a b)
        (λ q. subst (λ (x : ℕ). dirty_at c.rows x ≡ true) (eqb-true a b q) was_dirty)
        (λ q. k.dirty b (names_before w.orders _ b q h));
  }

sending_pass : (x : ℕ) (l : List ℕ) (c : Cache) (w : Work) → Sending c w → Sending c (write_dirty x l w)
unfolding write_dirty
sending_pass x [] c w k = k
sending_pass x (a ∷ l) c w k =
    sending_pass x l c _
    (choose (λ (v : Work). Sending c v) (ltb 0 (share_missing x w.cache) && dirty_at w.cache.rows a)
    (λ p. sending_write a c w k (both (ltb 0 (share_missing x w.cache)) _ p).1) (λ p. k))

sending_none : (c : Cache) → Sending c (start c)
unfolding names twice
sending_none c = record { sizes = λ b. refl; once = refl; dirty = λ b h. absurd (false≢true h) }

-- ---- what is sent

pub record Sent (c : Cache) (w : Work) : Type 0 where
  pub ledger : ledger_of w.cache ≡ hear_list (addresses w.orders) (ledger_of c)
  pub once : twice (addresses w.orders) ≡ false
  pub dirty : (b : ℕ) → elem b (addresses w.orders) ≡ true → dirty_at c.rows b ≡ true

writes_at : (rows : List Row) (l : List ℕ) → addresses (writes_of rows l) ≡ l
writes_at rows [] = refl
writes_at rows (a ∷ l) = ap (λ (r : List ℕ). a ∷ r) (writes_at rows l)

pub sends : (c : Cache) (message : List ℕ) {r : Request} → Sends r → Sound c → Sent c (effect c message r)
unfolding effect
sends c message flush k =
    let l = dirty_rising c.rows in
    let o = flush_order c.rows k.distinct in
    let e = writes_at c.rows l in
    record {
      ledger = rw e (takes_list l c);
      once = rw e (rising_once l o.rising);
      dirty = λ b h. sym (o.dirty b) ∙ ap (elem b) (sym e) ∙ h;
    }
sends c message sync k =
    let s = sending_pass 0 c.recency c (start c) (sending_none c) in
    record {
      ledger = same_ledger s.sizes refl;
      once = s.once;
      dirty = λ b h. s.dirty b (names_elem _ b ∙ h);
    }
