-- The bytes missing of the clean share: 0 exactly where the test passes, so that the pass by the one is the pass by the other; and what a write
-- leaves missing.
use Rattle.std.specs.Prelude.{if◌then◌else◌, Option, None, Some, option_map, unwrap_or}
use Prim.Native.Nat.{ℕ, ◌+◌, ◌-◌, ◌≤◌}
use mathlib.Core.Bool.{Bool, true, false, not, ◌&&◌}
use mathlib.Core.List.{List, [], ◌∷◌}
use mathlib.Core.Path.{◌≡◌, refl, ap, ap₂, subst, ◌∙◌}
use native.Mathlib.Omega.{arith}
use lib.Dec.{eqb, ltb}
use borrow.Author.Tests.{eqb-true, eq-eqb, lt-ltb, le-ltb, le-leb, leb-true, leb-false}
use Rattle.settings.specs.declared.Mode.TheVariants.{Alone}
use Rattle.rules.specs.declared.entry.Entry.{Entry}
use Rattle.rules.specs.Types.{Row}
use Rattle.rules.specs.declared.request.Request.TheVariants.{Sync}
use Rattle.rules.specs.Addresses.{elem, twice}
use Rattle.rules.specs.Cache.{Cache, Work, start, recency_list, minimum_clean, amend_at, with_count}
use Rattle.rules.specs.Entries.{is_clean, cleaned}
use Rattle.rules.specs.Requests.{effect, numbered}
use Rattle.rules.specs.Room.{clean_bytes, unused_bytes, share_missing, tail_turn, evict_by, write_in_place, write_dirty, room_in}
use Rattle.rules.specs.Rows.{get, passes, amend, dirty_at, size_at}
use Rattle.rules.specs.ShareTest.{clean_share_met, write_by_test}
use Rattle.rules.proofs.Found.{get_amend}
use Rattle.rules.proofs.Tests.{split, neither, swap}
use Rattle.rules.proofs.Totals.{total_same}

-- ---- 0 exactly where the test passes

module _ (x : ℕ) (c : Cache) where
  abbrev have : ℕ
  have = clean_bytes c.rows c.recency + unused_bytes x c

  pub met_none : clean_share_met x c ≡ true → share_missing x c ≡ 0
  met_none h = let l = leb-true (minimum_clean c) have h in omega arith

  pub none_met : share_missing x c ≡ 0 → clean_share_met x c ≡ true
  none_met h = le-leb (minimum_clean c) have (omega arith)

  -- no more is missing than is wanted
  pub missing_most : share_missing x c ≤ minimum_clean c
  missing_most = omega arith

  pub missing_test : ltb 0 (share_missing x c) ≡ not (clean_share_met x c)
  missing_test =
      split (clean_share_met x c)
      (λ p. rw p (let e = met_none p in le-ltb 0 (share_missing x c) (omega arith)))
      (λ p. rw p (let l = leb-false (minimum_clean c) have p in lt-ltb 0 (share_missing x c) (omega arith)))

-- ---- no order changes

pub writes_as_before : (x : ℕ) (l : List ℕ) (w : Work) → write_dirty x l w ≡ write_by_test x l w
unfolding write_dirty write_by_test
writes_as_before x [] w = refl
writes_as_before x (a ∷ l) w =
    ap (λ (t : Bool). write_dirty x l (if t && dirty_at w.cache.rows a then write_in_place a w else w)) (missing_test x w.cache)
    ∙ writes_as_before x l _

-- making room alone, and sync, with the pass by the test
pub room_as_before : (x : ℕ) (row : Bool) (w : Work)
    → room_in Alone x row w ≡ write_by_test x (recency_list (evict_by tail_turn x row w).cache) (evict_by tail_turn x row w)
unfolding room_in
room_as_before x row w = writes_as_before x _ _

pub sync_as_before : (c : Cache) (message : List ℕ)
    → effect c message Sync ≡ (let w = write_by_test 0 (recency_list c) (start c) in record { cache = numbered (with_count 0 w.cache); orders = w.orders })
unfolding effect
sync_as_before c message = ap (λ (w : Work). record { cache = numbered (with_count 0 w.cache); orders = w.orders }) (writes_as_before 0 _ _)

-- ---- the clean bytes

abbrev counts_of : Option Entry → ℕ
counts_of o = if passes is_clean o then unwrap_or (option_map (λ e. e.size) o) 0 else 0

module _ (a : ℕ) (rows : List Row) where
  get_other : (b : ℕ) → eqb a b ≡ false → get (amend a cleaned rows) b ≡ get rows b
  get_other b p = get_amend a cleaned (λ e. refl) b rows ∙ rw p

  clean_else : (l : List ℕ) → elem a l ≡ false → clean_bytes (amend a cleaned rows) l ≡ clean_bytes rows l
  unfolding clean_bytes elem
  clean_else [] h = refl
  clean_else (b ∷ l) h =
      let k = neither (eqb b a) (elem a l) h in
      ap₂ (λ (o : Option Entry) (n : ℕ). counts_of o + n) (get_other b (swap b a k.0)) (clean_else l k.1)

  -- what a dirty entry counts once it is written
  now_counts : dirty_at rows a ≡ true → counts_of (get (amend a cleaned rows) a) ≡ counts_of (get rows a) + size_at rows a
  now_counts d = rw (get_amend a cleaned (λ e. refl) a rows, eq-eqb a a refl) (go (get rows a) d)
    where
      go : (o : Option Entry) → passes (λ e. e.dirty) o ≡ true → counts_of (option_map cleaned o) ≡ counts_of o + unwrap_or (option_map (λ e. e.size) o) 0
      go None d = refl
      go (Some e) d = rw d (omega arith)

  clean_raised : (l : List ℕ) → twice l ≡ false → elem a l ≡ true → dirty_at rows a ≡ true → clean_bytes (amend a cleaned rows) l ≡ clean_bytes rows l + size_at rows a
  unfolding clean_bytes elem twice
  clean_raised [] t h d = absurd (let z : ◌≡◌ {A = Bool} false true = h in let y : ◌≡◌ {A = ℕ} 0 1 = cc in omega arith)
  clean_raised (b ∷ l) t h d =
      let k = neither (elem b l) (twice l) t in
      split (eqb b a)
      (λ p. let q = eqb-true b a p in
      let e = clean_else l (subst (λ (n : ℕ). elem n l ≡ false) q k.0) in
      let c = now_counts d in
      rw q (omega arith))
      (λ p. let c = ap counts_of (get_other b (swap b a p)) in
      let e = clean_raised l k.1 (simp p at h) d in
      omega arith)

-- a write of a listed dirty entry lowers what is missing by its size, not below 0
pub missing_write : (x a : ℕ) (c : Cache) → twice c.recency ≡ false → elem a c.recency ≡ true → dirty_at c.rows a ≡ true
    → share_missing x (amend_at a cleaned c) ≡ share_missing x c - size_at c.rows a
missing_write x a c t h d =
    rw (total_same (λ e. e.size) a cleaned (λ e. refl) c.rows, clean_raised a c.rows c.recency t h d) (omega arith)
