-- What an accepted request leaves: a sound cache with its threshold and rows, entries within their limits, held bytes that differ by
-- what came and what went, and no more orders than document 01 has words for.
use Prim.Native.Nat.{ℕ, ◌+◌, ◌-◌, ◌*◌, ◌≤◌}
use mathlib.Core.Path.{◌≡◌, refl, sym, ap, ◌∙◌}
use mathlib.Core.Bool.{Bool, true, false, not, false≢true}
use Rattle.std.specs.Prelude.{Option, None, Some}
use mathlib.Core.List.{List, [], ◌∷◌}
use native.Mathlib.Omega.{arith}
use lib.Dec.{eqb, leb, ltb}
use lib.ListN.{length, length-append}
use borrow.Author.Tests.{eqb-false, leb-false, ltb-false, not-false}
use Rattle.rules.specs.declared.entry.Entry.{Entry}
use Rattle.rules.specs.declared.entry.Hold.{Hold}
use Rattle.rules.specs.declared.entry.Hold.TheVariants.{Unheld, Readers, Writer}
use Rattle.rules.specs.Types.{Row}
use Rattle.rules.specs.declared.request.Access.{Access}
use Rattle.rules.specs.declared.request.Access.TheVariants.{Reading, Writing}
use Rattle.rules.specs.declared.request.Request.{Request}
use Rattle.rules.specs.declared.request.Request.TheVariants.{Insert, Protect, Release, ReleaseChanged, Pin, Unpin, Resize, Discard, Flush, Sync, Take, Configure}
use Rattle.rules.specs.Addresses.{insert_rising}
use Rattle.rules.specs.Allowed.{Sound, HoldAllowed, EntryAllowed}
use Rattle.rules.specs.Cache.{Cache, Work, start, held, touch, amend_at, with_rows, with_maximum, with_counters, with_count, with_next, with_exceeded}
use Rattle.rules.specs.Entries.{is_held, is_listed, forbids, joined, less_one, with_pin, cleaned, changed_to, protected_for, released, new_entry}
use Rattle.rules.specs.History.{evicted_bytes, brought_in, new_size, old_size, thrown_away}
use Rattle.rules.specs.Kept.{Kept}
use Rattle.rules.specs.Limits.{most_size}
use Rattle.rules.specs.Messages.{read_message, addresses_in}
use Rattle.rules.specs.Refusals.{is_alone, tests, first_of, bad_address, bad_size, no_row}
use Rattle.rules.specs.Requests.{effect, loaded, hit, missed, room_if_released, named, adds, writes_of, configured}
use Rattle.rules.specs.Resizing.{flashed, flashed_to}
use Rattle.rules.specs.Room.{make_room}
use Rattle.rules.specs.Rows.{get, passes, amend, amend_each, has_free, total, is_here, dirty_at, dirty_rising, size_at}
use Rattle.rules.proofs.Epochs.{flash_moves, count_moves, released_moves}
use Rattle.rules.proofs.Fit.{Fit, fit_remove, fit_amend, fit_place, fit_clean}
use Rattle.rules.proofs.Found.{length_remove, length_amend, length_each, length_place, absent}
use Rattle.rules.proofs.Free.{room_free}
use Rattle.rules.proofs.Moved.{moved, orders_left, left, left_most, evicted_append}
use Rattle.rules.proofs.Moves.{Moves, moves_sound, room_moves, room_after, dirty_moves, sound_listed, sound_remove, sound_amend, sound_same, same_list}
use Rattle.rules.proofs.Sound.{sound_touch, sound_place, sound_load, sound_clean}
use Rattle.rules.proofs.Steps.{failed}
use Rattle.rules.proofs.Tests.{split, choose, neither}
use Rattle.rules.proofs.Totals.{figure_of, total_remove, total_amend, total_same, total_each, total_place}

-- ---- a flash

-- a flash changes the maximum, the counters and what was found since alone
pub flash_elim : (P : Cache → Type 0) (x : ℕ) (c : Cache) → ((n h k : ℕ) (b : Bool) → P (with_exceeded b (with_counters h k (with_maximum n c)))) → P (flashed x c)
unfolding flashed
flash_elim P x c f =
    choose P (ltb c.maximum (flashed_to x c))
    (λ h. f (flashed_to x c) 0 0 false) (λ h. f c.maximum c.accesses c.hits c.exceeded)

pub flash_sound : (x : ℕ) (c : Cache) → Sound c → Sound (flashed x c)
flash_sound x c k = flash_elim Sound x c (λ n h i b. sound_same c (with_exceeded b (with_counters h i (with_maximum n c))) refl refl k)

-- ---- room for a new entry

-- the cache once room has been made
abbrev pub room_for : ℕ → Cache → Work
room_for s c = make_room s true (start (flashed s c))

pub record Ready (a s : ℕ) (c : Cache) : Type 0 where
  pub moves : Moves (is_alone c.mode) true (start c) (room_for s c)
  pub sound : Sound (room_for s c).cache
  pub free : has_free (room_for s c).cache.rows ≡ true
  pub absent : get (room_for s c).cache.rows a ≡ None

pub ready : (a s : ℕ) (c : Cache) → Sound c → is_here c.rows a ≡ false → no_row c ≡ false → Ready a s c
ready a s c k n f =
    let m = room_after s true k (flash_moves s c) in
    record {
      moves = m;
      sound = moves_sound m k;
      free = room_free s (start (flashed s c)) (flash_sound s c k) (flash_elim (λ (d : Cache). no_row d ≡ false) s c (λ n h i b. f));
      absent = (moved m k).absent a (absent (get c.rows a) n);
    }

-- ---- a request under way

-- the bytes that came and went, and the orders beyond two for each row
record Doing (c : Cache) (came went extra : ℕ) (w : Work) : Type 0 where
  kept : Kept c w.cache
  sound : Sound w.cache
  entries : Fit c.rows → Fit w.cache.rows
  held : held w.cache + (went + evicted_bytes w.orders) ≡ held c + came
  orders : length w.orders + left w.cache ≤ 2 * length c.rows + extra

module _ {c : Cache} {came went : ℕ} where
  starts : {d : Cache} → Kept c d → Sound d → (Fit c.rows → Fit d.rows) → held d + went ≡ held c + came → Doing c came went 0 (start d)
  unfolding evicted_bytes
  starts {d} k s f h = record {
    kept = k;
    sound = s;
    entries = f;
    held = omega arith;
    orders = let i = left_most d.rows in let j = k.rows in omega arith;
  }

  module _ {extra : ℕ} {w : Work} (d : Doing c came went extra w) where
    goes : {may sets : Bool} {v : Work} → Moves may sets w v → Doing c came went extra v
    goes {v = v} m =
        let k = moved m d.sound in
        record {
          kept = record { threshold = k.kept.threshold ∙ d.kept.threshold; rows = k.kept.rows ∙ d.kept.rows };
          sound = moves_sound m d.sound;
          entries = λ f. k.entries (d.entries f);
          held = let i = k.held in let j = d.held in omega arith;
          orders = let i = k.orders in let j = d.orders in omega arith;
        }

    recounted : (n : ℕ) → Doing c came went extra (record { cache = with_count n w.cache; orders = w.orders })
    recounted n = record {
      kept = record { threshold = d.kept.threshold; rows = d.kept.rows };
      sound = sound_same w.cache (with_count n w.cache) refl refl d.sound;
      entries = d.entries;
      held = d.held;
      orders = d.orders;
    }

    renumbered : (n : ℕ) → Doing c came went extra (record { cache = with_next n w.cache; orders = w.orders })
    renumbered n = record {
      kept = record { threshold = d.kept.threshold; rows = d.kept.rows };
      sound = sound_same w.cache (with_next n w.cache) refl refl d.sound;
      entries = d.entries;
      held = d.held;
      orders = d.orders;
    }

    makes_room : (x : ℕ) (row : Bool) → Doing c came went extra (make_room x row w)
    makes_room x row = goes (room_moves {sets = false} x row w d.sound)

-- the cache is as it was
starts_same : {c : Cache} → Sound c → Doing c 0 0 0 (start c)
starts_same k = starts (record { threshold = refl; rows = refl }) k (λ f. f) refl

-- ---- entries within their limits

-- a size that is not refused
module _ (s : ℕ) (sized : bad_size s ≡ false) where
  pub size_some : 1 ≤ s
  size_some = omega (arith, eqb-false s 0 (neither (eqb s 0) _ sized).0)

  pub size_most : s ≤ most_size
  size_most = ltb-false most_size s (neither (eqb s 0) _ sized).1

-- an address and a size that are not refused
module _ (a s : ℕ) (ok : bad_address a ≡ false) (sized : bad_size s ≡ false) where
  pub new_allowed : (d : Bool) (h : Hold) → HoldAllowed h → EntryAllowed (new_entry a s d h)
  new_allowed d h k = record { address = ok; nonempty = size_some s sized; size = size_most s sized; idle = omega arith; hold = k }

pub changed_allowed : (s : ℕ) (e : Entry) → bad_size s ≡ false → EntryAllowed e → EntryAllowed (changed_to s e)
changed_allowed s e sized k =
    record { address = k.address; nonempty = size_some s sized; size = size_most s sized; idle = k.idle; hold = k.hold }

pub joined_new : (x : Access) → HoldAllowed (joined x Unheld)
joined_new Reading = omega arith
joined_new Writing = tt

joined_allowed : (x : Access) (h : Hold) → forbids h x ≡ false → HoldAllowed h → HoldAllowed (joined x h)
joined_allowed Reading Unheld f k = omega arith
joined_allowed Reading (Readers n) f k = let i = leb-false _ n f in omega arith
joined_allowed Reading Writer f k = tt
joined_allowed Writing h f k = tt

less_allowed : (h : Hold) → HoldAllowed h → HoldAllowed (less_one h)
less_allowed Unheld k = tt
less_allowed (Readers n) k = choose HoldAllowed (leb n 1) (λ p. tt) (λ p. let i = leb-false n 1 p in omega arith)
less_allowed Writer k = tt

pub protected_allowed : (x : Access) (e : Entry) → forbids e.hold x ≡ false → EntryAllowed e → EntryAllowed (protected_for x e)
protected_allowed x e f k = record {
  address = k.address;
  nonempty = k.nonempty;
  size = k.size;
  idle = omega arith;
  hold = joined_allowed x e.hold f k.hold;
}

pub released_allowed : (e : Entry) → EntryAllowed e → EntryAllowed (released e)
released_allowed e k = record {
  address = k.address;
  nonempty = k.nonempty;
  size = k.size;
  idle = choose (λ (n : ℕ). n ≤ 10) (is_held (less_one e.hold)) (λ h. k.idle) (λ h. omega arith);
  hold = less_allowed e.hold k.hold;
}

pinned_allowed : (p : Bool) (e : Entry) → EntryAllowed e → EntryAllowed (with_pin p e)
pinned_allowed p e k = record { address = k.address; nonempty = k.nonempty; size = k.size; idle = k.idle; hold = k.hold }

-- ---- an entry comes

module _ (a s : ℕ) (c : Cache) (k : Sound c) (ok : bad_address a ≡ false) (sized : bad_size s ≡ false) (r : Ready a s c) where
  arrives : Doing c 0 0 0 (room_for s c)
  arrives = goes (starts_same k) r.moves

  loads : (x : Access) → Doing c s 0 1 (loaded x a s (room_for s c))
  unfolding evicted_bytes
  loads x =
      let w = room_for s c in
      let e = new_entry a s false (joined x Unheld) in
      let d = arrives in
      record {
        kept = record { threshold = d.kept.threshold; rows = length_place e w.cache.rows ∙ d.kept.rows };
        sound = sound_load x a s w.cache r.free r.absent r.sound;
        entries = λ f. fit_place e w.cache.rows r.free r.absent (new_allowed a s ok sized false (joined x Unheld) (joined_new x)) (d.entries f);
        held = rw (evicted_append w.orders) (let i = total_place (λ e. e.size) e w.cache.rows r.free in let j = d.held in omega arith);
        orders = rw (length-append w.orders)
            (let i = total_place orders_left e w.cache.rows r.free in let j = d.orders in let h = unlisted x in omega arith);
      }
    where
      unlisted : (x : Access) → orders_left (new_entry a s false (joined x Unheld)) ≡ 0
      unlisted Reading = refl
      unlisted Writing = refl

-- ---- an accepted request

pub record Done (c : Cache) (came went : ℕ) (w : Work) : Type 0 where
  pub kept : Kept c w.cache
  pub sound : Sound w.cache
  pub entries : Fit c.rows → Fit w.cache.rows
  pub held : held w.cache + (went + evicted_bytes w.orders) ≡ held c + came
  pub orders : length w.orders ≤ 2 * length c.rows + 1

ends : {c : Cache} {came went extra i o : ℕ} {w : Work} → Doing c came went extra w → (extra ≤ 1) × (came ≡ i) × (went ≡ o) → Done c i o w
ends d h = record {
  kept = d.kept;
  sound = d.sound;
  entries = d.entries;
  held = let i = d.held in omega arith;
  orders = let i = d.orders in omega arith;
}

-- figures differ, and the rows and the list do not
pub record SameBooks (c d : Cache) : Type 0 where
  pub rows : d.rows ≡ c.rows
  pub recency : d.recency ≡ c.recency
  pub mode : d.mode ≡ c.mode
  pub next : d.next ≡ c.next
  pub threshold : d.threshold ≡ c.threshold

same_books : (c : Cache) → SameBooks c c
same_books c = record { rows = refl; recency = refl; mode = refl; next = refl; threshold = refl }

pub named_books : (a s : ℕ) (c : Cache) → SameBooks c (named a s c)
named_books a s c =
    flash_elim (λ (d : Cache). SameBooks c (with_count (adds (dirty_at c.rows a) s c.count) d)) (s - size_at c.rows a) c
    (λ n h k b. record { rows = refl; recency = refl; mode = refl; next = refl; threshold = refl })

pub named_sound : (a s : ℕ) (c : Cache) → Sound c → Sound (named a s c)
named_sound a s c k = let b = named_books a s c in sound_same c (named a s c) b.rows b.recency k

-- the entry at an address changes
module _ (a : ℕ) (f : Entry → Entry) (keeps : (e : Entry) → (f e).address ≡ e.address) {c d : Cache} (k : Sound c) (b : SameBooks c d) where
  -- every change of an allowed entry
  abbrev Fits : Type 0
  Fits = (e : Entry) → get c.rows a ≡ Some e → EntryAllowed e → EntryAllowed (f e)

  module _ {came went : ℕ} (fits : Fits) (h : total (λ e. e.size) (amend a f c.rows) + went ≡ held c + came) where
    changes : (l : List ℕ) → Sound (with_rows (amend a f d.rows) l d) → Doing c came went 0 (start (with_rows (amend a f d.rows) l d))
    changes l s =
        starts (record { threshold = b.threshold; rows = rw b.rows (length_amend a f c.rows) }) s
        (rw b.rows (fit_amend a f keeps c.rows fits)) (rw b.rows h)

    touches : Doing c came went 0 (start (touch a f d))
    touches = changes _ (sound_touch a f keeps d (sound_same c d b.rows b.recency k))

    amends : passes (λ e. is_listed (f e)) (get c.rows a) ≡ passes is_listed (get c.rows a) → Doing c came went 0 (start (amend_at a f d))
    amends stays =
        changes d.recency
        (sound_amend a f keeps d.recency d (same_list d.recency) (rw b.rows stays) (sound_same c d b.rows b.recency k))

  -- its size stays
  size_same : ((e : Entry) → (f e).size ≡ e.size) → total (λ e. e.size) (amend a f c.rows) + 0 ≡ held c + 0
  size_same h = let i = total_same (λ e. e.size) a f h c.rows in omega arith

  -- it takes a size
  size_taken : (s : ℕ) → ((e : Entry) → (f e).size ≡ s) → is_here c.rows a ≡ true
      → total (λ e. e.size) (amend a f c.rows) + (size_at c.rows a - s) ≡ held c + (s - size_at c.rows a)
  size_taken s h here =
      let i = total_amend (λ e. e.size) a f c.rows k.distinct in
      let j = go (get c.rows a) here in
      omega arith
    where
      go : (o : Option Entry) → passes (λ e. true) o ≡ true → figure_of (λ e. (f e).size) o ≡ s
      go None p = absurd (false≢true p)
      go (Some e) p = h e

-- a test of the entry found fails
tested : (test : Entry → Bool) {o : Option Entry} → passes test o ≡ false → (e : Entry) → o ≡ Some e → test e ≡ false
tested test h e g = sym (ap (passes test) g) ∙ h

-- a held entry is not listed, pinned or not
pin_stays : (o : Option Entry) → passes (λ e. not (is_held e.hold)) o ≡ false → passes (λ e. is_listed (with_pin true e)) o ≡ passes is_listed o
pin_stays None h = refl
pin_stays (Some e) h = rw h

changed_stays : (s : ℕ) (o : Option Entry) → passes (λ e. is_listed (changed_to s e)) o ≡ passes is_listed o
changed_stays s None = refl
changed_stays s (Some e) = refl

-- ---- orders of a flush

no_evicts : (rows : List Row) (l : List ℕ) → evicted_bytes (writes_of rows l) ≡ 0
unfolding evicted_bytes
no_evicts rows [] = refl
no_evicts rows (a ∷ l) = rw (no_evicts rows l)

length_writes : (rows : List Row) (l : List ℕ) → length (writes_of rows l) ≡ length l
length_writes rows [] = refl
length_writes rows (a ∷ l) = ap (λ n. ℕ.suc n) (length_writes rows l)

length_insert : (a : ℕ) (l : List ℕ) → length (insert_rising a l) ≡ length l + 1
unfolding insert_rising
length_insert a [] = refl
length_insert a (b ∷ l) = choose (λ (m : List ℕ). length m ≡ length (b ∷ l) + 1) (leb a b) (λ p. omega arith) (λ p. let i = length_insert a l in omega arith)

length_dirty : (rows : List Row) → length (dirty_rising rows) ≤ length rows
unfolding dirty_rising
length_dirty [] = omega arith
length_dirty (None ∷ rows) = let ih = length_dirty rows in omega arith
length_dirty (Some e ∷ rows) =
    choose (λ (m : List ℕ). length m ≤ length (Some e ∷ rows)) e.dirty
    (λ p. let ih = length_dirty rows in let i = length_insert e.address (dirty_rising rows) in omega arith)
    (λ p. let ih = length_dirty rows in omega arith)

-- ---- by request

-- the bytes that come and go with a request, but for those evicted
abbrev pub came : Cache → Request → ℕ
came c r = brought_in c r + (new_size r - old_size c r)

abbrev pub went : Cache → Request → ℕ
went c r = thrown_away c r + (old_size c r - new_size r)

abbrev Effect : Cache → ℕ → List ℕ → Request → Type 0
Effect c lent message r = Sound c → first_of (tests c lent message r) ≡ None → Done c (came c r) (went c r) (effect c message r)

-- a further reader, or the first hold
protect_done : (x : Access) (a s : ℕ) (c : Cache) (lent : ℕ) (message : List ℕ) → Effect c lent message (Protect x a s)
unfolding tests effect
protect_done x a s c lent message k h =
    let f = failed (tests c lent message (Protect x a s)) h in
    split (is_here c.rows a)
    (λ p. rw p (ends (hits f.1.1.1.0) (omega arith)))
    (λ p. rw p (ends (misses f.1.0 f.1.1.0 (ready a s c k p (simp p at f.1.1.1.1.0))) (omega arith)))
  where
    hits : passes (λ e. forbids e.hold x) (get c.rows a) ≡ false → Doing c 0 0 0 (hit x a c)
    hits t =
        let d = touches a (protected_for x) (λ e. refl) k (same_books c) (λ e g. protected_allowed x e (tested (λ e. forbids e.hold x) t e g))
        (size_same a (protected_for x) (λ e. refl) k (same_books c) (λ e. refl)) in
        goes d (count_moves true (start (touch a (protected_for x) c)) d.sound)

    misses : bad_address a ≡ false → bad_size s ≡ false → Ready a s c → Doing c s 0 1 (missed x a s c)
    misses ok sized r = let d = loads a s c k ok sized r x in goes d (count_moves false (loaded x a s (room_for s c)) d.sound)

insert_done : (a s : ℕ) (c : Cache) (lent : ℕ) (message : List ℕ) → Effect c lent message (Insert a s)
unfolding tests effect
insert_done a s c lent message k h =
    let f = failed (tests c lent message (Insert a s)) h in
    let r = ready a s c k f.1.1.1.0 f.1.1.1.1.0 in
    let w = room_for s c in
    let e = new_entry a s true Unheld in
    let d = arrives a s c k f.1.0 f.1.1.0 r in
    record {
      kept = record { threshold = d.kept.threshold; rows = length_place e w.cache.rows ∙ d.kept.rows };
      sound = let i = sound_place e w.cache r.free r.absent r.sound in record { distinct = i.distinct; listed = i.listed; once = i.once };
      entries = λ i. fit_place e w.cache.rows r.free r.absent (new_allowed a s f.1.0 f.1.1.0 true Unheld tt) (d.entries i);
      held = let i = total_place (λ e. e.size) e w.cache.rows r.free in let j = d.held in omega arith;
      orders = let i = d.orders in omega arith;
    }

releases : {came went : ℕ} (a : ℕ) (c d : Cache) → Doing c came went 0 (start d) → Doing c came went 0 (room_if_released a d)
releases a c d k = goes k (released_moves {sets = false} a d k.sound)

-- entries become clean where they stand, with any byte count and next number
cleans : (n m : ℕ) (c : Cache) (l : List ℕ) → Sound c → Doing c 0 0 0 (start (with_next m (with_count n (with_rows (amend_each l cleaned c.rows) c.recency c))))
cleans n m c l k =
    starts (record { threshold = refl; rows = length_each l cleaned c.rows })
    (let i = sound_clean l c k in record { distinct = i.distinct; listed = i.listed; once = i.once })
    (fit_clean l c.rows) (let i = total_each (λ e. e.size) l cleaned (λ e. refl) c.rows in omega arith)

pub effects : (c : Cache) (lent : ℕ) (message : List ℕ) (r : Request) → Effect c lent message r
unfolding tests effect evicted_bytes
effects c lent message (Insert a s) k h = insert_done a s c lent message k h
effects c lent message (Protect x a s) k h = protect_done x a s c lent message k h
effects c lent message (Release a) k h =
    ends (releases a c _ (touches a released (λ e. refl) k (same_books c) (λ e g. released_allowed e)
    (size_same a released (λ e. refl) k (same_books c) (λ e. refl)))) (omega arith)
effects c lent message (ReleaseChanged a s) k h =
    let f = failed (tests c lent message (ReleaseChanged a s)) h in
    let g : Entry → Entry = λ e. released (changed_to s e) in
    ends (releases a c _ (touches a g (λ e. refl) k (named_books a s c) (λ e i j. released_allowed (changed_to s e) (changed_allowed s e f.1.1.0 j))
    (size_taken a g (λ e. refl) k (named_books a s c) s (λ e. refl) (not-false _ f.1.1.1.0)))) (omega arith)
effects c lent message (Pin a) k h =
    let f = failed (tests c lent message (Pin a)) h in
    ends (amends a (with_pin true) (λ e. refl) k (same_books c) (λ e g. pinned_allowed true e)
    (size_same a (with_pin true) (λ e. refl) k (same_books c) (λ e. refl)) (pin_stays (get c.rows a) f.1.1.0)) (omega arith)
effects c lent message (Unpin a) k h =
    ends (touches a (with_pin false) (λ e. refl) k (same_books c) (λ e g. pinned_allowed false e)
    (size_same a (with_pin false) (λ e. refl) k (same_books c) (λ e. refl))) (omega arith)
effects c lent message (Resize a s) k h =
    let f = failed (tests c lent message (Resize a s)) h in
    ends (amends a (changed_to s) (λ e. refl) k (named_books a s c) (λ e g. changed_allowed s e f.1.0)
    (size_taken a (changed_to s) (λ e. refl) k (named_books a s c) s (λ e. refl) (not-false _ f.1.1.0)) (changed_stays s (get c.rows a))) (omega arith)
effects c lent message (Discard a) k h =
    ends {came = 0} {went = size_at c.rows a} (starts (record { threshold = refl; rows = length_remove a c.rows }) (sound_remove a c k) (fit_remove a c.rows)
    (let i = total_remove (λ e. e.size) a c.rows k.distinct in omega arith)) (omega arith)
effects c lent message Flush k h =
    let l = dirty_rising c.rows in
    let d = cleans 0 _ c l k in
    record {
      kept = d.kept;
      sound = d.sound;
      entries = d.entries;
      held = let i = d.held in let j = no_evicts c.rows l in omega arith;
      orders = let i = length_writes c.rows l in let j = length_dirty c.rows in omega arith;
    }
effects c lent message Sync k h =
    let d = goes (starts_same k) (dirty_moves {sets = false} 0 c.recency (start c) (sound_listed (start c) k)) in
    ends (renumbered (recounted d 0) _) (omega arith)
effects c lent message Take k h = ends (cleans _ _ c (addresses_in (read_message message)) k) (omega arith)
effects c lent message (Configure s) k h =
    ends {came = 0} {went = 0} (makes_room (starts (record { threshold = refl; rows = refl }) (sound_same c (configured s c) refl refl k) (λ f. f) refl) 0 false) (omega arith)
