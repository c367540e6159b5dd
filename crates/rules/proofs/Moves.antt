-- Making room, sync and age-out as moves: an entry of the recency list is evicted if it is clean, or written if it is dirty; and, at a flash
-- or an epoch's end, figures and idle counts change. What holds of each move and goes on to the next holds of every pass.
use Rattle.std.specs.Prelude.{if◌then◌else◌, Option, None, Some, option_map}
use Prim.Native.Nat.{ℕ, zero, suc, ◌+◌, ◌*◌}
use mathlib.Core.Path.{◌≡◌, refl, sym, ap, subst, ◌∙◌}
use mathlib.Core.Bool.{Bool, true, false, not}
use Rattle.std.proofs.lemmas.Option.{none-some}
use mathlib.Core.List.{List, [], ◌∷◌, ◌++◌}
use lib.Dec.{eqb, ltb}
use lib.ListN.{length, length-append}
use borrow.Author.Tests.{eqb-true, eq-eqb, not-true, not-false}
use Rattle.rules.specs.declared.entry.Entry.{Entry}
use Rattle.settings.specs.declared.Mode.{Mode}
use Rattle.settings.specs.declared.Mode.TheVariants.{Alone, Lead, Standby}
use Rattle.rules.specs.Addresses.{elem, strike, twice, nearest}
use Rattle.rules.specs.Allowed.{Sound}
use Rattle.rules.specs.Cache.{Cache, Work, with_rows, with_maximum, with_counters, with_exceeded}
use Rattle.rules.specs.Entries.{is_listed, is_clean, cleaned}
use Rattle.rules.specs.Resizing.{evict_aged, expel, aged_at, older}
use Rattle.rules.specs.Room.{evict, write, write_in_place, lacking, share_missing, look_at_tail, tail_turn, clean_turn, or_stay, turns, evict_by, write_dirty, room_in, noticed, make_room}
use Rattle.rules.specs.Rows.{get, passes, amend, amend_all, remove, clean_at, dirty_at}
use Rattle.rules.proofs.Found.{get_remove, get_amend, get_amend_all, distinct_remove, distinct_amend, distinct_amend_all, pass_map, present}
use Rattle.rules.proofs.Lists.{elem_append, elem_first, elem_rest, elem_strike, twice_strike, twice_last}
use Rattle.rules.proofs.Tests.{split, choose, both, neither, or_false, or_comm}
use Rattle.rules.specs.Refusals.{is_alone}

-- l has what m has, and nothing twice if m has not
pub record SameList (l m : List ℕ) : Type 0 where
  pub has : (b : ℕ) → elem b l ≡ elem b m
  pub once : twice m ≡ false → twice l ≡ false

-- another maximum and other counters
abbrev pub tuned : ℕ → ℕ → ℕ → Work → Work
tuned n h k w = record { cache = with_counters h k (with_maximum n w.cache); orders = w.orders }

-- another word on whether the maximum was exceeded
abbrev pub noted : Bool → Work → Work
noted b w = record { cache = with_exceeded b w.cache; orders = w.orders }

-- each idle count one higher
abbrev pub idled : Work → Work
idled w = record { cache = with_rows (amend_all older w.cache.rows) w.cache.recency w.cache; orders = w.orders }

-- where `may` is false nothing is written; where `sets` is false no maximum, counter or idle count changes
pub data Moves (may sets : Bool) : Work → Work → Type 0 where
  done : {w : Work} → Moves may sets w w
  evicts : {w v : Work} (a : ℕ) (e : Entry) → get w.cache.rows a ≡ Some e → is_listed e ≡ true → e.dirty ≡ false
      → Moves may sets (evict a w) v → Moves may sets w v
  writes : {w v : Work} (a : ℕ) (e : Entry) (l : List ℕ) → may ≡ true → get w.cache.rows a ≡ Some e → is_listed e ≡ true → e.dirty ≡ true
      → SameList l w.cache.recency → Moves may sets (write a l w) v → Moves may sets w v
  tunes : {w v : Work} (n h k : ℕ) → sets ≡ true → Moves may sets (tuned n h k w) v → Moves may sets w v
  ages : {w v : Work} → sets ≡ true → Moves may sets (idled w) v → Moves may sets w v
  notes : {w v : Work} (b : Bool) → Moves may sets (noted b w) v → Moves may sets w v

pub moves_trans : {may sets : Bool} {u v w : Work} → Moves may sets u v → Moves may sets v w → Moves may sets u w
moves_trans done n = n
moves_trans (evicts a e g l d m) n = evicts a e g l d (moves_trans m n)
moves_trans (writes a e r k g l d s m) n = writes a e r k g l d s (moves_trans m n)
moves_trans (tunes i h k y m) n = tunes i h k y (moves_trans m n)
moves_trans (ages y m) n = ages y (moves_trans m n)
moves_trans (notes b m) n = notes b (moves_trans m n)

-- ---- a sound cache stays sound

pub sound_remove : (a : ℕ) (c : Cache) → Sound c → Sound (with_rows (remove a c.rows) (strike a c.recency) c)
sound_remove a c k = record {
  distinct = distinct_remove a c.rows k.distinct;
  listed = λ b. rw (elem_strike a b c.recency, get_remove a b c.rows) (split (eqb a b) (λ q. simp q) (λ q. simp q (k.listed b)));
  once = twice_strike a c.recency k.once;
}

-- an entry changes where it stands, and is listed as before
module _ (a : ℕ) (f : Entry → Entry) (keeps : (e : Entry) → (f e).address ≡ e.address) where
  pub sound_amend : (l : List ℕ) (c : Cache) → SameList l c.recency → passes (λ e. is_listed (f e)) (get c.rows a) ≡ passes is_listed (get c.rows a)
      → Sound c → Sound (with_rows (amend a f c.rows) l c)
  sound_amend l c s stays k = record {
    distinct = distinct_amend a f keeps c.rows k.distinct;
    listed = λ b. s.has b ∙ k.listed b ∙ rw (get_amend a f keeps b c.rows)
        (split (eqb a b)
        (λ q. simp (q, pass_map f is_listed) (subst (λ (x : ℕ). passes is_listed (get c.rows x) ≡ passes (λ e. is_listed (f e)) (get c.rows x)) (eqb-true a b q) (sym stays)))
        (λ q. simp q));
    once = s.once k.once;
  }

cleaned_listed : (o : Option Entry) → passes (λ e. is_listed (cleaned e)) o ≡ passes is_listed o
cleaned_listed None = refl
cleaned_listed (Some e) = refl

pub sound_write : (a : ℕ) (l : List ℕ) (c : Cache) → SameList l c.recency → Sound c → Sound (with_rows (amend a cleaned c.rows) l c)
sound_write a l c s k = sound_amend a cleaned (λ x. refl) l c s (cleaned_listed (get c.rows a)) k

pub sound_ages : (c : Cache) → Sound c → Sound (with_rows (amend_all older c.rows) c.recency c)
sound_ages c k = record {
  distinct = distinct_amend_all older (λ e. refl) c.rows k.distinct;
  listed = λ b. k.listed b ∙ rw (get_amend_all older (λ e. refl) b c.rows) (sym (pass_map older is_listed (get c.rows b)));
  once = k.once;
}

pub sound_same : (c d : Cache) → d.rows ≡ c.rows → d.recency ≡ c.recency → Sound c → Sound d
sound_same c d p q k = record { distinct = rw p k.distinct; listed = λ b. rw (p, q) (k.listed b); once = rw q k.once }

pub moves_sound : {may sets : Bool} {w v : Work} → Moves may sets w v → Sound w.cache → Sound v.cache
moves_sound done k = k
moves_sound (evicts {w} a e g l d m) k = moves_sound m (sound_remove a w.cache k)
moves_sound (writes {w} a e r p g l d s m) k = moves_sound m (sound_write a r w.cache s k)
moves_sound (tunes {w} n h i y m) k = moves_sound m (sound_same w.cache (tuned n h i w).cache refl refl k)
moves_sound (ages {w} y m) k = moves_sound m (sound_ages w.cache k)
moves_sound (notes {w} b m) k = moves_sound m (sound_same w.cache (noted b w).cache refl refl k)

-- ---- each pass is moves

pub same_list : (l : List ℕ) → SameList l l
same_list l = record { has = λ b. refl; once = λ h. h }

-- the entries at the addresses of a list, those that are there, are listed
unfoldable pub Listed : List ℕ → Work → Type 0
Listed l w = (b : ℕ) → elem b l ≡ true → passes (λ e. not (is_listed e)) (get w.cache.rows b) ≡ false

listed_rest : (a : ℕ) (l : List ℕ) (w : Work) → Listed (a ∷ l) w → Listed l w
unfolding Listed
listed_rest a l w k b h = k b (elem_rest a b l h)

listed_evict : (a : ℕ) (l : List ℕ) (w : Work) → Listed l w → Listed l (evict a w)
unfolding Listed
listed_evict a l w k b h = rw (get_remove a b w.cache.rows) (split (eqb a b) (λ q. simp q) (λ q. simp q (k b h)))

listed_write : (a : ℕ) (l r : List ℕ) (w : Work) → Listed l w → Listed l (write a r w)
unfolding Listed
listed_write a l r w k b h =
    rw (get_amend a cleaned (λ e. refl) b w.cache.rows) (split (eqb a b) (λ q. simp (q, pass_map cleaned) (k b h)) (λ q. simp q (k b h)))

listed_ages : (l : List ℕ) (w : Work) → Listed l w → Listed l (idled w)
unfolding Listed
listed_ages l w k b h = rw (get_amend_all older (λ e. refl) b w.cache.rows) (pass_map older _ (get w.cache.rows b) ∙ k b h)

pub sound_listed : (w : Work) → Sound w.cache → Listed w.cache.recency w
unfolding Listed
sound_listed w k b h = go (get w.cache.rows b) (sym (k.listed b) ∙ h)
  where
    go : (o : Option Entry) → passes is_listed o ≡ true → passes (λ e. not (is_listed e)) o ≡ false
    go None p = refl
    go (Some e) p = rw p

-- an entry of the list that passes a test
found_listed : (test : Entry → Bool) (a : ℕ) (l : List ℕ) (w : Work) → Listed (a ∷ l) w → passes test (get w.cache.rows a) ≡ true
    → (e : Entry) × (get w.cache.rows a ≡ Some e) × (is_listed e ≡ true) × (test e ≡ true)
unfolding Listed
found_listed test a l w k h =
    let p = present test (get w.cache.rows a) h in
    let s = rw p.1 at (k a (elem_first a l)) in
    (p.0, p.1, not-false (is_listed p.0) s, p.2)

module _ {may sets : Bool} (a : ℕ) (l : List ℕ) (w : Work) (k : Listed (a ∷ l) w) where
  evicts_one : {v : Work} → clean_at w.cache.rows a ≡ true → Moves may sets (evict a w) v → Moves may sets w v
  evicts_one h m =
      let p = found_listed is_clean a l w k h in
      evicts a p.0 p.1 p.2 (not-true p.0.dirty p.3) m

  writes_one : {v : Work} (r : List ℕ) → may ≡ true → SameList r w.cache.recency → dirty_at w.cache.rows a ≡ true → Moves may sets (write a r w) v → Moves may sets w v
  writes_one r y s h m =
      let p = found_listed (λ e. e.dirty) a l w k h in
      writes a p.0 r y p.1 p.2 p.3 s m

-- what is nearest is in the list, and passes
pub nearest_in : (test : ℕ → Bool) (a : ℕ) (l : List ℕ) → nearest test l ≡ Some a → (elem a l ≡ true) × (test a ≡ true)
unfolding nearest
nearest_in test a [] h = absurd (none-some a h)
nearest_in test a (b ∷ l) h =
    split (test b)
    (λ p. let g : Some b ≡ Some a = simp p at h in let e : b ≡ a = cc in
    (subst (λ (x : ℕ). elem x (b ∷ l) ≡ true) e (elem_first b l), subst (λ (x : ℕ). test x ≡ true) e p))
    (λ p. let k = nearest_in test a l (simp p at h) in (elem_rest b a l k.0, k.1))

pub dirty_moves : {sets : Bool} (x : ℕ) (l : List ℕ) (w : Work) → Listed l w → Moves true sets w (write_dirty x l w)
unfolding write_dirty
dirty_moves x [] w k = done
dirty_moves {sets} x (a ∷ l) w k =
    choose (λ (v : Work). Moves true sets w (write_dirty x l v)) _
    (λ h. writes_one a l w k w.cache.recency refl (same_list w.cache.recency) (both (ltb 0 (share_missing x w.cache)) (dirty_at w.cache.rows a) h).1
    (dirty_moves x l (write_in_place a w) (listed_write a l w.cache.recency w (listed_rest a l w k))))
    (λ h. dirty_moves x l w (listed_rest a l w k))

-- the tail at the head
pub turned : (a : ℕ) (l : List ℕ) → SameList (l ++ a ∷ []) (a ∷ l)
unfolding elem twice
turned a l = record {
  has = λ b. elem_append b l (a ∷ []) ∙ simp or_false (or_comm (elem b l) (eqb a b));
  once = λ h. let o = neither (elem a l) (twice l) h in twice_last a l o.1 o.0;
}

-- an entry that is there and not dirty is clean
pub clean_of : (test : Entry → Bool) (o : Option Entry) → passes test o ≡ true → passes (λ e. e.dirty) o ≡ false → passes is_clean o ≡ true
clean_of test None p q = p
clean_of test (Some e) p q = rw q

-- ---- the turns of step 1

-- a turn is moves, with one order
pub record OneTurn (may sets : Bool) (w u : Work) : Type 0 where
  pub moves : Moves may sets w u
  pub order : length u.orders ≡ length w.orders + 1

abbrev pub Turning : Bool → Bool → (Work → Option Work) → Type 0
Turning may sets turn = (w u : Work) → Sound w.cache → turn w ≡ Some u → OneTurn may sets w u

pub tail_turns : {sets : Bool} → Turning true sets tail_turn
tail_turns {sets} w u k = go w.cache.recency refl
  where
    go : (l : List ℕ) → w.cache.recency ≡ l → look_at_tail l w ≡ Some u → OneTurn true sets w u
    go [] e n = absurd (none-some u n)
    go (a ∷ l) e n =
        let s : Listed (a ∷ l) w = subst (λ (r : List ℕ). Listed r w) e (sound_listed w k) in
        let same : (if dirty_at w.cache.rows a then write a (l ++ a ∷ []) w else evict a w) ≡ u = cc in
        subst (OneTurn true sets w) same
        (choose (OneTurn true sets w) (dirty_at w.cache.rows a)
        (λ h. record { moves = writes_one a l w s (l ++ a ∷ []) refl (subst (SameList (l ++ a ∷ [])) (sym e) (turned a l)) h done; order = length-append w.orders _ })
        (λ h. record {
          moves = evicts_one a l w s (clean_of is_listed (get w.cache.rows a) (sym (k.listed a) ∙ ap (elem a) e ∙ elem_first a l) h) done;
          order = length-append w.orders _;
        }))

pub clean_turns : {may sets : Bool} → Turning may sets clean_turn
clean_turns {may} {sets} w u k = go (nearest (clean_at w.cache.rows) w.cache.recency) refl
  where
    go : (o : Option ℕ) → nearest (clean_at w.cache.rows) w.cache.recency ≡ o → option_map (λ a. evict a w) o ≡ Some u → OneTurn may sets w u
    go None e n = absurd (none-some u n)
    go (Some a) e n =
        let i = nearest_in (clean_at w.cache.rows) a w.cache.recency e in
        let p = present is_clean (get w.cache.rows a) i.1 in
        let same : evict a w ≡ u = cc in
        subst (OneTurn may sets w) same
        record {
          moves = evicts a p.0 p.1 (sym (ap (passes is_listed) p.1) ∙ sym (k.listed a) ∙ i.0) (not-true p.0.dirty p.2) done;
          order = length-append w.orders _;
        }

pub turns_move : {may sets : Bool} {turn : Work → Option Work} → Turning may sets turn → (n x : ℕ) (row : Bool) (w : Work) → Sound w.cache → Moves may sets w (turns n turn x row w)
unfolding turns
turns_move g zero x row w k = done
turns_move {may} {sets} {turn} g (suc n) x row w k =
    let m = choose (λ (v : Work). Moves may sets w v) (lacking x row w.cache) (λ h. go (turn w) refl) (λ h. done) in
    moves_trans m (turns_move g n x row _ (moves_sound m k))
  where
    go : (o : Option Work) → turn w ≡ o → Moves may sets w (or_stay o w)
    go None e = done
    go (Some u) e = (g w u k e).moves

-- ---- making room

-- moves keep the mode and the next number
abbrev pub Stays : Cache → Cache → Type 0
Stays c d = (d.mode ≡ c.mode) × (d.next ≡ c.next)

pub moves_stay : {may sets : Bool} {w v : Work} → Moves may sets w v → Stays w.cache v.cache
moves_stay done = (refl, refl)
moves_stay (evicts a e g l d m) = moves_stay m
moves_stay (writes a e r k g l d s m) = moves_stay m
moves_stay (tunes n h k y m) = moves_stay m
moves_stay (ages y m) = moves_stay m
moves_stay (notes b m) = moves_stay m

pub moves_mode : {may sets : Bool} {w v : Work} → Moves may sets w v → v.cache.mode ≡ w.cache.mode
moves_mode m = (moves_stay m).0

-- alone writes; a lead and a standby do not
pub room_moves : {sets : Bool} (x : ℕ) (row : Bool) (w : Work) → Sound w.cache → Moves (is_alone w.cache.mode) sets w (make_room x row w)
unfolding make_room room_in
room_moves {sets} x row w k =
    choose (λ (v : Work). Moves (is_alone w.cache.mode) sets w v) w.cache.settings.evictions
    (λ h. notes (noticed x w).cache.exceeded (go w.cache.mode (noticed x w) (sound_same w.cache (noticed x w).cache refl refl k))) (λ h. done)
  where
    go : (m : Mode) (u : Work) → Sound u.cache → Moves (is_alone m) sets u (room_in m x row u)
    go Alone u k =
        let t = turns_move tail_turns (2 * length u.cache.rows) x row u k in
        let v = evict_by tail_turn x row u in
        moves_trans t (dirty_moves x v.cache.recency v (sound_listed v (moves_sound t k)))
    go Lead u k = turns_move clean_turns (2 * length u.cache.rows) x row u k
    go Standby u k = turns_move clean_turns (2 * length u.cache.rows) x row u k

pub room_after : {sets : Bool} {w v : Work} (x : ℕ) (row : Bool) → Sound w.cache → Moves (is_alone w.cache.mode) sets w v
    → Moves (is_alone w.cache.mode) sets w (make_room x row v)
room_after {sets} {v = v} x row k m =
    moves_trans m (subst (λ (n : Mode). Moves (is_alone n) sets v (make_room x row v)) (moves_mode m) (room_moves x row v (moves_sound m k)))

-- ---- age-out

written_clean : (a : ℕ) (w : Work) → dirty_at w.cache.rows a ≡ true → clean_at (amend a cleaned w.cache.rows) a ≡ true
written_clean a w d = rw (get_amend a cleaned (λ e. refl) a w.cache.rows) (simp (eq-eqb a a refl) (go (get w.cache.rows a) d))
  where
    go : (o : Option Entry) → passes (λ e. e.dirty) o ≡ true → passes is_clean (option_map cleaned o) ≡ true
    go None p = p
    go (Some e) p = refl

module _ (n a : ℕ) (l : List ℕ) (w : Work) (k : Listed (a ∷ l) w) (h : aged_at n w.cache a ≡ true) where
  evicts_aged : {may sets : Bool} → dirty_at w.cache.rows a ≡ false → Moves may sets w (evict a w)
  evicts_aged d = evicts_one a l w k (clean_of _ (get w.cache.rows a) h d) done

  expel_moves : {sets : Bool} (m : Mode) → Moves (is_alone m) sets w (expel m a w)
  expel_moves {sets} Alone =
      choose (λ (v : Work). Moves true sets w v) (dirty_at w.cache.rows a)
      (λ d. writes_one a l w k w.cache.recency refl (same_list w.cache.recency) d
      (evicts_one a l (write_in_place a w) (listed_write a (a ∷ l) w.cache.recency w k) (written_clean a w d) done))
      (λ d. evicts_aged d)
  expel_moves {sets} Lead = choose (λ (v : Work). Moves false sets w v) (dirty_at w.cache.rows a) (λ d. done) (λ d. evicts_aged d)
  expel_moves {sets} Standby = choose (λ (v : Work). Moves false sets w v) (dirty_at w.cache.rows a) (λ d. done) (λ d. evicts_aged d)

-- moves keep what was listed
moves_listed : {may sets : Bool} {w v : Work} (l : List ℕ) → Moves may sets w v → Listed l w → Listed l v
unfolding Listed
moves_listed l done k = k
moves_listed l (evicts {w} a e g x d m) k = moves_listed l m (listed_evict a l w k)
moves_listed l (writes {w} a e r y g x d s m) k = moves_listed l m (listed_write a l r w k)
moves_listed l (tunes n h i y m) k = moves_listed l m k
moves_listed l (ages {w} y m) k = moves_listed l m (listed_ages l w k)
moves_listed l (notes b m) k = moves_listed l m k

pub aged_moves : {sets : Bool} (m : Mode) (n : ℕ) (l : List ℕ) (w : Work) → w.cache.mode ≡ m → Listed l w → Moves (is_alone m) sets w (evict_aged n l w)
unfolding evict_aged
aged_moves m n [] w e k = done
aged_moves {sets} m n (a ∷ l) w e k =
    let t : Moves (is_alone m) sets w (if aged_at n w.cache a then expel w.cache.mode a w else w) =
    choose (λ (v : Work). Moves (is_alone m) sets w v) (aged_at n w.cache a)
    (λ h. subst (λ (x : Mode). Moves (is_alone m) sets w (expel x a w)) (sym e) (expel_moves n a l w k h m)) (λ h. done) in
    moves_trans t (aged_moves m n l _ (moves_mode t ∙ e) (moves_listed l t (listed_rest a l w k)))
