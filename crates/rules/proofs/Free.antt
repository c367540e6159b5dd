-- A row is free once room has been made: a loop that wants a row ends when one is free or when nothing is left to turn to, and before
-- that it has evicted an entry if there was one to evict.
use Rattle.std.specs.Prelude.{if◌then◌else◌, Option, None, Some, option_map}
use Prim.Native.Nat.{ℕ, ◌*◌}
use mathlib.Core.Path.{◌≡◌, refl, sym, ap, subst, ◌∙◌}
use mathlib.Core.Bool.{Bool, true, false, not, ◌&&◌, ◌||◌, true≢false}
use Rattle.std.proofs.lemmas.Option.{none-some}
use mathlib.Core.List.{List, [], ◌∷◌, ◌++◌}
use lib.ListN.{length}
use borrow.Author.Tests.{not-false}
use Rattle.rules.specs.declared.entry.Entry.{Entry}
use Rattle.rules.specs.Types.{Row}
use Rattle.settings.specs.declared.Mode.{Mode}
use Rattle.settings.specs.declared.Mode.TheVariants.{Alone, Lead, Standby}
use Rattle.rules.specs.Addresses.{elem, nearest, some_address}
use Rattle.rules.specs.Allowed.{Sound}
use Rattle.rules.specs.Cache.{Work}
use Rattle.rules.specs.Entries.{is_listed, is_clean, cleaned}
use Rattle.rules.specs.Loops.{While, met, none_left, again}
use Rattle.rules.specs.Refusals.{no_row, may_evict}
use Rattle.rules.specs.Resizing.{older}
use Rattle.rules.specs.Room.{evict, write, overfull, lacking, look_at_tail, tail_turn, clean_turn, evict_by, room_in, noticed, make_room}
use Rattle.rules.specs.Rows.{amend_all, has_free, clean_at, dirty_at}
use Rattle.rules.proofs.Found.{free_remove, free_removed, free_amend}
use Rattle.rules.proofs.Lists.{elem_first}
use Rattle.rules.proofs.Loops.{clean_while, tail_while}
use Rattle.rules.proofs.Moves.{Moves, done, evicts, writes, tunes, ages, notes, Turning, tail_turns, clean_turns, turns_move, nearest_in, sound_listed, dirty_moves, moves_sound, sound_same}
use Rattle.rules.proofs.Tests.{split, choose, or_true, or_false, and_true}

-- ---- moves keep a free row

free_all : (f : Entry → Entry) (rows : List Row) → has_free (amend_all f rows) ≡ has_free rows
unfolding amend_all has_free
free_all f [] = refl
free_all f (None ∷ rows) = refl
free_all f (Some e ∷ rows) = free_all f rows

free_moves : {may sets : Bool} {w v : Work} → Moves may sets w v → has_free w.cache.rows ≡ true → has_free v.cache.rows ≡ true
free_moves done h = h
free_moves (evicts {w} a e g l d m) h = free_moves m (free_remove a w.cache.rows h)
free_moves (writes {w} a e r k g l d s m) h = free_moves m (free_amend a cleaned w.cache.rows ∙ h)
free_moves (tunes n i k y m) h = free_moves m h
free_moves (notes b m) h = free_moves m h
free_moves (ages {w} y m) h = free_moves m (free_all older w.cache.rows ∙ h)

-- ---- a loop that wants a row

abbrev is_some : Option Work → Bool
is_some None = false
is_some (Some w) = true

-- a row is free, or there is a turn
abbrev Gives : (Work → Option Work) → Work → Type 0
Gives turn w = has_free w.cache.rows || is_some (turn w) ≡ true

not_lacking : (over free : Bool) → over || not free ≡ false → free ≡ true
not_lacking over true h = refl
not_lacking over false h = absurd (true≢false (sym (or_true over) ∙ h))

-- after a turn a row is free or there is a turn again
abbrev Onward : (Work → Option Work) → Type 0
Onward turn = (w u : Work) → Sound w.cache → turn w ≡ Some u → Gives turn u

module _ (x : ℕ) {may : Bool} {turn : Work → Option Work} (turning : Turning may false turn) (onward : Onward turn) where
  free_while : {w v : Work} → While (λ w. lacking x true w.cache) turn w v → Sound w.cache → Gives turn w → has_free v.cache.rows ≡ true
  free_while (met {w} h) p g = not_lacking (overfull x w.cache) (has_free w.cache.rows) h
  free_while (none_left {w} h n) p g = simp (n, or_false) at g
  free_while (again {w} {u} h e l) p g = free_while l (moves_sound (turning w u p e).moves p) (onward w u p e)

-- ---- alone

tail_gives : Onward tail_turn
tail_gives w u k = go w.cache.recency refl
  where
    head : (l : List ℕ) (a : ℕ) (v : Work) → is_some (look_at_tail (l ++ a ∷ []) v) ≡ true
    head [] a v = refl
    head (b ∷ l) a v = refl

    looked : (a : ℕ) (l : List ℕ) → w.cache.recency ≡ a ∷ l
        → Gives tail_turn (if dirty_at w.cache.rows a then write a (l ++ a ∷ []) w else evict a w)
    looked a l e =
        choose (Gives tail_turn) (dirty_at w.cache.rows a)
        (λ d. rw (head l a (write a (l ++ a ∷ []) w)) (or_true (has_free _)))
        (λ d. rw (free_removed is_listed a w.cache.rows (sym (k.listed a) ∙ ap (elem a) e ∙ elem_first a l)))

    go : (l : List ℕ) → w.cache.recency ≡ l → look_at_tail l w ≡ Some u → Gives tail_turn u
    go [] e n = absurd (none-some u n)
    go (a ∷ l) e n =
        let same : (if dirty_at w.cache.rows a then write a (l ++ a ∷ []) w else evict a w) ≡ u = cc in
        subst (Gives tail_turn) same (looked a l e)

-- ---- lead and standby

nearest_some : (test : ℕ → Bool) (l : List ℕ) (w : Work) → is_some (option_map (λ a. evict a w) (nearest test l)) ≡ some_address test l
unfolding nearest some_address
nearest_some test [] w = refl
nearest_some test (a ∷ l) w = split (test a) (λ p. rw p) (λ p. rw p (nearest_some test l w))

clean_gives : Onward clean_turn
clean_gives w u k = go (nearest (clean_at w.cache.rows) w.cache.recency) refl
  where
    go : (o : Option ℕ) → nearest (clean_at w.cache.rows) w.cache.recency ≡ o → option_map (λ a. evict a w) o ≡ Some u → Gives clean_turn u
    go None e n = absurd (none-some u n)
    go (Some a) e n =
        let same : evict a w ≡ u = cc in
        subst (Gives clean_turn) same (rw (free_removed is_clean a w.cache.rows (nearest_in (clean_at w.cache.rows) a w.cache.recency e).1))

-- ---- making room

tail_some : (l : List ℕ) (w : Work) → is_some (look_at_tail l w) ≡ some_address (λ a. true) l
unfolding some_address
tail_some [] w = refl
tail_some (a ∷ l) w = refl

-- evictions are on: a row is free, or an entry may be evicted
free_or : (free found : Bool) → not free && not found ≡ false → free || found ≡ true
free_or true found h = refl
free_or false found h = not-false found h

free_in : (x : ℕ) (w : Work) → Sound w.cache → (m : Mode) → has_free w.cache.rows || some_address (may_evict m w.cache.rows) w.cache.recency ≡ true
    → has_free (room_in m x true w).cache.rows ≡ true
unfolding room_in
free_in x w k = go
  where
    clean : has_free w.cache.rows || some_address (clean_at w.cache.rows) w.cache.recency ≡ true
        → has_free (room_in Lead x true w).cache.rows ≡ true
    clean g = free_while x (clean_turns {may = false}) clean_gives (clean_while x true w k) k (rw (nearest_some (clean_at w.cache.rows) w.cache.recency w) g)

    go : (m : Mode) → has_free w.cache.rows || some_address (may_evict m w.cache.rows) w.cache.recency ≡ true
        → has_free (room_in m x true w).cache.rows ≡ true
    go Alone g =
        let v = evict_by tail_turn x true w in
        free_moves (dirty_moves {sets = false} x v.cache.recency v (sound_listed v (moves_sound (turns_move (tail_turns {sets = false}) (2 * length w.cache.rows) x true w k) k)))
        (free_while x tail_turns tail_gives (tail_while x true w k) k (rw (tail_some w.cache.recency w) g))
    go Lead g = clean g
    go Standby g = clean g

pub room_free : (x : ℕ) (w : Work) → Sound w.cache → no_row w.cache ≡ false → has_free (make_room x true w).cache.rows ≡ true
unfolding make_room
room_free x w k n =
    choose (λ (v : Work). has_free v.cache.rows ≡ true) w.cache.settings.evictions
    (λ on. free_in x (noticed x w) (sound_same w.cache (noticed x w).cache refl refl k) w.cache.mode (free_or free _ (simp on at n)))
    (λ off. not-false free (simp (off, and_true) at n))
  where
    free : Bool
    free = has_free w.cache.rows
