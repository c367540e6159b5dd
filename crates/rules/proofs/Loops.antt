-- The passes of making room and of sync are document 01's while loops: a pass goes on while its test holds, turns to the entry that the
-- loop would turn to, and ends when none is left.
use Rattle.std.specs.Prelude.{if◌then◌else◌, Option, None, Some, option_map}
use Prim.Native.Nat.{ℕ, zero, suc, ◌+◌, ◌*◌, ◌≤◌}
use mathlib.Core.Path.{◌≡◌, refl, sym, ap, subst, ◌∙◌}
use mathlib.Core.Bool.{Bool, true, false, not, ◌&&◌, false≢true}
use mathlib.Core.List.{List, [], ◌∷◌, ◌++◌, append_assoc}
use native.Mathlib.Omega.{arith}
use lib.Dec.{eqb}
use lib.ListN.{length}
use borrow.Author.Tests.{eqb-true, eq-eqb}
use Rattle.rules.specs.declared.entry.Entry.{Entry}
use Rattle.rules.specs.Types.{Row}
use Rattle.rules.specs.Addresses.{elem, nearest}
use Rattle.rules.specs.Allowed.{Sound}
use Rattle.rules.specs.Cache.{Work}
use Rattle.rules.specs.Entries.{cleaned}
use Rattle.rules.specs.Loops.{While, met, none_left, again, dirty_turn}
use Rattle.rules.specs.Room.{write_in_place, lacking, tail_turn, clean_turn, or_stay, turns, evict_by, write_dirty}
use Rattle.rules.specs.Rows.{get, passes, amend, dirty_at}
use Rattle.rules.specs.ShareTest.{clean_share_met, write_by_test}
use Rattle.rules.proofs.Found.{get_amend}
use Rattle.rules.proofs.Lists.{elem_append, elem_first, elem_rest}
use Rattle.rules.proofs.Moved.{moved, left, left_most}
use Rattle.rules.proofs.Moves.{moves_sound, Turning, tail_turns, clean_turns, sound_write, same_list}
use Rattle.rules.proofs.Share.{writes_as_before}
use Rattle.rules.proofs.Tests.{split, if_same, or_false}

-- ---- a pass over the list

-- each entry that passes the test is turned to, while the loop goes on
pub sweep : (Work → Bool) → (Work → ℕ → Bool) → (ℕ → Work → Work) → List ℕ → Work → Work
sweep on test act [] w = w
sweep on test act (a ∷ l) w = sweep on test act l (if on w && test w a then act a w else w)

-- no address of a list passes the test
Passed : (ℕ → Bool) → List ℕ → Type 0
Passed test d = (b : ℕ) → elem b d ≡ true → test b ≡ false

nearest_past : (test : ℕ → Bool) (d l : List ℕ) → Passed test d → nearest test (d ++ l) ≡ nearest test l
unfolding nearest Passed
nearest_past test [] l p = refl
nearest_past test (a ∷ d) l p = rw (p a (elem_first a d)) (nearest_past test d l (λ b h. p b (elem_rest a b d h)))

passed_last : (test : ℕ → Bool) (a : ℕ) (d : List ℕ) → Passed test d → test a ≡ false → Passed test (d ++ a ∷ [])
unfolding Passed elem
passed_last test a d p h b i =
    split (eqb a b)
    (λ q. subst (λ (x : ℕ). test x ≡ false) (eqb-true a b q) h)
    (λ q. p b (sym (simp (q, or_false) at (elem_append b d (a ∷ []))) ∙ i))

-- the addresses passed stand before those to come
record At (test : Work → ℕ → Bool) (d l : List ℕ) (w : Work) : Type 0 where
  sound : Sound w.cache
  list : w.cache.recency ≡ d ++ l
  passed : Passed (test w) d

-- a turn to the next address leads past it
abbrev Onward : (Work → ℕ → Bool) → (ℕ → Work → Work) → Type 0
Onward test act = (a : ℕ) (d l : List ℕ) (w : Work) → At test d (a ∷ l) w → test w a ≡ true → (e : List ℕ) × At test e l (act a w)

module _ (on : Work → Bool) (test : Work → ℕ → Bool) (act : ℕ → Work → Work) where
  abbrev turn : Work → Option Work
  turn w = option_map (λ a. act a w) (nearest (test w) w.cache.recency)

  sweep_rests : (l : List ℕ) (w : Work) → on w ≡ false → sweep on test act l w ≡ w
  unfolding sweep
  sweep_rests [] w h = refl
  sweep_rests (a ∷ l) w h = rw h (sweep_rests l w h)

  turn_at : (d l : List ℕ) (w : Work) → At test d l w → turn w ≡ option_map (λ a. act a w) (nearest (test w) l)
  turn_at d l w k =
      ap (λ (o : Option ℕ). option_map (λ a. act a w) o) (ap (nearest (test w)) k.list ∙ nearest_past (test w) d l k.passed)

  sweep_while : Onward test act → (d l : List ℕ) (w : Work) → At test d l w → While on turn w (sweep on test act l w)
  unfolding sweep nearest
  sweep_while onward d [] w k = split (on w) (λ h. none_left h (turn_at d [] w k)) (λ h. met h)
  sweep_while onward d (a ∷ l) w k =
      split (on w)
      (λ h. split (test w a)
      (λ p. let n = onward a d l w k p in rw (h, p) (again {u = act a w} h (turn_at d (a ∷ l) w k ∙ rw p) (sweep_while onward n.0 l (act a w) n.1)))
      (λ p. rw (h, p) (sweep_while onward (d ++ a ∷ []) l w
      (record { sound = k.sound; list = k.list ∙ sym (append_assoc d (a ∷ []) l); passed = passed_last (test w) a d k.passed p }))))
      (λ h. rw (h, sweep_rests l w h) (met h))

fresh_at : (test : Work → ℕ → Bool) (w : Work) → Sound w.cache → At test [] w.cache.recency w
unfolding Passed elem
fresh_at test w k = record { sound = k; list = refl; passed = λ b h. absurd (false≢true h) }

-- ---- step 2, and sync

clean_after : (a b : ℕ) (rows : List Row) → dirty_at (amend a cleaned rows) b ≡ (if eqb a b then false else dirty_at rows b)
clean_after a b rows = rw (get_amend a cleaned (λ e. refl) b rows) (split (eqb a b) (λ q. simp q (go (get rows b))) (λ q. simp q))
  where
    go : (o : Option Entry) → passes (λ e. e.dirty) (option_map cleaned o) ≡ false
    go None = refl
    go (Some e) = refl

AllClean : List Row → List ℕ → Type 0
AllClean rows l = Passed (dirty_at rows) l

clean_written : (a : ℕ) (rows : List Row) (l : List ℕ) → AllClean rows l → AllClean (amend a cleaned rows) (l ++ a ∷ [])
unfolding AllClean Passed
clean_written a rows l c =
    passed_last (dirty_at (amend a cleaned rows)) a l
    (λ b h. clean_after a b rows ∙ rw (c b h) (if_same (eqb a b) false))
    (clean_after a a rows ∙ rw (eq-eqb a a refl))

write_onward : Onward (λ w. dirty_at w.cache.rows) write_in_place
unfolding AllClean
write_onward a d l w k p = (
  d ++ a ∷ [],
  record {
    sound = sound_write a w.cache.recency w.cache (same_list w.cache.recency) k.sound;
    list = k.list ∙ sym (append_assoc d (a ∷ []) l);
    passed = clean_written a w.cache.rows d k.passed;
  },
)

dirty_sweep : (x : ℕ) (l : List ℕ) (w : Work) → write_by_test x l w ≡ sweep (λ w. not (clean_share_met x w.cache)) (λ w. dirty_at w.cache.rows) write_in_place l w
unfolding write_by_test sweep
dirty_sweep x [] w = refl
dirty_sweep x (a ∷ l) w = dirty_sweep x l _

pub dirty_while : (x : ℕ) (w : Work) → Sound w.cache
    → While (λ w. not (clean_share_met x w.cache)) dirty_turn w (write_dirty x w.cache.recency w)
dirty_while x w k =
    rw (writes_as_before x w.cache.recency w, dirty_sweep x w.cache.recency w)
    (sweep_while (λ w. not (clean_share_met x w.cache)) (λ w. dirty_at w.cache.rows) write_in_place write_onward [] w.cache.recency w (fresh_at _ w k))

-- ---- step 1: each turn gives an order, and only so many can come

module _ {may : Bool} {turn : Work → Option Work} (g : Turning may false turn) (x : ℕ) (row : Bool) where
  abbrev on : Work → Bool
  on w = lacking x row w.cache

  turns_rest : (n : ℕ) (w : Work) → on w ≡ false → turns n turn x row w ≡ w
  unfolding turns
  turns_rest zero w h = refl
  turns_rest (suc n) w h = rw h (turns_rest n w h)

  turns_stay : (n : ℕ) (w : Work) → turn w ≡ None → turns n turn x row w ≡ w
  unfolding turns
  turns_stay zero w h = refl
  turns_stay (suc n) w h = rw (h, if_same (on w) w) (turns_stay n w h)

  -- a turn leaves one order less to give
  one_less : (w u : Work) → Sound w.cache → turn w ≡ Some u → left u.cache + 1 ≡ left w.cache
  one_less w u k e = let m = g w u k e in let i = (moved m.moves k).orders in let j = m.order in omega arith

  turns_while : (n : ℕ) (w : Work) → Sound w.cache → left w.cache ≤ n → While on turn w (turns n turn x row w)
  unfolding turns
  turns_while zero w k h = split (on w) (λ p. go p (turn w) refl) (λ p. met p)
    where
      go : on w ≡ true → (o : Option Work) → turn w ≡ o → While on turn w w
      go p None e = none_left p e
      go p (Some u) e = absurd (let i = one_less w u k e in omega arith)
  turns_while (suc n) w k h =
      split (on w)
      (λ p. rw p (go p (turn w) refl (λ u e. turns_while n u (moves_sound (g w u k e).moves k) (let i = one_less w u k e in omega arith))))
      (λ p. rw (p, turns_rest n w p) (met p))
    where
      go : on w ≡ true → (o : Option Work) → turn w ≡ o → ((u : Work) → turn w ≡ Some u → While on turn u (turns n turn x row u)) → While on turn w (turns n turn x row (or_stay o w))
      go p None e f = rw (turns_stay n w e) (none_left p e)
      go p (Some u) e f = again {u = u} p e (f u e)

  turns_enough : (w : Work) → Sound w.cache → While on turn w (evict_by turn x row w)
  turns_enough w k = turns_while (2 * length w.cache.rows) w k (left_most w.cache.rows)

pub tail_while : (x : ℕ) (row : Bool) (w : Work) → Sound w.cache → While (λ w. lacking x row w.cache) tail_turn w (evict_by tail_turn x row w)
tail_while x row w k = turns_enough tail_turns x row w k

pub clean_while : (x : ℕ) (row : Bool) (w : Work) → Sound w.cache → While (λ w. lacking x row w.cache) clean_turn w (evict_by clean_turn x row w)
clean_while x row w k = turns_enough (clean_turns {may = false}) x row w k
