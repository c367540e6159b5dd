-- What the first step of making room has left to do, alone and in the other modes.
use Prim.Native.Nat.{ℕ, ◌+◌, ◌<◌, ◌≤◌}
use mathlib.Core.Bool.{Bool, true, false, true≢false}
use mathlib.Core.List.{List, [], ◌∷◌, ◌++◌}
use Rattle.std.specs.Prelude.{None, Some, option_map}
use mathlib.Core.Path.{◌≡◌, refl, sym, ap}
use native.Mathlib.Numerals.{add-one}
use native.Mathlib.Omega.{arith}
use lib.ListN.{length, get_or, take, drop}
use Rattle.rules.proofs.Loops.{tail_while, clean_while}
use Rattle.rules.specs.Addresses.{nearest}
use Rattle.rules.specs.Allowed.{Sound}
use Rattle.rules.specs.Cache.{Cache, Work, start}
use Rattle.rules.specs.Loops.{While}
use Rattle.rules.specs.Room.{lacking, evict, write}
use Rattle.rules.specs.Rows.{get, clean_at, dirty_at}
use Rattle.rules.specs.declared.order.Order.{Order}
use Rattle.layout.proofs.Cuts.{cut_strike}
use Rattle.room.proofs.Clean.{not_clean, nearest_here, nearest_none, passed_more, passed_cut}
use Rattle.room.proofs.Kept.{work, at_clean}
use Rattle.room.proofs.Tail.{while_met, while_none, while_again, turn_write, turn_evict, turn_none}
use Rattle.room.specs.First.{turn_in, evict_in}

-- The rule comes from work w to v, and no clean entry stands before a place of the list.
pub record ToDo (alone : Bool) (x : ℕ) (row : Bool) (pos : ℕ) (w v : Work) : Type 0 where
  pub loop : While (λ u. lacking x row u.cache) (turn_in alone) w v
  pub passed : nearest (clean_at w.cache.rows) (take pos w.cache.recency) ≡ None

none_passed : (test : ℕ → Bool) (pos : ℕ) (l : List ℕ) → pos ≡ 0 → nearest test (take pos l) ≡ None
unfolding nearest
none_passed test pos l z = rw z

module _ (x : ℕ) (row : Bool) (c : Cache) where
  pub to_do_start : (alone : Bool) → Sound c → ToDo alone x row 0 (start c) (evict_in alone x row c)
  to_do_start true s = record { loop = tail_while x row (start c) s; passed = none_passed (clean_at c.rows) 0 c.recency refl }
  to_do_start false s = record { loop = clean_while x row (start c) s; passed = none_passed (clean_at c.rows) 0 c.recency refl }

  module _ (orders : List Order) (pos : ℕ) (v : Work) where
    pub to_do_enough : (alone : Bool) → lacking x row c ≡ false → ToDo alone x row pos (work c orders) v → work c orders ≡ v
    to_do_enough alone l t = while_met t.loop l

    pub to_do_nothing : (alone : Bool) → (alone ≡ true → pos ≡ 0) → length c.recency ≤ pos → ToDo alone x row pos (work c orders) v → work c orders ≡ v
    to_do_nothing true z h t = let e = z refl in while_none t.loop (turn_none c.recency (work c orders) (omega arith))
    to_do_nothing false z h t =
        while_none t.loop (ap (option_map (λ a. evict a (work c orders))) (nearest_none (clean_at c.rows) pos c.recency h t.passed))

    module _ (low : pos < length c.recency) where
      pub to_do_skip : (alone : Bool) → dirty_at c.rows (get_or c.recency pos 0) ≡ true
          → ToDo alone x row pos (work c orders) v → ToDo alone x row (pos + 1) (work c orders) v
      to_do_skip alone d t = record {
        loop = t.loop;
        passed = rw (add-one pos) (passed_more (clean_at c.rows) pos c.recency low (not_clean (get c.rows (get_or c.recency pos 0)) d) t.passed);
      }

      pub to_do_turn : (alone : Bool) → alone ≡ true → pos ≡ 0 → lacking x row c ≡ true → dirty_at c.rows (get_or c.recency 0 0) ≡ true
          → ToDo alone x row pos (work c orders) v
          → ToDo alone x row pos (write (get_or c.recency 0 0) (drop 1 c.recency ++ get_or c.recency 0 0 ∷ []) (work c orders)) v
      to_do_turn true a z l d t = record {
        loop = while_again t.loop l (turn_write c.recency (work c orders) (omega arith) d);
        passed = none_passed _ pos _ z;
      }
      to_do_turn false a z l d t = absurd (true≢false (sym a))

      turns_to : (alone : Bool) → Sound c → (alone ≡ true → pos ≡ 0) → dirty_at c.rows (get_or c.recency pos 0) ≡ false
          → ToDo alone x row pos (work c orders) v → turn_in alone (work c orders) ≡ Some (evict (get_or c.recency pos 0) (work c orders))
      turns_to true s z d t = rw (z refl) (turn_evict c.recency (work c orders) (omega arith) (rw (z refl) at d))
      turns_to false s z d t =
          ap (option_map (λ a. evict a (work c orders))) (nearest_here (clean_at c.rows) pos c.recency low t.passed (at_clean c s pos low d))

      pub to_do_evict : (alone : Bool) → Sound c → (alone ≡ true → pos ≡ 0) → lacking x row c ≡ true → dirty_at c.rows (get_or c.recency pos 0) ≡ false
          → ToDo alone x row pos (work c orders) v → ToDo alone x row pos (evict (get_or c.recency pos 0) (work c orders)) v
      to_do_evict alone s z l d t = record {
        loop = while_again t.loop l (turns_to alone s z d t);
        passed = rw (cut_strike pos c.recency s.once low) (passed_cut (get_or c.recency pos 0) pos c.rows c.recency t.passed);
      }
