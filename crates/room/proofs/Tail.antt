-- The first step is document 01's while loop: from where it stands, and a turn of it alone.
use Prim.Native.Nat.{ℕ, ◌<◌}
use mathlib.Core.Bool.{Bool, true, false}
use mathlib.Core.List.{List, [], ◌∷◌, ◌++◌}
use Rattle.std.proofs.lemmas.Option.{none-some}
use Rattle.std.specs.Prelude.{Option, None, Some}
use mathlib.Core.Path.{◌≡◌, refl, sym, subst, ◌∙◌}
use native.Mathlib.Omega.{arith}
use lib.ListN.{length, get_or, drop, length-append, length-drop}
use Rattle.rules.proofs.Tests.{either}
use Rattle.rules.specs.Cache.{Work}
use Rattle.rules.specs.Loops.{While, met, none_left, again}
use Rattle.rules.specs.Room.{evict, write, look_at_tail}
use Rattle.rules.specs.Rows.{dirty_at}

-- ---- a while loop from where it stands

module _ {on : Work → Bool} {turn : Work → Option Work} where
  pub while_met : {w v : Work} → While on turn w v → on w ≡ false → w ≡ v
  while_met (met h) p = refl
  while_met (none_left h n) p = refl
  while_met (again {w} h e l) p = either (on w) h p

  pub while_none : {w v : Work} → While on turn w v → turn w ≡ None → w ≡ v
  while_none (met h) p = refl
  while_none (none_left h n) p = refl
  while_none (again {w} {u} h e l) p = absurd (none-some u (sym (sym e ∙ p)))

  pub while_again : {w u v : Work} → While on turn w v → on w ≡ true → turn w ≡ Some u → While on turn u v
  while_again (met {w} h) p q = either (on w) p h
  while_again {u = u} (none_left h n) p q = absurd (none-some u (sym (sym q ∙ n)))
  while_again {u = u} {v} (again {u = t} h e l) p q = let same : t ≡ u = cc in subst (λ (x : Work). While on turn x v) same l

-- ---- the tail

pub turn_write : (l : List ℕ) (w : Work) → 0 < length l → dirty_at w.cache.rows (get_or l 0 0) ≡ true
    → look_at_tail l w ≡ Some (write (get_or l 0 0) (drop 1 l ++ get_or l 0 0 ∷ []) w)
turn_write [] w h d = absurd (omega arith)
turn_write (a ∷ l) w h d = rw d

pub turn_evict : (l : List ℕ) (w : Work) → 0 < length l → dirty_at w.cache.rows (get_or l 0 0) ≡ false → look_at_tail l w ≡ Some (evict (get_or l 0 0) w)
turn_evict [] w h d = absurd (omega arith)
turn_evict (a ∷ l) w h d = rw d

pub turn_none : (l : List ℕ) (w : Work) → length l ≡ 0 → look_at_tail l w ≡ None
turn_none [] w h = refl
turn_none (a ∷ l) w h = absurd (omega arith)

pub length_turned : (l : List ℕ) → 0 < length l → length (drop 1 l ++ get_or l 0 0 ∷ []) ≡ length l
length_turned l h = let e = length-append (drop 1 l) (get_or l 0 0 ∷ []) in let f = length-drop 1 l in omega arith
