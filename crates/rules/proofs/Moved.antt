-- What moves keep: the threshold and the number of rows; a sound cache; what was absent; held bytes with what left in evict
-- orders; and the orders that can still come, of which each move uses one.
use Rattle.std.specs.Prelude.{if◌then◌else◌, None, Some}
use Prim.Native.Nat.{ℕ, ◌+◌, ◌*◌, ◌≤◌}
use mathlib.Core.Path.{◌≡◌, refl, ap, ◌∙◌}
use mathlib.Core.Bool.{Bool, true, false}
use mathlib.Core.List.{List, [], ◌∷◌, ◌++◌}
use native.Mathlib.Omega.{arith}
use lib.Dec.{eqb}
use lib.ListN.{length, length-append}
use Rattle.rules.specs.declared.entry.Entry.{Entry}
use Rattle.rules.specs.Types.{Row}
use Rattle.rules.specs.declared.order.Order.{Order}
use Rattle.rules.specs.Allowed.{Sound, EntryAllowed}
use Rattle.rules.specs.Cache.{Cache, Work, held}
use Rattle.rules.specs.Entries.{is_listed, cleaned}
use Rattle.rules.specs.History.{evicted_bytes}
use Rattle.rules.specs.Kept.{Kept}
use Rattle.rules.specs.Resizing.{older}
use Rattle.rules.specs.Room.{evict, write}
use Rattle.rules.specs.Rows.{get, total}
use Rattle.rules.proofs.Found.{get_remove, get_amend, get_amend_all, length_remove, length_amend, length_amend_all}
use Rattle.rules.proofs.Fit.{Fit, fit_remove, fit_amend, fit_all, clean_allowed}
use Rattle.rules.proofs.Moves.{Moves, done, evicts, writes, tunes, ages, notes, tuned, noted, idled, sound_remove, sound_write, sound_ages, sound_same}
use Rattle.rules.proofs.Tests.{if_same}
use Rattle.rules.proofs.Totals.{total_remove, total_amend, total_same, total_all}

-- ---- the orders that can still come

-- an entry of the recency list can be written, if it is dirty, and evicted
abbrev pub orders_left : Entry → ℕ
orders_left e = if is_listed e then (if e.dirty then 2 else 1) else 0

abbrev pub left : Cache → ℕ
left c = total orders_left c.rows

pub left_most : (rows : List Row) → total orders_left rows ≤ 2 * length rows
unfolding total
left_most [] = omega arith
left_most (None ∷ rows) = let ih = left_most rows in omega arith
left_most (Some e ∷ rows) = let ih = left_most rows in let h = most (is_listed e) e.dirty in omega arith
  where
    most : (l d : Bool) → (if l then (if d then 2 else 1) else 0) ≤ 2
    most true true = omega arith
    most true false = omega arith
    most false d = omega arith

-- ---- the bytes of evict orders

pub evicted_append : (l m : List Order) → evicted_bytes (l ++ m) ≡ evicted_bytes l + evicted_bytes m
unfolding evicted_bytes
evicted_append [] m = omega arith
evicted_append (o ∷ l) m = let ih = evicted_append l m in omega arith

-- ---- one move

pub record Moved (w v : Work) : Type 0 where
  pub kept : Kept w.cache v.cache
  pub absent : (b : ℕ) → get w.cache.rows b ≡ None → get v.cache.rows b ≡ None
  pub entries : Fit w.cache.rows → Fit v.cache.rows
  pub held : held v.cache + evicted_bytes v.orders ≡ held w.cache + evicted_bytes w.orders
  pub orders : length v.orders + left v.cache ≡ length w.orders + left w.cache

moved_trans : {u v w : Work} → Moved u v → Moved v w → Moved u w
moved_trans p q = record {
  kept = record { threshold = q.kept.threshold ∙ p.kept.threshold; rows = q.kept.rows ∙ p.kept.rows };
  absent = λ b n. q.absent b (p.absent b n);
  entries = λ f. q.entries (p.entries f);
  held = q.held ∙ p.held;
  orders = q.orders ∙ p.orders;
}

module _ (a : ℕ) (w : Work) (e : Entry) (k : Sound w.cache) (g : get w.cache.rows a ≡ Some e) (l : is_listed e ≡ true) where
  moved_evict : e.dirty ≡ false → Moved w (evict a w)
  unfolding evicted_bytes
  moved_evict d = record {
    kept = record { threshold = refl; rows = length_remove a w.cache.rows };
    absent = λ b n. rw (get_remove a b w.cache.rows, n) (if_same (eqb a b) None);
    entries = fit_remove a w.cache.rows;
    held = rw (evicted_append w.orders) (let h = total_remove (λ e. e.size) a w.cache.rows k.distinct in omega arith);
    orders = rw (length-append w.orders)
        (let h = simp (g, l, d) at (total_remove orders_left a w.cache.rows k.distinct) in omega arith);
  }

  moved_write : (r : List ℕ) → e.dirty ≡ true → Moved w (write a r w)
  unfolding evicted_bytes
  moved_write r d = record {
    kept = record { threshold = refl; rows = length_amend a cleaned w.cache.rows };
    absent = λ b n. rw (get_amend a cleaned (λ e. refl) b w.cache.rows, n) (if_same (eqb a b) None);
    entries = fit_amend a cleaned (λ e. refl) w.cache.rows (λ e g. clean_allowed e);
    held = rw (evicted_append w.orders) (let h = total_same (λ e. e.size) a cleaned (λ e. refl) w.cache.rows in omega arith);
    orders = rw (length-append w.orders)
        (let h = simp (g, l, d) at (total_amend orders_left a cleaned w.cache.rows k.distinct) in omega arith);
  }

older_allowed : (e : Entry) → EntryAllowed e → EntryAllowed (older e)
older_allowed e k = record { address = k.address; nonempty = k.nonempty; size = k.size; idle = omega arith; hold = k.hold }

moved_ages : (w : Work) → Moved w (idled w)
moved_ages w = record {
  kept = record { threshold = refl; rows = length_amend_all older w.cache.rows };
  absent = λ b n. rw (get_amend_all older (λ e. refl) b w.cache.rows, n);
  entries = fit_all older (λ e. refl) older_allowed w.cache.rows;
  held = ap (λ (n : ℕ). n + evicted_bytes w.orders) (total_all (λ e. e.size) older (λ e. refl) w.cache.rows);
  orders = ap (λ (n : ℕ). length w.orders + n) (total_all orders_left older (λ e. refl) w.cache.rows);
}

-- figures change, and the rows do not
moved_tunes : (n h k : ℕ) (w : Work) → Moved w (tuned n h k w)
moved_tunes n h k w = record { kept = record { threshold = refl; rows = refl }; absent = λ b i. i; entries = λ f. f; held = refl; orders = refl }

moved_notes : (b : Bool) (w : Work) → Moved w (noted b w)
moved_notes b w = record { kept = record { threshold = refl; rows = refl }; absent = λ b i. i; entries = λ f. f; held = refl; orders = refl }

-- ---- moves

pub moved : {may sets : Bool} {w v : Work} → Moves may sets w v → Sound w.cache → Moved w v
moved (done {w}) k = moved_tunes w.cache.maximum w.cache.accesses w.cache.hits w
moved (evicts {w} a e g l d m) k = moved_trans (moved_evict a w e k g l d) (moved m (sound_remove a w.cache k))
moved (writes {w} a e r y g l d s m) k = moved_trans (moved_write a w e k g l r d) (moved m (sound_write a r w.cache s k))
moved (tunes {w} n h i y m) k = moved_trans (moved_tunes n h i w) (moved m (sound_same w.cache (tuned n h i w).cache refl refl k))
moved (ages {w} y m) k = moved_trans (moved_ages w) (moved m (sound_ages w.cache k))
moved (notes {w} b m) k = moved_trans (moved_notes b w) (moved m (sound_same w.cache (noted b w).cache refl refl k))
