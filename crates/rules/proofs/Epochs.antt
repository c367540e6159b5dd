-- The flash, the end of an epoch, the counting of an access and the room after a release as moves.
use Prim.Native.Nat.{ℕ}
use mathlib.Core.Path.{refl}
use mathlib.Core.Bool.{Bool, true, false}
use lib.Dec.{leb, ltb}
use lib.Ieee.{Float, eq}
use Rattle.fraction.specs.Fraction.{decimal, size_product, hit_rate, reserve_quotient}
use Rattle.settings.specs.declared.Decrease.{Decrease}
use Rattle.settings.specs.declared.Decrease.TheVariants as decrease
use Rattle.rules.specs.Allowed.{Sound}
use Rattle.rules.specs.Cache.{Cache, Work, start, held}
use Rattle.rules.specs.Entries.{is_held}
use Rattle.rules.specs.Requests.{room_if_released}
use Rattle.rules.specs.Resizing.{flashed, evict_aged, age_out, lower, is_above, decreased_by, resized, aged, end_epoch, counts, counted, count_access, flashed_to, increased_in, lowered_in}
use Rattle.rules.specs.Rows.{get, passes}
use Rattle.rules.proofs.Moves.{Moves, done, tunes, ages, notes, moves_trans, room_moves, room_after, aged_moves, sound_same, sound_listed}
use Rattle.rules.proofs.Tests.{choose}
use Rattle.rules.specs.Refusals.{is_alone}

pub flash_moves : {may : Bool} (x : ℕ) (c : Cache) → Moves may true (start c) (start (flashed x c))
unfolding flashed
flash_moves {may} x c =
    choose (λ (d : Cache). Moves may true (start c) (start d)) (ltb c.maximum (flashed_to x c))
    (λ h. tunes (flashed_to x c) 0 0 refl (notes false done)) (λ h. done)

-- ---- the decrease

lower_moves : {may : Bool} (n : ℕ) (w : Work) → Moves may true w (lower n w)
lower_moves n w = tunes (lowered_in n w.cache) w.cache.accesses w.cache.hits refl done

module _ (w : Work) (k : Sound w.cache) where
  age_out_moves : (n : ℕ) (r : Float) → Moves (is_alone w.cache.mode) true w (age_out n r w)
  unfolding age_out
  age_out_moves n r =
      let v = evict_aged n w.cache.recency w in
      let m = aged_moves w.cache.mode n w.cache.recency w refl (sound_listed w k) in
      choose (λ (u : Work). Moves (is_alone w.cache.mode) true w u) (eq r (decimal 1 1)) (λ h. m)
      (λ h. moves_trans m (lower_moves (reserve_quotient (held v.cache) r) v))

  decrease_moves : (d : Decrease) (r : Float) → Moves (is_alone w.cache.mode) true w (decreased_by d r w)
  decrease_moves decrease.Off r = done
  decrease_moves (decrease.Threshold u m) r =
      choose (λ (v : Work). Moves (is_alone w.cache.mode) true w v) (is_above r u) (λ h. lower_moves (size_product w.cache.maximum m) w) (λ h. done)
  decrease_moves (decrease.AgeOut n s) r = age_out_moves n s
  decrease_moves (decrease.AgeOutWithThreshold u n s) r =
      choose (λ (v : Work). Moves (is_alone w.cache.mode) true w v) (is_above r u) (λ h. age_out_moves n s) (λ h. done)

  -- ---- the end of an epoch

  pub resized_moves : (r : Float) → Moves (is_alone w.cache.mode) true w (resized r w)
  unfolding resized
  resized_moves r =
      let n = increased_in r w.cache in
      choose (λ (v : Work). Moves (is_alone w.cache.mode) true w v) (ltb w.cache.maximum n)
      (λ h. tunes n w.cache.accesses w.cache.hits refl done) (λ h. decrease_moves w.cache.settings.decrease r)

  pub before_room : Moves (is_alone w.cache.mode) true w (aged (resized (hit_rate w.cache.hits w.cache.accesses) w))
  before_room =
      let v = resized (hit_rate w.cache.hits w.cache.accesses) w in
      moves_trans (resized_moves (hit_rate w.cache.hits w.cache.accesses)) (ages refl (tunes v.cache.maximum 0 0 refl (notes false done)))

  epoch_moves : Moves (is_alone w.cache.mode) true w (end_epoch w)
  unfolding end_epoch
  epoch_moves = room_after 0 false k before_room

-- ---- counting

pub count_moves : (hit : Bool) (w : Work) → Sound w.cache → Moves (is_alone w.cache.mode) true w (count_access hit w)
unfolding count_access
count_moves hit w k =
    let v = counted hit w in
    let M : Work → Type 0 = λ u. Moves (is_alone w.cache.mode) true w u in
    choose M (counts w.cache.settings)
    (λ c. choose M (leb w.cache.settings.epoch v.cache.accesses)
    (λ h. one (epoch_moves v (sound_same w.cache v.cache refl refl k))) (λ h. one done))
    (λ c. done)
  where
    one : {u : Work} → Moves (is_alone w.cache.mode) true (counted hit w) u → Moves (is_alone w.cache.mode) true w u
    one m = tunes w.cache.maximum (counted hit w).cache.accesses (counted hit w).cache.hits refl m

-- ---- release

-- when the last hold went, room is made
pub released_moves : {sets : Bool} (a : ℕ) (c : Cache) → Sound c → Moves (is_alone c.mode) sets (start c) (room_if_released a c)
released_moves {sets} a c k =
    choose (λ (w : Work). Moves (is_alone c.mode) sets (start c) w) (passes (λ e. is_held e.hold) (get c.rows a))
    (λ h. done) (λ h. room_moves 0 false (start c) k)
