-- The flash, the age-out and the end of an epoch take one course, with the reasons and changes that are named. Each rule gives one value, the
-- definition's; it is taken exactly where the definition takes it.
use Rattle.std.specs.Prelude.{None, Option}
use Prim.Native.Nat.{ℕ, ◌+◌, ◌<◌, max}
use mathlib.Core.Path.{◌≡◌, refl, sym, ap, ap₂, subst, ◌∙◌}
use mathlib.Core.Bool.{Bool, true, false, ◌&&◌, true≢false, false≢true}
use mathlib.Core.List.{List, [], ◌∷◌, ◌++◌}
use native.Mathlib.Omega.{arith}
use lib.Dec.{leb, ltb}
use lib.Ieee.{Float, eq}
use lib.ListN.{length, replicate}
use borrow.Author.Tests.{ltb-true, ltb-false, lt-ltb, le-ltb, leb-true, leb-false, le-leb, lt-leb}
use Rattle.fraction.specs.Fraction.{decimal, size_product, reserve_quotient, exceeds_share}
use Rattle.settings.specs.declared.Decrease.TheVariants as decrease
use Rattle.settings.specs.declared.Decrease.{Decrease}
use Rattle.settings.specs.declared.Flash.TheVariants as flash
use Rattle.settings.specs.declared.Flash.{Flash}
use Rattle.settings.specs.declared.Increase.TheVariants as increase
use Rattle.settings.specs.declared.Increase.{Increase}
use Rattle.settings.specs.declared.Mode.TheVariants.{Alone, Lead, Standby}
use Rattle.settings.specs.declared.Mode.{Mode}
use Rattle.rules.specs.declared.order.Kind.{Kind}
use Rattle.rules.specs.Allowed.{Sound}
use Rattle.rules.specs.Cache.{Cache, Work, held, restart, with_maximum}
use Rattle.rules.specs.Refusals.{is_alone}
use Rattle.rules.specs.Resizing.{flash_maximum, flashed, flashed_to, increased_by, increased_in, at_least, lowered_in, lower, expel, aged_at, evict_aged, age_out, decreased_by, is_below, is_above, is_full, resized, aged, end_epoch, counts, counted, count_access}
use Rattle.rules.specs.Room.{evict, write_in_place}
use Rattle.rules.specs.Rows.{dirty_at, size_at}
use Rattle.rules.proofs.Epochs.{before_room}
use Rattle.rules.proofs.Moves.{moves_sound, sound_same}
use Rattle.rules.proofs.Tests.{split, choose, both}
use Rattle.reason_rules.specs.declared.Bound.{Bound}
use Rattle.reason_rules.specs.declared.Cause.TheVariants as cause
use Rattle.reason_rules.specs.declared.Cause.{Cause}
use Rattle.reason_rules.specs.declared.Change.{Change}
use Rattle.reason_rules.specs.declared.Reason.TheVariants as reason
use Rattle.reason_rules.specs.declared.Reason.{Reason}
use Rattle.reason_rules.specs.Bounds.{rise_bound, fall_bound}
use Rattle.reason_rules.specs.Courses.{Roomed, FlashGives, flash_gives, Flashed, flashes, no_flash, set_to, IncreaseGives, increase_gives, NoRise, FallGives, Lowered, lowers, no_fall, AgeWalk, at_head, young, evicts, keeps, writes_and_evicts, Rests, rule_off, threshold_not_above, age_out_not_above, Multiplies, threshold_above, AgesOut, age_out_always, age_out_above, Resized, increases, rests, multiplies, ages_out, ages_out_only, Counted, uncounted, within, ends}
use Rattle.reason_rules.specs.Reasons.{because, epoch_reasons, rate_of, ends_epoch, count_reasons, changed, flash_raw, increase_raw, flash_change, fall_change, age_out_change, decrease_change, resize_change, count_change}
use Rattle.reason_rules.proofs.Bounds.{rise_one, rise_by, fall_one, fall_by}
use Rattle.reason_rules.proofs.Choices.{if_true, if_false}
use Rattle.reason_rules.proofs.Rooms.{Gives, gives_none, gives_append, gives_same, gives_order, gives_because, room_gives, roomed, room_only}

-- ---- the flash

module _ (x : ℕ) (c : Cache) where
  abbrev flash_bound : Flash → Option Bound
  flash_bound f = rise_bound None (flash_raw f x c) c.maximum c.settings.largest

  abbrev flash_value : Flash → ℕ
  flash_value f = flash_maximum f x c.maximum (held c) c.settings.largest

  flash_one : {f : Flash} {b : Option Bound} {n : ℕ} → FlashGives x c f b n → (b ≡ flash_bound f) × (n ≡ flash_value f)
  flash_one (flash_gives {multiple} {threshold} h r) =
      let o = rise_one r (rise_by (flash_raw (flash.On multiple threshold) x c) c.maximum c.settings.largest None) in
      (o.0, o.1 ∙ sym (if_true (exceeds_share x threshold c.maximum) _ c.maximum h))

  flash_given : (f : Flash) → c.maximum < flash_value f → FlashGives x c f (flash_bound f) (flash_value f)
  flash_given flash.Off h = absurd (omega arith)
  flash_given (flash.On multiple threshold) h =
      choose (λ (n : ℕ). c.maximum < n → FlashGives x c (flash.On multiple threshold) (flash_bound (flash.On multiple threshold)) n)
      (exceeds_share x threshold c.maximum)
      (λ p i. flash_gives p (rise_by (flash_raw (flash.On multiple threshold) x c) c.maximum c.settings.largest None))
      (λ p i. absurd (omega arith)) h

  pub flash_takes : (m : List Change) × Flashed x c m (flashed x c)
  unfolding flashed
  flash_takes =
      choose (λ (d : Cache). (m : List Change) × Flashed x c m d) (ltb c.maximum (flashed_to x c))
      (λ h. let i = ltb-true c.maximum (flashed_to x c) h in (changed cause.Flash _, flashes (flash_given c.settings.flash i) i))
      (λ h. ([], no_flash (λ b n g. let e = flash_one g in let i = ltb-false c.maximum (flashed_to x c) h in omega (arith, e.1))))

  pub flash_only : {m : List Change} {d : Cache} → Flashed x c m d → (m ≡ flash_change x c) × (d ≡ flashed x c)
  unfolding flashed
  flash_only (flashes {b} {n} g h) =
      let e = flash_one g in
      let t : ltb c.maximum (flashed_to x c) ≡ true = subst (λ (i : ℕ). ltb c.maximum i ≡ true) e.1 (lt-ltb c.maximum n h) in
      (ap (changed cause.Flash) e.0 ∙ sym (if_true _ _ [] t), ap (λ (i : ℕ). restart (with_maximum i c)) e.1 ∙ sym (if_true _ _ c t))
  flash_only (no_flash f) =
      split (ltb c.maximum (flashed_to x c))
      (λ t. let i = ltb-true c.maximum (flashed_to x c) t in absurd (let j = f _ _ (flash_given c.settings.flash i) in omega arith))
      (λ t. (sym (if_false _ _ [] t), sym (if_false _ _ c t)))

-- ---- the increase

module _ (rate : Float) (c : Cache) where
  abbrev increase_bound : Increase → Option Bound
  increase_bound i = rise_bound c.settings.increment (increase_raw i c.maximum) c.maximum c.settings.largest

  abbrev increase_value : Increase → ℕ
  increase_value i = increased_by i c.settings.increment rate (is_full c) c.maximum c.settings.largest

  increase_one : {i : Increase} {b : Option Bound} {n : ℕ} → IncreaseGives rate c i b n → (b ≡ increase_bound i) × (n ≡ increase_value i)
  increase_one (increase_gives {lower} {multiplier} h f r) =
      let o = rise_one r (rise_by (size_product c.maximum multiplier) c.maximum c.settings.largest c.settings.increment) in
      (o.0, o.1 ∙ sym (if_true (is_below rate lower && is_full c) _ c.maximum (rw (h, f))))

  increase_given : (i : Increase) → c.maximum < increase_value i → IncreaseGives rate c i (increase_bound i) (increase_value i)
  increase_given increase.Off h = absurd (omega arith)
  increase_given (increase.Threshold lower multiplier) h =
      choose (λ (n : ℕ). c.maximum < n → IncreaseGives rate c (increase.Threshold lower multiplier) (increase_bound (increase.Threshold lower multiplier)) n)
      (is_below rate lower && is_full c)
      (λ p i. let q = both (is_below rate lower) (is_full c) p in
      increase_gives q.0 q.1 (rise_by (size_product c.maximum multiplier) c.maximum c.settings.largest c.settings.increment))
      (λ p i. absurd (omega arith)) h

  not_risen : NoRise rate c → ltb c.maximum (increased_in rate c) ≡ false
  not_risen f =
      split (ltb c.maximum (increased_in rate c))
      (λ t. let i = ltb-true c.maximum (increased_in rate c) t in absurd (let j = f _ _ (increase_given c.settings.increase i) in omega arith))
      (λ t. t)

  no_rise : ltb c.maximum (increased_in rate c) ≡ false → NoRise rate c
  no_rise h b n g = let e = increase_one g in let i = ltb-false c.maximum (increased_in rate c) h in omega (arith, e.1)

-- ---- a fall

module _ (x : Cause) (target : ℕ) (w : Work) where
  abbrev fallen : ℕ
  fallen = at_least w.cache.settings.decrement w.cache.maximum (max target w.cache.settings.smallest)

  abbrev fallen_by : Option Bound
  fallen_by = fall_bound w.cache.settings.decrement target w.cache.maximum w.cache.settings.smallest

  falls : FallGives target w.cache fallen_by fallen
  falls = fall_by target w.cache.maximum w.cache.settings.smallest w.cache.settings.decrement

  lowered_takes : (m : List Change) × Lowered x target w m (lower target w)
  lowered_takes =
      split (ltb fallen w.cache.maximum)
      (λ h. let i = ltb-true fallen w.cache.maximum h in
      let e : fallen ≡ lowered_in target w.cache = omega arith in
      (changed x fallen_by, subst (λ (n : ℕ). Lowered x target w (changed x fallen_by) (set_to n w)) e (lowers falls i)))
      (λ h. let i = ltb-false fallen w.cache.maximum h in
      let e : w.cache.maximum ≡ lowered_in target w.cache = omega arith in
      ([], subst (λ (n : ℕ). Lowered x target w [] (set_to n w)) e (no_fall (λ b n g. let j = fall_one falls g in omega (arith, j.1)))))

  lowered_only : {m : List Change} {v : Work} → Lowered x target w m v → (m ≡ fall_change x target w.cache) × (v ≡ lower target w)
  lowered_only (lowers {b} {n} g h) =
      let j = fall_one g falls in let k = j.1 in
      let e : n ≡ lowered_in target w.cache = omega arith in
      let t = lt-ltb (lowered_in target w.cache) w.cache.maximum (omega arith) in
      (ap (changed x) j.0 ∙ sym (if_true _ _ [] t), ap (λ (i : ℕ). set_to i w) e)
  lowered_only (no_fall f) =
      let i = f fallen_by fallen falls in
      let e : w.cache.maximum ≡ lowered_in target w.cache = omega arith in
      (sym (if_false _ _ [] (le-ltb (lowered_in target w.cache) w.cache.maximum (omega arith))), ap (λ (i : ℕ). set_to i w) e)

lowered_orders : {x : Cause} {target : ℕ} {w v : Work} {m : List Change} → Lowered x target w m v → v.orders ≡ w.orders
lowered_orders (lowers g h) = refl
lowered_orders (no_fall f) = refl

-- ---- the age-out

expel_clean : (m : Mode) (a : ℕ) (w : Work) → dirty_at w.cache.rows a ≡ false → expel m a w ≡ evict a w
expel_clean Alone a w h = if_false (dirty_at w.cache.rows a) _ (evict a w) h
expel_clean Lead a w h = if_false (dirty_at w.cache.rows a) w (evict a w) h
expel_clean Standby a w h = if_false (dirty_at w.cache.rows a) w (evict a w) h

expel_kept : (m : Mode) (a : ℕ) (w : Work) → dirty_at w.cache.rows a ≡ true → is_alone m ≡ false → expel m a w ≡ w
expel_kept Alone a w h i = absurd (true≢false i)
expel_kept Lead a w h i = if_true (dirty_at w.cache.rows a) w (evict a w) h
expel_kept Standby a w h i = if_true (dirty_at w.cache.rows a) w (evict a w) h

expel_written : (m : Mode) (a : ℕ) (w : Work) → dirty_at w.cache.rows a ≡ true → is_alone m ≡ true → expel m a w ≡ evict a (write_in_place a w)
expel_written Alone a w h i = if_true (dirty_at w.cache.rows a) _ (evict a w) h
expel_written Lead a w h i = absurd (false≢true i)
expel_written Standby a w h i = absurd (false≢true i)

module _ (epochs : ℕ) where
  walk_only : {rest : List ℕ} {w v : Work} {l : List Reason} → AgeWalk epochs rest w l v → v ≡ evict_aged epochs rest w
  unfolding evict_aged
  walk_only at_head = refl
  walk_only (young {a} {rest} {w} h k) = walk_only k ∙ ap (evict_aged epochs rest) (sym (if_false (aged_at epochs w.cache a) _ w h))
  walk_only (evicts {a} {rest} {w} h d k) =
      walk_only k ∙ ap (evict_aged epochs rest) (sym (if_true (aged_at epochs w.cache a) _ w h ∙ expel_clean w.cache.mode a w d))
  walk_only (keeps {a} {rest} {w} h d i k) =
      walk_only k ∙ ap (evict_aged epochs rest) (sym (if_true (aged_at epochs w.cache a) _ w h ∙ expel_kept w.cache.mode a w d i))
  walk_only (writes_and_evicts {a} {rest} {w} h d i k) =
      walk_only k ∙ ap (evict_aged epochs rest) (sym (if_true (aged_at epochs w.cache a) _ w h ∙ expel_written w.cache.mode a w d i))

  walk_some : (rest : List ℕ) (w : Work) → (v : Work) × (l : List Reason) × AgeWalk epochs rest w l v
  walk_some [] w = (w, [], at_head)
  walk_some (a ∷ rest) w =
      split (aged_at epochs w.cache a)
      (λ h. split (dirty_at w.cache.rows a)
      (λ d. split (is_alone w.cache.mode)
      (λ i. let k = walk_some rest (evict a (write_in_place a w)) in (k.0, reason.Aged ∷ reason.Aged ∷ k.1, writes_and_evicts h d i k.2))
      (λ i. let k = walk_some rest w in (k.0, k.1, keeps h d i k.2)))
      (λ d. let k = walk_some rest (evict a w) in (k.0, reason.Aged ∷ k.1, evicts h d k.2)))
      (λ h. let k = walk_some rest w in (k.0, k.1, young h k.2))

  walk_takes : (rest : List ℕ) (w : Work) → (l : List Reason) × AgeWalk epochs rest w l (evict_aged epochs rest w)
  walk_takes rest w = let k = walk_some rest w in (k.1, subst (AgeWalk epochs rest w k.1) (walk_only k.2) k.2)

  walk_gives : {rest : List ℕ} {w v : Work} {l : List Reason} → AgeWalk epochs rest w l v → Gives w l v
  walk_gives (at_head {w}) = gives_none w
  walk_gives (young h k) = walk_gives k
  walk_gives (evicts {a} {rest} {w} h d k) = gives_append (gives_order {u = evict a w} Kind.Evict a (size_at w.cache.rows a) refl refl) (walk_gives k)
  walk_gives (keeps h d i k) = walk_gives k
  walk_gives (writes_and_evicts {a} {rest} {w} h d i k) =
      let u = write_in_place a w in
      gives_append (gives_order {u = u} Kind.Write a (size_at w.cache.rows a) refl refl)
      (gives_append (gives_order {u = evict a u} Kind.Evict a (size_at u.cache.rows a) refl refl) (walk_gives k))

  walk_same : {rest : List ℕ} {w v : Work} {l : List Reason} → AgeWalk epochs rest w l v → l ≡ replicate (length l) reason.Aged
  walk_same at_head = refl
  walk_same (young h k) = walk_same k
  walk_same (evicts h d k) = ap (λ (i : List Reason). reason.Aged ∷ i) (walk_same k)
  walk_same (keeps h d i k) = walk_same k
  walk_same (writes_and_evicts h d i k) = ap (λ (i : List Reason). reason.Aged ∷ reason.Aged ∷ i) (walk_same k)

-- ---- the decrease

-- a course to v, whatever its reasons and changes
abbrev pub Leads : (List Reason → List Change → Work → Type 0) → Work → Type 0
Leads R v = (l : List Reason) × (m : List Change) × R l m v

module _ (rate : Float) (w : Work) where
  -- the decrease rule is d
  abbrev Rule : Decrease → Type 0
  Rule d = w.cache.settings.decrease ≡ d

  age_takes : (epochs : ℕ) (reserve : Float) → NoRise rate w.cache → AgesOut rate w.cache.settings.decrease epochs reserve
      → Leads (Resized rate w) (age_out epochs reserve w)
  unfolding age_out
  age_takes epochs reserve n a =
      let k = walk_takes epochs w.cache.recency w in
      let u = evict_aged epochs w.cache.recency w in
      choose (Leads (Resized rate w)) (eq reserve (decimal 1 1))
      (λ h. (k.0, [], ages_out_only n a k.1 h))
      (λ h. let d = lowered_takes cause.AgeOut (reserve_quotient (held u.cache) reserve) u in (k.0, d.0, ages_out n a k.1 h d.1))

  decrease_takes : (d : Decrease) → Rule d → NoRise rate w.cache → Leads (Resized rate w) (decreased_by d rate w)
  decrease_takes decrease.Off e n = ([], [], rests n (subst (Rests rate) (sym e) rule_off))
  decrease_takes (decrease.Threshold upper multiplier) e n =
      choose (Leads (Resized rate w)) (is_above rate upper)
      (λ h. let d = lowered_takes cause.Threshold (size_product w.cache.maximum multiplier) w in
      ([], d.0, multiplies n (subst (λ (i : Decrease). Multiplies rate i multiplier) (sym e) (threshold_above h)) d.1))
      (λ h. ([], [], rests n (subst (Rests rate) (sym e) (threshold_not_above h))))
  decrease_takes (decrease.AgeOut epochs reserve) e n =
      age_takes epochs reserve n (subst (λ (i : Decrease). AgesOut rate i epochs reserve) (sym e) age_out_always)
  decrease_takes (decrease.AgeOutWithThreshold upper epochs reserve) e n =
      choose (Leads (Resized rate w)) (is_above rate upper)
      (λ h. age_takes epochs reserve n (subst (λ (i : Decrease). AgesOut rate i epochs reserve) (sym e) (age_out_above h)))
      (λ h. ([], [], rests n (subst (Rests rate) (sym e) (age_out_not_above h))))

  -- what the decrease rule d leaves, and the changes that it names
  record Decreased (d : Decrease) (m : List Change) (v : Work) : Type 0 where
    changes : m ≡ decrease_change d rate w
    work : v ≡ decreased_by d rate w

  rests_only : {d : Decrease} → Rests rate d → Decreased d [] w
  rests_only rule_off = record { changes = refl; work = refl }
  rests_only (threshold_not_above {upper} h) = record { changes = sym (if_false (is_above rate upper) _ [] h); work = sym (if_false (is_above rate upper) _ w h) }
  rests_only (age_out_not_above {upper} h) = record { changes = sym (if_false (is_above rate upper) _ [] h); work = sym (if_false (is_above rate upper) _ w h) }

  multiplies_only : {d : Decrease} {multiplier : Float} {m : List Change} {v : Work} → Multiplies rate d multiplier
      → Lowered cause.Threshold (size_product w.cache.maximum multiplier) w m v → Decreased d m v
  multiplies_only (threshold_above {upper} {multiplier} h) k =
      let o = lowered_only cause.Threshold (size_product w.cache.maximum multiplier) w k in
      record { changes = o.0 ∙ sym (if_true (is_above rate upper) _ [] h); work = o.1 ∙ sym (if_true (is_above rate upper) _ w h) }

  ages_only : {d : Decrease} {epochs : ℕ} {reserve : Float} {m : List Change} {v : Work} → AgesOut rate d epochs reserve
      → m ≡ age_out_change epochs reserve w → v ≡ age_out epochs reserve w → Decreased d m v
  ages_only age_out_always p q = record { changes = p; work = q }
  ages_only (age_out_above {upper} h) p q = record { changes = p ∙ sym (if_true (is_above rate upper) _ [] h); work = q ∙ sym (if_true (is_above rate upper) _ w h) }

  -- ---- the end of an epoch, but for its room

  pub resized_takes : Leads (Resized rate w) (resized rate w)
  unfolding resized
  resized_takes =
      choose (Leads (Resized rate w)) (ltb w.cache.maximum (increased_in rate w.cache))
      (λ h. let i = ltb-true w.cache.maximum (increased_in rate w.cache) h in
      ([], changed cause.Increase _, increases (increase_given rate w.cache w.cache.settings.increase i) i))
      (λ h. decrease_takes w.cache.settings.decrease refl (no_rise rate w.cache h))

  decreased_only : {m : List Change} {v : Work} → NoRise rate w.cache → Decreased w.cache.settings.decrease m v
      → (m ≡ resize_change rate w) × (v ≡ resized rate w)
  unfolding resized resize_change
  decreased_only n d = let t = not_risen rate w.cache n in (d.changes ∙ sym (if_false _ _ _ t), d.work ∙ sym (if_false _ _ _ t))

  age_only : {u v : Work} {l : List Reason} {m : List Change} (epochs : ℕ) (reserve : Float) → AgeWalk epochs w.cache.recency w l u
      → eq reserve (decimal 1 1) ≡ false → Lowered cause.AgeOut (reserve_quotient (held u.cache) reserve) u m v
      → (m ≡ age_out_change epochs reserve w) × (v ≡ age_out epochs reserve w)
  unfolding age_out
  age_only {v = v} {m = m} epochs reserve k h d =
      let f = evict_aged epochs w.cache.recency w in
      let o = lowered_only cause.AgeOut (reserve_quotient (held f.cache) reserve) f
      (subst (λ (i : Work). Lowered cause.AgeOut (reserve_quotient (held i.cache) reserve) i m v) (walk_only epochs k) d) in
      (o.0 ∙ sym (if_false _ [] _ h), o.1 ∙ sym (if_false _ f _ h))

  pub resized_only : {l : List Reason} {m : List Change} {v : Work} → Resized rate w l m v → (m ≡ resize_change rate w) × (v ≡ resized rate w)
  unfolding resized resize_change age_out
  resized_only (increases {b = b} {n = n} g h) =
      let c = w.cache in
      let e = increase_one rate c g in
      let t : ltb c.maximum (increased_in rate c) ≡ true = subst (λ (i : ℕ). ltb c.maximum i ≡ true) e.1 (lt-ltb c.maximum n h) in
      (ap (changed cause.Increase) e.0 ∙ sym (if_true _ _ _ t), ap (λ (i : ℕ). set_to i w) e.1 ∙ sym (if_true _ _ _ t))
  resized_only (rests n r) = decreased_only n (rests_only r)
  resized_only (multiplies n r k) = decreased_only n (multiplies_only r k)
  resized_only (ages_out {epochs = epochs} {reserve = reserve} n r k h d) =
      let o = age_only epochs reserve k h d in decreased_only n (ages_only r o.0 o.1)
  resized_only (ages_out_only {epochs = epochs} {reserve = reserve} n r k h) =
      decreased_only n (ages_only r (sym (if_true _ [] _ h)) (walk_only epochs k ∙ sym (if_true _ (evict_aged epochs w.cache.recency w) _ h)))

-- all that an epoch's end orders before it makes room is aged out
pub resized_gives : {rate : Float} {w v : Work} {l : List Reason} {m : List Change} → Resized rate w l m v → Gives w l v
resized_gives (increases {w} g h) = gives_same refl refl (gives_none w)
resized_gives (rests {w} n r) = gives_none w
resized_gives (multiplies {w} n r d) = gives_same refl (lowered_orders d) (gives_none w)
resized_gives (ages_out {epochs = epochs} n r k h d) = gives_same refl (lowered_orders d) (walk_gives epochs k)
resized_gives (ages_out_only {epochs = epochs} n r k h) = walk_gives epochs k

resized_same : {rate : Float} {w v : Work} {l : List Reason} {m : List Change} → Resized rate w l m v → l ≡ replicate (length l) reason.Aged
resized_same (increases g h) = refl
resized_same (rests n r) = refl
resized_same (multiplies n r d) = refl
resized_same (ages_out {epochs = epochs} n r k h d) = walk_same epochs k
resized_same (ages_out_only {epochs = epochs} n r k h) = walk_same epochs k

-- ---- counting

module _ (hit : Bool) (w : Work) (k : Sound w.cache) where
  -- the work before an epoch's last room
  abbrev closed : Work
  closed = aged (resized (rate_of (counted hit w)) (counted hit w))

  closed_sound : Sound closed.cache
  closed_sound = let c : Sound (counted hit w).cache = sound_same w.cache (counted hit w).cache refl refl k in moves_sound (before_room (counted hit w) c) c

  pub counted_takes : Leads (Counted hit w) (count_access hit w)
  unfolding count_access end_epoch
  counted_takes =
      choose (Leads (Counted hit w)) (counts w.cache.settings)
      (λ c. choose (Leads (Counted hit w)) (leb w.cache.settings.epoch (w.cache.accesses + 1))
      (λ h. let r = resized_takes (rate_of (counted hit w)) (counted hit w) in
      let q = roomed 0 false closed closed_sound in
      (r.0 ++ q.0, r.1, ends c (leb-true w.cache.settings.epoch (w.cache.accesses + 1) h) r.2 q.1))
      (λ h. ([], [], within c (leb-false w.cache.settings.epoch (w.cache.accesses + 1) h))))
      (λ c. ([], [], uncounted c))

  pub counted_only : {l : List Reason} {m : List Change} {v : Work} → Counted hit w l m v
      → (l ≡ count_reasons hit w) × (m ≡ count_change hit w) × (v ≡ count_access hit w)
  unfolding count_access end_epoch epoch_reasons
  counted_only (uncounted c) =
      let t : ends_epoch w.cache ≡ false = rw c in
      (sym (if_false _ _ [] t), sym (if_false _ _ [] t), sym (if_false (counts w.cache.settings) _ w c))
  counted_only (within c h) =
      let i = lt-leb w.cache.settings.epoch (w.cache.accesses + 1) h in
      let t : ends_epoch w.cache ≡ false = rw (c, i) in
      (sym (if_false _ _ [] t), sym (if_false _ _ [] t), sym (if_true (counts w.cache.settings) _ w c ∙ if_false _ _ (counted hit w) i))
  counted_only (ends {u = u} {v = v} {l = l} {k = q} c h r d) =
      let i = le-leb w.cache.settings.epoch (w.cache.accesses + 1) h in
      let t : ends_epoch w.cache ≡ true = rw (c, i) in
      let o = resized_only (rate_of (counted hit w)) (counted hit w) r in
      let e = room_only 0 false closed closed_sound (subst (λ (i : Work). Roomed 0 false (aged i) q v) o.1 d) in
      let f : l ≡ because reason.Aged (counted hit w) (resized (rate_of (counted hit w)) (counted hit w)) =
      gives_because reason.Aged (resized_gives r) (resized_same r) ∙ ap (because reason.Aged (counted hit w)) o.1 in
      (ap₂ ◌++◌ f e.0 ∙ sym (if_true _ _ [] t), o.0 ∙ sym (if_true _ _ [] t), e.1 ∙ sym (if_true (counts w.cache.settings) _ w c ∙ if_true _ _ (counted hit w) i))

pub counted_gives : {hit : Bool} {w v : Work} {l : List Reason} {m : List Change} → Counted hit w l m v → Gives w l v
counted_gives (uncounted {w} c) = gives_none w
counted_gives (within {w} c h) = gives_same refl refl (gives_none w)
counted_gives {hit} (ends {w} {u} {v} {l} {k} c h r d) = gives_append {w = w} {u = u} (gives_same {w = counted hit w} refl refl (resized_gives r)) (gives_same {w = aged u} refl refl (room_gives d))
