-- What is stored of "full" is what happened: since the counters last restarted, some making of room found held plus incoming above the maximum.
-- And making room finds it at its start if it finds it at any turn.
use Rattle.std.specs.Prelude.{if◌then◌else◌, Option, None, Some, option_map}
use Prim.Native.Nat.{ℕ, zero, suc, ◌+◌, ◌≤◌}
use mathlib.Core.Bool.{Bool, true, false, ◌&&◌, ◌||◌}
use mathlib.Core.List.{List, [], ◌∷◌, ◌++◌}
use Rattle.std.proofs.lemmas.Option.{none-some}
use mathlib.Core.Path.{◌≡◌, refl, ap, subst, ◌∙◌}
use native.Mathlib.Nat.{le_refl}
use native.Mathlib.Omega.{arith}
use lib.Dec.{leb, ltb}
use lib.Ieee.{Float, eq}
use borrow.Author.Tests.{ltb-true, lt-ltb, le-ltb}
use Rattle.fraction.specs.Fraction.{decimal}
use Rattle.settings.specs.declared.Decrease.{Decrease}
use Rattle.settings.specs.declared.Decrease.TheVariants as decrease
use Rattle.settings.specs.declared.Mode.{Mode}
use Rattle.settings.specs.declared.Mode.TheVariants.{Alone, Lead, Standby}
use Rattle.settings.specs.declared.Settings.{Settings}
use Rattle.rules.specs.declared.request.Access.{Access}
use Rattle.rules.specs.declared.request.Request.{Request}
use Rattle.rules.specs.declared.request.Request.TheVariants.{Insert, Protect, Release, ReleaseChanged, Pin, Unpin, Resize, Discard, Flush, Sync, Take, Configure}
use Rattle.rules.specs.Addresses.{nearest}
use Rattle.rules.specs.Allowed.{Sound}
use Rattle.rules.specs.Cache.{Cache, Work, start, fresh, held, recency_list, touch}
use Rattle.rules.specs.Entries.{is_held, cleaned, protected_for, released, changed_to}
use Rattle.rules.specs.Full.{Event, restarted, room_made, found_since, full_after, making_room, flashing, counting, admitting, accessed, accessing, releasing, events_of, events_in}
use Rattle.rules.specs.History.{past}
use Rattle.rules.specs.Hosts.{accepted}
use Rattle.rules.specs.Refusals.{Call}
use Rattle.rules.specs.Requests.{effect, loaded, room_if_released, growth, named, configured}
use Rattle.rules.specs.Resizing.{flashed, flashed_to, is_above, aged_at, expel, evict_aged, age_out, decreased_by, resized, aged, end_epoch, counts, counted, count_access, increased_in, is_full, older}
use Rattle.rules.specs.Room.{overfull, lacking, share_missing, look_at_tail, tail_turn, clean_turn, or_stay, turns, evict_by, evict, write, write_dirty, room_in, noticed, make_room}
use Rattle.rules.specs.Rows.{get, passes, is_here, clean_at, dirty_at}
use Rattle.rules.specs.Loops.{Reached, here, later, turn_in}
use Rattle.rules.proofs.Figures.{Figures, moves_figures}
use Rattle.rules.proofs.Moves.{Moves, done, evicts, writes, tunes, ages, notes, tuned, noted, Turning, tail_turns, clean_turns, moves_sound, sound_remove, sound_write, sound_ages, sound_same}
use Rattle.rules.proofs.Steps.{stepped}
use Rattle.rules.proofs.Totals.{total_remove, total_same, total_all}
use Rattle.rules.proofs.Tests.{split, choose}

-- ---- step 1, step 2 and age-out leave it

abbrev Leaves : Work → Work → Type 0
Leaves w v = v.cache.exceeded ≡ w.cache.exceeded

turns_leave : (turn : Work → Option Work) → ((w u : Work) → turn w ≡ Some u → Leaves w u) → (n x : ℕ) (row : Bool) (w : Work) → Leaves w (turns n turn x row w)
unfolding turns
turns_leave turn g zero x row w = refl
turns_leave turn g (suc n) x row w =
    turns_leave turn g n x row _ ∙ choose (λ (v : Work). Leaves w v) (lacking x row w.cache) (λ h. go (turn w) refl) (λ h. refl)
  where
    go : (o : Option Work) → turn w ≡ o → Leaves w (or_stay o w)
    go None e = refl
    go (Some u) e = g w u e

tail_leaves : (w u : Work) → tail_turn w ≡ Some u → Leaves w u
tail_leaves w u = go (recency_list w.cache)
  where
    go : (l : List ℕ) → look_at_tail l w ≡ Some u → Leaves w u
    go [] n = absurd (none-some u n)
    go (a ∷ l) n =
        let same : (if dirty_at w.cache.rows a then write a (l ++ a ∷ []) w else evict a w) ≡ u = cc in
        subst (Leaves w) same (choose (Leaves w) (dirty_at w.cache.rows a) (λ h. refl) (λ h. refl))

clean_leaves : (w u : Work) → clean_turn w ≡ Some u → Leaves w u
clean_leaves w u = go (nearest (clean_at w.cache.rows) (recency_list w.cache))
  where
    go : (o : Option ℕ) → option_map (λ a. evict a w) o ≡ Some u → Leaves w u
    go None n = absurd (none-some u n)
    go (Some a) n = let same : evict a w ≡ u = cc in subst (Leaves w) same refl

dirty_leaves : (x : ℕ) (l : List ℕ) (w : Work) → Leaves w (write_dirty x l w)
unfolding write_dirty
dirty_leaves x [] w = refl
dirty_leaves x (a ∷ l) w =
    dirty_leaves x l _ ∙ choose (λ (v : Work). Leaves w v) (ltb 0 (share_missing x w.cache) && dirty_at w.cache.rows a) (λ h. refl) (λ h. refl)

room_leaves : (m : Mode) (x : ℕ) (row : Bool) (w : Work) → Leaves w (room_in m x row w)
unfolding room_in
room_leaves Alone x row w = dirty_leaves x _ (evict_by tail_turn x row w) ∙ turns_leave tail_turn tail_leaves _ x row w
room_leaves Lead x row w = turns_leave clean_turn clean_leaves _ x row w
room_leaves Standby x row w = turns_leave clean_turn clean_leaves _ x row w

expel_leaves : (m : Mode) (a : ℕ) (w : Work) → Leaves w (expel m a w)
expel_leaves Alone a w = choose (λ (v : Work). Leaves w v) (dirty_at w.cache.rows a) (λ h. refl) (λ h. refl)
expel_leaves Lead a w = choose (λ (v : Work). Leaves w v) (dirty_at w.cache.rows a) (λ h. refl) (λ h. refl)
expel_leaves Standby a w = choose (λ (v : Work). Leaves w v) (dirty_at w.cache.rows a) (λ h. refl) (λ h. refl)

-- ---- each part of a request

abbrev Told : Cache → List Event → Type 0
Told c events = c.exceeded ≡ found_since events

room_told : (x : ℕ) (row : Bool) (w : Work) (earlier : List Event) → Told w.cache earlier → Told (make_room x row w).cache (making_room x w.cache earlier)
unfolding make_room found_since
room_told x row w earlier t = made w.cache.settings.evictions
  where
    go : (b f : Bool) → b ≡ found_since earlier → b || f ≡ f || found_since earlier
    go true true e = refl
    go true false e = e
    go false true e = refl
    go false false e = e

    made : (on : Bool) → (if on then room_in w.cache.mode x row (noticed x w) else w).cache.exceeded ≡ found_since (if on then room_made x w.cache ∷ earlier else earlier)
    made true = room_leaves w.cache.mode x row (noticed x w) ∙ go w.cache.exceeded (overfull x w.cache) t
    made false = t

flash_told : (x : ℕ) (c : Cache) (earlier : List Event) → Told c earlier → Told (flashed x c) (flashing x c earlier)
unfolding flashed found_since
flash_told x c earlier t =
    split (ltb c.maximum (flashed_to x c))
    (λ p. rw p (rw p))
    (λ p. rw p (rw (le-ltb c.maximum c.maximum (omega arith)) t))

-- the maximum and the counters are set
resized_leaves : (rate : Float) (w : Work) → Leaves w (resized rate w)
unfolding resized age_out evict_aged
resized_leaves rate w =
    choose (λ (v : Work). Leaves w v) (ltb w.cache.maximum (increased_in rate w.cache)) (λ h. refl) (λ h. go w.cache.settings.decrease)
  where
    old : (n : ℕ) (l : List ℕ) (u : Work) → Leaves u (evict_aged n l u)
    old n [] u = refl
    old n (a ∷ l) u = old n l _ ∙ choose (λ (v : Work). Leaves u v) (aged_at n u.cache a) (λ h. expel_leaves u.cache.mode a u) (λ h. refl)

    out : (n : ℕ) (r : Float) → Leaves w (age_out n r w)
    out n r = choose (λ (v : Work). Leaves w v) (eq r (decimal 1 1)) (λ h. old n w.cache.recency w) (λ h. old n w.cache.recency w)

    go : (d : Decrease) → Leaves w (decreased_by d rate w)
    go decrease.Off = refl
    go (decrease.Threshold u m) = choose (λ (v : Work). Leaves w v) (is_above rate u) (λ h. refl) (λ h. refl)
    go (decrease.AgeOut n r) = out n r
    go (decrease.AgeOutWithThreshold u n r) = choose (λ (v : Work). Leaves w v) (is_above rate u) (λ h. out n r) (λ h. refl)

count_told : (hit : Bool) (w : Work) (earlier : List Event) → Told w.cache earlier → Told (count_access hit w).cache (counting hit w earlier)
unfolding count_access end_epoch found_since
count_told hit w earlier t =
    split (counts w.cache.settings)
    (λ p. split (leb w.cache.settings.epoch (w.cache.accesses + 1))
    (λ q. rw (p, q) (room_told 0 false (aged (resized _ (counted hit w))) (restarted ∷ earlier) refl))
    (λ q. rw (p, q) t))
    (λ p. rw p t)

-- ---- each request

admit_told : (s : ℕ) (c : Cache) (earlier : List Event) → Told c earlier → Told (make_room s true (start (flashed s c))).cache (admitting s c earlier)
admit_told s c earlier t = room_told s true (start (flashed s c)) (flashing s c earlier) (flash_told s c earlier t)

access_told : (x : Access) (a s : ℕ) (c : Cache) (earlier : List Event) → Told c earlier → Told (accessed x a s c).cache (accessing a s c earlier)
access_told x a s c earlier t = split (is_here c.rows a) (λ p. rw p t) (λ p. rw p (admit_told s c earlier t))

release_told : (a : ℕ) (c : Cache) (earlier : List Event) → Told c earlier → Told (room_if_released a c).cache (releasing a c earlier)
release_told a c earlier t =
    split (passes (λ e. is_held e.hold) (get c.rows a)) (λ p. rw p t) (λ p. rw p (room_told 0 false (start c) earlier t))

effect_told : (c : Cache) (message : List ℕ) (r : Request) (earlier : List Event) → Told c earlier → Told (effect c message r).cache (events_of c r earlier)
unfolding effect events_of found_since
effect_told c message (Insert a s) earlier t = admit_told s c earlier t
effect_told c message (Protect x a s) earlier t =
    split (is_here c.rows a)
    (λ p. rw p (count_told true (start (touch a (protected_for x) c)) earlier t))
    (λ p. rw p (count_told false (loaded x a s (make_room s true (start (flashed s c)))) (admitting s c earlier) (admit_told s c earlier t)))
effect_told c message (Release a) earlier t = release_told a (touch a released c) earlier t
effect_told c message (ReleaseChanged a s) earlier t =
    release_told a (touch a (λ e. released (changed_to s e)) (named a s c)) (flashing (growth a s c) c earlier) (flash_told (growth a s c) c earlier t)
effect_told c message (Pin a) earlier t = t
effect_told c message (Unpin a) earlier t = t
effect_told c message (Resize a s) earlier t = flash_told (growth a s c) c earlier t
effect_told c message (Discard a) earlier t = t
effect_told c message Flush earlier t = t
effect_told c message Sync earlier t = dirty_leaves 0 (recency_list c) (start c) ∙ t
effect_told c message Take earlier t = t
effect_told c message (Configure s) earlier t = room_told 0 false (start (configured s c)) (restarted ∷ earlier) refl

-- ---- a run from a fresh cache

module _ (n : ℕ) (m : Mode) (t : ℕ) (s : Settings) where
  pub tells_truth : (calls : List Call) → (past (fresh n m t s) calls).cache.exceeded ≡ found_since (events_in (fresh n m t s) calls)
  unfolding past events_in found_since
  tells_truth [] = refl
  tells_truth (call ∷ earlier) =
      let d = (past (fresh n m t s) earlier).cache in
      let e = events_in (fresh n m t s) earlier in
      stepped d call (λ o. o.cache.exceeded ≡ found_since (if accepted o then events_of d call.request e else e))
      (λ a. effect_told d call.message call.request e (tells_truth earlier))
      (λ r. tells_truth earlier)

  -- and full, at a further access that may end the epoch, is what document 02 says
  pub full_is : (calls : List Call) (x : Access) (a z : ℕ)
      → let d = (past (fresh n m t s) calls).cache in
      is_full (accessed x a z d).cache ≡ full_after (accessing a z d (events_in (fresh n m t s) calls)) (accessed x a z d).cache
  full_is calls x a z =
      let d = (past (fresh n m t s) calls).cache in
      let c = (accessed x a z d).cache in
      ap (λ (b : Bool). b || leb c.maximum (held c)) (access_told x a z d (events_in (fresh n m t s) calls) (tells_truth calls))

-- ---- held bytes never rise while room is made, so what a turn finds the start found

moves_held : {may sets : Bool} {w v : Work} → Moves may sets w v → Sound w.cache → held v.cache ≤ held w.cache
moves_held (done) k = le_refl _
moves_held (evicts {w} a e g l d m) k =
    let h = total_remove (λ e. e.size) a w.cache.rows k.distinct in
    let n = moves_held m (sound_remove a w.cache k) in
    omega arith
moves_held (writes {w} a e r y g l d s m) k =
    let h = total_same (λ e. e.size) a cleaned (λ e. refl) w.cache.rows in
    let n = moves_held m (sound_write a r w.cache s k) in
    omega arith
moves_held (tunes {w} n h i y m) k = moves_held m (sound_same w.cache (tuned n h i w).cache refl refl k)
moves_held (ages {w} y m) k =
    let h = total_all (λ e. e.size) older (λ e. refl) w.cache.rows in
    let n = moves_held m (sound_ages w.cache k) in
    omega arith
moves_held (notes {w} b m) k = moves_held m (sound_same w.cache (noted b w).cache refl refl k)

found_by : {may : Bool} {turn : Work → Option Work} → Turning may false turn → (x : ℕ) (row : Bool) {w v : Work} → Sound w.cache
    → Reached (λ u. lacking x row u.cache) turn w v → overfull x v.cache ≡ true → overfull x w.cache ≡ true
found_by g x row k here o = o
found_by g x row {w} k (later {u = u} t e r) o =
    let m = (g w u k e).moves in
    let p = ltb-true u.cache.maximum (held u.cache + x) (found_by g x row (moves_sound m k) r o) in
    let q = moves_held m k in
    let f = ap (λ (f : Figures). f.maximum) (moves_figures m) in
    lt-ltb w.cache.maximum (held w.cache + x) (omega arith)

-- in every mode: step 1 finds held plus incoming above the maximum at some turn only if it does at its start
pub found_at_start : (m : Mode) (x : ℕ) (row : Bool) {w v : Work} → Sound w.cache
    → Reached (λ u. lacking x row u.cache) (turn_in m) w v → overfull x v.cache ≡ true → overfull x w.cache ≡ true
found_at_start Alone = found_by tail_turns
found_at_start Lead = found_by (clean_turns {may = false})
found_at_start Standby = found_by (clean_turns {may = false})
