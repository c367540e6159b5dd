-- What the names mean: the course of a request in document 01's words, its phases in order. Each constructor says when its reason, or its
-- cause and bound, may be named, so that no other name fits.
use Rattle.std.specs.Prelude.{ℕ, ◌+◌, ◌-◌, ◌≤◌, ◌<◌, ◌≡◌, Bool, true, false, not, List, [], ◌∷◌, ◌++◌, map, ltb, Float, None, Some, Option}
use Rattle.std.specs.Float.Ieee.{eq}
use Rattle.fraction.specs.Fraction.{decimal, size_product, reserve_quotient, exceeds_share}
use Rattle.settings.specs.declared.Decrease.{Decrease}
use Rattle.settings.specs.declared.Decrease.TheVariants as decrease
use Rattle.settings.specs.declared.Flash.{Flash}
use Rattle.settings.specs.declared.Flash.TheVariants as flash
use Rattle.settings.specs.declared.Increase.{Increase}
use Rattle.settings.specs.declared.Increase.TheVariants as increase
use Rattle.settings.specs.declared.Mode.{Mode}
use Rattle.settings.specs.declared.Mode.TheVariants.{Alone}
use Rattle.settings.specs.declared.Settings.{Settings}
use Rattle.rules.specs.declared.order.Kind.{Kind}
use Rattle.rules.specs.declared.order.Order.{Order}
use Rattle.rules.specs.declared.request.Access.{Access}
use Rattle.rules.specs.declared.request.Request.{Request}
use Rattle.rules.specs.declared.request.Request.TheVariants.{Insert, Protect, Release, ReleaseChanged, Pin, Unpin, Resize, Discard, Flush, Sync, Take, Configure}
use Rattle.rules.specs.Addresses.{strike}
use Rattle.rules.specs.Cache.{Cache, Work, recency_list, start, held, with_rows, with_settings, with_maximum, with_count, with_next, amend_at, touch, restart}
use Rattle.rules.specs.Entries.{is_held, with_pin, changed_to, protected_for, released}
use Rattle.rules.specs.Loops.{turn_in, dirty_turn}
use Rattle.rules.specs.Messages.{read_message, addresses_in, next_after}
use Rattle.rules.specs.Refusals.{Call, is_alone, refusal_of}
use Rattle.rules.specs.Requests.{Outcome, judged, adds, inserted, loaded, growth, writes_of, clean_each, numbered}
use Rattle.rules.specs.Resizing.{free_space, is_below, is_above, is_full, aged_at, aged, counts, counted}
use Rattle.rules.specs.Rising.{FlushOrder}
use Rattle.rules.specs.Room.{evict, write_in_place, overfull, lacking, share_missing, noticed}
use Rattle.rules.specs.Rows.{get, passes, remove, has_free, is_here, dirty_at}
use Rattle.reason_rules.specs.declared.Bound.{Bound}
use Rattle.reason_rules.specs.declared.Bound.TheVariants as bound
use Rattle.reason_rules.specs.declared.Cause.{Cause}
use Rattle.reason_rules.specs.declared.Cause.TheVariants as cause
use Rattle.reason_rules.specs.declared.Change.{Change}
use Rattle.reason_rules.specs.declared.Reason.{Reason}
use Rattle.reason_rules.specs.declared.Reason.TheVariants as reason
use Rattle.reason_rules.specs.Bounds.{above, below, Rise, Fall}
use Rattle.reason_rules.specs.Reasons.{changed, rate_of}

-- ---- making room

-- Step 1: while held plus incoming exceeds the maximum, or a row is wanted and none is free, a turn, which gives one order: alone a dirty tail is
-- written and moved to the head, a clean tail is evicted; in lead and standby the clean entry nearest the tail is evicted. Where bytes and rows
-- both press, the reason is bytes.
pub data StepOne (m : Mode) (x : ℕ) (row : Bool) : Work → List Reason → Work → Type 0 where
  enough : {w : Work} → lacking x row w.cache ≡ false → StepOne m x row w [] w
  nothing : {w : Work} → lacking x row w.cache ≡ true → turn_in m w ≡ None → StepOne m x row w [] w
  bytes : {w u v : Work} {l : List Reason} → overfull x w.cache ≡ true → turn_in m w ≡ Some u
      → StepOne m x row u l v → StepOne m x row w (reason.Bytes ∷ l) v
  rows : {w u v : Work} {l : List Reason} → overfull x w.cache ≡ false → row ≡ true → has_free w.cache.rows ≡ false → turn_in m w ≡ Some u
      → StepOne m x row u l v → StepOne m x row w (reason.Rows ∷ l) v

-- Step 2, and sync under its own name: while bytes of the clean share are missing, the dirty entry nearest the tail is written and keeps its
-- place.
pub data StepTwo (r : Reason) (x : ℕ) : Work → List Reason → Work → Type 0 where
  met : {w : Work} → ltb 0 (share_missing x w.cache) ≡ false → StepTwo r x w [] w
  none_left : {w : Work} → ltb 0 (share_missing x w.cache) ≡ true → dirty_turn w ≡ None → StepTwo r x w [] w
  writes : {w u v : Work} {l : List Reason} → ltb 0 (share_missing x w.cache) ≡ true → dirty_turn w ≡ Some u
      → StepTwo r x u l v → StepTwo r x w (r ∷ l) v

-- With evictions off: no effect. Else it is noted whether held plus incoming exceeds the maximum; then step 1, and alone step 2.
pub data Roomed (x : ℕ) (row : Bool) : Work → List Reason → Work → Type 0 where
  off : {w : Work} → w.cache.settings.evictions ≡ false → Roomed x row w [] w
  alone : {w u v : Work} {l m : List Reason} → w.cache.settings.evictions ≡ true → w.cache.mode ≡ Alone
      → StepOne Alone x row (noticed x w) l u → StepTwo reason.Share x u m v → Roomed x row w (l ++ m) v
  paired : {w v : Work} {l : List Reason} → w.cache.settings.evictions ≡ true → is_alone w.cache.mode ≡ false
      → StepOne w.cache.mode x row (noticed x w) l v → Roomed x row w l v

-- ---- the flash

-- The value that a flash of x bytes gives, and its bound, if x exceeds threshold times maximum: the maximum rises by the whole part of x
-- times multiple, less free space, never above maximum size.
pub data FlashGives (x : ℕ) (c : Cache) : Flash → Option Bound → ℕ → Type 0 where
  flash_gives : {multiple threshold : Float} {b : Option Bound} {n : ℕ} → exceeds_share x threshold c.maximum ≡ true
      → Rise (c.maximum + (size_product x multiple - free_space c.maximum (held c))) (above None c.maximum c.settings.largest) b n
      → FlashGives x c (flash.On multiple threshold) b n

-- Never downward. If it rose, counters restart.
pub data Flashed (x : ℕ) (c : Cache) : List Change → Cache → Type 0 where
  flashes : {b : Option Bound} {n : ℕ} → FlashGives x c c.settings.flash b n → c.maximum < n
      → Flashed x c (changed cause.Flash b) (restart (with_maximum n c))
  no_flash : ((b : Option Bound) (n : ℕ) → FlashGives x c c.settings.flash b n → n ≤ c.maximum) → Flashed x c [] c

-- ---- the end of an epoch

-- Another maximum.
abbrev pub set_to : ℕ → Work → Work
set_to n w = record { cache = with_maximum n w.cache; orders = w.orders }

-- The value that step 2 gives, and its bound, if the rate is below lower and the cache full: maximum times multiplier, not above maximum size
-- or maximum plus cap.
pub data IncreaseGives (rate : Float) (c : Cache) : Increase → Option Bound → ℕ → Type 0 where
  increase_gives : {lower multiplier : Float} {b : Option Bound} {n : ℕ} → is_below rate lower ≡ true → is_full c ≡ true
      → Rise (size_product c.maximum multiplier) (above c.settings.increment c.maximum c.settings.largest) b n
      → IncreaseGives rate c (increase.Threshold lower multiplier) b n

-- The maximum did not rise.
abbrev pub NoRise : Float → Cache → Type 0
NoRise rate c = (b : Option Bound) (n : ℕ) → IncreaseGives rate c c.settings.increase b n → n ≤ c.maximum

-- The value that a target gives, and its bound: it is raised to minimum size and to maximum less cap.
abbrev pub FallGives : ℕ → Cache → Option Bound → ℕ → Type 0
FallGives target c b n = Fall target (below c.settings.decrement c.maximum c.settings.smallest) b n

-- Taken if still below the maximum.
pub data Lowered (x : Cause) (target : ℕ) (w : Work) : List Change → Work → Type 0 where
  lowers : {b : Option Bound} {n : ℕ} → FallGives target w.cache b n → n < w.cache.maximum → Lowered x target w (changed x b) (set_to n w)
  no_fall : ((b : Option Bound) (n : ℕ) → FallGives target w.cache b n → w.cache.maximum ≤ n) → Lowered x target w [] w

-- From tail to head, entries with idle count at least the epochs are evicted; dirty ones are written first if alone, else kept.
pub data AgeWalk (epochs : ℕ) : List ℕ → Work → List Reason → Work → Type 0 where
  at_head : {w : Work} → AgeWalk epochs [] w [] w
  young : {a : ℕ} {rest : List ℕ} {w v : Work} {l : List Reason} → aged_at epochs w.cache a ≡ false
      → AgeWalk epochs rest w l v → AgeWalk epochs (a ∷ rest) w l v
  evicts : {a : ℕ} {rest : List ℕ} {w v : Work} {l : List Reason} → aged_at epochs w.cache a ≡ true → dirty_at w.cache.rows a ≡ false
      → AgeWalk epochs rest (evict a w) l v → AgeWalk epochs (a ∷ rest) w (reason.Aged ∷ l) v
  writes_and_evicts : {a : ℕ} {rest : List ℕ} {w v : Work} {l : List Reason} → aged_at epochs w.cache a ≡ true → dirty_at w.cache.rows a ≡ true
      → is_alone w.cache.mode ≡ true → AgeWalk epochs rest (evict a (write_in_place a w)) l v
      → AgeWalk epochs (a ∷ rest) w (reason.Aged ∷ reason.Aged ∷ l) v
  keeps : {a : ℕ} {rest : List ℕ} {w v : Work} {l : List Reason} → aged_at epochs w.cache a ≡ true → dirty_at w.cache.rows a ≡ true
      → is_alone w.cache.mode ≡ false → AgeWalk epochs rest w l v → AgeWalk epochs (a ∷ rest) w l v

-- The decrease rule does nothing at a rate.
pub data Rests (rate : Float) : Decrease → Type 0 where
  rule_off : Rests rate decrease.Off
  threshold_not_above : {upper multiplier : Float} → is_above rate upper ≡ false → Rests rate (decrease.Threshold upper multiplier)
  age_out_not_above : {upper reserve : Float} {epochs : ℕ} → is_above rate upper ≡ false → Rests rate (decrease.AgeOutWithThreshold upper epochs reserve)

-- Threshold: a rate above upper gives maximum times multiplier.
pub data Multiplies (rate : Float) : Decrease → Float → Type 0 where
  threshold_above : {upper multiplier : Float} → is_above rate upper ≡ true → Multiplies rate (decrease.Threshold upper multiplier) multiplier

-- Age-out ages out at any rate, age-out with threshold only if the rate is above upper.
pub data AgesOut (rate : Float) : Decrease → ℕ → Float → Type 0 where
  age_out_always : {reserve : Float} {epochs : ℕ} → AgesOut rate (decrease.AgeOut epochs reserve) epochs reserve
  age_out_above : {upper reserve : Float} {epochs : ℕ} → is_above rate upper ≡ true → AgesOut rate (decrease.AgeOutWithThreshold upper epochs reserve) epochs reserve

-- Steps 2 and 3: the increase, and if the maximum did not rise, the decrease.
pub data Resized (rate : Float) : Work → List Reason → List Change → Work → Type 0 where
  increases : {w : Work} {b : Option Bound} {n : ℕ} → IncreaseGives rate w.cache w.cache.settings.increase b n → w.cache.maximum < n
      → Resized rate w [] (changed cause.Increase b) (set_to n w)
  rests : {w : Work} → NoRise rate w.cache → Rests rate w.cache.settings.decrease → Resized rate w [] [] w
  multiplies : {w v : Work} {m : List Change} {multiplier : Float} → NoRise rate w.cache → Multiplies rate w.cache.settings.decrease multiplier
      → Lowered cause.Threshold (size_product w.cache.maximum multiplier) w m v → Resized rate w [] m v
  -- the target is held / (1 - reserve)
  ages_out : {w u v : Work} {l : List Reason} {m : List Change} {epochs : ℕ} {reserve : Float} → NoRise rate w.cache
      → AgesOut rate w.cache.settings.decrease epochs reserve → AgeWalk epochs (recency_list w.cache) w l u → eq reserve (decimal 1 1) ≡ false
      → Lowered cause.AgeOut (reserve_quotient (held u.cache) reserve) u m v → Resized rate w l m v
  -- no reduction if reserve is 1
  ages_out_only : {w u : Work} {l : List Reason} {epochs : ℕ} {reserve : Float} → NoRise rate w.cache
      → AgesOut rate w.cache.settings.decrease epochs reserve → AgeWalk epochs (recency_list w.cache) w l u → eq reserve (decimal 1 1) ≡ true
      → Resized rate w l [] u

-- An access counts if the increase or decrease rule is on. At the epoch length: steps 1 to 3; each idle count rises, counters restart, and
-- room is made for nothing.
pub data Counted (hit : Bool) : Work → List Reason → List Change → Work → Type 0 where
  uncounted : {w : Work} → counts w.cache.settings ≡ false → Counted hit w [] [] w
  within : {w : Work} → counts w.cache.settings ≡ true → w.cache.accesses + 1 < w.cache.settings.epoch → Counted hit w [] [] (counted hit w)
  ends : {w u v : Work} {l k : List Reason} {m : List Change} → counts w.cache.settings ≡ true → w.cache.settings.epoch ≤ w.cache.accesses + 1
      → Resized (rate_of (counted hit w)) (counted hit w) l m u → Roomed 0 false (aged u) k v → Counted hit w (l ++ k) m v

-- ---- configuring

-- The maximum that settings give, where n is the old one: with the initial size it is set, without it brought into the new range.
pub data Fixed (s : Settings) (n : ℕ) : List Change → ℕ → Type 0 where
  sets : s.preset ≡ true → (s.initial ≡ n → ⊥) → Fixed s n (changed cause.Settings None) s.initial
  sets_same : s.preset ≡ true → s.initial ≡ n → Fixed s n [] n
  brings_down : s.preset ≡ false → s.largest < n → Fixed s n (changed cause.Settings (Some bound.Largest)) s.largest
  brings_up : s.preset ≡ false → n < s.smallest → Fixed s n (changed cause.Settings (Some bound.Smallest)) s.smallest
  in_range : s.preset ≡ false → s.smallest ≤ n → n ≤ s.largest → Fixed s n [] n

-- ---- by request

-- When the last hold went, room is made for nothing.
pub data LetGo (a : ℕ) (c : Cache) : List Reason → Work → Type 0 where
  still_held : passes (λ e. is_held e.hold) (get c.rows a) ≡ true → LetGo a c [] (start c)
  last_gone : {v : Work} {l : List Reason} → passes (λ e. is_held e.hold) (get c.rows a) ≡ false → Roomed 0 false (start c) l v → LetGo a c l v

-- What an accepted request does: its phases in order, with the reasons of the orders and the changes of the maximum.
pub data Does (c : Cache) (message : List ℕ) : Request → List Reason → List Change → Work → Type 0 where
  -- the flash; room for the size and a row; the new entry
  insert : {a s : ℕ} {d : Cache} {v : Work} {l : List Reason} {m : List Change} → Flashed s c m d → Roomed s true (start d) l v
      → Does c message (Insert a s) l m (inserted a s v)
  -- a hold more; the access is counted last
  hits : {x : Access} {a s : ℕ} {v : Work} {l : List Reason} {m : List Change} → is_here c.rows a ≡ true
      → Counted true (start (touch a (protected_for x) c)) l m v → Does c message (Protect x a s) l m v
  -- the flash; room; the load, which follows the evictions; the access is counted last
  misses : {x : Access} {a s : ℕ} {d : Cache} {u v : Work} {l k : List Reason} {m n : List Change} → is_here c.rows a ≡ false
      → Flashed s c m d → Roomed s true (start d) l u → Counted false (loaded x a s u) k n v
      → Does c message (Protect x a s) (l ++ reason.Load ∷ k) (m ++ n) v
  release : {a : ℕ} {v : Work} {l : List Reason} → LetGo a (touch a released c) l v → Does c message (Release a) l [] v
  -- the flash; the byte count; a changed entry, and a hold less
  release_changed : {a s : ℕ} {d : Cache} {v : Work} {l : List Reason} {m : List Change} → Flashed (growth a s c) c m d
      → LetGo a (touch a (λ e. released (changed_to s e)) (with_count (adds (dirty_at c.rows a) s c.count) d)) l v
      → Does c message (ReleaseChanged a s) l m v
  pin : {a : ℕ} → Does c message (Pin a) [] [] (start (amend_at a (with_pin true) c))
  unpin : {a : ℕ} → Does c message (Unpin a) [] [] (start (touch a (with_pin false) c))
  -- the flash; the byte count; a changed entry; no room is made
  resize : {a s : ℕ} {d : Cache} {m : List Change} → Flashed (growth a s c) c m d
      → Does c message (Resize a s) [] m (start (amend_at a (changed_to s) (with_count (adds (dirty_at c.rows a) s c.count) d)))
  discard : {a : ℕ} → Does c message (Discard a) [] [] (start (with_rows (remove a c.rows) (strike a c.recency) c))
  -- every dirty entry by rising address
  flush : {l : List ℕ} → FlushOrder c.rows l
      → Does c message Flush (map (λ a. reason.Flush) l) [] (record { cache = numbered (clean_each l c); orders = writes_of c.rows l })
  sync : {w : Work} {l : List Reason} → StepTwo reason.Sync 0 (start c) l w
      → Does c message Sync l [] (record { cache = numbered (with_count 0 w.cache); orders = w.orders })
  take : Does c message Take [] [] (start (with_next (next_after c.next) (clean_each (addresses_in (read_message message)) c)))
  -- counters restart, room is made for nothing
  configure : {s : Settings} {n : ℕ} {v : Work} {l : List Reason} {m : List Change} → Fixed s c.maximum m n
      → Roomed 0 false (start (restart (with_maximum n (with_settings s c)))) l v → Does c message (Configure s) l m v

-- The course of a request that is not refused: its outcome, the reasons of its orders, and the changes of the maximum.
pub data Course (c : Cache) (call : Call) : Outcome → List Reason → List Change → Type 0 where
  accepted : {w : Work} {l : List Reason} {m : List Change} → refusal_of c call ≡ None → Does c call.message call.request l m w
      → Course c call (judged None c w) l m

-- ---- each order with its reason

abbrev pub is_write : Kind → Bool
is_write Kind.Write = true
is_write Kind.Evict = false
is_write Kind.Load = false

abbrev pub is_load : Kind → Bool
is_load Kind.Write = false
is_load Kind.Evict = false
is_load Kind.Load = true

-- The kinds of orders that a rule gives: room and age-out write and evict, the clean share, flush and sync write, and a load loads.
abbrev pub names : Reason → Kind → Bool
names reason.Bytes k = not (is_load k)
names reason.Rows k = not (is_load k)
names reason.Share k = is_write k
names reason.Aged k = not (is_load k)
names reason.Flush k = is_write k
names reason.Sync k = is_write k
names reason.Load k = is_load k

-- A reason for each order, in their order, that may name it.
abbrev pub Paired : List Order → List Reason → Type 0
Paired [] [] = Unit
Paired [] (r ∷ l) = ⊥
Paired (o ∷ orders) [] = ⊥
Paired (o ∷ orders) (r ∷ l) = (names r o.kind ≡ true) × Paired orders l
