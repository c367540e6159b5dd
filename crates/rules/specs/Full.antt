-- "Full" told by what happened in a run: counters that restarted, and room that was made. The latest stands first.
use Rattle.std.specs.Prelude.{ℕ, ◌+◌, Bool, true, false, ◌&&◌, ◌||◌, List, [], ◌∷◌, leb, ltb, if◌then◌else◌}
use Rattle.fraction.specs.Fraction.{hit_rate}
use Rattle.rules.specs.declared.request.Access.{Access}
use Rattle.rules.specs.declared.request.Request.{Request}
use Rattle.rules.specs.declared.request.Request.TheVariants.{Insert, Protect, Release, ReleaseChanged, Pin, Unpin, Resize, Discard, Flush, Sync, Take, Configure}
use Rattle.rules.specs.Cache.{Cache, Work, start, held, touch}
use Rattle.rules.specs.Entries.{is_held, protected_for, released, changed_to}
use Rattle.rules.specs.History.{past}
use Rattle.rules.specs.Hosts.{accepted}
use Rattle.rules.specs.Refusals.{Call}
use Rattle.rules.specs.Requests.{step, loaded, growth, named, configured}
use Rattle.rules.specs.Resizing.{flashed, counts, counted, resized, aged}
use Rattle.rules.specs.Room.{overfull, make_room}
use Rattle.rules.specs.Rows.{get, passes, is_here}

pub data Event : Type 0 where
  -- counters restarted
  restarted : Event
  -- room was made in this cache for an incoming size
  room_made : ℕ → Cache → Event

-- Since the counters last restarted, making room at least once found held plus incoming above the maximum.
unfoldable pub found_since : List Event → Bool
found_since [] = false
found_since (restarted ∷ earlier) = false
found_since (room_made x c ∷ earlier) = overfull x c || found_since earlier

-- Full: found so, or held bytes reach the maximum now.
abbrev pub full_after : List Event → Cache → Bool
full_after events c = found_since events || leb c.maximum (held c)

-- ---- what an accepted request adds to earlier events

-- With evictions off no room is made.
abbrev pub making_room : ℕ → Cache → List Event → List Event
making_room x c earlier = if c.settings.evictions then room_made x c ∷ earlier else earlier

-- A flash by which the maximum rose restarts the counters.
abbrev pub flashing : ℕ → Cache → List Event → List Event
flashing x c earlier = if ltb c.maximum (flashed x c).maximum then restarted ∷ earlier else earlier

-- With one access more the epoch ends.
abbrev pub ends_epoch : Cache → Bool
ends_epoch c = counts c.settings && leb c.settings.epoch (c.accesses + 1)

-- The cache at the end of an epoch, before room is made for nothing.
abbrev pub at_end : Bool → Work → Cache
at_end hit w = let v = counted hit w in (aged (resized (hit_rate v.cache.hits v.cache.accesses) v)).cache

-- An access that ends the epoch restarts the counters, and room is made for nothing.
abbrev pub counting : Bool → Work → List Event → List Event
counting hit w earlier = if ends_epoch w.cache then making_room 0 (at_end hit w) (restarted ∷ earlier) else earlier

-- Room for a new entry comes after the flash.
abbrev pub admitting : ℕ → Cache → List Event → List Event
admitting s c earlier = making_room s (flashed s c) (flashing s c earlier)

-- A protect before it counts, and its events: room is made on a miss.
abbrev pub accessed : Access → ℕ → ℕ → Cache → Work
accessed x a s c =
    if is_here c.rows a then start (touch a (protected_for x) c) else loaded x a s (make_room s true (start (flashed s c)))

abbrev pub accessing : ℕ → ℕ → Cache → List Event → List Event
accessing a s c earlier = if is_here c.rows a then earlier else admitting s c earlier

-- When the last hold went, room is made for nothing.
abbrev pub releasing : ℕ → Cache → List Event → List Event
releasing a c earlier = if passes (λ e. is_held e.hold) (get c.rows a) then earlier else making_room 0 c earlier

unfoldable pub events_of : Cache → Request → List Event → List Event
events_of c (Insert a s) earlier = admitting s c earlier
events_of c (Protect x a s) earlier = counting (is_here c.rows a) (accessed x a s c) (accessing a s c earlier)
events_of c (Release a) earlier = releasing a (touch a released c) earlier
events_of c (ReleaseChanged a s) earlier = releasing a (touch a (λ e. released (changed_to s e)) (named a s c)) (flashing (growth a s c) c earlier)
events_of c (Pin a) earlier = earlier
events_of c (Unpin a) earlier = earlier
events_of c (Resize a s) earlier = flashing (growth a s c) c earlier
events_of c (Discard a) earlier = earlier
events_of c Flush earlier = earlier
events_of c Sync earlier = earlier
events_of c Take earlier = earlier
events_of c (Configure s) earlier = making_room 0 (configured s c) (restarted ∷ earlier)

-- ---- a run

-- The latest request stands first, as in a history.
unfoldable pub events_in : Cache → List Call → List Event
events_in c [] = []
events_in c (call ∷ earlier) =
    let d = (past c earlier).cache in
    if accepted (step d call) then events_of d call.request (events_in c earlier) else events_in c earlier
