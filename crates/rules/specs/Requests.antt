-- What an accepted request does, and the step: one request answered.
use Rattle.std.specs.Prelude.{ℕ, ◌+◌, ◌-◌, min, max, Bool, true, false, List, [], ◌∷◌, ◌++◌, map, length, if◌then◌else◌, Option, None, Some, Ok, Err}
use Rattle.settings.specs.declared.Settings.{Settings}
use Rattle.rules.specs.Types.{Answer, Row}
use Rattle.rules.specs.declared.answer.Refusal.{Refusal}
use Rattle.rules.specs.declared.entry.Hold.TheVariants.{Unheld}
use Rattle.rules.specs.declared.order.Kind.{Kind}
use Rattle.rules.specs.declared.order.Order.{Order}
use Rattle.rules.specs.declared.request.Access.{Access}
use Rattle.rules.specs.declared.request.Request.{Request}
use Rattle.rules.specs.declared.request.Request.TheVariants.{Insert, Protect, Release, ReleaseChanged, Pin, Unpin, Resize, Discard, Flush, Sync, Take, Configure}
use Rattle.rules.specs.Addresses.{strike}
use Rattle.rules.specs.Cache.{Cache, Work, recency_list, start, give, with_rows, with_settings, with_maximum, with_count, with_next, amend_at, touch, restart}
use Rattle.rules.specs.Entries.{is_held, cleaned, changed_to, with_pin, protected_for, released, new_entry, joined}
use Rattle.rules.specs.Limits.{count_stop}
use Rattle.rules.specs.Messages.{read_message, addresses_in, next_after}
use Rattle.rules.specs.Refusals.{Call, refusal_of, is_lead}
use Rattle.rules.specs.Resizing.{flashed, count_access}
use Rattle.rules.specs.Room.{make_room, write_dirty}
use Rattle.rules.specs.Rows.{get, passes, amend_each, remove, place, is_here, dirty_at, size_at, dirty_rising}

-- The byte count after a size is named for an entry: it adds the size if the entry was not dirty, and stops.
abbrev pub adds : Bool → ℕ → ℕ → ℕ
adds was_dirty s n = if was_dirty then n else min (n + s) count_stop

-- ---- insert

-- A new entry, dirty, idle 0, at the head; the byte count adds its size.
abbrev pub inserted : ℕ → ℕ → Work → Work
inserted a s w = record {
  cache =
      with_count (adds false s w.cache.count)
      (with_rows (place (new_entry a s true Unheld) w.cache.rows) (w.cache.recency ++ a ∷ []) w.cache);
  orders = w.orders;
}

-- ---- protect

-- A miss loads a clean entry.
abbrev pub loaded : Access → ℕ → ℕ → Work → Work
loaded x a s w = record {
  cache = with_rows (place (new_entry a s false (joined x Unheld)) w.cache.rows) w.cache.recency w.cache;
  orders = give Kind.Load a s w.orders;
}

abbrev pub hit : Access → ℕ → Cache → Work
hit x a c = count_access true (start (touch a (protected_for x) c))

abbrev pub missed : Access → ℕ → ℕ → Cache → Work
missed x a s c = count_access false (loaded x a s (make_room s true (start (flashed s c))))

-- ---- release and resize

-- When the last hold went, room is made for nothing.
abbrev pub room_if_released : ℕ → Cache → Work
room_if_released a c = if passes (λ e. is_held e.hold) (get c.rows a) then start c else make_room 0 false (start c)

-- The growth of the entry at an address to a size.
abbrev pub growth : ℕ → ℕ → Cache → ℕ
growth a s c = s - size_at c.rows a

-- A named size for an entry: the flash by its growth, and the byte count if it was clean.
abbrev pub named : ℕ → ℕ → Cache → Cache
named a s c = let d = flashed (growth a s c) c in with_count (adds (dirty_at c.rows a) s c.count) d

-- ---- flush, sync, take

abbrev pub writes_of : List Row → List ℕ → List Order
writes_of rows list = map (λ a. record { kind = Kind.Write; address = a; size = size_at rows a }) list

abbrev pub clean_each : List ℕ → Cache → Cache
clean_each list c = with_count 0 (with_rows (amend_each list cleaned c.rows) c.recency c)

-- A list that a lead sends uses up its number.
abbrev pub numbered : Cache → Cache
numbered c = with_next (if is_lead c.mode then next_after c.next else c.next) c

-- ---- configure

-- Brought into the range of the settings.
abbrev pub brought : ℕ → Settings → ℕ
brought n s = min (max n s.smallest) s.largest

-- Configuring with the initial size sets the maximum; without it the maximum is brought into the new range.
abbrev pub configured : Settings → Cache → Cache
configured s c = restart (with_maximum (if s.preset then s.initial else brought c.maximum s) (with_settings s c))

-- ---- by request

unfoldable pub effect : Cache → List ℕ → Request → Work
effect c message (Insert a s) = inserted a s (make_room s true (start (flashed s c)))
effect c message (Protect x a s) = if is_here c.rows a then hit x a c else missed x a s c
effect c message (Release a) = room_if_released a (touch a released c)
effect c message (ReleaseChanged a s) = room_if_released a (touch a (λ e. released (changed_to s e)) (named a s c))
effect c message (Pin a) = start (amend_at a (with_pin true) c)
effect c message (Unpin a) = start (touch a (with_pin false) c)
effect c message (Resize a s) = start (amend_at a (changed_to s) (named a s c))
effect c message (Discard a) = start (with_rows (remove a c.rows) (strike a c.recency) c)
effect c message Flush =
    let dirty = dirty_rising c.rows in
    record { cache = numbered (clean_each dirty c); orders = writes_of c.rows dirty }
effect c message Sync =
    let w = write_dirty 0 (recency_list c) (start c) in
    record { cache = numbered (with_count 0 w.cache); orders = w.orders }
effect c message Take = start (with_next (next_after c.next) (clean_each (addresses_in (read_message message)) c))
effect c message (Configure s) = make_room 0 false (start (configured s c))

-- ---- the step

pub record Outcome : Type 0 where
  pub answer : Answer
  pub cache : Cache
  pub orders : List Order

-- A refusal answers its number, zero orders, and changes nothing.
abbrev pub judged : Option Refusal → Cache → Work → Outcome
judged None c w = record { answer = Ok (length w.orders); cache = w.cache; orders = w.orders }
judged (Some r) c w = record { answer = Err r; cache = c; orders = [] }

unfoldable pub step : Cache → Call → Outcome
step c call = judged (refusal_of c call) c (effect c call.message call.request)
