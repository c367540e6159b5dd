-- Making room for an incoming size x and, if one is wanted, a row; "for nothing" is size 0 and no row.
use Rattle.std.specs.Prelude.{ℕ, zero, suc, ◌+◌, ◌-◌, ◌*◌, Bool, not, ◌&&◌, ◌||◌, List, [], ◌∷◌, ◌++◌, ltb, length, if◌then◌else◌, Option, None, Some, option_map}
use Rattle.rules.specs.declared.order.Kind.{Kind}
use Rattle.settings.specs.declared.Mode.{Mode}
use Rattle.settings.specs.declared.Mode.TheVariants.{Alone, Lead, Standby}
use Rattle.rules.specs.Addresses.{strike, nearest}
use Rattle.rules.specs.Cache.{Cache, Work, recency_list, with_rows, with_exceeded, held, minimum_clean, give}
use Rattle.rules.specs.Entries.{cleaned}
use Rattle.rules.specs.Rows.{amend, remove, has_free, clean_at, dirty_at, size_at}
use Rattle.rules.specs.Types.{Row}

-- ---- the clean share

-- The bytes of the clean entries of a list.
unfoldable pub clean_bytes : List Row → List ℕ → ℕ
clean_bytes rows [] = 0
clean_bytes rows (a ∷ rest) = (if clean_at rows a then size_at rows a else 0) + clean_bytes rows rest

-- Maximum less held and incoming, not below 0.
abbrev pub unused_bytes : ℕ → Cache → ℕ
unused_bytes x c = c.maximum - (held c + x)

-- The bytes that clean bytes in the recency list plus unused bytes are short of the minimum clean bytes; 0 where these are met.
abbrev pub share_missing : ℕ → Cache → ℕ
share_missing x c = minimum_clean c - (clean_bytes c.rows (recency_list c) + unused_bytes x c)

-- ---- the orders

abbrev pub evict : ℕ → Work → Work
evict a w = record {
  cache = with_rows (remove a w.cache.rows) (strike a w.cache.recency) w.cache;
  orders = give Kind.Evict a (size_at w.cache.rows a) w.orders;
}

-- A write, after which the entry is clean; the recency list is the one handed over.
abbrev pub write : ℕ → List ℕ → Work → Work
write a recency w = record {
  cache = with_rows (amend a cleaned w.cache.rows) recency w.cache;
  orders = give Kind.Write a (size_at w.cache.rows a) w.orders;
}

-- A write that keeps the entry's place.
abbrev pub write_in_place : ℕ → Work → Work
write_in_place a w = write a w.cache.recency w

-- ---- step 1

-- Held plus incoming exceeds the maximum.
abbrev pub overfull : ℕ → Cache → Bool
overfull x c = ltb c.maximum (held c + x)

-- That, or a row is wanted and none is free.
abbrev pub lacking : ℕ → Bool → Cache → Bool
lacking x row c = overfull x c || row && not (has_free c.rows)

-- Alone, a turn looks at the tail: a dirty one is written and moved to the head, a clean one evicted.
abbrev pub look_at_tail : List ℕ → Work → Option Work
look_at_tail [] w = None
look_at_tail (a ∷ rest) w = Some (if dirty_at w.cache.rows a then write a (rest ++ a ∷ []) w else evict a w)

abbrev pub tail_turn : Work → Option Work
tail_turn w = look_at_tail (recency_list w.cache) w

-- In lead and standby, a turn evicts the clean entry nearest the tail.
abbrev pub clean_turn : Work → Option Work
clean_turn w = option_map (λ a. evict a w) (nearest (clean_at w.cache.rows) (recency_list w.cache))

-- What a turn leaves; without one all stays.
abbrev pub or_stay : Option Work → Work → Work
or_stay None w = w
or_stay (Some v) w = v

-- At most n turns, while room is lacking.
unfoldable pub turns : ℕ → (Work → Option Work) → ℕ → Bool → Work → Work
turns zero turn x row w = w
turns (suc n) turn x row w = turns n turn x row (if lacking x row w.cache then or_stay (turn w) w else w)

-- Each turn gives an order, and each entry two at most: a write and an evict.
abbrev pub evict_by : (Work → Option Work) → ℕ → Bool → Work → Work
evict_by turn x row w = turns (2 * length w.cache.rows) turn x row w

-- ---- step 2, and sync

-- From the tail, while bytes are missing, each dirty entry is written and keeps its place.
unfoldable pub write_dirty : ℕ → List ℕ → Work → Work
write_dirty x [] w = w
write_dirty x (a ∷ rest) w =
    write_dirty x rest (if ltb 0 (share_missing x w.cache) && dirty_at w.cache.rows a then write_in_place a w else w)

-- ---- both steps

unfoldable pub room_in : Mode → ℕ → Bool → Work → Work
room_in Alone x row w =
    let v = evict_by tail_turn x row w in
    write_dirty x (recency_list v.cache) v
room_in Lead x row w = evict_by clean_turn x row w
room_in Standby x row w = evict_by clean_turn x row w

-- It is noted if held plus incoming exceeds the maximum, whether or not anything can be evicted.
abbrev pub noticed : ℕ → Work → Work
noticed x w = record { cache = with_exceeded (w.cache.exceeded || overfull x w.cache) w.cache; orders = w.orders }

-- With evictions off: no effect.
unfoldable pub make_room : ℕ → Bool → Work → Work
make_room x row w = if w.cache.settings.evictions then room_in w.cache.mode x row (noticed x w) else w
