-- How the maximum changes: the flash, and the end of an epoch.
use Rattle.std.specs.Prelude.{ℕ, ◌+◌, ◌-◌, min, max, Bool, false, ◌&&◌, ◌||◌, List, [], ◌∷◌, leb, ltb, Float, if◌then◌else◌, None, Some}
use Rattle.std.specs.Float.Ieee.{lt, eq}
use Rattle.fraction.specs.Fraction.{decimal, size_product, hit_rate, reserve_quotient, exceeds_share}
use Rattle.settings.specs.Types.{Cap}
use Rattle.settings.specs.declared.Decrease.{Decrease}
use Rattle.settings.specs.declared.Decrease.TheVariants as decrease
use Rattle.settings.specs.declared.Flash.{Flash}
use Rattle.settings.specs.declared.Flash.TheVariants as flash
use Rattle.settings.specs.declared.Increase.{Increase}
use Rattle.settings.specs.declared.Increase.TheVariants as increase
use Rattle.settings.specs.declared.Settings.{Settings}
use Rattle.settings.specs.Validation.{increases, decreases}
use Rattle.rules.specs.declared.entry.Entry.{Entry}
use Rattle.settings.specs.declared.Mode.{Mode}
use Rattle.settings.specs.declared.Mode.TheVariants.{Alone, Lead, Standby}
use Rattle.rules.specs.Cache.{Cache, Work, recency_list, with_rows, with_maximum, with_counters, restart, held}
use Rattle.rules.specs.Entries.{with_idle}
use Rattle.rules.specs.Limits.{most_idle}
use Rattle.rules.specs.Room.{evict, write_in_place, make_room}
use Rattle.rules.specs.Rows.{get, passes, amend_all, dirty_at}

-- ---- flash

-- Maximum less held before, not below 0.
abbrev pub free_space : ℕ → ℕ → ℕ
free_space maximum held = maximum - held

-- The maximum after a flash of x bytes: if x exceeds threshold times maximum, it rises by the whole part of x times
-- multiple, less free space, never downward, never above maximum size.
abbrev pub flash_maximum : Flash → ℕ → ℕ → ℕ → ℕ → ℕ
flash_maximum flash.Off x maximum held largest = maximum
flash_maximum (flash.On multiple threshold) x maximum held largest =
    if exceeds_share x threshold maximum
    then min (maximum + (size_product x multiple - free_space maximum held)) largest
    else maximum

abbrev pub flashed_to : ℕ → Cache → ℕ
flashed_to x c = flash_maximum c.settings.flash x c.maximum (held c) c.settings.largest

-- If it rose, counters restart.
unfoldable pub flashed : ℕ → Cache → Cache
flashed x c = if ltb c.maximum (flashed_to x c) then restart (with_maximum (flashed_to x c) c) else c

-- ---- rates

-- A rate below the lower one, and one above the upper.
abbrev pub is_below : Float → Float → Bool
is_below rate lower = lt rate lower

abbrev pub is_above : Float → Float → Bool
is_above rate upper = lt upper rate

-- ---- increase

-- The cache is full: since the counters last restarted, making room at least once found held plus incoming above the maximum, or held bytes
-- reach the maximum now.
abbrev pub is_full : Cache → Bool
is_full c = c.exceeded || leb c.maximum (held c)

-- Not above the maximum plus the cap.
abbrev pub at_most : Cap → ℕ → ℕ → ℕ
at_most None maximum n = n
at_most (Some most) maximum n = min n (maximum + most)

-- Rate below lower and cache full: maximum times multiplier, not above maximum size or maximum plus cap.
abbrev pub increased_by : Increase → Cap → Float → Bool → ℕ → ℕ → ℕ
increased_by increase.Off limit rate full maximum largest = maximum
increased_by (increase.Threshold lower multiplier) limit rate full maximum largest =
    if is_below rate lower && full then at_most limit maximum (min (size_product maximum multiplier) largest) else maximum

abbrev pub increased_in : Float → Cache → ℕ
increased_in rate c = increased_by c.settings.increase c.settings.increment rate (is_full c) c.maximum c.settings.largest

-- ---- decrease

-- Not below the maximum less the cap.
abbrev pub at_least : Cap → ℕ → ℕ → ℕ
at_least None maximum n = n
at_least (Some most) maximum n = max n (maximum - most)

-- A target below the maximum is raised to minimum size and to maximum less cap, and taken if still below.
abbrev pub lowered : ℕ → Cap → ℕ → ℕ → ℕ
lowered target limit maximum smallest = min maximum (at_least limit maximum (max target smallest))

abbrev pub lowered_in : ℕ → Cache → ℕ
lowered_in target c = lowered target c.settings.decrement c.maximum c.settings.smallest

abbrev pub lower : ℕ → Work → Work
lower target w = record { cache = with_maximum (lowered_in target w.cache) w.cache; orders = w.orders }

-- An aged-out entry is evicted; a dirty one is written first if alone, else kept.
abbrev pub expel : Mode → ℕ → Work → Work
expel Alone a w = if dirty_at w.cache.rows a then evict a (write_in_place a w) else evict a w
expel Lead a w = if dirty_at w.cache.rows a then w else evict a w
expel Standby a w = if dirty_at w.cache.rows a then w else evict a w

-- Idle count at least the epochs.
abbrev pub aged_at : ℕ → Cache → ℕ → Bool
aged_at epochs c a = passes (λ e. leb epochs e.idle) (get c.rows a)

-- From tail to head.
unfoldable pub evict_aged : ℕ → List ℕ → Work → Work
evict_aged epochs [] w = w
evict_aged epochs (a ∷ rest) w =
    evict_aged epochs rest (if aged_at epochs w.cache a then expel w.cache.mode a w else w)

-- Age-out; the target is held / (1 - reserve), and no reduction if reserve is 1.
unfoldable pub age_out : ℕ → Float → Work → Work
age_out epochs reserve w =
    let v = evict_aged epochs (recency_list w.cache) w in
    if eq reserve (decimal 1 1) then v else lower (reserve_quotient (held v.cache) reserve) v

abbrev pub decreased_by : Decrease → Float → Work → Work
decreased_by decrease.Off rate w = w
decreased_by (decrease.Threshold upper multiplier) rate w =
    if is_above rate upper then lower (size_product w.cache.maximum multiplier) w else w
decreased_by (decrease.AgeOut epochs reserve) rate w = age_out epochs reserve w
decreased_by (decrease.AgeOutWithThreshold upper epochs reserve) rate w = if is_above rate upper then age_out epochs reserve w else w

-- ---- the end of an epoch

-- Steps 2 and 3: the increase, and if the maximum did not rise, the decrease.
unfoldable pub resized : Float → Work → Work
resized rate w =
    if ltb w.cache.maximum (increased_in rate w.cache)
    then record { cache = with_maximum (increased_in rate w.cache) w.cache; orders = w.orders }
    else decreased_by w.cache.settings.decrease rate w

-- Each idle count rises by one, up to 10.
abbrev pub older : Entry → Entry
older e = with_idle (min (e.idle + 1) most_idle) e

-- Step 4, but for the room.
abbrev pub aged : Work → Work
aged w = record { cache = restart (with_rows (amend_all older w.cache.rows) w.cache.recency w.cache); orders = w.orders }

unfoldable pub end_epoch : Work → Work
end_epoch w = make_room 0 false (aged (resized (hit_rate w.cache.hits w.cache.accesses) w))

-- ---- counting

-- The increase or decrease rule is on.
abbrev pub counts : Settings → Bool
counts s = increases s.increase || decreases s.decrease

-- One access, and one hit unless it missed.
abbrev pub counted : Bool → Work → Work
counted hit w = record {
  cache = with_counters (w.cache.accesses + 1) (w.cache.hits + (if hit then 1 else 0)) w.cache;
  orders = w.orders;
}

-- At the epoch length, the epoch ends.
abbrev pub end_if_due : Work → Work
end_if_due w = if leb w.cache.settings.epoch w.cache.accesses then end_epoch w else w

-- If the increase or decrease rule is on, an accepted protect counts, last of all.
unfoldable pub count_access : Bool → Work → Work
count_access hit w = if counts w.cache.settings then end_if_due (counted hit w) else w
