-- What is named: the reason of each order, and of each change of the maximum its cause and bound, by the phases of a request.
use Rattle.std.specs.Prelude.{ℕ, ◌+◌, ◌-◌, ◌*◌, Bool, true, false, ◌&&◌, List, [], ◌∷◌, ◌++◌, map, leb, ltb, eqb, Float, length, replicate, if◌then◌else◌, Option, None, Some}
use Rattle.std.specs.Float.Ieee.{eq}
use Rattle.fraction.specs.Fraction.{decimal, size_product, hit_rate, reserve_quotient}
use Rattle.settings.specs.declared.Decrease.TheVariants as decrease
use Rattle.settings.specs.declared.Decrease.{Decrease}
use Rattle.settings.specs.declared.Flash.TheVariants as flash
use Rattle.settings.specs.declared.Flash.{Flash}
use Rattle.settings.specs.declared.Increase.TheVariants as increase
use Rattle.settings.specs.declared.Increase.{Increase}
use Rattle.settings.specs.declared.Settings.{Settings}
use Rattle.rules.specs.declared.answer.Refusal.TheVariants as refusal
use Rattle.rules.specs.declared.answer.Refusal.{Refusal}
use Rattle.rules.specs.declared.request.Request.TheVariants.{Insert, Protect, Release, ReleaseChanged, Pin, Unpin, Resize, Discard, Flush, Sync, Take, Configure}
use Rattle.rules.specs.declared.request.Request.{Request}
use Rattle.rules.specs.Cache.{Cache, Work, start, held, touch}
use Rattle.rules.specs.Entries.{is_held, changed_to, protected_for, released}
use Rattle.rules.specs.Given.{can_order}
use Rattle.rules.specs.Loops.{turn_in}
use Rattle.rules.specs.Refusals.{Call, refusal_of}
use Rattle.rules.specs.Requests.{Outcome, judged, effect, loaded, growth, named, configured}
use Rattle.rules.specs.Resizing.{free_space, flashed, flashed_to, increased_in, lowered_in, is_above, evict_aged, resized, aged, counts, counted}
use Rattle.rules.specs.Room.{overfull, evict_by, write_dirty, noticed, make_room}
use Rattle.rules.specs.Rows.{get, passes, is_here, dirty_rising}
use Rattle.reason_rules.specs.declared.Bound.{Bound}
use Rattle.reason_rules.specs.declared.Cause.TheVariants as cause
use Rattle.reason_rules.specs.declared.Cause.{Cause}
use Rattle.reason_rules.specs.declared.Change.{Change}
use Rattle.reason_rules.specs.declared.Reason.TheVariants as reason
use Rattle.reason_rules.specs.declared.Reason.{Reason}
use Rattle.reason_rules.specs.Bounds.{rise_bound, fall_bound, settings_bound}

-- ---- the numbers

abbrev pub reason_number : Reason → ℕ
reason_number reason.Bytes = 1
reason_number reason.Rows = 2
reason_number reason.Share = 3
reason_number reason.Aged = 4
reason_number reason.Flush = 5
reason_number reason.Sync = 6
reason_number reason.Load = 7

abbrev pub cause_number : Cause → ℕ
cause_number cause.Increase = 1
cause_number cause.Flash = 2
cause_number cause.Threshold = 3
cause_number cause.AgeOut = 4
cause_number cause.Settings = 5

-- ---- reasons

-- A reason for each order that v has beyond those of w.
abbrev pub because : Reason → Work → Work → List Reason
because r w v = replicate (length v.orders - length w.orders) r

-- The reason of step 1, which the cache before it tells: where bytes and rows both press, it is bytes.
abbrev pub pressing : ℕ → Cache → Reason
pressing x c = if overfull x c then reason.Bytes else reason.Rows

-- The work after step 1.
abbrev pub first_pass : ℕ → Bool → Work → Work
first_pass x row w = evict_by (turn_in w.cache.mode) x row (noticed x w)

unfoldable pub room_reasons : ℕ → Bool → Work → List Reason
room_reasons x row w =
    let u = first_pass x row w in
    if w.cache.settings.evictions
    then because (pressing x w.cache) w u ++ because reason.Share u (make_room x row w)
    else []

abbrev pub rate_of : Work → Float
rate_of w = hit_rate w.cache.hits w.cache.accesses

unfoldable pub epoch_reasons : Work → List Reason
epoch_reasons w = let u = resized (rate_of w) w in because reason.Aged w u ++ room_reasons 0 false (aged u)

-- An access counts and is the epoch's last.
abbrev pub ends_epoch : Cache → Bool
ends_epoch c = counts c.settings && leb c.settings.epoch (c.accesses + 1)

abbrev pub count_reasons : Bool → Work → List Reason
count_reasons hit w = if ends_epoch w.cache then epoch_reasons (counted hit w) else []

abbrev pub release_reasons : ℕ → Cache → List Reason
release_reasons a c = if passes (λ e. is_held e.hold) (get c.rows a) then [] else room_reasons 0 false (start c)

unfoldable pub reasons_of : Cache → Request → List Reason
reasons_of c (Insert a s) = room_reasons s true (start (flashed s c))
reasons_of c (Protect x a s) =
    let w = start (flashed s c) in
    if is_here c.rows a
    then count_reasons true (start (touch a (protected_for x) c))
    else room_reasons s true w ++ reason.Load ∷ count_reasons false (loaded x a s (make_room s true w))
reasons_of c (Release a) = release_reasons a (touch a released c)
reasons_of c (ReleaseChanged a s) = release_reasons a (touch a (λ e. released (changed_to s e)) (named a s c))
reasons_of c (Pin a) = []
reasons_of c (Unpin a) = []
reasons_of c (Resize a s) = []
reasons_of c (Discard a) = []
reasons_of c Flush = map (λ a. reason.Flush) (dirty_rising c.rows)
reasons_of c Sync = because reason.Sync (start c) (write_dirty 0 c.recency (start c))
reasons_of c Take = []
reasons_of c (Configure s) = room_reasons 0 false (start (configured s c))

-- ---- changes of the maximum

abbrev pub changed : Cause → Option Bound → List Change
changed x b = record { cause = x; bound = b } ∷ []

-- The flash's own value, and the increase's.
abbrev pub flash_raw : Flash → ℕ → Cache → ℕ
flash_raw flash.Off x c = c.maximum
flash_raw (flash.On multiple threshold) x c = c.maximum + (size_product x multiple - free_space c.maximum (held c))

abbrev pub increase_raw : Increase → ℕ → ℕ
increase_raw increase.Off maximum = maximum
increase_raw (increase.Threshold lower multiplier) maximum = size_product maximum multiplier

abbrev pub flash_change : ℕ → Cache → List Change
flash_change x c =
    if ltb c.maximum (flashed_to x c)
    then changed cause.Flash (rise_bound None (flash_raw c.settings.flash x c) c.maximum c.settings.largest)
    else []

abbrev pub fall_change : Cause → ℕ → Cache → List Change
fall_change x target c =
    if ltb (lowered_in target c) c.maximum
    then changed x (fall_bound c.settings.decrement target c.maximum c.settings.smallest)
    else []

abbrev pub age_out_change : ℕ → Float → Work → List Change
age_out_change epochs reserve w =
    let v = evict_aged epochs w.cache.recency w in
    if eq reserve (decimal 1 1) then [] else fall_change cause.AgeOut (reserve_quotient (held v.cache) reserve) v.cache

abbrev pub decrease_change : Decrease → Float → Work → List Change
decrease_change decrease.Off rate w = []
decrease_change (decrease.Threshold upper multiplier) rate w =
    if is_above rate upper then fall_change cause.Threshold (size_product w.cache.maximum multiplier) w.cache else []
decrease_change (decrease.AgeOut epochs reserve) rate w = age_out_change epochs reserve w
decrease_change (decrease.AgeOutWithThreshold upper epochs reserve) rate w =
    if is_above rate upper then age_out_change epochs reserve w else []

unfoldable pub resize_change : Float → Work → List Change
resize_change rate w =
    let c = w.cache in
    if ltb c.maximum (increased_in rate c)
    then changed cause.Increase (rise_bound c.settings.increment (increase_raw c.settings.increase c.maximum) c.maximum c.settings.largest)
    else decrease_change c.settings.decrease rate w

abbrev pub count_change : Bool → Work → List Change
count_change hit w = let v = counted hit w in if ends_epoch w.cache then resize_change (rate_of v) v else []

abbrev pub settings_change : Settings → Cache → List Change
settings_change s c =
    if eqb (configured s c).maximum c.maximum then [] else changed cause.Settings (settings_bound s c.maximum)

unfoldable pub changes_of : Cache → Request → List Change
changes_of c (Insert a s) = flash_change s c
changes_of c (Protect x a s) =
    if is_here c.rows a
    then count_change true (start (touch a (protected_for x) c))
    else flash_change s c ++ count_change false (loaded x a s (make_room s true (start (flashed s c))))
changes_of c (Release a) = []
changes_of c (ReleaseChanged a s) = flash_change (growth a s c) c
changes_of c (Pin a) = []
changes_of c (Unpin a) = []
changes_of c (Resize a s) = flash_change (growth a s c) c
changes_of c (Discard a) = []
changes_of c Flush = []
changes_of c Sync = []
changes_of c Take = []
changes_of c (Configure s) = settings_change s c

-- ---- the answer

pub record Explained : Type 0 where
  pub outcome : Outcome
  pub reasons : List Reason
  pub changes : List Change

-- 2 also if the request can give orders and fewer than 2 x rows + 1 reason words are lent.
abbrev pub too_few_reasons : Cache → Request → ℕ → Bool
too_few_reasons c r lent = can_order r && ltb lent (2 * length c.rows + 1)

abbrev pub refusal_of_explain : Cache → Call → ℕ → Option Refusal
refusal_of_explain c call lent = if too_few_reasons c call.request lent then Some refusal.OrderWords else refusal_of c call

-- A refused request has no reasons and no changes.
abbrev pub granted : {A : Type 0} → Option Refusal → List A → List A
granted None l = l
granted (Some r) l = []

-- A request done as ever, and explained.
abbrev pub explain : Cache → Call → ℕ → Explained
explain c call lent =
    let r = refusal_of_explain c call lent in
    record {
      outcome = judged r c (effect c call.message call.request);
      reasons = granted r (reasons_of c call.request);
      changes = granted r (changes_of c call.request);
    }
