-- Worked cases with their reasons: each a setup, requests, and the numbers of the answers, reasons and changes that they must give.
use Rattle.std.specs.Prelude.{ℕ, Bool, true, false, List, [], ◌∷◌, ◌++◌, map, None, Some}
use Rattle.fraction.specs.Fraction.{decimal}
use Rattle.settings.specs.Types.{Cap}
use Rattle.settings.specs.declared.Decrease.TheVariants as decrease
use Rattle.settings.specs.declared.Flash.TheVariants as flash
use Rattle.settings.specs.declared.Increase.TheVariants as increase
use Rattle.settings.specs.declared.Mode.TheVariants.{Alone, Lead, Standby}
use Rattle.settings.specs.declared.Settings.{Settings}
use Rattle.rules.specs.declared.request.Access.TheVariants.{Reading, Writing}
use Rattle.rules.specs.declared.request.Request.TheVariants.{Insert, Protect, Release, ReleaseChanged, Pin, Resize, Flush, Sync, Configure}
use Rattle.rules.specs.Answers.{answer_number}
use Rattle.rules.specs.Cache.{Cache}
use Rattle.rules.specs.Cases.{Setup, opened, later, cache_of, ask, taking, small_of, small_with, small, alone, last_access, rising, ageing, flashing, sharing, falling, ageing_above, briefly, next_epoch}
use Rattle.rules.specs.Limits.{all_ones, default_threshold}
use Rattle.rules.specs.Refusals.{Call}
use Rattle.reason_rules.specs.declared.Change.{Change}
use Rattle.reason_rules.specs.declared.Reason.{Reason}
use Rattle.reason_rules.specs.Bounds.{bound_number}
use Rattle.reason_rules.specs.Reasons.{reason_number, cause_number, explain}

-- ---- what a case gives

-- A change by its numbers.
pub record Why : Type 0 where
  pub cause : ℕ
  pub bound : ℕ

-- Of each request its answer, of each order its reason, of each change its cause and bound; and the maximum after the last request.
pub record Told : Type 0 where
  pub answers : List ℕ
  pub reasons : List ℕ
  pub changes : List Why
  pub maximum : ℕ

pub record ReasonCase : Type 0 where
  pub setup : Setup
  pub calls : List Call
  -- the reason words lent
  pub lent : ℕ
  pub tells : Told

abbrev pub why_of : Change → Why
why_of x = record { cause = cause_number x.cause; bound = bound_number x.bound }

-- Requests one after the other, with the answers, reasons and changes so far.
unfoldable pub tell : ℕ → Cache → List Call → List ℕ → List Reason → List Change → Told
tell lent c [] answers reasons changes =
    record { answers = answers; reasons = map reason_number reasons; changes = map why_of changes; maximum = c.maximum }
tell lent c (call ∷ rest) answers reasons changes =
    let x = explain c call lent in
    tell lent x.outcome.cache rest (answers ++ answer_number x.outcome.answer ∷ []) (reasons ++ x.reasons) (changes ++ x.changes)

abbrev pub told : ReasonCase → Told
told x = tell x.lent (cache_of x.setup) x.calls [] [] []

-- ---- cases

-- With enough reason words for 4 rows every request is accepted.
abbrev pub explained : Setup → List Call → List ℕ → List Why → ℕ → ReasonCase
explained u calls reasons changes maximum = record {
  setup = u;
  calls = calls;
  lent = 9;
  tells = record { answers = map (λ call. 0) calls; reasons = reasons; changes = changes; maximum = maximum };
}

-- The maximum stays 4,096.
abbrev pub orders : Setup → List Call → List ℕ → ReasonCase
orders u calls reasons = explained u calls reasons [] 4096

-- It changes once, with a cause and a bound, to a value.
abbrev pub changes : Setup → List Call → List ℕ → ℕ → ℕ → ℕ → ReasonCase
changes u calls reasons cause bound maximum = explained u calls reasons (record { cause = cause; bound = bound } ∷ []) maximum

-- Requests with so many reason words and these answers, which give no orders and change no maximum.
abbrev pub answers : Setup → List Call → ℕ → List ℕ → ReasonCase
answers u calls lent numbers =
    record { setup = u; calls = calls; lent = lent; tells = record { answers = numbers; reasons = []; changes = []; maximum = 4096 } }

-- ---- the setups

-- Settings with an initial size or none, and a range.
abbrev pub sized : Bool → ℕ → ℕ → ℕ → Settings → Settings
sized preset initial smallest largest s = record {
  evictions = s.evictions;
  preset = preset;
  initial = initial;
  clean = s.clean;
  largest = largest;
  smallest = smallest;
  epoch = s.epoch;
  increase = s.increase;
  increment = s.increment;
  flash = s.flash;
  decrease = s.decrease;
  decrement = s.decrement;
}

-- 4,096 times 2.0 in a full cache, with maximum size and a cap.
abbrev pub doubling : ℕ → Cap → Setup
doubling largest most = last_access 0 (alone (sized true 4096 1024 largest (rising (decimal 2 1) most)))

-- 4,096 times 0.5, with minimum size and a cap.
abbrev pub halving : ℕ → Cap → Setup
halving smallest least =
    last_access 99 (alone (sized true 4096 smallest 16384 (small_of (decimal 0 1) increase.Off None flash.Off falling.decrease least)))

-- An increase at lower rate 0.9 within a cap, and age-out with reserve 0.25.
abbrev pub rising_or_ageing : Cap → Setup
rising_or_ageing most =
    last_access 0 (alone (small_of (decimal 0 1) (increase.Threshold (decimal 9 10) (decimal 2 1)) most flash.Off (decrease.AgeOut 10 (decimal 25 100)) None))

-- Flash 1.0/0.25; by threshold with upper rate 0.9 and multiplier 0.5.
abbrev pub flashing_and_falling : Setup
flashing_and_falling = last_access 99 (alone (small_with increase.Off (flash.On (decimal 1 1) (decimal 25 100)) falling.decrease))

-- Clean fraction 0.5; by threshold with upper rate 0.9 and multiplier 0.5.
abbrev pub sharing_and_falling : Setup
sharing_and_falling = last_access 99 (alone (small_of (decimal 5 10) increase.Off None flash.Off falling.decrease None))

-- Two clean entries idle for an epoch, 100 of a size, and after further requests one held for writing at another size; one access before the
-- epoch's end.
abbrev pub idle_clean : ℕ → List Call → ℕ → Setup
idle_clean size calls held =
    last_access 0
    (later (ask (Protect Writing 200 60) ∷ calls ++ ask (Resize 200 held) ∷ [])
    (last_access 0 (later (ask (Insert 100 size) ∷ ask (Insert 300 10) ∷ ask Flush ∷ []) (alone briefly))))

-- P1's three inserts, the last of a size.
abbrev pub three_inserts : ℕ → List Call
three_inserts size = ask (Insert 100 3000) ∷ ask (Insert 200 1000) ∷ ask (Insert 300 size) ∷ []

-- An entry of a size is inserted and hit, which ends an epoch.
abbrev pub insert_and_hit : ℕ → List Call
insert_and_hit size = ask (Insert 100 size) ∷ ask (Protect Reading 100 size) ∷ []

-- Configuring the small setup with an initial size, and without one.
abbrev pub preset_to : ℕ → Call
preset_to n = ask (Configure (sized true n 1024 16384 small))

abbrev pub unset : ℕ → ℕ → Call
unset smallest largest = ask (Configure (sized false 0 smallest largest small))

-- ---- reasons

abbrev pub reason_cases : List ReasonCase
reason_cases =
    -- P1: room by bytes
    orders (alone small) (three_inserts 500) (1 ∷ 1 ∷ 1 ∷ [])
    -- P2: no orders at 96, P1's at 97
    ∷ orders (alone small) (three_inserts 96) []
    ∷ orders (alone small) (three_inserts 97) (1 ∷ 1 ∷ 1 ∷ [])
    -- rows press too: still bytes
    ∷ orders (opened 2 Alone default_threshold small) (three_inserts 500) (1 ∷ 1 ∷ 1 ∷ [])
    -- rows alone: the writes of step 1 have its reason
    ∷ orders (alone small)
    (ask (Insert 100 10) ∷ ask (Insert 200 10) ∷ ask (Insert 300 10) ∷ ask (Insert 400 10) ∷ ask (Insert 500 10) ∷ []) (2 ∷ 2 ∷ 2 ∷ 2 ∷ 2 ∷ [])
    -- clean share
    ∷ orders (alone sharing) (ask (Insert 100 1500) ∷ ask (Insert 200 1000) ∷ []) (3 ∷ [])
    -- bytes, then clean share
    ∷ orders (alone sharing) (ask (Insert 100 1500) ∷ ask (Insert 200 1000) ∷ ask (Insert 300 3000) ∷ []) (3 ∷ 1 ∷ 3 ∷ [])
    -- P11: a flush, then rows
    ∷ orders (opened 2 Lead 1000 small) (ask (Insert 100 100) ∷ ask (Insert 200 100) ∷ ask Flush ∷ ask (Insert 300 100) ∷ []) (5 ∷ 5 ∷ 2 ∷ [])
    -- sync names itself, not the clean share
    ∷ orders (opened 4 Lead default_threshold sharing) (ask (Insert 100 1500) ∷ ask (Insert 200 1000) ∷ ask Sync ∷ []) (6 ∷ [])
    -- a miss: rows, then its load
    ∷ orders (opened 1 Alone default_threshold small) (ask (Insert 100 50) ∷ ask (Protect Reading 200 60) ∷ []) (2 ∷ 2 ∷ 7 ∷ [])
    -- a changed release: the room for nothing is by bytes
    ∷ orders (alone small) (ask (Insert 200 1000) ∷ ask (Protect Writing 100 3000) ∷ ask (ReleaseChanged 100 5000) ∷ []) (7 ∷ 1 ∷ 1 ∷ 1 ∷ 1 ∷ [])
    -- aged out, written first; a lead keeps it
    ∷ orders (next_epoch Alone) (ask (Protect Reading 200 60) ∷ []) (4 ∷ 4 ∷ [])
    ∷ orders (next_epoch Lead) (ask (Protect Reading 200 60) ∷ []) []
    -- a miss that ends an epoch: its load, then aged out
    ∷ orders (next_epoch Alone) (ask (Protect Reading 300 60) ∷ []) (7 ∷ 4 ∷ 4 ∷ [])
    -- 5,010 bytes are held, and the clean tail ages out: aged, not bytes
    ∷ orders (idle_clean 3000 [] 2000) (ask (Protect Reading 300 10) ∷ []) (4 ∷ [])
    -- what is still above the maximum then goes by bytes
    ∷ orders (idle_clean 1000 (ask (Insert 400 10) ∷ []) 5000) (ask (Protect Reading 300 10) ∷ []) (4 ∷ 1 ∷ 1 ∷ [])
    ∷ []

-- ---- refusals

abbrev pub refused_cases : List ReasonCase
refused_cases =
    -- a refused request has no reasons, and no change
    answers (opened 1 Alone default_threshold small) (ask (Insert all_ones 50) ∷ []) 9 (3 ∷ [])
    ∷ answers (alone (flashing (decimal 1 1))) (ask (Insert all_ones 5000) ∷ []) 9 (3 ∷ [])
    -- P11's first insert
    ∷ answers (later (ask (Insert 100 100) ∷ ask (Insert 200 100) ∷ []) (opened 2 Lead 1000 small)) (ask (Insert 300 100) ∷ []) 9 (11 ∷ [])
    -- 2 x 4 + 1 reason words are enough, 8 are not; 2 comes before 3
    ∷ answers (alone small) (ask (Insert 100 3000) ∷ ask (Insert 200 1000) ∷ []) 9 (0 ∷ 0 ∷ [])
    ∷ answers (alone small) (ask (Insert 100 3000) ∷ ask (Insert all_ones 1000) ∷ ask Flush ∷ []) 8 (2 ∷ 2 ∷ 2 ∷ [])
    -- P1's third insert, which would give orders
    ∷ answers (later (ask (Insert 100 3000) ∷ ask (Insert 200 1000) ∷ []) (alone small)) (ask (Insert 300 500) ∷ []) 8 (2 ∷ [])
    -- order words are too few
    ∷ answers (alone small) (record { request = Insert 100 3000; message = []; lent = 26 } ∷ []) 9 (2 ∷ [])
    -- pin and take can give no orders, and need no reason words
    ∷ answers (later (ask (Protect Reading 100 10) ∷ []) (alone small)) (ask (Pin 100) ∷ ask (Release 100) ∷ []) 0 (0 ∷ 2 ∷ [])
    ∷ answers (later (ask (Insert 100 10) ∷ []) (opened 4 Standby 500 small)) (taking 1 (100 ∷ []) ∷ []) 0 (0 ∷ [])
    ∷ []

-- ---- changes

abbrev pub change_cases : List ReasonCase
change_cases =
    -- no cap
    changes (doubling 16384 None) (insert_and_hit 4096) [] 1 0 8192
    -- a bound that is met exactly does not cut
    ∷ changes (doubling 16384 (Some 4096)) (insert_and_hit 4096) [] 1 0 8192
    ∷ changes (doubling 8192 None) (insert_and_hit 4096) [] 1 0 8192
    ∷ changes (doubling 16384 (Some 4095)) (insert_and_hit 4096) [] 1 9 8191
    ∷ changes (doubling 8191 None) (insert_and_hit 4096) [] 1 5 8191
    -- a tie: the lower field
    ∷ changes (doubling 8191 (Some 4095)) (insert_and_hit 4096) [] 1 5 8191
    -- both cut, and one holds
    ∷ changes (doubling 8000 (Some 4095)) (insert_and_hit 4096) [] 1 5 8000
    ∷ changes (doubling 8000 (Some 100)) (insert_and_hit 4096) [] 1 9 4196
    -- cut to nothing: no change, and then the decrease may be the change
    ∷ orders (doubling 16384 (Some 0)) (insert_and_hit 4096) []
    ∷ changes (rising_or_ageing (Some 0)) (three_inserts 500 ++ ask (Protect Reading 300 500) ∷ []) (1 ∷ 1 ∷ 1 ∷ []) 4 0 2000
    ∷ changes (rising_or_ageing None) (three_inserts 500 ++ ask (Protect Reading 300 500) ∷ []) (1 ∷ 1 ∷ 1 ∷ []) 1 0 8192
    -- falls by threshold: none, the cap, a tie, minimum size met exactly, a cap above the maximum
    ∷ changes (halving 1024 None) (insert_and_hit 1000) [] 3 0 2048
    ∷ changes (halving 1024 (Some 1000)) (insert_and_hit 1000) [] 3 12 3096
    ∷ changes (halving 3096 (Some 1000)) (insert_and_hit 1000) [] 3 6 3096
    ∷ changes (halving 3000 (Some 1000)) (insert_and_hit 1000) [] 3 12 3096
    ∷ changes (halving 2048 None) (insert_and_hit 1000) [] 3 0 2048
    ∷ changes (halving 1024 (Some 5000)) (insert_and_hit 1000) [] 3 0 2048
    -- a fall, and room by bytes after it; then clean share
    ∷ changes (halving 1024 None) (ask (Insert 200 3000) ∷ insert_and_hit 50) (1 ∷ 1 ∷ []) 3 0 2048
    ∷ changes sharing_and_falling
    (ask (Insert 100 500) ∷ ask (Insert 200 600) ∷ ask (Insert 300 900) ∷ ask (Insert 400 100) ∷ ask (Protect Reading 400 100) ∷ [])
    (3 ∷ 1 ∷ 3 ∷ []) 3 0 2048
    -- age-out, with threshold too; P7's 3,072 gives no change
    ∷ changes (last_access 99 (alone (ageing None))) (insert_and_hit 3000) [] 4 0 4000
    ∷ changes (last_access 90 (alone ageing_above)) (insert_and_hit 3000) [] 4 0 4000
    ∷ orders (last_access 99 (alone (ageing None))) (insert_and_hit 3072) []
    -- its bounds: minimum size, the cap, a tie
    ∷ changes (last_access 99 (alone (ageing None))) (insert_and_hit 300) [] 4 6 1024
    ∷ changes (last_access 99 (alone (ageing (Some 50)))) (insert_and_hit 3000) [] 4 12 4046
    ∷ changes (last_access 99 (alone (ageing (Some 3072)))) (insert_and_hit 300) [] 4 6 1024
    -- P8
    ∷ changes (alone (flashing (decimal 1 1))) (ask (Insert 100 4000) ∷ ask (Insert 200 1025) ∷ []) [] 2 0 5025
    -- a flash to maximum size exactly, and one that it cuts
    ∷ changes (alone (flashing (decimal 1 1))) (ask (Insert 100 4000) ∷ ask (Insert 200 12384) ∷ []) [] 2 0 16384
    ∷ changes (alone (flashing (decimal 1 1))) (ask (Insert 100 4000) ∷ ask (Insert 200 13000) ∷ []) (1 ∷ 1 ∷ []) 2 5 16384
    -- a flash of a resize
    ∷ changes (alone (flashing (decimal 1 1))) (ask (Protect Writing 100 1000) ∷ ask (Resize 100 5000) ∷ []) (7 ∷ []) 2 0 5000
    -- a flash restarts the counters, so the miss that it comes with ends no epoch
    ∷ changes flashing_and_falling (ask (Insert 100 4000) ∷ ask (Protect Reading 200 2000) ∷ []) (7 ∷ []) 2 0 6000
    -- settings: set, set to the same, brought up and down, in range; room by bytes after it
    ∷ changes (alone small) (preset_to 8192 ∷ []) [] 5 0 8192
    ∷ orders (alone small) (preset_to 4096 ∷ []) []
    ∷ changes (alone small) (unset 8192 8192 ∷ []) [] 5 6 8192
    ∷ changes (later (preset_to 16384 ∷ []) (alone small)) (unset 8192 8192 ∷ []) [] 5 5 8192
    ∷ orders (alone small) (unset 1024 16384 ∷ []) []
    ∷ changes (alone small) (ask (Insert 100 3000) ∷ preset_to 2048 ∷ []) (1 ∷ 1 ∷ []) 5 0 2048
    ∷ []
