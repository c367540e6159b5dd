-- Worked cases: each a setup, requests, and what they must give. P1 to P11 are document 01's.
use Rattle.std.specs.Prelude.{ℕ, Bool, true, false, ◌&&◌, List, [], ◌∷◌, ◌++◌, leb, ltb, Float, Option, Some, None}
use Rattle.fraction.specs.Fraction.{decimal}
use Rattle.settings.specs.Types.{Cap}
use Rattle.settings.specs.declared.Decrease.{Decrease}
use Rattle.settings.specs.declared.Decrease.TheVariants as decrease
use Rattle.settings.specs.declared.Flash.{Flash}
use Rattle.settings.specs.declared.Flash.TheVariants as flash
use Rattle.settings.specs.declared.Increase.{Increase}
use Rattle.settings.specs.declared.Increase.TheVariants as increase
use Rattle.settings.specs.declared.Settings.{Settings}
use Rattle.settings.specs.Defaults.{defaults, with_clean}
use Rattle.rules.specs.declared.answer.Refusal.{Refusal}
use Rattle.rules.specs.declared.order.Kind.{Kind}
use Rattle.rules.specs.declared.order.Order.{Order}
use Rattle.rules.specs.declared.request.Access.TheVariants.{Reading, Writing}
use Rattle.settings.specs.declared.Mode.{Mode}
use Rattle.settings.specs.declared.Mode.TheVariants.{Alone, Lead, Standby}
use Rattle.rules.specs.declared.request.Request.{Request}
use Rattle.rules.specs.declared.request.Request.TheVariants.{Insert, Protect, Release, ReleaseChanged, Pin, Unpin, Resize, Discard, Flush, Sync, Take, Configure}
use Rattle.rules.specs.Answers.{answer_number}
use Rattle.rules.specs.Allowed.{Allowed}
use Rattle.rules.specs.Cache.{Cache, fresh, with_counters}
use Rattle.rules.specs.Limits.{all_ones, default_threshold}
use Rattle.rules.specs.Messages.{message_of}
use Rattle.rules.specs.Opening.{refusal_of_opening}
use Rattle.rules.specs.Refusals.{Call}
use Rattle.rules.specs.Reports.{report_of}
use Rattle.rules.specs.Requests.{step}

-- ---- setups

-- How a case's cache comes about.
pub data Setup : Type 0 where
  -- with so many rows, a mode, a threshold and settings
  opened : ℕ → Mode → ℕ → Settings → Setup
  -- after requests
  later : List Call → Setup → Setup
  -- so many accesses and hits into an epoch
  counting : ℕ → ℕ → Setup → Setup

-- The cache after requests.
unfoldable pub after : Cache → List Call → Cache
after c [] = c
after c (call ∷ rest) = after (step c call).cache rest

unfoldable pub cache_of : Setup → Cache
cache_of (opened rows mode threshold s) = fresh rows mode threshold s
cache_of (later calls u) = after (cache_of u) calls
cache_of (counting accesses hits u) = with_counters accesses hits (cache_of u)

abbrev pub is_none : Option Refusal → Bool
is_none None = true
is_none (Some r) = false

-- Opening accepts it, and where counters are set they are as refusal 1 has them: accesses below the epoch length, hits at
-- most accesses.
unfoldable pub is_valid : Setup → Bool
is_valid (opened rows mode threshold s) = is_none (refusal_of_opening rows true (Some mode) threshold s)
is_valid (later calls u) = is_valid u
is_valid (counting accesses hits u) = is_valid u && ltb accesses (cache_of u).settings.epoch && leb hits accesses

-- ---- cases

-- What a case gives: of each request its answer and its orders, and how the cache stands after the last.
pub record Gives : Type 0 where
  pub answers : List ℕ
  pub orders : List (List Order)
  -- the recency list, from the head
  pub recency : List ℕ
  pub held : ℕ
  pub dirty : ℕ
  pub maximum : ℕ
  pub count : ℕ
  pub due : Bool
  -- the number of the next list
  pub next : ℕ

pub record Case : Type 0 where
  pub setup : Setup
  pub calls : List Call
  pub gives : Gives

unfoldable pub reversed : List ℕ → List ℕ → List ℕ
reversed [] done = done
reversed (a ∷ rest) done = reversed rest (a ∷ done)

-- Requests one after the other, with the answers and orders so far.
unfoldable pub run : Cache → List Call → List ℕ → List (List Order) → Gives
run c [] answers orders =
    let r = report_of c in
    record {
      answers = answers;
      orders = orders;
      recency = reversed c.recency [];
      held = r.held;
      dirty = r.dirty;
      maximum = r.maximum;
      count = r.count;
      due = r.due;
      next = r.next;
    }
run c (call ∷ rest) answers orders =
    let o = step c call in
    run o.cache rest (answers ++ answer_number o.answer ∷ []) (orders ++ o.orders ∷ [])

abbrev pub ran : Case → Gives
ran x = run (cache_of x.setup) x.calls [] []

-- Each case starts from a state that refusal 1 allows.
unfoldable pub AllowedSetups : List Case → Type 0
AllowedSetups [] = Unit
AllowedSetups (x ∷ rest) = Allowed (cache_of x.setup) × AllowedSetups rest

-- ---- the small setup

-- A request with enough order words for 4 rows.
abbrev pub ask : Request → Call
ask r = record { request = r; message = []; lent = 27 }

-- A take of the message of a numbered list.
abbrev pub taking : ℕ → List ℕ → Call
taking n list = record { request = Take; message = message_of n list; lent = 0 }

abbrev pub order : Kind → ℕ → ℕ → Order
order k a s = record { kind = k; address = a; size = s }

-- The small setup's settings with a clean fraction, an increase rule and its cap, a flash rule, a decrease rule and its cap.
abbrev pub small_of : Float → Increase → Cap → Flash → Decrease → Cap → Settings
small_of fraction i most f d least = record {
  evictions = true;
  preset = true;
  initial = 4096;
  clean = fraction;
  largest = 16384;
  smallest = 1024;
  epoch = 100;
  increase = i;
  increment = most;
  flash = f;
  decrease = d;
  decrement = least;
}

-- Clean fraction 0, no caps.
abbrev pub small_with : Increase → Flash → Decrease → Settings
small_with i f d = small_of (decimal 0 1) i None f d None

-- No resize rules.
abbrev pub small : Settings
small = small_with increase.Off flash.Off decrease.Off

abbrev pub alone : Settings → Setup
alone s = opened 4 Alone default_threshold s

-- One access before the end of an epoch of 100, with this many hits.
abbrev pub last_access : ℕ → Setup → Setup
last_access hits u = counting 99 hits u

-- An entry of a size is inserted and hit, which ends an epoch with these hits before it: the maximum that results.
abbrev pub at_epoch_end : ℕ → Settings → ℕ → ℕ → Case
at_epoch_end hits s size maximum = record {
  setup = last_access hits (alone s);
  calls = ask (Insert 100 size) ∷ ask (Protect Reading 100 size) ∷ [];
  gives = record { answers = 0 ∷ 0 ∷ []; orders = [] ∷ [] ∷ []; recency = []; held = size; dirty = size; maximum = maximum; count = size; due = false; next = 1 };
}

-- A rise of a full cache by a multiplier and within a cap, at lower rate 0.9.
abbrev pub rising : Float → Cap → Settings
rising multiplier most = small_of (decimal 0 1) (increase.Threshold (decimal 9 10) multiplier) most flash.Off decrease.Off None

-- A rise at lower rate 0.8, and a threshold decrease by half above rate 0.9.
abbrev pub halving : Settings
halving = small_with (increase.Threshold (decimal 8 10) (decimal 2 1)) flash.Off (decrease.Threshold (decimal 9 10) (decimal 5 10))

-- Age-out with reserve 0.25, within a cap.
abbrev pub ageing : Cap → Settings
ageing least = small_of (decimal 0 1) increase.Off None flash.Off (decrease.AgeOut 10 (decimal 25 100)) least

-- Flash with a multiple, and threshold 0.25.
abbrev pub flashing : Float → Settings
flashing multiple = small_with increase.Off (flash.On multiple (decimal 25 100)) decrease.Off

abbrev pub three_orders : List Order
three_orders = order Kind.Write 100 3000 ∷ order Kind.Write 200 1000 ∷ order Kind.Evict 100 3000 ∷ []

-- ---- P1 to P11

abbrev pub cases : List Case
cases =
    -- P1
    record {
      setup = alone small;
      calls = ask (Insert 100 3000) ∷ ask (Insert 200 1000) ∷ ask (Insert 300 500) ∷ [];
      gives = record {
        answers = 0 ∷ 0 ∷ 0 ∷ [];
        orders = [] ∷ [] ∷ three_orders ∷ [];
        recency = 300 ∷ 200 ∷ [];
        held = 1500;
        dirty = 500;
        maximum = 4096;
        count = 4500;
        due = false;
        next = 1;
      };
    }
    -- P2: no orders at 96
    ∷ record {
      setup = alone small;
      calls = ask (Insert 100 3000) ∷ ask (Insert 200 1000) ∷ ask (Insert 300 96) ∷ [];
      gives = record {
        answers = 0 ∷ 0 ∷ 0 ∷ [];
        orders = [] ∷ [] ∷ [] ∷ [];
        recency = 300 ∷ 200 ∷ 100 ∷ [];
        held = 4096;
        dirty = 4096;
        maximum = 4096;
        count = 4096;
        due = false;
        next = 1;
      };
    }
    -- P2: P1's three orders at 97
    ∷ record {
      setup = alone small;
      calls = ask (Insert 100 3000) ∷ ask (Insert 200 1000) ∷ ask (Insert 300 97) ∷ [];
      gives = record {
        answers = 0 ∷ 0 ∷ 0 ∷ [];
        orders = [] ∷ [] ∷ three_orders ∷ [];
        recency = 300 ∷ 200 ∷ [];
        held = 1097;
        dirty = 97;
        maximum = 4096;
        count = 4097;
        due = false;
        next = 1;
      };
    }
    -- P3
    ∷ record {
      setup = opened 1 Alone default_threshold small;
      calls =
          ask (Insert 100 50) ∷ ask (Protect Reading 100 50) ∷ ask (Pin 100) ∷ ask (Release 100) ∷ ask (Insert 200 60)
          ∷ ask (Unpin 100) ∷ ask (Insert 200 60) ∷ [];
      gives = record {
        answers = 0 ∷ 0 ∷ 0 ∷ 0 ∷ 11 ∷ 0 ∷ 0 ∷ [];
        orders = [] ∷ [] ∷ [] ∷ [] ∷ [] ∷ [] ∷ (order Kind.Write 100 50 ∷ order Kind.Evict 100 50 ∷ []) ∷ [];
        recency = 200 ∷ [];
        held = 60;
        dirty = 60;
        maximum = 4096;
        count = 110;
        due = false;
        next = 1;
      };
    }
    -- P4
    ∷ record {
      setup = alone small;
      calls = ask (Protect Reading 100 10) ∷ ask (Protect Reading 100 10) ∷ ask (Release 100) ∷ ask (Discard 100) ∷ [];
      gives = record {
        answers = 0 ∷ 0 ∷ 0 ∷ 8 ∷ [];
        orders = (order Kind.Load 100 10 ∷ []) ∷ [] ∷ [] ∷ [] ∷ [];
        recency = [];
        held = 10;
        dirty = 0;
        maximum = 4096;
        count = 0;
        due = false;
        next = 1;
      };
    }
    -- P5: 4,096 times 1.5
    ∷ at_epoch_end 0 (rising (decimal 15 10) None) 4096 6144
    -- P5: 4,096 times 1.1
    ∷ at_epoch_end 0 (rising (decimal 11 10) None) 4096 4505
    -- P6: 90 hits of 100
    ∷ at_epoch_end 89 (rising (decimal 2 1) None) 4096 4096
    -- P6: 89 and full
    ∷ at_epoch_end 88 (rising (decimal 2 1) None) 4096 8192
    -- P6: 89 and not full
    ∷ at_epoch_end 88 (rising (decimal 2 1) None) 4095 4096
    -- P6: 89 and full, since making room found held plus incoming above the maximum
    ∷ record {
      setup = last_access 88 (alone (rising (decimal 2 1) None));
      calls = ask (Insert 100 3000) ∷ ask (Insert 200 1000) ∷ ask (Insert 300 500) ∷ ask (Protect Reading 300 500) ∷ [];
      gives = record {
        answers = 0 ∷ 0 ∷ 0 ∷ 0 ∷ [];
        orders = [] ∷ [] ∷ three_orders ∷ [] ∷ [];
        recency = 200 ∷ [];
        held = 1500;
        dirty = 500;
        maximum = 8192;
        count = 4500;
        due = false;
        next = 1;
      };
    }
    -- P7: held 3,000
    ∷ at_epoch_end 99 (ageing None) 3000 4000
    -- P7: held 3,072
    ∷ at_epoch_end 99 (ageing None) 3072 4096
    -- P8: x of 1,024
    ∷ record {
      setup = alone (flashing (decimal 1 1));
      calls = ask (Insert 100 4000) ∷ ask (Insert 200 1024) ∷ [];
      gives = record {
        answers = 0 ∷ 0 ∷ [];
        orders = [] ∷ (order Kind.Write 100 4000 ∷ order Kind.Evict 100 4000 ∷ []) ∷ [];
        recency = 200 ∷ [];
        held = 1024;
        dirty = 1024;
        maximum = 4096;
        count = 5024;
        due = false;
        next = 1;
      };
    }
    -- P8: x of 1,025
    ∷ record {
      setup = alone (flashing (decimal 1 1));
      calls = ask (Insert 100 4000) ∷ ask (Insert 200 1025) ∷ [];
      gives = record {
        answers = 0 ∷ 0 ∷ [];
        orders = [] ∷ [] ∷ [];
        recency = 200 ∷ 100 ∷ [];
        held = 5025;
        dirty = 5025;
        maximum = 5025;
        count = 5025;
        due = false;
        next = 1;
      };
    }
    -- P9: count 1,000
    ∷ record {
      setup = opened 4 Lead 1000 small;
      calls = ask (Insert 100 600) ∷ ask (Insert 200 400) ∷ [];
      gives = record {
        answers = 0 ∷ 0 ∷ [];
        orders = [] ∷ [] ∷ [];
        recency = 200 ∷ 100 ∷ [];
        held = 1000;
        dirty = 1000;
        maximum = 4096;
        count = 1000;
        due = false;
        next = 1;
      };
    }
    -- P9: count 1,200
    ∷ record {
      setup = opened 4 Lead 1000 small;
      calls = ask (Insert 100 600) ∷ ask (Insert 200 400) ∷ ask (Insert 300 200) ∷ [];
      gives = record {
        answers = 0 ∷ 0 ∷ 0 ∷ [];
        orders = [] ∷ [] ∷ [] ∷ [];
        recency = 300 ∷ 200 ∷ 100 ∷ [];
        held = 1200;
        dirty = 1200;
        maximum = 4096;
        count = 1200;
        due = true;
        next = 1;
      };
    }
    -- P10
    ∷ record {
      setup = opened 4 Standby 1000 small;
      calls = ask (Insert 100 600) ∷ taking 1 (100 ∷ 100 ∷ []) ∷ ask (Insert all_ones 0) ∷ [];
      gives = record {
        answers = 0 ∷ 13 ∷ 3 ∷ [];
        orders = [] ∷ [] ∷ [] ∷ [];
        recency = 100 ∷ [];
        held = 600;
        dirty = 600;
        maximum = 4096;
        count = 600;
        due = false;
        next = 1;
      };
    }
    -- P11
    ∷ record {
      setup = opened 2 Lead 1000 small;
      calls = ask (Insert 100 100) ∷ ask (Insert 200 100) ∷ ask (Insert 300 100) ∷ ask Flush ∷ ask (Insert 300 100) ∷ [];
      gives = record {
        answers = 0 ∷ 0 ∷ 11 ∷ 0 ∷ 0 ∷ [];
        orders = [] ∷ [] ∷ [] ∷ (order Kind.Write 100 100 ∷ order Kind.Write 200 100 ∷ []) ∷ (order Kind.Evict 100 100 ∷ []) ∷ [];
        recency = 300 ∷ 200 ∷ [];
        held = 200;
        dirty = 100;
        maximum = 4096;
        count = 100;
        due = false;
        next = 2;
      };
    }
    ∷ []

-- ---- further cases

-- Clean fraction 0.5: minimum clean bytes are 2,048.
abbrev pub sharing : Settings
sharing = small_of (decimal 5 10) increase.Off None flash.Off decrease.Off None

-- By threshold: upper rate 0.9, multiplier 0.5.
abbrev pub falling : Settings
falling = small_with increase.Off flash.Off (decrease.Threshold (decimal 9 10) (decimal 5 10))

-- Age-out with threshold: upper rate 0.9, reserve 0.25.
abbrev pub ageing_above : Settings
ageing_above = small_with increase.Off flash.Off (decrease.AgeOutWithThreshold (decimal 9 10) 10 (decimal 25 100))

-- Age-out after one epoch, with no reduction.
abbrev pub briefly : Settings
briefly = small_with increase.Off flash.Off (decrease.AgeOut 1 (decimal 1 1))

-- An entry inserted in the last access's epoch, which a miss ends.
abbrev pub epoch_of : List Call
epoch_of = ask (Insert 100 50) ∷ ask (Protect Reading 200 60) ∷ []

-- One access before the end of the next epoch.
abbrev pub next_epoch : Mode → Setup
next_epoch m = last_access 0 (later (epoch_of ++ ask (Release 200) ∷ []) (last_access 0 (opened 4 m default_threshold briefly)))

abbrev pub further : List Case
further =
    -- P6's rise, with a cap of 1,000
    at_epoch_end 88 (rising (decimal 2 1) (Some 1000)) 4096 5096
    -- P7's fall from 3,000 held, with a cap of 50
    ∷ at_epoch_end 99 (ageing (Some 50)) 3000 4046
    -- P8's x of 1,025 with multiple 2.0, held 4,000: free space comes off x times multiple
    ∷ record {
      setup = later (ask (Insert 100 4000) ∷ ask (Configure (flashing (decimal 2 1))) ∷ []) (alone small);
      calls = ask (Insert 200 1025) ∷ [];
      gives = record {
        answers = 0 ∷ [];
        orders = [] ∷ [];
        recency = 200 ∷ 100 ∷ [];
        held = 5025;
        dirty = 5025;
        maximum = 6050;
        count = 5025;
        due = false;
        next = 1;
      };
    }
    -- a pinned clean entry is not in the clean share: the dirty one is written
    ∷ record {
      setup = alone sharing;
      calls =
          ask (Protect Reading 100 1000) ∷ ask (Pin 100) ∷ ask (Release 100) ∷ ask (Insert 200 500) ∷ ask (Insert 300 800) ∷ [];
      gives = record {
        answers = 0 ∷ 0 ∷ 0 ∷ 0 ∷ 0 ∷ [];
        orders = (order Kind.Load 100 1000 ∷ []) ∷ [] ∷ [] ∷ [] ∷ (order Kind.Write 200 500 ∷ []) ∷ [];
        recency = 300 ∷ 200 ∷ [];
        held = 2300;
        dirty = 800;
        maximum = 4096;
        count = 1300;
        due = false;
        next = 1;
      };
    }
    -- the clean share is met exactly
    ∷ record {
      setup = alone sharing;
      calls = ask (Insert 100 1000) ∷ ask (Insert 200 1048) ∷ [];
      gives = record {
        answers = 0 ∷ 0 ∷ [];
        orders = [] ∷ [] ∷ [];
        recency = 200 ∷ 100 ∷ [];
        held = 2048;
        dirty = 2048;
        maximum = 4096;
        count = 2048;
        due = false;
        next = 1;
      };
    }
    -- a byte short of it
    ∷ record {
      setup = alone sharing;
      calls = ask (Insert 100 1000) ∷ ask (Insert 200 1049) ∷ [];
      gives = record {
        answers = 0 ∷ 0 ∷ [];
        orders = [] ∷ (order Kind.Write 100 1000 ∷ []) ∷ [];
        recency = 200 ∷ 100 ∷ [];
        held = 2049;
        dirty = 1049;
        maximum = 4096;
        count = 2049;
        due = false;
        next = 1;
      };
    }
    -- an entry that is dirty already is not counted again
    ∷ record {
      setup = opened 4 Lead 1000 small;
      calls = ask (Insert 100 600) ∷ ask (Protect Writing 100 600) ∷ ask (ReleaseChanged 100 600) ∷ [];
      gives = record {
        answers = 0 ∷ 0 ∷ 0 ∷ [];
        orders = [] ∷ [] ∷ [] ∷ [];
        recency = 100 ∷ [];
        held = 600;
        dirty = 600;
        maximum = 4096;
        count = 600;
        due = false;
        next = 1;
      };
    }
    -- a standby evicts nothing dirty: it is above its maximum
    ∷ record {
      setup = opened 4 Standby default_threshold small;
      calls = ask (Insert 100 3000) ∷ ask (Insert 200 1000) ∷ ask (Insert 300 500) ∷ [];
      gives = record {
        answers = 0 ∷ 0 ∷ 0 ∷ [];
        orders = [] ∷ [] ∷ [] ∷ [];
        recency = 300 ∷ 200 ∷ 100 ∷ [];
        held = 4500;
        dirty = 4500;
        maximum = 4096;
        count = 4500;
        due = false;
        next = 1;
      };
    }
    -- a take sets the byte count to 0
    ∷ record {
      setup = opened 4 Standby 500 small;
      calls = ask (Insert 100 600) ∷ taking 1 (100 ∷ []) ∷ [];
      gives = record {
        answers = 0 ∷ 0 ∷ [];
        orders = [] ∷ [] ∷ [];
        recency = 100 ∷ [];
        held = 600;
        dirty = 0;
        maximum = 4096;
        count = 0;
        due = false;
        next = 2;
      };
    }
    -- rate 0.9 is not above upper 0.9
    ∷ at_epoch_end 89 falling 1000 4096
    -- rate 0.91 is
    ∷ at_epoch_end 90 falling 1000 2048
    -- the same for age-out with threshold
    ∷ at_epoch_end 89 ageing_above 3000 4096
    ∷ at_epoch_end 90 ageing_above 3000 4000
    -- 12: an entry used in an epoch stays at its end
    ∷ record {
      setup = last_access 0 (alone briefly);
      calls = epoch_of;
      gives = record {
        answers = 0 ∷ 0 ∷ [];
        orders = [] ∷ (order Kind.Load 200 60 ∷ []) ∷ [];
        recency = 100 ∷ [];
        held = 110;
        dirty = 50;
        maximum = 4096;
        count = 50;
        due = false;
        next = 1;
      };
    }
    -- 12: and goes at the end of the next
    ∷ record {
      setup = next_epoch Alone;
      calls = ask (Protect Reading 200 60) ∷ [];
      gives = record {
        answers = 0 ∷ [];
        orders = (order Kind.Write 100 50 ∷ order Kind.Evict 100 50 ∷ []) ∷ [];
        recency = [];
        held = 60;
        dirty = 0;
        maximum = 4096;
        count = 50;
        due = false;
        next = 1;
      };
    }
    -- a lead keeps it, dirty
    ∷ record {
      setup = next_epoch Lead;
      calls = ask (Protect Reading 200 60) ∷ [];
      gives = record {
        answers = 0 ∷ [];
        orders = [] ∷ [];
        recency = 100 ∷ [];
        held = 110;
        dirty = 50;
        maximum = 4096;
        count = 50;
        due = false;
        next = 1;
      };
    }
    ∷ []

-- ---- the default clean fraction of a cache that is alone

-- Two inserts by default settings, the first of three quarters of the maximum: the writes, and the dirty bytes then.
abbrev pub two_inserts : Settings → List Order → ℕ → Case
two_inserts s writes dirty = record {
  setup = alone s;
  calls = ask (Insert 100 1572864) ∷ ask (Insert 200 100) ∷ [];
  gives = record {
    answers = 0 ∷ 0 ∷ [];
    orders = [] ∷ writes ∷ [];
    recency = 200 ∷ 100 ∷ [];
    held = 1572964;
    dirty = dirty;
    maximum = 2097152;
    count = 1572964;
    due = true;
    next = 1;
  };
}

abbrev pub lone : List Case
lone =
    -- 20,971 bytes are to be clean or unused, and more are unused
    two_inserts (defaults Alone) [] 1572964
    -- with 0.3 it is 629,145
    ∷ two_inserts (with_clean (decimal 3 10) (defaults Alone)) (order Kind.Write 100 1572864 ∷ []) 100
    ∷ []

-- ---- full

abbrev pub full : List Case
full =
    -- a world at 97 percent, whose every access misses
    record {
      setup = last_access 0 (alone (rising (decimal 2 1) None));
      calls = ask (Insert 100 1324) ∷ ask (Insert 200 1324) ∷ ask (Insert 300 1325) ∷ ask (Protect Reading 400 1325) ∷ [];
      gives = record {
        answers = 0 ∷ 0 ∷ 0 ∷ 0 ∷ [];
        orders =
            [] ∷ [] ∷ []
            ∷ (order Kind.Write 100 1324 ∷ order Kind.Write 200 1324 ∷ order Kind.Write 300 1325 ∷ order Kind.Evict 100 1324 ∷ order Kind.Load 400 1325 ∷ [])
            ∷ [];
        recency = 300 ∷ 200 ∷ [];
        held = 3974;
        dirty = 0;
        maximum = 8192;
        count = 3973;
        due = false;
        next = 1;
      };
    }
    -- found with nothing to evict, and the entry gone since
    ∷ record {
      setup = last_access 88 (alone (rising (decimal 2 1) None));
      calls = ask (Insert 100 5000) ∷ ask (Discard 100) ∷ ask (Protect Reading 200 100) ∷ [];
      gives = record {
        answers = 0 ∷ 0 ∷ 0 ∷ [];
        orders = [] ∷ [] ∷ (order Kind.Load 200 100 ∷ []) ∷ [];
        recency = [];
        held = 100;
        dirty = 0;
        maximum = 8192;
        count = 5000;
        due = false;
        next = 1;
      };
    }
    -- rows press, and bytes do not
    ∷ record {
      setup = last_access 88 (opened 1 Alone default_threshold (rising (decimal 2 1) None));
      calls = ask (Insert 100 100) ∷ ask (Protect Reading 200 100) ∷ [];
      gives = record {
        answers = 0 ∷ 0 ∷ [];
        orders = [] ∷ (order Kind.Write 100 100 ∷ order Kind.Evict 100 100 ∷ order Kind.Load 200 100 ∷ []) ∷ [];
        recency = [];
        held = 100;
        dirty = 0;
        maximum = 4096;
        count = 100;
        due = false;
        next = 1;
      };
    }
    -- cleared at the end of an epoch: a poor epoch after the rise brings no other
    ∷ record {
      setup = counting 99 88 (later (ask (Protect Reading 100 5000) ∷ []) (last_access 88 (alone (rising (decimal 2 1) None))));
      calls = ask (Protect Reading 100 5000) ∷ [];
      gives = record { answers = 0 ∷ []; orders = [] ∷ []; recency = []; held = 5000; dirty = 0; maximum = 8192; count = 0; due = false; next = 1 };
    }
    -- cleared by a flash that raised the maximum to 9,000, where held plus incoming is 9,000 and not above
    ∷ record {
      setup =
          counting 99 88
          (later
          (ask (Insert 100 4000) ∷ ask (Insert 200 4000) ∷ ask (Insert 300 5000) ∷ ask (Discard 200) ∷ [])
          (alone (small_with (increase.Threshold (decimal 9 10) (decimal 2 1)) (flash.On (decimal 1 1) (decimal 1 1)) decrease.Off)));
      calls = ask (Protect Reading 300 5000) ∷ [];
      gives = record { answers = 0 ∷ []; orders = [] ∷ []; recency = []; held = 5000; dirty = 5000; maximum = 9000; count = 13000; due = false; next = 1 };
    }
    -- cleared by configuring
    ∷ record {
      setup =
          counting 99 88
          (later
          (ask (Insert 100 5000) ∷ ask (Discard 100) ∷ ask (Configure (rising (decimal 2 1) None)) ∷ [])
          (alone (rising (decimal 2 1) None)));
      calls = ask (Protect Reading 200 100) ∷ [];
      gives = record {
        answers = 0 ∷ [];
        orders = (order Kind.Load 200 100 ∷ []) ∷ [];
        recency = [];
        held = 100;
        dirty = 0;
        maximum = 4096;
        count = 5000;
        due = false;
        next = 1;
      };
    }
    -- found again by the room at the end of an epoch, which lowered the maximum to 2,048
    ∷ record {
      setup =
          counting 99 50
          (later
          (ask (Insert 100 3000) ∷ ask (Protect Writing 100 3000) ∷ ask (Resize 100 10) ∷ [])
          (last_access 99 (alone halving)));
      calls = ask (Protect Reading 200 100) ∷ [];
      gives = record {
        answers = 0 ∷ [];
        orders = (order Kind.Load 200 100 ∷ []) ∷ [];
        recency = [];
        held = 110;
        dirty = 10;
        maximum = 4096;
        count = 3000;
        due = false;
        next = 1;
      };
    }
    ∷ []

-- ---- the clean share

-- Settings with evictions off.
abbrev without_evictions : Settings → Settings
without_evictions s = record {
  evictions = false;
  preset = s.preset;
  initial = s.initial;
  clean = s.clean;
  largest = s.largest;
  smallest = s.smallest;
  epoch = s.epoch;
  increase = s.increase;
  increment = s.increment;
  flash = s.flash;
  decrease = s.decrease;
  decrement = s.decrement;
}

-- After these calls so many bytes are missing: with the fraction 0.5 of 4,096.
abbrev pub missing : List (Setup × ℕ)
missing =
    (alone sharing, 0)
    -- one dirty entry; written
    ∷ (later (ask (Insert 100 3000) ∷ []) (alone sharing), 952)
    ∷ (later (ask (Insert 100 3000) ∷ ask Flush ∷ []) (alone sharing), 0)
    -- held bytes above the maximum: none is unused, and no more is missing than the minimum
    ∷ (later (ask (Insert 100 3000) ∷ ask (Insert 200 2000) ∷ []) (opened 4 Lead default_threshold sharing), 2048)
    -- one byte short, and met
    ∷ (later (ask (Insert 100 2047) ∷ ask Flush ∷ ask (Insert 200 2049) ∷ []) (opened 4 Lead default_threshold sharing), 1)
    ∷ (later (ask (Insert 100 2048) ∷ ask Flush ∷ ask (Insert 200 2048) ∷ []) (opened 4 Lead default_threshold sharing), 0)
    -- a pinned clean entry is not in the recency list
    ∷ (later (ask (Protect Reading 100 3000) ∷ ask (Pin 100) ∷ ask (Release 100) ∷ []) (alone sharing), 952)
    -- a standby, and with evictions off
    ∷ (later (ask (Insert 100 3000) ∷ []) (opened 4 Standby default_threshold sharing), 952)
    ∷ (later (ask (Insert 100 3000) ∷ ask (Insert 200 2000) ∷ []) (alone (without_evictions sharing)), 2048)
    ∷ []

-- ---- what is stored of full

-- After these calls making room has, or has not, found held plus incoming above the maximum since the counters last restarted.
abbrev pub exceeding : List (Setup × Bool)
exceeding =
    (alone small, false)
    -- held plus incoming reach the maximum, and exceed it
    ∷ (later (ask (Insert 100 3000) ∷ ask (Insert 200 1096) ∷ []) (alone small), false)
    ∷ (later (ask (Insert 100 3000) ∷ ask (Insert 200 1097) ∷ []) (alone small), true)
    -- nothing to evict: an empty list, and in lead and standby only dirty entries
    ∷ (later (ask (Insert 100 5000) ∷ []) (alone small), true)
    ∷ (later (ask (Insert 100 3000) ∷ ask (Insert 200 1097) ∷ []) (opened 4 Lead default_threshold small), true)
    ∷ (later (ask (Insert 100 3000) ∷ ask (Insert 200 1097) ∷ []) (opened 4 Standby default_threshold small), true)
    -- what was found stays when the entry has gone and later room suffices
    ∷ (later (ask (Insert 100 5000) ∷ ask (Discard 100) ∷ ask (Insert 200 100) ∷ []) (alone small), true)
    -- with evictions off no room is made
    ∷ (later (ask (Insert 100 5000) ∷ []) (alone (without_evictions small)), false)
    -- a row is wanted, and bytes suffice
    ∷ (later (ask (Insert 100 100) ∷ ask (Insert 200 100) ∷ []) (opened 1 Alone default_threshold small), false)
    -- a refused insert; a sync; a resize, which makes no room, and the release after it, which does
    ∷ (later (ask (Insert 100 3000) ∷ ask (Insert 200 1097) ∷ []) (opened 1 Lead default_threshold small), false)
    ∷ (later (ask (Protect Writing 100 3000) ∷ ask (Resize 100 5000) ∷ ask Sync ∷ []) (opened 4 Lead default_threshold small), false)
    ∷ (later (ask (Protect Writing 100 3000) ∷ ask (Resize 100 5000) ∷ ask (Release 100) ∷ []) (alone small), true)
    -- P8's flash to 5,025, where 4,000 held and 1,025 incoming are not above
    ∷ (later (ask (Insert 100 4000) ∷ ask (Insert 200 1025) ∷ []) (alone (flashing (decimal 1 1))), false)
    -- found at 4,500, and cleared by the flash of a resize
    ∷ (later (ask (Insert 100 4000) ∷ ask (Insert 200 500) ∷ []) (alone (flashing (decimal 1 1))), true)
    ∷ (later (ask (Insert 100 4000) ∷ ask (Insert 200 500) ∷ ask (Protect Writing 200 500) ∷ ask (Resize 200 5000) ∷ []) (alone (flashing (decimal 1 1))), false)
    -- an epoch's end clears it, and the room after it finds 3,000 above 2,048
    ∷ (later (ask (Insert 100 3000) ∷ ask (Protect Writing 100 3000) ∷ []) (last_access 99 (alone halving)), true)
    ∷ (later (ask (Insert 100 5000) ∷ ask (Discard 100) ∷ ask (Protect Reading 200 100) ∷ []) (last_access 99 (alone halving)), false)
    -- configuring likewise
    ∷ (later (ask (Insert 100 5000) ∷ ask (Discard 100) ∷ ask (Configure small) ∷ []) (alone small), false)
    ∷ (later (ask (Insert 100 5000) ∷ ask (Configure small) ∷ []) (alone small), true)
    ∷ []
