-- The state of a cache, and a cache changed in one respect.
use Rattle.std.specs.Prelude.{ℕ, Bool, false, List, [], ◌∷◌, ◌++◌, ltb, replicate, if◌then◌else◌, None}
use Rattle.settings.specs.declared.Settings.{Settings}
use Rattle.fraction.specs.Fraction.{size_product}
use Rattle.rules.specs.declared.entry.Entry.{Entry}
use Rattle.rules.specs.Types.{Row}
use Rattle.rules.specs.declared.order.Kind.{Kind}
use Rattle.rules.specs.declared.order.Order.{Order}
use Rattle.settings.specs.declared.Mode.{Mode}
use Rattle.rules.specs.Addresses.{strike}
use Rattle.rules.specs.Entries.{is_listed}
use Rattle.rules.specs.Rows.{get, passes, amend, held_bytes}

pub record Cache : Type 0 where
  pub rows : List Row
  -- the recency list: addresses, from the tail to the head
  pub recency : List ℕ
  pub mode : Mode
  -- the dirty-byte threshold
  pub threshold : ℕ
  pub settings : Settings
  pub maximum : ℕ
  -- the counters of the epoch
  pub accesses : ℕ
  pub hits : ℕ
  -- the byte count since the last list
  pub count : ℕ
  -- the number of the next list, to be sent or taken; 0 when none is left
  pub next : ℕ
  -- since the counters last restarted, making room at least once found held plus incoming above the maximum
  pub exceeded : Bool

-- A fresh cache is empty.
abbrev pub fresh : ℕ → Mode → ℕ → Settings → Cache
fresh n m t s = record {
  rows = replicate n None;
  recency = [];
  mode = m;
  threshold = t;
  settings = s;
  maximum = s.initial;
  accesses = 0;
  hits = 0;
  count = 0;
  next = 1;
  exceeded = false;
}

-- The recency list as the rules read it, tail first.
abbrev pub recency_list : Cache → List ℕ
recency_list c = c.recency

-- ---- one respect changed

abbrev pub with_rows : List Row → List ℕ → Cache → Cache
with_rows rows recency c = record {
  rows = rows;
  recency = recency;
  mode = c.mode;
  threshold = c.threshold;
  settings = c.settings;
  maximum = c.maximum;
  accesses = c.accesses;
  hits = c.hits;
  count = c.count;
  next = c.next;
  exceeded = c.exceeded;
}

abbrev pub with_settings : Settings → Cache → Cache
with_settings s c = record {
  rows = c.rows;
  recency = c.recency;
  mode = c.mode;
  threshold = c.threshold;
  settings = s;
  maximum = c.maximum;
  accesses = c.accesses;
  hits = c.hits;
  count = c.count;
  next = c.next;
  exceeded = c.exceeded;
}

abbrev pub with_maximum : ℕ → Cache → Cache
with_maximum n c = record {
  rows = c.rows;
  recency = c.recency;
  mode = c.mode;
  threshold = c.threshold;
  settings = c.settings;
  maximum = n;
  accesses = c.accesses;
  hits = c.hits;
  count = c.count;
  next = c.next;
  exceeded = c.exceeded;
}

abbrev pub with_counters : ℕ → ℕ → Cache → Cache
with_counters n h c = record {
  rows = c.rows;
  recency = c.recency;
  mode = c.mode;
  threshold = c.threshold;
  settings = c.settings;
  maximum = c.maximum;
  accesses = n;
  hits = h;
  count = c.count;
  next = c.next;
  exceeded = c.exceeded;
}

abbrev pub with_count : ℕ → Cache → Cache
with_count n c = record {
  rows = c.rows;
  recency = c.recency;
  mode = c.mode;
  threshold = c.threshold;
  settings = c.settings;
  maximum = c.maximum;
  accesses = c.accesses;
  hits = c.hits;
  count = n;
  next = c.next;
  exceeded = c.exceeded;
}

abbrev pub with_next : ℕ → Cache → Cache
with_next n c = record {
  rows = c.rows;
  recency = c.recency;
  mode = c.mode;
  threshold = c.threshold;
  settings = c.settings;
  maximum = c.maximum;
  accesses = c.accesses;
  hits = c.hits;
  count = c.count;
  next = n;
  exceeded = c.exceeded;
}

abbrev pub with_exceeded : Bool → Cache → Cache
with_exceeded b c = record {
  rows = c.rows;
  recency = c.recency;
  mode = c.mode;
  threshold = c.threshold;
  settings = c.settings;
  maximum = c.maximum;
  accesses = c.accesses;
  hits = c.hits;
  count = c.count;
  next = c.next;
  exceeded = b;
}

-- The entry at an address changed where it stands.
abbrev pub amend_at : ℕ → (Entry → Entry) → Cache → Cache
amend_at a f c = with_rows (amend a f c.rows) c.recency c

-- The entry at an address changed; the list loses it, and has it at the head if it is listed now.
abbrev pub touch : ℕ → (Entry → Entry) → Cache → Cache
touch a f c =
    with_rows (amend a f c.rows)
    (strike a c.recency ++ (if passes (λ e. is_listed (f e)) (get c.rows a) then a ∷ [] else []))
    c

-- Counters restart, and what making room found since they last did is cleared.
abbrev pub restart : Cache → Cache
restart c = with_exceeded false (with_counters 0 0 c)

-- ---- figures

abbrev pub held : Cache → ℕ
held c = held_bytes c.rows

-- Minimum clean bytes are always maximum times fraction.
abbrev pub minimum_clean : Cache → ℕ
minimum_clean c = size_product c.maximum c.settings.clean

-- A list is due when the byte count exceeds the threshold.
abbrev pub due : Cache → Bool
due c = ltb c.threshold c.count

-- ---- a request under way

-- A cache within a request, with the orders given so far.
pub record Work : Type 0 where
  pub cache : Cache
  pub orders : List Order

abbrev pub start : Cache → Work
start c = record { cache = c; orders = [] }

-- An order at the end.
abbrev pub give : Kind → ℕ → ℕ → List Order → List Order
give k a s orders = orders ++ record { kind = k; address = a; size = s } ∷ []
