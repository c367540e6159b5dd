-- Refusal 1's list of what a state may be. Every number is a 64-bit one by its type.
use Rattle.std.specs.Prelude.{ℕ, ◌≤◌, ◌<◌, ◌≡◌, false, List, [], ◌∷◌, eqb, length, None, Some}
use Rattle.settings.specs.Validation.{first_bad}
use Rattle.rules.specs.declared.entry.Entry.{Entry}
use Rattle.rules.specs.declared.entry.Hold.{Hold}
use Rattle.rules.specs.declared.entry.Hold.TheVariants.{Unheld, Readers, Writer}
use Rattle.rules.specs.Types.{Row}
use Rattle.rules.specs.Addresses.{elem, twice}
use Rattle.rules.specs.Cache.{Cache}
use Rattle.rules.specs.Entries.{is_listed}
use Rattle.rules.specs.Limits.{all_ones, most_rows, most_size, most_readers, most_idle, most_threshold, count_stop}
use Rattle.rules.specs.Rows.{get, passes}

-- Read by 1 to 65,535 readers.
abbrev pub HoldAllowed : Hold → Type 0
HoldAllowed Unheld = Unit
HoldAllowed (Readers n) = (1 ≤ n) × (n ≤ most_readers)
HoldAllowed Writer = Unit

pub record EntryAllowed (e : Entry) : Type 0 where
  pub address : eqb e.address all_ones ≡ false
  pub nonempty : 1 ≤ e.size
  pub size : e.size ≤ most_size
  pub idle : e.idle ≤ most_idle
  pub hold : HoldAllowed e.hold

-- Addresses are distinct: no later row has an entry's address.
abbrev pub Distinct : List Row → Type 0
Distinct [] = Unit
Distinct (None ∷ rows) = Distinct rows
Distinct (Some e ∷ rows) = (get rows e.address ≡ None) × Distinct rows

-- The rows and the recency list: distinct addresses, and exactly the entries neither held nor pinned, once each.
pub record Sound (c : Cache) : Type 0 where
  pub distinct : Distinct c.rows
  pub listed : (a : ℕ) → elem a c.recency ≡ passes is_listed (get c.rows a)
  pub once : twice c.recency ≡ false

pub record Allowed (c : Cache) : Type 0 where
  pub some_rows : 1 ≤ length c.rows
  pub rows : length c.rows ≤ most_rows
  pub entries : (a : ℕ) (e : Entry) → get c.rows a ≡ Some e → EntryAllowed e
  pub sound : Sound c
  pub some_bytes : 1 ≤ c.threshold
  pub threshold : c.threshold ≤ most_threshold
  pub settings : first_bad c.settings false ≡ 0
  pub least : c.settings.smallest ≤ c.maximum
  pub most : c.maximum ≤ c.settings.largest
  pub accesses : c.accesses < c.settings.epoch
  pub hits : c.hits ≤ c.accesses
  pub count : c.count ≤ count_stop
