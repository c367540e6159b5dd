-- What the functions ask of a table and of what they are handed.
use Rattle.std.specs.Prelude.{ℕ, ◌+◌, ◌<◌, ◌≤◌, true, false, List, ◌≡◌, length, get_or, take, drop, None}
use Rattle.settings.specs.declared.Settings.{Settings}
use Rattle.settings.specs.Validation.{first_bad}
use Rattle.rules.specs.declared.entry.Entry.{Entry}
use Rattle.rules.specs.Types.{Row}
use Rattle.rules.specs.Allowed.{EntryAllowed}
use Rattle.rules.specs.Cache.{Cache}
use Rattle.rules.specs.Rows.{get, has_free, is_here}
use Rattle.layout.specs.Holds.{Good}
use Rattle.layout.specs.Picture.{row_number, addresses, run, run_of, cache_in}

-- The words are those of a steady cache with this many rows.
pub record GoodRows (ws : List ℕ) (rows : ℕ) : Type 0 where
  pub good : Good ws
  pub size : rows ≡ length (cache_in ws).rows

-- The n words at a place are a run: words that are not all ones, then all ones.
pub record RunIn (ws : List ℕ) (at n : ℕ) : Type 0 where
  pub fits : at + n ≤ length ws
  pub all : take n (drop at ws) ≡ run n (run_of n (drop at ws))

-- The row of an address that is there.
pub record RowOf (rows : List Row) (a row : ℕ) : Type 0 where
  pub number : row ≡ row_number rows a
  pub here : is_here rows a ≡ true

-- The place of an address in a list.
pub record PlaceIn (l : List ℕ) (a pos : ℕ) : Type 0 where
  pub low : pos < length l
  pub same : get_or l pos 0 ≡ a

-- Where an entry of the recency list stands: in the list, among the rising addresses, and its row.
pub record DropAt (c : Cache) (a pos place row : ℕ) : Type 0 where
  pub listed : PlaceIn c.recency a pos
  pub placed : PlaceIn (addresses c.rows) a place
  pub number : row ≡ row_number c.rows a

-- An entry that may come.
pub record Addable (c : Cache) (e : Entry) : Type 0 where
  pub free : has_free c.rows ≡ true
  pub absent : get c.rows e.address ≡ None
  pub allowed : EntryAllowed e

-- Settings and a maximum that may be taken.
pub record Settable (s : Settings) (maximum : ℕ) : Type 0 where
  pub passes : first_bad s false ≡ 0
  pub least : s.smallest ≤ maximum
  pub most : maximum ≤ s.largest
