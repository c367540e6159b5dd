-- What is known of a table within a request: its words are those of a steady cache.
use Rattle.std.specs.Prelude.{ℕ, ◌≤◌, false, ◌≡◌, List, length, Some}
use Rattle.settings.specs.Validation.{first_bad}
use Rattle.settings_words.specs.FloatsFit.{FloatsFit}
use Rattle.rules.specs.declared.entry.Entry.{Entry}
use Rattle.rules.specs.Allowed.{EntryAllowed, Sound}
use Rattle.rules.specs.Cache.{Cache}
use Rattle.rules.specs.Limits.{most_rows, count_stop}
use Rattle.rules.specs.Rows.{get}
use Rattle.layout.specs.Layout.{layout_words}
use Rattle.layout.specs.Picture.{encode, addresses, cache_in, rest_in}

-- What an allowed cache keeps within a request. (The counters of the epoch may stand at the epoch length.)
pub record Steady (c : Cache) : Type 0 where
  pub some_rows : 1 ≤ length c.rows
  pub rows : length c.rows ≤ most_rows
  pub entries : (a : ℕ) (e : Entry) → get c.rows a ≡ Some e → EntryAllowed e
  pub sound : Sound c
  pub settings : first_bad c.settings false ≡ 0
  -- every f64 of a program fits the format
  pub floats : FloatsFit c.settings
  pub least : c.settings.smallest ≤ c.maximum
  pub most : c.maximum ≤ c.settings.largest
  pub count : c.count ≤ count_stop

-- The words are those of a steady cache, with the rest of the table after them.
pub record Holds (ws : List ℕ) (c : Cache) (rest : List ℕ) : Type 0 where
  pub words : ws ≡ encode c rest
  pub steady : Steady c
  -- these follow; they are said so that a caller's arithmetic finds them
  pub listed : length c.recency ≤ length c.rows
  pub used : length (addresses c.rows) ≤ length c.rows
  pub long : layout_words (length c.rows) ≤ length ws

abbrev pub Good : List ℕ → Type 0
Good ws = Holds ws (cache_in ws) (rest_in ws)
