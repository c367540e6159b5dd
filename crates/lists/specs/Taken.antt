-- What a take does before it sets the byte count to 0.
use Rattle.std.specs.Prelude.{ℕ, List}
use Rattle.rules.specs.Cache.{Cache, with_rows}
use Rattle.rules.specs.Entries.{cleaned}
use Rattle.rules.specs.Rows.{amend_each}

-- The entries at the list's addresses are clean.
abbrev pub taken : List ℕ → Cache → Cache
taken list c = with_rows (amend_each list cleaned c.rows) c.recency c
