-- What a flush does before it sets the byte count to 0.
use Rattle.rules.specs.Cache.{Cache, Work, with_rows}
use Rattle.rules.specs.Entries.{cleaned}
use Rattle.rules.specs.Requests.{writes_of}
use Rattle.rules.specs.Rows.{amend_each, dirty_rising}

-- Every dirty entry written by rising address.
abbrev pub all_written : Cache → Work
all_written c = record {
  cache = with_rows (amend_each (dirty_rising c.rows) cleaned c.rows) c.recency c;
  orders = writes_of c.rows (dirty_rising c.rows);
}
