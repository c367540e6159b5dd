-- The report.
use Rattle.std.specs.Prelude.{ℕ, zero, suc, ◌+◌, List, [], ◌∷◌, eqb, if◌then◌else◌}
use Rattle.rules.specs.declared.entry.Entry.{Entry}
use Rattle.rules.specs.Types.{Row}
use Rattle.rules.specs.declared.report.Report.{Report}
use Rattle.rules.specs.Cache.{Cache, held, minimum_clean, due}
use Rattle.rules.specs.Room.{share_missing}
use Rattle.rules.specs.Rows.{total}

-- The bytes of the entries whose key is n.
abbrev pub bytes_by : (Entry → ℕ) → List Row → ℕ → ℕ
bytes_by key rows n = total (λ e. if eqb (key e) n then e.size else 0) rows

-- The totals of the n keys from k on.
unfoldable pub totals_from : (Entry → ℕ) → ℕ → ℕ → List Row → List ℕ
totals_from key k zero rows = []
totals_from key k (suc n) rows = bytes_by key rows k ∷ totals_from key (suc k) n rows

abbrev pub idle_count : Entry → ℕ
idle_count e = e.idle

abbrev pub idle_bytes : List Row → ℕ → ℕ
idle_bytes rows n = bytes_by idle_count rows n

unfoldable pub report_of : Cache → Report
report_of c = record {
  held = held c;
  dirty = total (λ e. if e.dirty then e.size else 0) c.rows;
  entries = total (λ e. 1) c.rows;
  maximum = c.maximum;
  clean = minimum_clean c;
  missing = share_missing 0 c;
  count = c.count;
  due = due c;
  next = c.next;
  totals = totals_from idle_count 0 11 c.rows;
}

-- The sum of a list of totals.
unfoldable pub sum_of : List ℕ → ℕ
sum_of [] = 0
sum_of (n ∷ rest) = n + sum_of rest
