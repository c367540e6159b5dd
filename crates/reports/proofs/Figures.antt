-- A report whose figures are each what the rules say is the rules' report.
use Rattle.std.specs.Prelude.{if◌then◌else◌}
use Prim.Native.Nat.{ℕ}
use mathlib.Core.List.{List}
use mathlib.Core.Path.{◌≡◌}
use lib.Dec.{ltb}
use lib.ListN.{length}
use Rattle.fraction.specs.Fraction.{size_product}
use Rattle.settings.specs.declared.Settings.{Settings}
use Rattle.rules.specs.declared.report.Report.{Report}
use Rattle.rules.specs.Cache.{Cache}
use Rattle.rules.specs.Reports.{report_of, idle_count, totals_from}
use Rattle.rules.specs.Room.{share_missing}
use Rattle.rules.specs.Rows.{held_bytes, total}
use Rattle.layout.specs.Picture.{addresses}
use Rattle.reports.proofs.Entries.{entries_are}

pub report_told : (c : Cache) {held dirty used maximum least missing count threshold next : ℕ} {s : Settings} {totals : List ℕ}
    → held ≡ held_bytes c.rows → dirty ≡ total (λ e. if e.dirty then e.size else 0) c.rows → used ≡ length (addresses c.rows)
    → maximum ≡ c.maximum → s ≡ c.settings → least ≡ size_product maximum s.clean → missing ≡ share_missing 0 c
    → count ≡ c.count → threshold ≡ c.threshold → next ≡ c.next → totals ≡ totals_from idle_count 0 11 c.rows
    → ◌≡◌ {A = Report} record {
      held = held;
      dirty = dirty;
      entries = used;
      maximum = maximum;
      clean = least;
      missing = missing;
      count = count;
      due = ltb threshold count;
      next = next;
      totals = totals;
    } (report_of c)
unfolding report_of
report_told c h d u m s l g n t x i = rw (l, h, d, u, entries_are c.rows, m, s, g, n, t, x, i)
