-- The entry points on the words of a table: what each answers and leaves, on any input.
use Rattle.std.specs.Prelude.{ℕ, List, leb, length, drop, if◌then◌else◌, Option, None, Some, Result, Ok, Err}
use Rattle.settings.specs.declared.Settings.{Settings}
use Rattle.rules.specs.Types.{Answer}
use Rattle.rules.specs.declared.answer.Refusal.{Refusal}
use Rattle.rules.specs.declared.answer.Refusal.TheVariants as refusal
use Rattle.rules.specs.declared.report.Report.{Report}
use Rattle.settings.specs.declared.Mode.{Mode}
use Rattle.rules.specs.declared.request.Request.{Request}
use Rattle.rules.specs.Cache.{Cache, fresh}
use Rattle.rules.specs.Hosts.{asking}
use Rattle.rules.specs.Opening.{refusal_of_opening}
use Rattle.rules.specs.Reports.{report_of}
use Rattle.rules.specs.Requests.{Outcome, step}
use Rattle.layout.specs.Layout.{layout_words}
use Rattle.layout.specs.Picture.{encode, cache_in, rest_in, written}
use Rattle.judge.specs.Verdict.{judge_words}

-- An answer, with the words of the table and of the order slice after it.
pub record Left : Type 0 where
  pub answer : Answer
  pub table : List ℕ
  pub orders : List ℕ

abbrev pub left : Answer → List ℕ → List ℕ → Left
left r table orders = record { answer = r; table = table; orders = orders }

-- ---- a request

-- Accepted: the table has the words of the cache that the rules give, and the order slice has the rules' orders, three
-- words each; the words past the layout and past the last order stay. Refused: no lent word changes.
abbrev pub carried_out : Answer → Outcome → List ℕ → List ℕ → Left
carried_out (Ok n) o table orders = left (Ok n) (encode o.cache (rest_in table)) (written o.orders orders)
carried_out (Err r) o table orders = left (Err r) table orders

-- By the rules, on the cache that the words picture; 1 if they picture none.
unfoldable pub step_words : List ℕ → List ℕ → List ℕ → Request → Left
step_words table orders message r =
    if judge_words table
    then (let o = step (cache_in table) (asking r message (length orders)) in carried_out o.answer o table orders)
    else left (Err refusal.Table) table orders

-- ---- opening

pub record Opened : Type 0 where
  pub answer : Answer
  pub table : List ℕ

abbrev pub opened : Answer → List ℕ → Opened
opened r table = record { answer = r; table = table }

-- Accepted: the table has the words of the fresh cache, whatever it had; the words past the layout stay.
abbrev pub opened_with : Option Refusal → List ℕ → ℕ → Cache → Opened
opened_with None table rows c = opened (Ok 0) (encode c (drop (layout_words rows) table))
opened_with (Some r) table rows c = opened (Err r) table

unfoldable pub open_words : List ℕ → ℕ → Mode → ℕ → Settings → Opened
open_words table rows mode threshold s =
    opened_with (refusal_of_opening rows (leb (layout_words rows) (length table)) (Some mode) threshold s) table rows (fresh rows mode threshold s)

-- ---- the report

-- The figures of the cache that the words picture; 1 if they picture none.
unfoldable pub report_words : List ℕ → Result Report Refusal
report_words table = if judge_words table then Ok (report_of (cache_in table)) else Err refusal.Table
