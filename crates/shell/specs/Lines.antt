-- What a line does.
use Rattle.std.specs.Prelude.{ℕ, Bool, true, false, List, [], Option, Some, None}
use Rattle.rules.specs.declared.request.Request.TheVariants.{Insert}
use Rattle.cache.specs.Tables.{step_words}
use Rattle.lines.specs.declared.line.Insert as line

-- Whether the run goes on, and the words of the table and of the order slice.
pub record Ran : Type 0 where
  pub on : Bool
  pub table : List ℕ
  pub orders : List ℕ

abbrev pub ran : Bool → List ℕ → List ℕ → Ran
ran on table orders = record { on = on; table = table; orders = orders }

-- An insert is done as a request. A bad line changes nothing and ends the run.
abbrev pub ran_line : List ℕ → List ℕ → Option line.Insert → Ran
ran_line table orders (Some i) =
    let l = step_words table orders [] (Insert i.address i.size) in
    ran true l.table l.orders
ran_line table orders None = ran false table orders
