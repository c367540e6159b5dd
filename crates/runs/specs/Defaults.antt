-- What a run on a table answered and left. Definitions only.
use Rattle.std.specs.Prelude.{ℕ, List, [], ◌∷◌, ◌≡◌}
use Rattle.settings.specs.Defaults.{defaults_before}
use Rattle.settings.specs.declared.Mode.{Mode}
use Rattle.settings.specs.declared.Settings.{Settings}
use Rattle.cache.specs.Tables.{Left, Opened, open_words, step_words}
use Rattle.runs.specs.History.{TableCall, table_past}

-- Of each request its answer, the table and the order words. The latest stands first.
unfoldable pub left_in : List ℕ → List TableCall → List Left
left_in table [] = []
left_in table (call ∷ earlier) =
    step_words (table_past table earlier).table call.orders call.message call.request ∷ left_in table earlier

-- Of a run from its opening on.
pub record WholeRun : Type 0 where
  pub opening : Opened
  pub requests : List Left

abbrev pub run_from : Opened → List TableCall → WholeRun
run_from o calls = record { opening = o; requests = left_in o.table calls }

-- Opened in this mode with these settings any run, on any table, with any row count and threshold, gets what it got with the defaults before
-- they went by the mode.
abbrev pub AsBefore : Mode → Settings → Type 0
AsBefore mode s =
    (table : List ℕ) → (rows threshold : ℕ) → (calls : List TableCall)
    → run_from (open_words table rows mode threshold s) calls ≡ run_from (open_words table rows mode threshold defaults_before) calls
