-- A taken list.
use Rattle.std.specs.Prelude.{ℕ, ◌<◌, ◌≤◌, Bool, false, not, ◌||◌, List, ◌≡◌, length, get_or, if◌then◌else◌, Option, None}
use Rattle.rules.specs.Types.{Row}
use Rattle.rules.specs.Addresses.{some_address, twice}
use Rattle.rules.specs.Rows.{dirty_at}
use Rattle.rules.specs.Limits.{most_rows}
use Rattle.layout.specs.Picture.{row_number}
use Rattle.table.specs.declared.lookup.Found.{Found}
use Rattle.table.specs.Told.{found_in}

-- It names an address twice, or one not dirty here.
abbrev pub bad_list : List Row → List ℕ → Bool
bad_list rows list = twice list || some_address (λ a. not (dirty_at rows a)) list

-- Where an address stands that is dirty here.
unfoldable pub dirty_found : List Row → ℕ → Option Found
dirty_found rows a = if dirty_at rows a then found_in rows a else None

-- The list is not bad, and the rows of its addresses are noted in its order.
pub record Named (rows : List Row) (list named : List ℕ) : Type 0 where
  pub good : bad_list rows list ≡ false
  pub few : length list ≤ most_rows
  pub each : (i : ℕ) → i < length list → get_or named i 0 ≡ row_number rows (get_or list i 0)

-- Whether a list is bad; if not, its rows are noted.
pub record JudgedBad (rows : List Row) (list named : List ℕ) (bad : Bool) : Type 0 where
  pub verdict : bad ≡ bad_list rows list
  pub noted : bad ≡ false → Named rows list named
