-- Rising lists of addresses, and the order of a flush.
use Rattle.std.specs.Prelude.{ℕ, ◌<◌, ◌≡◌, List, [], ◌∷◌}
use Rattle.rules.specs.Types.{Row}
use Rattle.rules.specs.Addresses.{elem}
use Rattle.rules.specs.Rows.{dirty_at}

-- Each address of a list is above n.
abbrev pub Above : ℕ → List ℕ → Type 0
Above n [] = Unit
Above n (a ∷ l) = (n < a) × Above n l

-- Each address is above those before it.
abbrev pub Rising : List ℕ → Type 0
Rising [] = Unit
Rising (a ∷ l) = Above a l × Rising l

-- A list of exactly the dirty addresses, rising. There is but one.
pub record FlushOrder (rows : List Row) (l : List ℕ) : Type 0 where
  pub rising : Rising l
  pub dirty : (a : ℕ) → elem a l ≡ dirty_at rows a
