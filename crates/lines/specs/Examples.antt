-- Worked cases, shown by computation: one table, and one statement that each case of it holds. Assumes nothing.
use Rattle.std.specs.Prelude.{ℕ, ◌≡◌, refl, List, [], ◌∷◌, map, Option, Some, None}
use Prim.Native.Char.{code}
use Prim.Native.String.{String, [] as empty, ◌∷◌ as ◌then◌}
use Rattle.lines.specs.declared.line.Insert.{Insert}
use Rattle.lines.specs.Lines.{value_from, number_at, insert, line_of}

-- the bytes of an ASCII text
unfoldable pub bytes : String → List ℕ
bytes empty = []
bytes (c then cs) = code c ∷ bytes cs

-- a line without its newline, and what it is read as
pub data Case : Type 0 where
  gives : String → Option Insert → Case

unfoldable pub reads : Case → Option Insert
reads (gives s l) = line_of (bytes s)

unfoldable pub expected : Case → Option Insert
expected (gives s l) = l

pub cases : List Case
cases =
    gives "insert 100 3000" (Some (insert 100 3000))
    ∷ gives "insert 0 0" (Some (insert 0 0))
    -- leading zeros
    ∷ gives "insert 000100 03000" (Some (insert 100 3000))
    ∷ gives "insert 0000000000000000000000001 1" (Some (insert 1 1))
    -- the largest number, and one more
    ∷ gives "insert 18446744073709551615 1" (Some (insert 18446744073709551615 1))
    ∷ gives "insert 18446744073709551616 1" None
    ∷ gives "insert 1 18446744073709551615" (Some (insert 1 18446744073709551615))
    ∷ gives "insert 1 18446744073709551616" None
    ∷ gives "insert 1 100000000000000000000" None
    -- a sign
    ∷ gives "insert +1 2" None
    ∷ gives "insert 1 -2" None
    -- a blank too many
    ∷ gives "insert 1 2 " None
    ∷ gives " insert 1 2" None
    ∷ gives "insert  1 2" None
    ∷ gives "insert 1  2" None
    ∷ gives "insert 1\t2" None
    ∷ gives "insert 1 2\r" None
    -- no number
    ∷ gives "insert 1 2:" None
    ∷ gives "insert 1 0x2" None
    ∷ gives "insert 1 2.0" None
    -- a word too few or too many, or another
    ∷ gives "" None
    ∷ gives "insert" None
    ∷ gives "insert " None
    ∷ gives "insert 1" None
    ∷ gives "insert 1 " None
    ∷ gives "insert 1 2 3" None
    ∷ gives "Insert 1 2" None
    ∷ gives "insert1 2" None
    ∷ gives "discard 1" None
    ∷ []

pub cases_hold : map reads cases ≡ map expected cases
unfolding cases reads expected bytes line_of number_at value_from
cases_hold = refl
