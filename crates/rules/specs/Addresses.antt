-- Lists of addresses.
use Rattle.std.specs.Prelude.{ℕ, Bool, false, ◌||◌, List, [], ◌∷◌, eqb, leb, if◌then◌else◌, Option, None, Some}

unfoldable pub elem : ℕ → List ℕ → Bool
elem a [] = false
elem a (b ∷ rest) = eqb b a || elem a rest

-- The list without an address.
unfoldable pub strike : ℕ → List ℕ → List ℕ
strike a [] = []
strike a (b ∷ rest) = if eqb b a then strike a rest else b ∷ strike a rest

unfoldable pub some_address : (ℕ → Bool) → List ℕ → Bool
some_address test [] = false
some_address test (a ∷ rest) = test a || some_address test rest

-- The first that passes a test: of the recency list, the one nearest the tail.
unfoldable pub nearest : (ℕ → Bool) → List ℕ → Option ℕ
nearest test [] = None
nearest test (a ∷ rest) = if test a then Some a else nearest test rest

-- Whether an address stands twice.
unfoldable pub twice : List ℕ → Bool
twice [] = false
twice (a ∷ rest) = elem a rest || twice rest

-- An address put into a rising list.
unfoldable pub insert_rising : ℕ → List ℕ → List ℕ
insert_rising a [] = a ∷ []
insert_rising a (b ∷ rest) = if leb a b then a ∷ b ∷ rest else b ∷ insert_rising a rest
