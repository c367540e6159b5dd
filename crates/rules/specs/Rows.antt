-- The rows of a cache: entries found, placed, changed and removed by address, and sums over them.
use Rattle.std.specs.Prelude.{ℕ, ◌+◌, Bool, true, false, ◌||◌, List, [], ◌∷◌, eqb, if◌then◌else◌, Option, None, Some, option_map, unwrap_or}
use Rattle.rules.specs.declared.entry.Entry.{Entry}
use Rattle.rules.specs.Types.{Row}
use Rattle.rules.specs.Addresses.{insert_rising}
use Rattle.rules.specs.Entries.{is_clean}

-- ---- by address

-- The entry at an address.
unfoldable pub get : List Row → ℕ → Option Entry
get [] a = None
get (None ∷ rows) a = get rows a
get (Some e ∷ rows) a = if eqb e.address a then Some e else get rows a

-- A test of an entry that may be there; it fails where there is none.
abbrev pub passes : (Entry → Bool) → Option Entry → Bool
passes test None = false
passes test (Some e) = test e

-- The entry at an address changed.
unfoldable pub amend : ℕ → (Entry → Entry) → List Row → List Row
amend a f [] = []
amend a f (None ∷ rows) = None ∷ amend a f rows
amend a f (Some e ∷ rows) = Some (if eqb e.address a then f e else e) ∷ amend a f rows

-- The entries at the addresses of a list changed.
unfoldable pub amend_each : List ℕ → (Entry → Entry) → List Row → List Row
amend_each [] f rows = rows
amend_each (a ∷ rest) f rows = amend_each rest f (amend a f rows)

-- Every entry changed.
unfoldable pub amend_all : (Entry → Entry) → List Row → List Row
amend_all f [] = []
amend_all f (None ∷ rows) = None ∷ amend_all f rows
amend_all f (Some e ∷ rows) = Some (f e) ∷ amend_all f rows

-- The entry at an address gone, its row free.
unfoldable pub remove : ℕ → List Row → List Row
remove a [] = []
remove a (None ∷ rows) = None ∷ remove a rows
remove a (Some e ∷ rows) = (if eqb e.address a then None else Some e) ∷ remove a rows

-- A new entry in the lowest free row.
unfoldable pub place : Entry → List Row → List Row
place e [] = []
place e (None ∷ rows) = Some e ∷ rows
place e (Some x ∷ rows) = Some x ∷ place e rows

unfoldable pub has_free : List Row → Bool
has_free [] = false
has_free (None ∷ rows) = true
has_free (Some e ∷ rows) = has_free rows

-- ---- over all entries

unfoldable pub some_entry : (Entry → Bool) → List Row → Bool
some_entry test [] = false
some_entry test (None ∷ rows) = some_entry test rows
some_entry test (Some e ∷ rows) = test e || some_entry test rows

-- The sum of a figure over all entries.
unfoldable pub total : (Entry → ℕ) → List Row → ℕ
total figure [] = 0
total figure (None ∷ rows) = total figure rows
total figure (Some e ∷ rows) = figure e + total figure rows

-- Held bytes: the sum of all sizes.
abbrev pub held_bytes : List Row → ℕ
held_bytes rows = total (λ e. e.size) rows

-- The addresses of the dirty entries, rising.
unfoldable pub dirty_rising : List Row → List ℕ
dirty_rising [] = []
dirty_rising (None ∷ rows) = dirty_rising rows
dirty_rising (Some e ∷ rows) = if e.dirty then insert_rising e.address (dirty_rising rows) else dirty_rising rows

-- ---- the entry at an address

abbrev pub is_here : List Row → ℕ → Bool
is_here rows a = passes (λ e. true) (get rows a)

abbrev pub clean_at : List Row → ℕ → Bool
clean_at rows a = passes is_clean (get rows a)

abbrev pub dirty_at : List Row → ℕ → Bool
dirty_at rows a = passes (λ e. e.dirty) (get rows a)

abbrev pub size_at : List Row → ℕ → ℕ
size_at rows a = unwrap_or (option_map (λ e. e.size) (get rows a)) 0
