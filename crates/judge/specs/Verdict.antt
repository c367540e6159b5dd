-- When a cache is allowed, and when the words of a lent table picture an allowed cache: refusal 1's list, as tests.
use Rattle.std.specs.Prelude.{ℕ, Bool, true, false, not, ◌||◌, List, [], ◌∷◌, eqb, leb, ltb, length, get_or, take, None, Some}
use Rattle.settings.specs.Validation.{first_bad}
use Rattle.rules.specs.declared.entry.Entry.{Entry}
use Rattle.rules.specs.declared.entry.Hold.{Hold}
use Rattle.rules.specs.declared.entry.Hold.TheVariants.{Unheld, Readers, Writer}
use Rattle.rules.specs.Types.{Row}
use Rattle.rules.specs.Addresses.{elem, twice}
use Rattle.rules.specs.Cache.{Cache}
use Rattle.rules.specs.Entries.{is_listed}
use Rattle.rules.specs.Limits.{all_ones, most_rows, most_size, most_readers, most_idle, most_threshold, count_stop}
use Rattle.rules.specs.Rows.{get, passes, is_here}
use Rattle.layout.specs.Layout.{row_count_at, layout_words}
use Rattle.layout.specs.Picture.{encode, cache_in}

-- `&&`, but shut: both sides can be read off it.
infixr 30 ◌and◌
unfoldable pub ◌and◌ : Bool → Bool → Bool
true and b = b
false and b = false

-- ---- entries

-- "a hold: free, read by 1 to 65,535 readers, or held for writing"
abbrev pub hold_allowed : Hold → Bool
hold_allowed Unheld = true
hold_allowed (Readers n) = leb 1 n and leb n most_readers
hold_allowed Writer = true

-- "an address (any 64-bit number but all ones), a size of 1 to 134,217,728 bytes, .., an idle count of 0 to 10, .., and a hold"
abbrev pub entry_allowed : Entry → Bool
entry_allowed e =
    not (eqb e.address all_ones)
    and leb 1 e.size and leb e.size most_size
    and leb e.idle most_idle
    and hold_allowed e.hold

unfoldable pub every_entry : (Entry → Bool) → List Row → Bool
every_entry test [] = true
every_entry test (None ∷ rows) = every_entry test rows
every_entry test (Some e ∷ rows) = test e and every_entry test rows

unfoldable pub every_address : (ℕ → Bool) → List ℕ → Bool
every_address test [] = true
every_address test (a ∷ rest) = test a and every_address test rest

-- "Addresses are distinct": no later row has an entry's address.
unfoldable pub distinct : List Row → Bool
distinct [] = true
distinct (None ∷ rows) = distinct rows
distinct (Some e ∷ rows) = not (is_here rows e.address) and distinct rows

-- "Entries neither held nor pinned, and only those, stand in the recency list", once each.
abbrev pub recency_allowed : List Row → List ℕ → Bool
recency_allowed rows recency =
    every_entry (λ e. not (is_listed e) || elem e.address recency) rows
    and every_address (λ a. passes is_listed (get rows a)) recency
    and not (twice recency)

-- ---- the cache

unfoldable pub is_allowed : Cache → Bool
is_allowed c =
    -- "1 to 4,096 rows"
    leb 1 (length c.rows) and leb (length c.rows) most_rows
    -- "entries .. as above"
    and every_entry entry_allowed c.rows
    and distinct c.rows
    and recency_allowed c.rows c.recency
    -- "threshold as above": 1 to 1,073,741,824. The mode is one of three by its type.
    and leb 1 c.threshold and leb c.threshold most_threshold
    -- "settings that configuring passes"
    and eqb (first_bad c.settings false) 0
    -- "maximum within [minimum size, maximum size]"
    and leb c.settings.smallest c.maximum and leb c.maximum c.settings.largest
    -- "accesses below the epoch length, hits at most accesses"
    and ltb c.accesses c.settings.epoch and leb c.hits c.accesses
    -- "byte count within its stop"
    and leb c.count count_stop

-- ---- the table

unfoldable pub same_words : List ℕ → List ℕ → Bool
same_words [] [] = true
same_words [] (y ∷ ys) = false
same_words (x ∷ xs) [] = false
same_words (x ∷ xs) (y ∷ ys) = eqb x y and same_words xs ys

-- The cache that the words give is allowed, and the words up to the layout's end are its own.
unfoldable pub judge_words : List ℕ → Bool
judge_words ws = is_allowed (cache_in ws) and same_words (take (layout_words (get_or ws row_count_at 0)) ws) (encode (cache_in ws) [])
