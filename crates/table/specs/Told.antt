-- What the functions tell, and the cache that a change leaves.
use Rattle.std.specs.Prelude.{ℕ, ◌+◌, min, Bool, true, false, List, [], ◌∷◌, ◌++◌, ◌≡◌, eqb, length, get_or, set, drop, if◌then◌else◌, Some, Option, None}
use Rattle.rules.specs.declared.entry.Entry.{Entry}
use Rattle.rules.specs.Types.{Row}
use Rattle.rules.specs.declared.order.Kind.{Kind}
use Rattle.rules.specs.Addresses.{strike}
use Rattle.rules.specs.Cache.{Cache, with_rows, amend_at}
use Rattle.rules.specs.Entries.{is_listed, cleaned}
use Rattle.rules.specs.Limits.{most_idle}
use Rattle.rules.specs.Resizing.{older}
use Rattle.rules.specs.Rows.{get, amend, amend_all, remove, place, is_here, clean_at, size_at}
use Rattle.layout.specs.Holds.{Holds}
use Rattle.layout.specs.Layout.{row_at, recency_at}
use Rattle.layout.specs.Leaves.{put_order}
use Rattle.layout.specs.Picture.{row_number, addresses, encode, cache_in, rest_in}
use Rattle.layout.specs.Places.{lowest_free, place_of}
use Rattle.table.specs.declared.lookup.Found.{Found}

-- Where an address stands among the rising addresses, and its row.
unfoldable pub found_in : List Row → ℕ → Option Found
found_in rows a = if is_here rows a then Some (record { place = place_of a (addresses rows); row = row_number rows a }) else None

-- What the entry at an address adds to the clean bytes.
abbrev pub clean_size : List Row → ℕ → ℕ
clean_size rows a = if clean_at rows a then size_at rows a else 0

-- ---- the cache that a change leaves

-- The entry at an address gone.
abbrev pub dropped : ℕ → Cache → Cache
dropped a c = with_rows (remove a c.rows) (strike a c.recency) c

-- An entry come, at the head if it is listed.
abbrev pub added : Entry → Cache → Cache
added e c = with_rows (place e c.rows) (c.recency ++ (if is_listed e then e.address ∷ [] else [])) c

-- The particulars of e under x's address.
abbrev pub become : Entry → Entry → Entry
become e x = record { address = x.address; size = e.size; dirty = e.dirty; idle = e.idle; pinned = e.pinned; hold = e.hold }

-- The entry at the tail clean and at the head.
abbrev pub turned : Cache → Cache
turned c = with_rows (amend (get_or c.recency 0 0) cleaned c.rows) (drop 1 c.recency ++ get_or c.recency 0 0 ∷ []) c

-- Each idle count one higher, up to 10.
abbrev pub aged : Cache → Cache
aged c = with_rows (amend_all older c.rows) c.recency c

-- The entry at an address off the list.
abbrev pub unlisted : ℕ → Cache → Cache
unlisted a c = with_rows c.rows (strike a c.recency) c

-- ---- the words within a change

-- A new entry in its row and among the addresses, and in no list yet.
pub record Placed (c : Cache) (rest : List ℕ) (e : Entry) (ws : List ℕ) (row : ℕ) : Type 0 where
  pub words : ws ≡ encode (with_rows (place e c.rows) c.recency c) rest
  pub number : row ≡ lowest_free c.rows

-- An address off the list, and the list's length then.
pub record Off (c : Cache) (rest : List ℕ) (a : ℕ) (ws : List ℕ) (n : ℕ) : Type 0 where
  pub words : ws ≡ encode (unlisted a c) rest
  pub listed : n ≡ length (strike a c.recency)

-- Row r put at the head of a list of n in a table with k rows, if it is to be there.
abbrev pub put_on : Bool → ℕ → ℕ → ℕ → List ℕ → List ℕ
put_on true k n r ws = set ws (recency_at k + n) r
put_on false k n r ws = ws

-- The idle count of row i one higher, up to 10, if the row is used.
unfoldable pub age_words : ℕ → List ℕ → List ℕ
age_words i ws = if eqb (get_or ws (row_at i + 1) 0) 0 then ws else set ws (row_at i + 3) (min (get_or ws (row_at i + 3) 0 + 1) most_idle)

-- ---- an entry gone, and an order given

-- The address at a place of the recency list.
abbrev pub listed_at : List ℕ → ℕ → ℕ
listed_at ws pos = get_or (cache_in ws).recency pos 0

-- From words ws to words vs: the entry at a is gone, and is the answer.
pub record Drops (a : ℕ) (ws vs : List ℕ) (answer : Entry) : Type 0 where
  pub holds : Holds vs (dropped a (cache_in ws)) (rest_in ws)
  pub entry : get (cache_in ws).rows a ≡ Some answer

-- From words ws to words vs: the entry at a is clean, and its size is the answer.
pub record Cleans (a : ℕ) (ws vs : List ℕ) (answer : ℕ) : Type 0 where
  pub holds : Holds vs (amend_at a cleaned (cache_in ws)) (rest_in ws)
  pub size : answer ≡ size_at (cache_in ws).rows a

-- From words ws to words vs: the cache is changed, and the order with number `given` names the entry at a, whose size is
-- the answer.
pub record Gives (kind : Kind) (a : ℕ) (change : Cache → Cache) (ws vs : List ℕ) (given : ℕ) (before after : List ℕ) (answer : ℕ) : Type 0 where
  pub holds : Holds vs (change (cache_in ws)) (rest_in ws)
  pub size : answer ≡ size_at (cache_in ws).rows a
  pub orders : after ≡ put_order given (record { kind = kind; address = a; size = size_at (cache_in ws).rows a }) before
