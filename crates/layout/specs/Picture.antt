-- The words of a cache, and the cache that words picture.
use Rattle.std.specs.Prelude.{ℕ, zero, suc, ◌+◌, ◌*◌, ◌-◌, List, [], ◌∷◌, ◌++◌, map, eqb, length, get_or, drop, replicate, if◌then◌else◌, None, Some}
use Rattle.settings_words.specs.Words.{flag_word, flag_of, settings_words}
use Rattle.settings_words.specs.Picture.{settings_of}
use Rattle.rules.specs.declared.entry.Entry.{Entry}
use Rattle.rules.specs.Types.{Row}
use Rattle.rules.specs.declared.order.Order.{Order}
use Rattle.rules.specs.Addresses.{insert_rising}
use Rattle.rules.specs.Cache.{Cache}
use Rattle.layout.specs.Layout.{ones, version, row_count_at, mode_at, threshold_at, maximum_at, accesses_at, hits_at, count_at, next_at, exceeded_at, settings_at, row_at, recency_at, layout_words, mode_word, mode_of, hold_word, hold_of, kind_word}

-- ---- rows by number

-- The number of the row that has an address.
unfoldable pub row_number : List Row → ℕ → ℕ
row_number [] a = 0
row_number (None ∷ rows) a = suc (row_number rows a)
row_number (Some e ∷ rows) a = if eqb e.address a then 0 else suc (row_number rows a)

-- The address of a row; 0 where it is free.
abbrev pub address_of : Row → ℕ
address_of None = 0
address_of (Some e) = e.address

abbrev pub address_at : List Row → ℕ → ℕ
address_at rows r = address_of (get_or rows r None)

-- All addresses, rising.
unfoldable pub addresses : List Row → List ℕ
addresses [] = []
addresses (None ∷ rows) = addresses rows
addresses (Some e ∷ rows) = insert_rising e.address (addresses rows)

-- ---- the words of a cache

abbrev pub entry_words : Entry → List ℕ
entry_words e = e.address ∷ e.size ∷ flag_word e.dirty ∷ e.idle ∷ flag_word e.pinned ∷ hold_word e.hold ∷ []

-- A free row is all zero; an entry's size is not.
abbrev pub row_words : Row → List ℕ
row_words None = 0 ∷ 0 ∷ 0 ∷ 0 ∷ 0 ∷ 0 ∷ []
row_words (Some e) = entry_words e

unfoldable pub rows_words : List Row → List ℕ
rows_words [] = []
rows_words (r ∷ rows) = row_words r ++ rows_words rows

-- A run of n words: row numbers, then all ones.
unfoldable pub run : ℕ → List ℕ → List ℕ
run n l = l ++ replicate (n - length l) ones

-- The header before the settings, with n rows.
abbrev pub first_words : ℕ → Cache → List ℕ
first_words n c =
    version ∷ n ∷ mode_word c.mode ∷ c.threshold ∷ c.maximum ∷ c.accesses ∷ c.hits ∷ c.count ∷ c.next ∷ flag_word c.exceeded ∷ []

abbrev pub head_words : Cache → List ℕ
head_words c = first_words (length c.rows) c ++ settings_words c.settings

-- The words of a cache, and after them the rest of the table.
unfoldable pub encode : Cache → List ℕ → List ℕ
encode c rest =
    head_words c
    ++ (rows_words c.rows
    ++ (run (length c.rows) (map (row_number c.rows) c.recency)
    ++ (run (length c.rows) (map (row_number c.rows) (addresses c.rows)) ++ rest)))

-- ---- the cache of any words

-- The entry in row r.
unfoldable pub entry_of : List ℕ → ℕ → Entry
entry_of ws r = record {
  address = get_or ws (row_at r) 0;
  size = get_or ws (row_at r + 1) 0;
  dirty = flag_of (get_or ws (row_at r + 2) 0);
  idle = get_or ws (row_at r + 3) 0;
  pinned = flag_of (get_or ws (row_at r + 4) 0);
  hold = hold_of (get_or ws (row_at r + 5) 0);
}

abbrev pub row_of : Entry → Row
row_of e = if eqb e.size 0 then None else Some e

-- n rows from row r on.
unfoldable pub rows_of : ℕ → ℕ → List ℕ → List Row
rows_of zero r ws = []
rows_of (suc n) r ws = row_of (entry_of ws r) ∷ rows_of n (suc r) ws

-- The words before the first that is all ones, at most n.
unfoldable pub run_of : ℕ → List ℕ → List ℕ
run_of zero ws = []
run_of (suc n) [] = []
run_of (suc n) (w ∷ ws) = if eqb w ones then [] else w ∷ run_of n ws

-- With n rows.
abbrev pub cache_with : ℕ → List ℕ → Cache
cache_with n ws = record {
  rows = rows_of n 0 ws;
  recency = map (address_at (rows_of n 0 ws)) (run_of n (drop (recency_at n) ws));
  mode = mode_of (get_or ws mode_at 0);
  threshold = get_or ws threshold_at 0;
  settings = settings_of (drop settings_at ws);
  maximum = get_or ws maximum_at 0;
  accesses = get_or ws accesses_at 0;
  hits = get_or ws hits_at 0;
  count = get_or ws count_at 0;
  next = get_or ws next_at 0;
  exceeded = flag_of (get_or ws exceeded_at 0);
}

unfoldable pub cache_in : List ℕ → Cache
cache_in ws = cache_with (get_or ws row_count_at 0) ws

-- The words past the layout's end.
unfoldable pub rest_in : List ℕ → List ℕ
rest_in ws = drop (layout_words (get_or ws row_count_at 0)) ws

-- ---- orders

-- Three words each.
unfoldable pub order_words : List Order → List ℕ
order_words [] = []
order_words (o ∷ orders) = kind_word o.kind ∷ o.address ∷ o.size ∷ order_words orders

-- The words lent for orders with orders in them; the words past the last order stay.
unfoldable pub written : List Order → List ℕ → List ℕ
written orders ws = order_words orders ++ drop (length orders * 3) ws
