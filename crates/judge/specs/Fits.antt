-- What the words of a table are to be, part by part, for the checks of each part.
use Rattle.std.specs.Prelude.{ℕ, zero, suc, ◌+◌, ◌-◌, ◌≤◌, ◌<◌, ◌≡◌, Bool, true, false, ◌&&◌, List, eqb, length, get_or, take, drop}
use Rattle.settings_words.specs.Picture.{picture}
use Rattle.settings_words.specs.Words.{flag_word, flag_of}
use Rattle.rules.specs.Addresses.{elem, twice}
use Rattle.rules.specs.Limits.{most_rows, most_size, most_idle, most_threshold, count_stop}
use Rattle.layout.specs.Layout.{ones, version, version_at, row_count_at, mode_at, threshold_at, maximum_at, accesses_at, hits_at, count_at, exceeded_at, settings_at, header_words, row_at, recency_at, addresses_at, layout_words}
use Rattle.layout.specs.Picture.{run, run_of}
use Rattle.judge.specs.declared.header.Figures.{Figures}
use Rattle.judge.specs.declared.header.Opening.{Opening}
use Rattle.judge.specs.declared.row.RowWords.{RowWords}

-- r says whether P holds.
pub record Says (r : Bool) (P : Type 0) : Type 0 where
  pub sound : r ≡ true → P
  pub complete : P → r ≡ true

-- ---- the header

-- What is fixed at opening, by the words of a table.
abbrev pub opening_in : List ℕ → Opening
opening_in ws = record {
  version = get_or ws version_at 0;
  rows = get_or ws row_count_at 0;
  mode = get_or ws mode_at 0;
  threshold = get_or ws threshold_at 0;
}

-- Maximum, counters, byte count and whether the maximum was exceeded.
abbrev pub figures_in : List ℕ → Figures
figures_in ws = record {
  maximum = get_or ws maximum_at 0;
  accesses = get_or ws accesses_at 0;
  hits = get_or ws hits_at 0;
  count = get_or ws count_at 0;
  exceeded = get_or ws exceeded_at 0;
}

pub record OpeningFits (o : Opening) : Type 0 where
  pub version : o.version ≡ version
  pub some_rows : 1 ≤ o.rows
  pub rows : o.rows ≤ most_rows
  pub mode : o.mode ≤ 2
  pub some_bytes : 1 ≤ o.threshold
  pub threshold : o.threshold ≤ most_threshold

-- The figures against the settings' largest size, smallest size and epoch length.
pub record FiguresFit (f : Figures) (l s e : ℕ) : Type 0 where
  pub least : s ≤ f.maximum
  pub most : f.maximum ≤ l
  pub accesses : f.accesses < e
  pub hits : f.hits ≤ f.accesses
  pub exceeded : f.exceeded ≤ 1
  pub count : f.count ≤ count_stop

-- The settings' words, and the figures against them.
pub record SettingsFit (ws : List ℕ) (f : Figures) : Type 0 where
  pub picture : picture ws ≡ true
  pub figures : FiguresFit f (get_or ws 4 0) (get_or ws 5 0) (get_or ws 6 0)

-- ---- a row

-- The words of row r.
abbrev pub words_at : List ℕ → ℕ → RowWords
words_at ws r = record {
  address = get_or ws (row_at r) 0;
  size = get_or ws (row_at r + 1) 0;
  dirty = get_or ws (row_at r + 2) 0;
  idle = get_or ws (row_at r + 3) 0;
  pinned = get_or ws (row_at r + 4) 0;
  hold = get_or ws (row_at r + 5) 0;
}

-- All words of a free row are 0, and it is not listed.
pub record FreeFits (w : RowWords) (listed : Bool) : Type 0 where
  pub listing : listed ≡ false
  pub address : w.address ≡ 0
  pub size : w.size ≡ 0
  pub dirty : w.dirty ≡ 0
  pub idle : w.idle ≡ 0
  pub pinned : w.pinned ≡ 0
  pub hold : w.hold ≡ 0

pub record SizeFits (s : ℕ) : Type 0 where
  pub some : s ≡ 0 → ⊥
  pub most : s ≤ most_size

-- The words of an entry but its address. It is listed if it is neither held nor pinned.
pub record EntryFits (w : RowWords) (listed : Bool) : Type 0 where
  pub size : SizeFits w.size
  pub dirty : w.dirty ≤ 1
  pub idle : w.idle ≤ most_idle
  pub pinned : w.pinned ≤ 1
  pub hold : w.hold ≤ 65_536
  pub listing : listed ≡ (eqb w.hold 0 && eqb w.pinned 0)

pub data RowFits (w : RowWords) (listed : Bool) : Type 0 where
  free : FreeFits w listed → RowFits w listed
  entry : EntryFits w listed → RowFits w listed

-- Whether row r is used, and whether it is marked.
abbrev pub used_at : List ℕ → ℕ → Bool
used_at ws r = flag_of (words_at ws r).size

abbrev pub mark_at : List Bool → ℕ → Bool
mark_at listed r = get_or listed r false

-- How many numbers below n pass a test.
unfoldable pub tally : (ℕ → Bool) → ℕ → ℕ
tally test zero = 0
tally test (suc n) = tally test n + flag_word (test n)

-- n rows that fit, the marked ones as listed, of which k are used and l are marked.
pub record CountedRows (ws : List ℕ) (n : ℕ) (listed : List Bool) (k l : ℕ) : Type 0 where
  pub rows : (r : ℕ) → r < n → RowFits (words_at ws r) (mark_at listed r)
  pub used : tally (used_at ws) n ≡ k
  pub marked : tally (mark_at listed) n ≡ l

-- ---- a run

-- k is the place after the last word of a run that is not all ones.
pub record Ends (ws : List ℕ) (k : ℕ) : Type 0 where
  pub within : k ≤ length ws
  pub rest : (i : ℕ) → k ≤ i → i < length ws → get_or ws i 0 ≡ ones
  pub last : 0 < k → get_or ws (k - 1) 0 ≡ ones → ⊥

-- The first k words of a run are numbers of rows, of n.
abbrev pub Below : List ℕ → ℕ → ℕ → Type 0
Below ws k n = (i : ℕ) → i < k → get_or ws i 0 < n

-- The words of a run up to the last that is not all ones.
pub record Named (ws named : List ℕ) : Type 0 where
  pub ends : Ends ws (length named)
  pub front : named ≡ take (length named) ws

-- No row is marked yet.
pub record Unmarked (seen : List Bool) : Type 0 where
  pub size : length seen ≡ most_rows
  pub none : (x : ℕ) → get_or seen x false ≡ false

-- r says whether the words are numbers of rows, of n, and then the rows that they name are marked.
pub record Marked (r : Bool) (named : List ℕ) (n : ℕ) (seen : List Bool) : Type 0 where
  pub says : Says r (Below named (length named) n)
  pub shows : r ≡ true → (x : ℕ) → get_or seen x false ≡ elem x named

-- The first k words of a run lead to rising addresses.
abbrev pub Rises : List ℕ → List ℕ → ℕ → Type 0
Rises ws order k = (i : ℕ) → i + 1 < k → (words_at ws (get_or order i 0)).address < (words_at ws (get_or order (i + 1) 0)).address

-- The words of an address run are numbers of rows, of n, with rising addresses, none of them all ones; the first row is used.
pub record OrderFits (ws order : List ℕ) (n : ℕ) : Type 0 where
  pub below : Below order (length order) n
  pub first : 0 < length order → used_at ws (get_or order 0 0) ≡ true
  pub rises : Rises ws order (length order)
  pub not_ones : (i : ℕ) → i < length order → (words_at ws (get_or order i 0)).address ≡ ones → ⊥

-- ---- the parts together

-- The words of a run before the first that is all ones.
abbrev pub numbers : List ℕ → List ℕ
numbers ws = run_of (length ws) ws

-- A run of different row numbers, of n, then all ones.
pub record RunFits (ws : List ℕ) (n : ℕ) : Type 0 where
  pub words : ws ≡ run (length ws) (numbers ws)
  pub below : Below (numbers ws) (length (numbers ws)) n
  pub once : twice (numbers ws) ≡ false

-- The rows of a table, and its two runs.
pub record PartsFit (ws recency order : List ℕ) (n : ℕ) : Type 0 where
  pub recency_run : RunFits recency n
  pub order_run : RunFits order n
  pub rows : (r : ℕ) → r < n → RowFits (words_at ws r) (elem r (numbers recency))
  pub not_ones : (r : ℕ) → r < n → (words_at ws r).address ≡ ones → ⊥
  pub in_order : (r : ℕ) → r < n → elem r (numbers order) ≡ used_at ws r
  pub rises : Rises ws (numbers order) (length (numbers order))

-- The words of a table from one place to another.
abbrev pub part : ℕ → ℕ → List ℕ → List ℕ
part from to ws = take (to - from) (drop from ws)

-- With n rows.
abbrev pub PartsOf : List ℕ → ℕ → Type 0
PartsOf ws n = PartsFit ws (part (recency_at n) (addresses_at n) ws) (part (addresses_at n) (layout_words n) ws) n

pub record TableFits (ws : List ℕ) : Type 0 where
  pub whole : header_words ≤ length ws
  pub opening : OpeningFits (opening_in ws)
  pub long : layout_words (get_or ws row_count_at 0) ≤ length ws
  pub settings : SettingsFit (drop settings_at ws) (figures_in ws)
  pub parts : PartsOf ws (get_or ws row_count_at 0)
