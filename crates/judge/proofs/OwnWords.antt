-- The words of an allowed cache fit.
use Rattle.std.specs.Prelude.{None}
use Prim.Native.Nat.{ℕ, ◌+◌, ◌-◌, ◌≤◌, ◌<◌}
use mathlib.Core.Path.{◌≡◌, refl, sym, ap, ◌∙◌}
use mathlib.Core.Bool.{true}
use mathlib.Core.List.{List, map}
use native.Mathlib.Omega.{arith}
use native.Mathlib.Nat.{add-zero}
use lib.ListN.{length, get_or, length-map}
use lib.Seq.{take_at}
use Rattle.settings_words.specs.Words.{flag_of, settings_words}
use Rattle.settings_words.specs.FloatsFit.{FloatsFit}
use Rattle.settings_words.proofs.PictureLaws as settings
use Rattle.rules.specs.Types.{Row}
use Rattle.settings.specs.declared.Mode.{Mode}
use Rattle.settings.specs.declared.Mode.TheVariants.{Alone, Lead, Standby}
use Rattle.rules.specs.Addresses.{elem}
use Rattle.rules.specs.Allowed.{Allowed}
use Rattle.rules.specs.Cache.{Cache}
use Rattle.rules.specs.Entries.{is_listed}
use Rattle.layout.specs.Layout.{row_at, recency_at, addresses_at, layout_words, mode_word}
use Rattle.layout.specs.Picture.{row_number, address_at, addresses, run, head_words, encode}
use Rattle.layout.proofs.Numbers.{listed_most, used_most}
use Rattle.layout.proofs.Parts.{row_word}
use Rattle.layout.proofs.Seams.{length_head, length_run, drop_recency, drop_addresses, length_laid}
use Rattle.judge.specs.declared.row.RowWords.{RowWords}
use Rattle.judge.specs.Fits.{RowFits, PartsFit, TableFits, numbers, part, words_at, used_at}
use Rattle.judge.proofs.RowWords.{flag_low, test_row, words_of, own_fits, own_used, own_address, own_not_ones}
use Rattle.judge.proofs.RunWords.{own_numbers, own_run}
use Rattle.judge.proofs.Numbered.{Numbered, numbered_of, number_below, rising_once}

mode_low : (m : Mode) → mode_word m ≤ 2
mode_low Alone = omega arith
mode_low Lead = omega arith
mode_low Standby = omega arith

module _ (c : Cache) (ok : Allowed c) (rest : List ℕ) where
  abbrev n : ℕ
  n = length c.rows

  abbrev recency : List ℕ
  recency = map (row_number c.rows) c.recency

  abbrev order : List ℕ
  order = map (row_number c.rows) (addresses c.rows)

  abbrev ws : List ℕ
  ws = encode c rest

  lists : Numbered c.rows recency order
  lists = numbered_of c ok.sound ok.entries

  recency_few : length recency ≤ n
  recency_few = omega (arith, length-map c.recency (row_number c.rows), listed_most c ok.sound)

  order_few : length order ≤ n
  order_few = omega (arith, length-map (addresses c.rows) (row_number c.rows), used_most c.rows)

  -- ---- the two runs

  recency_part : part (recency_at n) (addresses_at n) ws ≡ run n recency
  unfolding encode
  recency_part =
      let e : addresses_at n - recency_at n ≡ n = omega arith in
      rw (e, drop_recency (head_words c) c.rows (length_head c) recency order rest) (take_at (run n recency) _ n (length_run n recency recency_few))

  order_part : part (addresses_at n) (layout_words n) ws ≡ run n order
  unfolding encode
  order_part =
      let e : layout_words n - addresses_at n ≡ n = omega arith in
      rw (e, drop_addresses (head_words c) c.rows (length_head c) recency order rest recency_few) (take_at (run n order) _ n (length_run n order order_few))

  recency_below : (i : ℕ) → i < length recency → get_or recency i 0 < n
  recency_below = number_below c.rows is_listed recency lists.listed

  order_below : (i : ℕ) → i < length order → get_or order i 0 < n
  order_below = number_below c.rows (λ e. true) order lists.used

  recency_numbers : numbers (run n recency) ≡ recency
  recency_numbers = own_numbers n n recency recency_few ok.rows recency_below

  order_numbers : numbers (run n order) ≡ order
  order_numbers = own_numbers n n order order_few ok.rows order_below

  -- ---- the rows

  abbrev row : ℕ → Row
  row r = get_or c.rows r None

  words_is : (r : ℕ) → r < n → words_at ws r ≡ words_of (row r)
  unfolding encode
  words_is r h =
      let w = row_word (head_words c) c.rows (length_head c) recency order rest r h in
      let a : get_or ws (row_at r) 0 ≡ (words_of (row r)).address = rw (add-zero (row_at r)) at (w 0 (omega arith)) in
      λ j. record {
        address = a j;
        size = w 1 (omega arith) j;
        dirty = w 2 (omega arith) j;
        idle = w 3 (omega arith) j;
        pinned = w 4 (omega arith) j;
        hold = w 5 (omega arith) j;
      }

  rows_fit : (r : ℕ) → r < n → RowFits (words_at ws r) (elem r recency)
  rows_fit r h = rw (words_is r h, lists.listed r) (own_fits (row r) (lists.allowed r))

  used_is : (r : ℕ) → r < n → used_at ws r ≡ test_row (λ e. true) (row r)
  used_is r h = ap (λ (w : RowWords). flag_of w.size) (words_is r h) ∙ own_used (row r) (lists.allowed r)

  address_is : (i : ℕ) → i < length order → (words_at ws (get_or order i 0)).address ≡ address_at c.rows (get_or order i 0)
  address_is i h = ap (λ (w : RowWords). w.address) (words_is (get_or order i 0) (order_below i h)) ∙ own_address (row (get_or order i 0))

  own_parts : PartsFit ws (run n recency) (run n order) n
  own_parts = record {
    recency_run = own_run n n recency recency_few ok.rows recency_below lists.once;
    order_run = own_run n n order order_few ok.rows order_below (rising_once (address_at c.rows) order lists.rises);
    rows = rw recency_numbers rows_fit;
    not_ones = λ r h q. own_not_ones (row r) (lists.allowed r) (ap (λ (w : RowWords). w.address) (sym (words_is r h)) ∙ q);
    in_order = λ r h. ap (elem r) order_numbers ∙ lists.used r ∙ sym (used_is r h);
    rises = rw order_numbers (λ i h. omega (arith, address_is i (omega arith), address_is (i + 1) h, lists.rises i h));
  }

  -- ---- the whole table

  pub own_length : length ws ≡ layout_words n + length rest
  unfolding encode
  own_length = length_laid (head_words c) c.rows (length_head c) recency order rest recency_few order_few

  long : layout_words n ≤ length ws
  long = omega (arith, own_length)

  pub own_words : FloatsFit c.settings → TableFits ws
  unfolding encode settings_words
  own_words floats = record {
    whole = omega (arith, long);
    opening = record {
      version = refl;
      some_rows = ok.some_rows;
      rows = ok.rows;
      mode = mode_low c.mode;
      some_bytes = ok.some_bytes;
      threshold = ok.threshold;
    };
    long = long;
    settings = record {
      picture = settings.complete c.settings _ floats ok.settings;
      figures = record { least = ok.least; most = ok.most; accesses = ok.accesses; hits = ok.hits; exceeded = flag_low c.exceeded; count = ok.count };
    };
    parts = rw (recency_part, order_part) own_parts;
  }
