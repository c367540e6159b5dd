-- Words that fit are those of the cache read from them, which is allowed; and the words of an allowed cache fit.
use Rattle.std.specs.Prelude.{None}
use Prim.Native.Nat.{ℕ, zero, suc, ◌+◌, ◌*◌, ◌-◌, ◌≤◌, ◌<◌}
use mathlib.Core.Path.{◌≡◌, refl, sym, ap, ap₂, subst, ◌∙◌}
use mathlib.Core.Bool.{true, false}
use mathlib.Core.Logic.{dite}
use mathlib.Core.List.{List, ◌∷◌, ◌++◌}
use native.Mathlib.Omega.{arith}
use native.Mathlib.Decide.{dec_lt}
use native.Mathlib.Nat.{zero-add}
use lib.ListN.{length, get_or, take, drop, length-drop, take-append-drop, get_or-eq_default}
use lib.Seq.{drop-drop, length-take-le}
use Rattle.settings.specs.Validation.{first_bad}
use Rattle.settings_words.specs.Picture.{settings_of}
use Rattle.settings_words.specs.Words.{flag_word, flag_of, settings_words}
use Rattle.settings_words.proofs.PictureLaws as settings
use Rattle.rules.specs.Types.{Row}
use Rattle.rules.specs.Addresses.{elem}
use Rattle.rules.specs.Allowed.{Allowed}
use Rattle.rules.specs.Entries.{is_listed}
use Rattle.layout.specs.Layout.{exceeded_at, settings_at, header_words, width, row_at, recency_at, addresses_at, layout_words, mode_word, mode_of}
use Rattle.layout.specs.Picture.{address_at, rows_words, run, head_words, encode, address_of, entry_of, row_of, rows_of, run_of, cache_with, cache_in, rest_in}
use Rattle.layout.proofs.ReadBack.{RowAllowed}
use Rattle.judge.specs.Fits.{RunFits, PartsFit, TableFits, numbers, words_at}
use Rattle.judge.proofs.RowWords.{test_row, firsts, take_firsts, flag_forth, row_used, row_listed, row_allowed, row_address, row_forth, length_rows_of, get_d_rows_of, rows_forth}
use Rattle.judge.proofs.RunWords.{numbers_front}
use Rattle.judge.proofs.Numbered.{Numbered, distinct_of, listed_of, once_of, recency_back, order_back, entries_of, none_past}

-- ---- the parts of words that fit

module _ (ws : List ℕ) (n : ℕ) (long : layout_words n ≤ length ws)
    (f : PartsFit ws (take n (drop (recency_at n) ws)) (take n (drop (addresses_at n) ws)) n) where
  abbrev rows : List Row
  rows = rows_of n 0 ws

  abbrev recency : List ℕ
  recency = run_of n (drop (recency_at n) ws)

  abbrev order : List ℕ
  order = run_of n (drop (addresses_at n) ws)

  recency_long : n ≤ length (drop (recency_at n) ws)
  recency_long = omega (arith, length-drop (recency_at n) ws)

  order_long : n ≤ length (drop (addresses_at n) ws)
  order_long = omega (arith, length-drop (addresses_at n) ws)

  recency_numbers : numbers (take n (drop (recency_at n) ws)) ≡ recency
  recency_numbers = numbers_front n (drop (recency_at n) ws) recency_long

  order_numbers : numbers (take n (drop (addresses_at n) ws)) ≡ order
  order_numbers = numbers_front n (drop (addresses_at n) ws) order_long

  recency_below : (i : ℕ) → i < length recency → get_or recency i 0 < n
  recency_below = rw recency_numbers at f.recency_run.below

  order_below : (i : ℕ) → i < length order → get_or order i 0 < n
  order_below = rw order_numbers at f.order_run.below

  -- what holds of each row, by its words
  by_row : (P : ℕ → Row → Type 0) → ((r : ℕ) → r < n → P r (get_or rows r None)) → ((r : ℕ) → n ≤ r → P r None) → (r : ℕ) → P r (get_or rows r None)
  by_row P g d r =
      dite (dec_lt r n) (λ (h : r < n). g r h)
      (λ (h : r < n → ⊥). subst (P r) (sym (get_or-eq_default rows None {n = r} (omega (arith, length_rows_of n 0 ws)))) (d r (omega arith)))

  row_is : (r : ℕ) → r < n → get_or rows r None ≡ row_of (entry_of ws r)
  row_is r h = get_d_rows_of n 0 ws r h ∙ ap (λ (k : ℕ). row_of (entry_of ws k)) (zero-add r)

  address_is : (i : ℕ) → i < length order → address_at rows (get_or order i 0) ≡ get_or ws (row_at (get_or order i 0)) 0
  unfolding entry_of
  address_is i h = ap address_of (row_is (get_or order i 0) (order_below i h)) ∙ row_address (f.rows (get_or order i 0) (order_below i h))

  pub numbered_words : Numbered rows recency order
  unfolding entry_of
  numbered_words = record {
    allowed = by_row (λ r x. RowAllowed x) (λ r h. subst RowAllowed (sym (row_is r h)) (row_allowed (f.rows r h) (f.not_ones r h))) (λ r h. tt);
    listed =
        by_row (λ r x. elem r recency ≡ test_row is_listed x)
        (λ r h. ap (elem r) (sym recency_numbers) ∙ sym (ap (test_row is_listed) (row_is r h) ∙ row_listed (f.rows r h)))
        (λ r h. none_past n recency recency_below r h);
    once = rw recency_numbers at f.recency_run.once;
    used =
        by_row (λ r x. elem r order ≡ test_row (λ e. true) x)
        (λ r h. ap (elem r) (sym order_numbers) ∙ f.in_order r h ∙ sym (ap (test_row (λ e. true)) (row_is r h) ∙ row_used (words_at ws r)))
        (λ r h. none_past n order order_below r h);
    rises = λ i h. let g = rw order_numbers at f.rises in omega (arith, address_is i (omega arith), address_is (i + 1) h, g i h);
  }

  -- the words of a run
  run_is : (at : ℕ) → at + n ≤ length ws → RunFits (take n (drop at ws)) n → drop at ws ≡ run n (run_of n (drop at ws)) ++ drop (at + n) ws
  run_is at h g =
      let k : n ≤ length (drop at ws) = omega (arith, length-drop at ws) in
      let l : length (take n (drop at ws)) ≡ n = length-take-le n (drop at ws) k in
      let e : take n (drop at ws) ≡ run n (run_of n (drop at ws)) = g.words ∙ ap₂ (λ (m : ℕ) (x : List ℕ). run m x) l (numbers_front n (drop at ws) k) in
      sym (take-append-drop n (drop at ws)) ∙ ap₂ (λ (x y : List ℕ). x ++ y) e (drop-drop n at ws)

  pub body : drop header_words ws ≡ rows_words rows ++ (run n recency ++ (run n order ++ drop (layout_words n) ws))
  unfolding entry_of
  body =
      sym (take-append-drop (n * width) (drop header_words ws))
      ∙ ap₂ (λ (x y : List ℕ). x ++ y)
      (rows_forth n 0 ws (omega arith) (λ r a b. row_forth (f.rows r (omega arith))))
      (drop-drop (n * width) header_words ws
      ∙ run_is (recency_at n) (omega arith) f.recency_run
      ∙ ap (λ (x : List ℕ). run n recency ++ x) (run_is (addresses_at n) (omega arith) f.order_run))

-- ---- the header of words that fit

mode_forth : (m : ℕ) → m ≤ 2 → mode_word (mode_of m) ≡ m
mode_forth zero h = refl
mode_forth (suc zero) h = refl
mode_forth (suc (suc zero)) h = refl
mode_forth (suc (suc (suc m))) h = absurd (omega arith)

module _ (ws : List ℕ) (t : TableFits ws) where
  abbrev count : ℕ
  count = get_or ws 1 0

  parts : PartsFit ws (take count (drop (recency_at count) ws)) (take count (drop (addresses_at count) ws)) count
  parts =
      let a : addresses_at count - recency_at count ≡ count = omega arith in
      let b : layout_words count - addresses_at count ≡ count = omega arith in
      rw (a, b) at t.parts

  lists : Numbered (rows_of count 0 ws) (run_of count (drop (recency_at count) ws)) (run_of count (drop (addresses_at count) ws))
  lists = numbered_words ws count t.long parts

  passed : (first_bad (settings_of (drop settings_at ws)) false ≡ 0) × (drop settings_at ws ≡ settings_words (settings_of (drop settings_at ws)) ++ drop 21 (drop settings_at ws))
  passed = settings.sound (drop settings_at ws) t.settings.picture

  head_is : ws ≡ head_words (cache_with count ws) ++ drop header_words ws
  head_is =
      let w : take settings_at ws ≡ firsts settings_at 0 0 ws = take_firsts settings_at 0 0 ws (let h = t.whole in omega arith) in
      let l : count ≡ length (rows_of count 0 ws) = sym (length_rows_of count 0 ws) in
      let m : get_or ws 2 0 ≡ mode_word (mode_of (get_or ws 2 0)) = sym (mode_forth (get_or ws 2 0) t.opening.mode) in
      let f : get_or ws exceeded_at 0 ≡ flag_word (flag_of (get_or ws exceeded_at 0)) = sym (flag_forth (get_or ws exceeded_at 0) t.settings.figures.exceeded) in
      let s : drop settings_at ws ≡ settings_words (settings_of (drop settings_at ws)) ++ drop header_words ws =
      passed.1 ∙ ap (λ (x : List ℕ). settings_words (settings_of (drop settings_at ws)) ++ x) (drop-drop 21 settings_at ws) in
      sym (take-append-drop settings_at ws)
      ∙ ap (λ (x : List ℕ). x ++ drop settings_at ws) w
      ∙ (λ j. t.opening.version j ∷ l j ∷ m j ∷ get_or ws 3 0 ∷ get_or ws 4 0 ∷ get_or ws 5 0 ∷ get_or ws 6 0 ∷ get_or ws 7 0 ∷ get_or ws 8 0 ∷ f j ∷ s j)

  -- the words are those of the cache read from them
  pub words_are : ws ≡ encode (cache_in ws) (rest_in ws)
  unfolding encode cache_in rest_in
  words_are =
      let l : count ≡ length (rows_of count 0 ws) = sym (length_rows_of count 0 ws) in
      head_is
      ∙ ap (λ (x : List ℕ). head_words (cache_with count ws) ++ x) (body ws count t.long parts)
      ∙ (λ j. head_words (cache_with count ws)
      ++ (rows_words (rows_of count 0 ws)
      ++ (run (l j) (sym (recency_back lists) j) ++ (run (l j) (sym (order_back lists) j) ++ drop (layout_words count) ws))))

  -- which is allowed
  pub words_allowed : Allowed (cache_in ws)
  unfolding cache_in settings_of
  words_allowed =
      let l : length (rows_of count 0 ws) ≡ count = length_rows_of count 0 ws in
      let o = t.opening in
      let g = t.settings.figures in
      record {
        some_rows = omega arith;
        rows = omega arith;
        entries = entries_of lists;
        sound = record { distinct = distinct_of lists; listed = listed_of lists; once = once_of lists };
        some_bytes = o.some_bytes;
        threshold = o.threshold;
        settings = passed.0;
        least = g.least;
        most = g.most;
        accesses = g.accesses;
        hits = g.hits;
        count = g.count;
      }
