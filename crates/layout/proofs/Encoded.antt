-- Each step of a change leads from one cache's words to another's.
use Prim.Native.Nat.{ℕ, ◌+◌, ◌<◌, ◌≤◌}
use mathlib.Core.Bool.{Bool, true, false}
use mathlib.Core.List.{List, [], ◌∷◌, ◌++◌, map}
use Rattle.std.specs.Prelude.{None, Some}
use mathlib.Core.Path.{◌≡◌, refl, sym, ap, ap₂, ◌∙◌}
use native.Mathlib.Omega.{arith}
use lib.ListN.{length, get_or, set, length-map, length-set}
use borrow.Author.Tests.{eq-eqb}
use Rattle.settings.specs.declared.Settings.{Settings}
use Rattle.settings_words.specs.Words.{flag_word, settings_words}
use Rattle.settings_words.proofs.Flat.{words_length}
use Rattle.words.specs.Runs.{removed, inserted}
use Rattle.rules.specs.declared.entry.Entry.{Entry}
use Rattle.rules.specs.Types.{Row}
use Rattle.rules.specs.Addresses.{elem, strike, twice}
use Rattle.rules.specs.Allowed.{Distinct}
use Rattle.rules.specs.Cache.{Cache, with_rows, with_settings, with_maximum, with_counters, with_count, with_next, with_exceeded, amend_at}
use Rattle.rules.specs.Rows.{get, passes, amend, remove, place, has_free}
use Rattle.rules.proofs.Found.{length_amend, length_remove, length_place}
use Rattle.rules.proofs.Lists.{elem_strike}
use Rattle.rules.proofs.Rising.{rising_once}
use Rattle.layout.specs.Layout.{settings_at, width, row_at, recency_at, addresses_at}
use Rattle.layout.specs.Leaves.{over, put_row, run_cut, run_put, put_settings}
use Rattle.layout.specs.Picture.{row_number, addresses, row_words, first_words, head_words, encode}
use Rattle.layout.specs.Places.{lowest_free, place_of}
use Rattle.layout.proofs.Cuts.{cut, ins, cut_run, put_run, map_cut, map_ins, map_end, map_absent, map_same, cut_strike, insert_ins, place_low}
use Rattle.layout.proofs.Numbers.{stands, elem_addresses, rising_addresses, addresses_remove, addresses_place, used_most}
use Rattle.layout.proofs.Parts.{over_seam, row_put, row_word, word_put, over_recency, recency_end, over_addresses}
use Rattle.layout.proofs.Rows.{amend_row, remove_row, place_row, lowest_low, number_remove, number_place, number_new, number_amend, addresses_amend}
use Rattle.layout.proofs.Seams.{laid, length_head}

module _ (c : Cache) (rest : List ℕ) where
  -- the row number of each address of a list
  abbrev numbers : List ℕ → List ℕ
  numbers l = map (row_number c.rows) l

  same_length : (l : List ℕ) → length (numbers l) ≡ length l
  same_length l = length-map l (row_number c.rows)

  -- words laid out for other rows and lists are another cache's
  laid_encode : {l m : List ℕ} (rows : List Row) (k : List ℕ) → length rows ≡ length c.rows → l ≡ map (row_number rows) k
      → m ≡ map (row_number rows) (addresses rows) → laid (head_words c) rows l m rest ≡ encode (with_rows rows k c) rest
  unfolding encode
  laid_encode rows k e p q =
      rw (p, q)
      (ap (λ (n : ℕ). laid (first_words n c ++ settings_words c.settings) rows
      (map (row_number rows) k) (map (row_number rows) (addresses rows)) rest) (sym e))

  -- a word of a row
  pub encode_word : (i k : ℕ) → i < length c.rows → k < width → get_or (encode c rest) (row_at i + k) 0 ≡ get_or (row_words (get_or c.rows i None)) k 0
  unfolding encode
  encode_word i k l q = row_word (head_words c) c.rows (length_head c) _ _ rest i l k q

  -- ---- an entry changed in its row

  module _ (a : ℕ) (f : Entry → Entry) (keeps : (e : Entry) → (f e).address ≡ e.address) where
    amended : laid (head_words c) (amend a f c.rows) (numbers c.recency) (numbers (addresses c.rows)) rest ≡ encode (amend_at a f c) rest
    amended =
        let same : (b : ℕ) → row_number c.rows b ≡ row_number (amend a f c.rows) b = λ b. sym (number_amend a f keeps c.rows b) in
        laid_encode (amend a f c.rows) c.recency (length_amend a f c.rows) (map_same _ _ c.recency same)
        (map_same _ _ (addresses c.rows) same ∙ ap (map (row_number (amend a f c.rows))) (sym (addresses_amend a f keeps c.rows)))

    module _ (e : Entry) (d : Distinct c.rows) (g : get c.rows a ≡ Some e) where
      pub amend_encode : put_row (row_number c.rows a) (Some (f e)) (encode c rest) ≡ encode (amend_at a f c) rest
      unfolding encode
      amend_encode =
          let s = stands c.rows a e g in
          row_put (head_words c) c.rows (length_head c) _ _ rest (row_number c.rows a) s.low (Some (f e))
          ∙ ap (λ (rows : List Row). laid (head_words c) rows (numbers c.recency) (numbers (addresses c.rows)) rest)
          (sym (ap (λ (x : ℕ). amend x f c.rows) (sym s.address) ∙ amend_row f c.rows (row_number c.rows a) e d s.row))
          ∙ amended

  -- one word of a used row written
  pub word_encode : (i k v : ℕ) (f : Entry → Entry) → ((x : Entry) → (f x).address ≡ x.address) → (e : Entry) → Distinct c.rows → i < length c.rows → k < width
      → get_or c.rows i None ≡ Some e → set (row_words (Some e)) k v ≡ row_words (Some (f e)) → set (encode c rest) (row_at i + k) v ≡ encode (amend_at e.address f c) rest
  unfolding encode
  word_encode i k v f keeps e d low q u w =
      word_put (head_words c) c.rows (length_head c) _ _ rest i low e (f e) k v q u w
      ∙ ap (λ (rows : List Row). laid (head_words c) rows (numbers c.recency) (numbers (addresses c.rows)) rest)
      (sym (amend_row f c.rows i e d u))
      ∙ amended e.address f keeps

  -- ---- off the list, and on it: no more is asked of the cache than that its list is no longer than its rows

  pub off_encode : (pos : ℕ) → length c.recency ≤ length c.rows → twice c.recency ≡ false → pos < length c.recency
      → run_cut (recency_at (length c.rows)) (length c.rows) pos (encode c rest) ≡ encode (with_rows c.rows (strike (get_or c.recency pos 0) c.recency) c) rest
  unfolding encode run_cut
  off_encode pos k t h =
      let n = same_length c.recency in
      over_recency (head_words c) c.rows (length_head c) _ _ rest (omega arith) (removed pos) (cut pos (numbers c.recency)) (cut_run _ pos _ (omega arith) (omega arith))
      ∙ ap (λ (l : List ℕ). laid (head_words c) c.rows l (numbers (addresses c.rows)) rest)
      (sym (map_cut (row_number c.rows) pos c.recency) ∙ ap numbers (sym (cut_strike pos c.recency t h)))

  pub on_encode : (a : ℕ) → length c.recency < length c.rows
      → set (encode c rest) (recency_at (length c.rows) + length c.recency) (row_number c.rows a) ≡ encode (with_rows c.rows (c.recency ++ a ∷ []) c) rest
  unfolding encode
  on_encode a k =
      let n = same_length c.recency in
      ap (λ (i : ℕ). set (encode c rest) (recency_at (length c.rows) + i) (row_number c.rows a)) (sym n)
      ∙ recency_end (head_words c) c.rows (length_head c) (numbers c.recency) _ rest (omega arith) (row_number c.rows a) (omega arith)
      ∙ ap (λ (l : List ℕ). laid (head_words c) c.rows l (numbers (addresses c.rows)) rest) (sym (map_end (row_number c.rows) c.recency a))

  -- ---- an entry that is in no list goes: its place among the addresses, and its row

  module _ (a : ℕ) (e : Entry) (d : Distinct c.rows) (g : get c.rows a ≡ Some e) (unlisted : elem a c.recency ≡ false) (short : length c.recency ≤ length c.rows) where
    pub remove_encode : (at : ℕ) → at < length (addresses c.rows) → get_or (addresses c.rows) at 0 ≡ a
        → put_row (row_number c.rows a) None (run_cut (addresses_at (length c.rows)) (length c.rows) at (encode c rest)) ≡ encode (with_rows (remove a c.rows) c.recency c) rest
    unfolding encode run_cut
    remove_encode at h q =
        let n = same_length c.recency in
        let m = same_length (addresses c.rows) in
        let u = used_most c.rows in
        let s = stands c.rows a e g in
        let r = row_number c.rows a in
        ap (put_row r None)
        (over_addresses (head_words c) c.rows (length_head c) _ _ rest (omega arith) (omega arith) (removed at) (cut at (numbers (addresses c.rows))) (cut_run _ at _ (omega arith) (omega arith)))
        ∙ row_put (head_words c) c.rows (length_head c) _ _ rest r s.low None
        ∙ ap (λ (rows : List Row). laid (head_words c) rows (numbers c.recency) (cut at (numbers (addresses c.rows))) rest)
        (sym (ap (λ (x : ℕ). remove x c.rows) (sym s.address) ∙ remove_row c.rows r e d s.row))
        ∙ laid_encode (remove a c.rows) c.recency (length_remove a c.rows) (others c.recency unlisted) (less at h q)
      where
        others : (l : List ℕ) → elem a l ≡ false → numbers l ≡ map (row_number (remove a c.rows)) l
        others l k = map_absent (row_number c.rows) (row_number (remove a c.rows)) a l k (λ b i. sym (number_remove a b c.rows i))

        less : (at : ℕ) → at < length (addresses c.rows) → get_or (addresses c.rows) at 0 ≡ a
            → cut at (numbers (addresses c.rows)) ≡ map (row_number (remove a c.rows)) (addresses (remove a c.rows))
        less at h q =
            sym (map_cut (row_number c.rows) at (addresses c.rows))
            ∙ ap numbers (sym (cut_strike at (addresses c.rows) (rising_once _ (rising_addresses c.rows d)) h) ∙ ap (λ (x : ℕ). strike x (addresses c.rows)) q)
            ∙ others (strike a (addresses c.rows)) (elem_strike a a (addresses c.rows) ∙ rw (eq-eqb a a refl))
            ∙ ap (map (row_number (remove a c.rows))) (sym (addresses_remove a c.rows d))

  -- ---- an entry comes into the lowest free row, and to its place among the addresses

  module _ (e : Entry) (d : Distinct c.rows) (h : has_free c.rows ≡ true) (n : get c.rows e.address ≡ None)
      (unlisted : elem e.address c.recency ≡ false) (short : length c.recency ≤ length c.rows) (free : length (addresses c.rows) < length c.rows) where
    pub place_encode : run_put (addresses_at (length c.rows)) (length c.rows) (place_of e.address (addresses c.rows)) (lowest_free c.rows)
        (put_row (lowest_free c.rows) (Some e) (encode c rest)) ≡ encode (with_rows (place e c.rows) c.recency c) rest
    unfolding encode run_put
    place_encode =
        let i = same_length c.recency in
        let m = same_length (addresses c.rows) in
        let r = lowest_free c.rows in
        let at = place_of e.address (addresses c.rows) in
        let low = place_low e.address (addresses c.rows) in
        let rows : List Row = set c.rows r (Some e) in
        let s = length-set c.rows r (Some e) in
        ap (over (addresses_at (length c.rows)) (length c.rows) (inserted at r)) (row_put (head_words c) c.rows (length_head c) _ _ rest r (lowest_low c.rows h) (Some e))
        ∙ ap (λ (k : ℕ). over (addresses_at k) k (inserted at r) (laid (head_words c) rows (numbers c.recency) (numbers (addresses c.rows)) rest)) (sym s)
        ∙ over_addresses (head_words c) rows (length_head c) _ _ rest (omega arith) (omega arith) (inserted at r) (ins at r (numbers (addresses c.rows))) (put_run _ at r _ (omega arith) (omega arith))
        ∙ ap (λ (x : List Row). laid (head_words c) x (numbers c.recency) (ins at r (numbers (addresses c.rows))) rest) (sym (place_row e c.rows))
        ∙ laid_encode (place e c.rows) c.recency (length_place e c.rows) (others c.recency unlisted) more
      where
        others : (l : List ℕ) → elem e.address l ≡ false → numbers l ≡ map (row_number (place e c.rows)) l
        others l k = map_absent (row_number c.rows) (row_number (place e c.rows)) e.address l k (λ b q. sym (number_place e b c.rows q))

        more : ins (place_of e.address (addresses c.rows)) (lowest_free c.rows) (numbers (addresses c.rows)) ≡ map (row_number (place e c.rows)) (addresses (place e c.rows))
        more =
            ap₂ (λ (v : ℕ) (l : List ℕ). ins (place_of e.address (addresses c.rows)) v l) (sym (number_new e c.rows h n))
            (others (addresses c.rows) (elem_addresses c.rows e.address ∙ ap (passes (λ x. true)) n))
            ∙ sym (map_ins (row_number (place e c.rows)) (place_of e.address (addresses c.rows)) e.address (addresses c.rows))
            ∙ ap (map (row_number (place e c.rows))) (sym (insert_ins e.address (addresses c.rows)) ∙ sym (addresses_place e c.rows h n))

  -- ---- the header

  pub maximum_encode : (v : ℕ) → set (encode c rest) 4 v ≡ encode (with_maximum v c) rest
  unfolding encode
  maximum_encode v = refl

  pub counters_encode : (n h : ℕ) → set (set (encode c rest) 5 n) 6 h ≡ encode (with_counters n h c) rest
  unfolding encode
  counters_encode n h = refl

  pub count_encode : (v : ℕ) → set (encode c rest) 7 v ≡ encode (with_count v c) rest
  unfolding encode
  count_encode v = refl

  pub next_encode : (v : ℕ) → set (encode c rest) 8 v ≡ encode (with_next v c) rest
  unfolding encode
  next_encode v = refl

  pub exceeded_encode : (b : Bool) → set (encode c rest) 9 (flag_word b) ≡ encode (with_exceeded b c) rest
  unfolding encode
  exceeded_encode b = refl

  pub settings_encode : (s : Settings) → put_settings s (encode c rest) ≡ encode (with_settings s c) rest
  unfolding encode put_settings
  settings_encode s =
      over_seam (λ old. settings_words s) (first_words (length c.rows) c) (settings_words c.settings) _ settings_at 21 refl (words_length c.settings)
