-- What a table that holds a cache tells: its words one by one.
use Prim.Native.Nat.{ℕ, zero, suc, ◌+◌, ◌<◌, ◌≤◌}
use mathlib.Core.Bool.{true}
use mathlib.Core.List.{List, [], ◌∷◌, ◌++◌, map}
use Rattle.std.specs.Prelude.{Some, None}
use mathlib.Core.Path.{◌≡◌, sym, ap, subst, ◌∙◌}
use native.Mathlib.Omega.{arith}
use lib.ListN.{length, get_or, take, drop, length-map}
use lib.Seq.{take_at}
use Rattle.settings_words.specs.FloatsFit.{FloatsFit}
use Rattle.rules.specs.declared.entry.Entry.{Entry}
use Rattle.rules.specs.Types.{Row}
use Rattle.rules.specs.Allowed.{Allowed}
use Rattle.rules.specs.Cache.{Cache}
use Rattle.rules.specs.Entries.{is_listed}
use Rattle.rules.specs.Rows.{get, is_here}
use Rattle.layout.specs.Holds.{Steady, Holds, Good}
use Rattle.layout.specs.Layout.{ones, width, row_at, recency_at, addresses_at}
use Rattle.layout.specs.Picture.{row_number, addresses, row_words, run, run_of, head_words, encode, entry_of, cache_in, rest_in}
use Rattle.layout.proofs.Cuts.{get_d_run, map_at, elem_at}
use Rattle.layout.proofs.Encoded.{encode_word}
use Rattle.layout.proofs.Numbers.{stands, here_of, numbers_low, elem_addresses, recency_here, addresses_here, used_most, listed_most}
use Rattle.layout.proofs.Parts.{row_entry, recency_word, address_word}
use Rattle.layout.proofs.ReadBack.{RowAllowed, RowsAllowed, rows_allowed, run_seam, cache_back, rest_back}
use Rattle.layout.proofs.Seams.{length_head, length_laid, length_run, drop_recency, drop_addresses}

-- ---- the words of a steady cache hold it

module _ (c : Cache) (s : Steady c) where
  pub listed_short : length (map (row_number c.rows) c.recency) ≤ length c.rows
  listed_short = omega (arith, length-map c.recency (row_number c.rows), listed_most c s.sound)

  pub used_short : length (map (row_number c.rows) (addresses c.rows)) ≤ length c.rows
  used_short = omega (arith, length-map (addresses c.rows) (row_number c.rows), used_most c.rows)

-- an allowed cache is steady
pub allowed_steady : (c : Cache) → Allowed c → FloatsFit c.settings → Steady c
allowed_steady c k f = record {
  some_rows = k.some_rows;
  rows = k.rows;
  entries = k.entries;
  sound = k.sound;
  settings = k.settings;
  floats = f;
  least = k.least;
  most = k.most;
  count = k.count;
}

pub holds : {ws : List ℕ} {c : Cache} {rest : List ℕ} → ws ≡ encode c rest → Steady c → Holds ws c rest
unfolding encode
holds {ws} {c} {rest} e s = record {
  words = e;
  steady = s;
  listed = listed_most c s.sound;
  used = used_most c.rows;
  long = let l = ap length e ∙ length_laid (head_words c) c.rows (length_head c) _ _ rest (listed_short c s) (used_short c s) in omega arith;
}

module _ {ws : List ℕ} {c : Cache} {rest : List ℕ} (h : Holds ws c rest) where
  pub holds_cache : cache_in ws ≡ c
  holds_cache = ap cache_in h.words ∙ cache_back c rest h.steady.rows h.steady.entries h.steady.sound h.steady.floats

  pub holds_rest : rest_in ws ≡ rest
  holds_rest = ap rest_in h.words ∙ rest_back c rest h.steady.rows h.steady.entries h.steady.sound h.steady.floats

  pub holds_good : Good ws
  holds_good = rw (holds_cache, holds_rest) h

  pub holds_count : get_or ws 1 0 ≡ length c.rows
  unfolding encode
  holds_count = ap (λ (x : List ℕ). get_or x 1 0) h.words

  -- ---- the runs

  -- the words of a run, and the row numbers in it
  pub record RunAt (at : ℕ) (l : List ℕ) : Type 0 where
    pub all : take (length c.rows) (drop at ws) ≡ run (length c.rows) (map (row_number c.rows) l)
    pub own : run_of (length c.rows) (drop at ws) ≡ map (row_number c.rows) l

  run_at : (at : ℕ) (l X : List ℕ) → drop at ws ≡ run (length c.rows) (map (row_number c.rows) l) ++ X → length (map (row_number c.rows) l) ≤ length c.rows
      → (run_of (length c.rows) (run (length c.rows) (map (row_number c.rows) l) ++ X) ≡ map (row_number c.rows) l) → RunAt at l
  run_at at l X e k b = record {
    all = ap (take (length c.rows)) e ∙ take_at (run (length c.rows) (map (row_number c.rows) l)) X (length c.rows) (length_run (length c.rows) _ k);
    own = ap (run_of (length c.rows)) e ∙ b;
  }

  pub run_recency : RunAt (recency_at (length c.rows)) c.recency
  unfolding encode
  run_recency =
      let s = h.steady in
      let few = s.rows in
      run_at (recency_at (length c.rows)) c.recency _
      (ap (drop (recency_at (length c.rows))) h.words ∙ drop_recency (head_words c) c.rows (length_head c) _ _ rest)
      (listed_short c s)
      (run_seam _ _ _ (listed_short c s) (numbers_low c.rows ones c.recency (omega arith) (recency_here c s.sound)))

  pub run_addresses : RunAt (addresses_at (length c.rows)) (addresses c.rows)
  unfolding encode
  run_addresses =
      let s = h.steady in
      let few = s.rows in
      run_at (addresses_at (length c.rows)) (addresses c.rows) _
      (ap (drop (addresses_at (length c.rows))) h.words ∙ drop_addresses (head_words c) c.rows (length_head c) _ _ rest (listed_short c s))
      (used_short c s)
      (run_seam _ _ _ (used_short c s) (numbers_low c.rows ones (addresses c.rows) (omega arith) (addresses_here c s.sound)))

  pub holds_recency : (pos : ℕ) → pos < length c.recency → get_or ws (recency_at (length c.rows) + pos) 0 ≡ row_number c.rows (get_or c.recency pos 0)
  unfolding encode
  holds_recency pos l =
      let k = h.listed in
      ap (λ (x : List ℕ). get_or x (recency_at (length c.rows) + pos) 0) h.words
      ∙ recency_word (head_words c) c.rows (length_head c) _ _ rest (listed_short c h.steady) pos (omega arith)
      ∙ get_d_run _ pos _ (let e = length-map c.recency (row_number c.rows) in omega arith)
      ∙ map_at (row_number c.rows) pos c.recency l

  pub holds_address : (pos : ℕ) → pos < length (addresses c.rows) → get_or ws (addresses_at (length c.rows) + pos) 0 ≡ row_number c.rows (get_or (addresses c.rows) pos 0)
  unfolding encode
  holds_address pos l =
      let k = h.used in
      ap (λ (x : List ℕ). get_or x (addresses_at (length c.rows) + pos) 0) h.words
      ∙ address_word (head_words c) c.rows (length_head c) _ _ rest (listed_short c h.steady) (used_short c h.steady) pos (omega arith)
      ∙ get_d_run _ pos _ (let e = length-map (addresses c.rows) (row_number c.rows) in omega arith)
      ∙ map_at (row_number c.rows) pos (addresses c.rows) l

  -- ---- the rows

  pub holds_word : (i k : ℕ) → i < length c.rows → k < width → get_or ws (row_at i + k) 0 ≡ get_or (row_words (get_or c.rows i None)) k 0
  holds_word i k l q = ap (λ (x : List ℕ). get_or x (row_at i + k) 0) h.words ∙ encode_word c rest i k l q

  pub all_allowed : RowsAllowed c.rows
  all_allowed = rows_allowed c.rows h.steady.sound.distinct h.steady.entries

  pub row_allowed : (i : ℕ) → RowAllowed (get_or c.rows i None)
  row_allowed i = go c.rows i all_allowed
    where
      go : (rows : List Row) (i : ℕ) → RowsAllowed rows → RowAllowed (get_or rows i None)
      go [] i f = tt
      go (x ∷ rows) zero f = f.0
      go (x ∷ rows) (suc i) f = go rows i f.1

  pub holds_entry : (a : ℕ) (e : Entry) → get c.rows a ≡ Some e → entry_of ws (row_number c.rows a) ≡ e
  unfolding encode
  holds_entry a e g =
      let s = stands c.rows a e g in
      ap (λ (x : List ℕ). entry_of x (row_number c.rows a)) h.words
      ∙ row_entry (head_words c) c.rows (length_head c) _ _ rest (row_number c.rows a) s.low e s.row (h.steady.entries a e g).hold

  -- ---- addresses that have a row

  pub recency_get : (pos : ℕ) → pos < length c.recency → is_here c.rows (get_or c.recency pos 0) ≡ true
  recency_get pos l = here_of is_listed (get c.rows _) (sym (h.steady.sound.listed (get_or c.recency pos 0)) ∙ elem_at pos c.recency l)

  pub address_get : (pos : ℕ) → pos < length (addresses c.rows) → is_here c.rows (get_or (addresses c.rows) pos 0) ≡ true
  address_get pos l = sym (elem_addresses c.rows (get_or (addresses c.rows) pos 0)) ∙ elem_at pos (addresses c.rows) l

-- ---- a change of the cache that a table holds

pub onward : {vs ws rest : List ℕ} {c : Cache} (f : Cache → Cache) → Holds vs c rest → Holds ws (f (cache_in vs)) (rest_in vs) → Holds ws (f c) rest
onward {vs} {ws} {rest} f h k =
    subst (λ (d : Cache). Holds ws (f d) rest) (holds_cache h) (subst (λ (r : List ℕ). Holds ws (f (cache_in vs)) r) (holds_rest h) k)
