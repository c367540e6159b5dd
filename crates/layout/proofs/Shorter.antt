-- A word taken out of a run's row numbers is taken out of the whole run: the words past them are all ones.
use Prim.Native.Nat.{ℕ, suc, ◌-◌, ◌<◌, ◌≤◌}
use mathlib.Core.List.{List, ◌++◌, map, append_assoc}
use mathlib.Core.Path.{◌≡◌, refl, sym, ap, ◌∙◌}
use native.Mathlib.Omega.{arith}
use lib.ListN.{length, replicate, length-map}
use lib.Seq.{take-append-le, drop-append-le}
use Rattle.words.specs.Runs.{removed}
use Rattle.rules.specs.Cache.{Cache}
use Rattle.layout.specs.Layout.{ones, recency_at, addresses_at}
use Rattle.layout.specs.Leaves.{run_cut}
use Rattle.layout.specs.Picture.{row_number, addresses, rows_words, run, head_words, encode}
use Rattle.layout.proofs.Cuts.{snoc_ones}
use Rattle.layout.proofs.Numbers.{used_most}
use Rattle.layout.proofs.Parts.{over_seam}
use Rattle.layout.proofs.Seams.{length_head, length_run, length_ahead, at_recency, at_addresses, length_to_addresses}

-- with m words of all ones after the list
removed_before : (pos m : ℕ) (l : List ℕ) → pos < length l → removed pos l ++ replicate m ones ≡ removed pos (l ++ replicate m ones)
unfolding removed
removed_before pos m l h = rw (take-append-le pos l _ (omega arith), drop-append-le (suc pos) l _ h) (simp (append_assoc, snoc_ones))

-- the run of n words at a, after the words A and before the words B
module _ (A B l : List ℕ) (a n pos : ℕ) (p : length A ≡ a) (h : pos < length l) (k : length l ≤ n) where
  shorter_cut : run_cut a (length l) pos (A ++ (run n l ++ B)) ≡ run_cut a n pos (A ++ (run n l ++ B))
  unfolding run_cut run
  shorter_cut =
      ap (λ (x : List ℕ). run_cut a (length l) pos (A ++ x)) (append_assoc l (replicate (n - length l) ones) B)
      ∙ over_seam (removed pos) A l (replicate (n - length l) ones ++ B) a (length l) p refl
      ∙ ap (λ (x : List ℕ). A ++ x) (sym (append_assoc (removed pos l) (replicate (n - length l) ones) B))
      ∙ ap (λ (x : List ℕ). A ++ (x ++ B)) (removed_before pos (n - length l) l h)
      ∙ sym (over_seam (removed pos) A (run n l) B a n p (length_run n l k))

-- ---- the two runs of a table

module _ (c : Cache) (rest : List ℕ) (pos : ℕ) (short : length c.recency ≤ length c.rows) where
  -- the row numbers of a list, and its run
  abbrev numbers : List ℕ → List ℕ
  numbers l = map (row_number c.rows) l

  abbrev run_words : List ℕ → List ℕ
  run_words l = run (length c.rows) (numbers l)

  abbrev ahead : List ℕ
  ahead = head_words c ++ rows_words c.rows

  pub shorter_recency : pos < length c.recency
      → run_cut (recency_at (length c.rows)) (length c.recency) pos (encode c rest) ≡ run_cut (recency_at (length c.rows)) (length c.rows) pos (encode c rest)
  unfolding encode
  shorter_recency h =
      let n = length-map c.recency (row_number c.rows) in
      rw (at_recency (head_words c) c.rows (length_head c), ← n)
      (shorter_cut ahead (run_words (addresses c.rows) ++ rest) (numbers c.recency) _ _ pos (length_ahead (head_words c) c.rows (length_head c)) (omega arith) (omega arith))

  pub shorter_addresses : pos < length (addresses c.rows)
      → run_cut (addresses_at (length c.rows)) (length (addresses c.rows)) pos (encode c rest) ≡ run_cut (addresses_at (length c.rows)) (length c.rows) pos (encode c rest)
  unfolding encode
  shorter_addresses h =
      let i = length-map c.recency (row_number c.rows) in
      let n = length-map (addresses c.rows) (row_number c.rows) in
      let u = used_most c.rows in
      rw (at_addresses (head_words c) c.rows (length_head c), ← n)
      (shorter_cut (ahead ++ run_words c.recency) rest (numbers (addresses c.rows)) _ _ pos
      (length_to_addresses (head_words c) c.rows (length_head c) (numbers c.recency) (numbers (addresses c.rows)) rest (omega arith)) (omega arith) (omega arith))
