-- The words of a fresh cache: a head, zeros for the rows, all ones for the runs.
use Rattle.std.specs.Prelude.{None}
use Prim.Native.Nat.{ℕ, zero, suc, ◌+◌, ◌*◌, ◌-◌}
use mathlib.Core.List.{List, [], ◌++◌, append_assoc}
use mathlib.Core.Path.{◌≡◌, refl, sym, ap, ◌∙◌}
use native.Mathlib.Omega.{arith}
use lib.ListN.{length, drop, replicate, length-append, length-replicate, replicate-append-replicate}
use Rattle.settings.specs.declared.Settings.{Settings}
use Rattle.settings_words.specs.Words.{settings_words}
use Rattle.settings_words.proofs.Flat.{words_length}
use Rattle.settings.specs.declared.Mode.{Mode}
use Rattle.rules.specs.Types.{Row}
use Rattle.rules.specs.Cache.{fresh}
use Rattle.layout.specs.Layout.{ones, header_words, width, recency_at, layout_words, settings_at}
use Rattle.layout.specs.Leaves.{put_settings, fill_part}
use Rattle.layout.specs.Picture.{addresses, rows_words, run, first_words, encode}
use Rattle.layout.proofs.Leaves.{over_next}

addresses_free : (n : ℕ) → addresses (replicate n None) ≡ []
unfolding addresses
addresses_free zero = refl
addresses_free (suc n) = addresses_free n

rows_free : (n : ℕ) → rows_words (replicate n None) ≡ replicate (n * width) 0
unfolding rows_words
rows_free zero = refl
rows_free (suc n) =
    let e : suc n * width ≡ width + n * width = omega arith in
    rw (rows_free n, e) (replicate-append-replicate width (n * width) 0)

run_free : (n : ℕ) → run n [] ≡ replicate n ones
unfolding run
run_free n = let e : n - 0 ≡ n = omega arith in rw e

module _ (n : ℕ) (m : Mode) (t : ℕ) (s : Settings) (ws : List ℕ) where
  -- the words before the settings
  abbrev pub first : List ℕ
  first = first_words n (fresh n m t s)

  encode_free : (rest : List ℕ)
      → encode (fresh n m t s) rest ≡ (first ++ settings_words s) ++ (replicate (n * width) 0 ++ (replicate n ones ++ (replicate n ones ++ rest)))
  unfolding encode
  encode_free rest = rw (length-replicate {A = Row} n None, addresses_free n, rows_free n, run_free n)

  pub fresh_words : fill_part (recency_at n) (n + n) ones (fill_part header_words (n * width) 0 (put_settings s (first ++ drop settings_at ws)))
      ≡ encode (fresh n m t s) (drop (layout_words n) ws)
  unfolding put_settings fill_part
  fresh_words =
      let head : List ℕ = first ++ settings_words s in
      let zeros : List ℕ = replicate (n * width) 0 in
      let w = words_length s in
      let z = length-replicate {A = ℕ} (n * width) 0 in
      let l : length head ≡ header_words = omega arith in
      let k : length (head ++ zeros) ≡ recency_at n = length-append head zeros ∙ omega arith in
      let e : recency_at n + (n + n) ≡ layout_words n = omega arith in
      ap (λ (x : List ℕ). fill_part (recency_at n) (n + n) ones (fill_part header_words (n * width) 0 x))
      (over_next first (settings_words s) ws settings_at 21 refl)
      ∙ ap (fill_part (recency_at n) (n + n) ones) (over_next head zeros ws header_words (n * width) l)
      ∙ over_next (head ++ zeros) (replicate (n + n) ones) ws (recency_at n) (n + n) k
      ∙ rw (e, ← replicate-append-replicate n n ones) (grouped head zeros (replicate n ones) (drop (layout_words n) ws))
      ∙ sym (encode_free (drop (layout_words n) ws))
    where
      grouped : (a b o r : List ℕ) → ((a ++ b) ++ (o ++ o)) ++ r ≡ a ++ (b ++ (o ++ (o ++ r)))
      grouped a b o r = simp append_assoc
