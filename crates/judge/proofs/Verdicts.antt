-- The laws of the verdict on words: it is true exactly of the words of allowed caches, and then the table is good.
use Prim.Native.Nat.{ℕ}
use mathlib.Core.Path.{◌≡◌, refl, sym, ap, ◌∙◌}
use mathlib.Core.Bool.{Bool, true}
use mathlib.Core.List.{List, [], ◌∷◌, ◌++◌, append_assoc}
use native.Mathlib.Nat.{add-zero}
use native.Mathlib.Omega.{arith}
use borrow.Author.Tests.{eq-eqb, eqb-true}
use lib.ListN.{length, get_or, take, drop, take-append-drop}
use lib.Seq.{take_at}
use Rattle.settings_words.specs.FloatsFit.{FloatsFit}
use Rattle.settings_words.proofs.PictureLaws as settings
use Rattle.rules.specs.Allowed.{Allowed}
use Rattle.rules.specs.Cache.{Cache}
use Rattle.layout.specs.Layout.{settings_at, layout_words}
use Rattle.layout.specs.Picture.{encode, cache_in, rest_in}
use Rattle.layout.specs.Holds.{Good}
use Rattle.layout.proofs.Held.{allowed_steady}
use Rattle.layout.proofs.Numbers.{listed_most, used_most}
use Rattle.layout.proofs.ReadBack.{cache_back}
use Rattle.judge.specs.Verdict.{same_words, judge_words}
use Rattle.judge.specs.Fits.{Says, TableFits}
use Rattle.judge.proofs.Says.{no}
use Rattle.judge.proofs.Names.{both}
use Rattle.judge.proofs.RowWords.{length_rows_of}
use Rattle.judge.proofs.TableWords.{words_are, words_allowed}
use Rattle.judge.proofs.OwnWords.{own_length, own_words}
use Rattle.judge.proofs.AllowedTests.{left, right, also, allowed_out, allowed_in}

-- ---- words compared

same_out : (xs ys : List ℕ) → same_words xs ys ≡ true → xs ≡ ys
unfolding same_words
same_out [] [] h = refl
same_out [] (y ∷ ys) h = no _ refl h
same_out (x ∷ xs) [] h = no _ refl h
same_out (x ∷ xs) (y ∷ ys) h = λ j. eqb-true x y (left _ _ h) j ∷ same_out xs ys (right _ _ h) j

same_in : (xs : List ℕ) → same_words xs xs ≡ true
unfolding same_words
same_in [] = refl
same_in (x ∷ xs) = also (eq-eqb x x refl) (same_in xs)

-- ---- the words of a cache and a rest

with_rest : (c : Cache) (rest : List ℕ) → encode c [] ++ rest ≡ encode c rest
unfolding encode
with_rest c rest = simp append_assoc

floats_of : (ws : List ℕ) → FloatsFit (cache_in ws).settings
unfolding cache_in
floats_of ws = settings.floats_fit (drop settings_at ws)

-- ---- sound: the cache that the words give is allowed, and the words are its own

pub sound : (ws : List ℕ) → judge_words ws ≡ true → Allowed (cache_in ws) × (ws ≡ encode (cache_in ws) (rest_in ws))
unfolding judge_words rest_in
sound ws h = (
  allowed_out (cache_in ws) (left _ _ h),
  sym (take-append-drop (layout_words (get_or ws 1 0)) ws)
      ∙ ap (λ (l : List ℕ). l ++ drop (layout_words (get_or ws 1 0)) ws) (same_out _ _ (right _ _ h))
      ∙ with_rest (cache_in ws) (drop (layout_words (get_or ws 1 0)) ws),
)

-- ---- the checks of the parts are the verdict

rows_in : (ws : List ℕ) → length (cache_in ws).rows ≡ get_or ws 1 0
unfolding cache_in
rows_in ws = length_rows_of (get_or ws 1 0) 0 ws

fits_out : (ws : List ℕ) → TableFits ws → judge_words ws ≡ true
unfolding judge_words
fits_out ws t =
    let c = cache_in ws in
    let n = layout_words (get_or ws 1 0) in
    let e : length (encode c []) ≡ n = own_length c (words_allowed ws t) [] ∙ add-zero _ ∙ ap layout_words (rows_in ws) in
    let own : take n ws ≡ encode c [] =
    ap (λ (l : List ℕ). take n l) (words_are ws t ∙ sym (with_rest c (rest_in ws))) ∙ take_at (encode c []) (rest_in ws) n e in
    also (allowed_in c (words_allowed ws t)) (rw own (same_in (encode c [])))

fits_in : (ws : List ℕ) → judge_words ws ≡ true → TableFits ws
fits_in ws h =
    let s = sound ws h in
    rw s.1 (own_words (cache_in ws) s.0 (rest_in ws) (floats_of ws))

pub answered : {r : Bool} {ws : List ℕ} → Says r (TableFits ws) → r ≡ judge_words ws
answered {r} {ws} s = both r (judge_words ws) (λ e. fits_out ws (s.sound e)) (λ e. s.complete (fits_in ws e))

-- ---- complete: the words of an allowed cache pass, whatever comes after them

pub complete : (c : Cache) (rest : List ℕ) → Allowed c → FloatsFit c.settings → judge_words (encode c rest) ≡ true
complete c rest ok floats = fits_out (encode c rest) (own_words c ok rest floats)

-- ---- unique: the same words are those of one cache

pub unique : (c d : Cache) (rest after : List ℕ) → Allowed c → Allowed d → FloatsFit c.settings → FloatsFit d.settings → encode c rest ≡ encode d after → c ≡ d
unique c d rest after a b f g e =
    sym (cache_back c rest a.rows a.entries a.sound f) ∙ ap cache_in e ∙ cache_back d after b.rows b.entries b.sound g

-- ---- good: a table that passes holds a steady cache

pub good : (ws : List ℕ) → judge_words ws ≡ true → Good ws
good ws h =
    let s = sound ws h in
    record {
      words = s.1;
      steady = allowed_steady (cache_in ws) s.0 (floats_of ws);
      listed = listed_most (cache_in ws) s.0.sound;
      used = used_most (cache_in ws).rows;
      long = let t = (fits_in ws h).long in omega (arith, rows_in ws);
    }
