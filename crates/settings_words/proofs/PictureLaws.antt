-- Which words are a picture: exactly the words of settings that configuring passes. Assumes nothing.
use Prim.Native.Nat.{ℕ}
use mathlib.Core.Path.{◌≡◌, refl}
use mathlib.Core.Bool.{Bool, true, false, cond}
use mathlib.Core.List.{List, ◌++◌}
use lib.Dec.{eqb}
use lib.ListN.{length, drop, get_or}
use lib.Ieee.{binary64}
use lib.Ieee.Bits.{of_bits-fits}
use borrow.Author.Tests.{eqb-true}
use Rattle.std.specs.List.{starts_with}
use Rattle.std.proofs.lemmas.Bool.Decides.{Decides-eqb}
use Rattle.std.proofs.lemmas.Slice.Eq.{starts_is}
use Rattle.settings.proofs.Tests.{both}
use Rattle.settings.specs.declared.Settings.{Settings}
use Rattle.settings.specs.Validation.{first_bad}
use Rattle.settings_words.specs.Words.{settings_words}
use Rattle.settings_words.specs.FloatsFit.{FloatFits, IncreaseFits, FlashFits, DecreaseFits, FloatsFit}
use Rattle.settings_words.specs.Picture.{float, settings_of, picture}
use Rattle.settings_words.proofs.Flat.{words_length}
use Rattle.settings_words.proofs.ReadBack.{read_back}

-- whether words start with `start`
starts : (ws start : List ℕ) → (starts_with eqb ws start ≡ true → ws ≡ start ++ drop (length start) ws) × ((rest : List ℕ) → ws ≡ start ++ rest → starts_with eqb ws start ≡ true)
starts ws start = starts_is Decides-eqb ws start (starts_with eqb ws start) refl

-- the floats of any words fit
fit : (w : ℕ) → FloatFits (float w)
fit w = of_bits-fits binary64 w

either : {A : Type 0} (P : A → Type 0) (b : Bool) (x y : A) → P x → P y → P (cond b x y)
either P true x y p q = p
either P false x y p q = q

pub floats_fit : (ws : List ℕ) → FloatsFit (settings_of ws)
unfolding settings_of
floats_fit ws = record {
  clean = fit (get_or ws 3 0);
  increase = either IncreaseFits (eqb (get_or ws 7 0) 0) _ _ tt (fit (get_or ws 8 0), fit (get_or ws 9 0));
  flash = either FlashFits (eqb (get_or ws 12 0) 0) _ _ tt (fit (get_or ws 13 0), fit (get_or ws 14 0));
  decrease =
      let upper = fit (get_or ws 16 0) in
      let last = fit (get_or ws 18 0) in
      either DecreaseFits (eqb (get_or ws 15 0) 0) _ _ tt
      (either DecreaseFits (eqb (get_or ws 15 0) 1) _ _ (upper, last)
      (either DecreaseFits (eqb (get_or ws 15 0) 2) _ _ last (upper, last)));
}

-- sound: the words are those of their settings, which configuring passes
pub sound : (ws : List ℕ) → picture ws ≡ true → (first_bad (settings_of ws) false ≡ 0) × (ws ≡ settings_words (settings_of ws) ++ drop 21 ws)
unfolding picture
sound ws h =
    let own = settings_words (settings_of ws) in
    let t = both (eqb (first_bad (settings_of ws) false) 0) (starts_with eqb ws own) h in
    (eqb-true (first_bad (settings_of ws) false) 0 t.0, rw (words_length (settings_of ws)) at ((starts ws own).0 t.1))

-- complete: the words of settings that configuring passes are a picture, whatever comes after them
pub complete : (s : Settings) (rest : List ℕ) → FloatsFit s → first_bad s false ≡ 0 → picture (settings_words s ++ rest) ≡ true
unfolding picture
complete s rest h e = rw (read_back s rest h, e, (starts (settings_words s ++ rest) (settings_words s)).1 rest refl)
