-- The words of the default settings, and which words near them are a picture, by computation. Assumes nothing.
use Rattle.std.specs.Prelude.{ℕ, ◌≡◌, refl, Bool, true, false, List, [], ◌∷◌, ◌++◌, set}
use Rattle.std.specs.Bool.{beq}
use Rattle.std.specs.Float.Ieee.{round, to_bits, of_bits, le, lt, eq}
use Rattle.fraction.specs.Examples.{every}
use Rattle.settings.specs.declared.Mode.TheVariants.{Alone, Lead, Standby}
use Rattle.settings.specs.Defaults.{defaults}
use Rattle.settings.specs.Validation.{first_bad}
use Rattle.settings_words.specs.Words.{settings_words}
use Rattle.settings_words.specs.Picture.{settings_of, picture}

-- The default settings' words with the word of a clean fraction.
unfoldable pub words_with : ℕ → List ℕ
words_with clean =
    1 ∷ 1 ∷ 2097152 ∷ clean ∷ 33554432 ∷ 1048576 ∷ 50000
    -- threshold, 0.9, 2.0; up to 4,194,304
    ∷ 1 ∷ 0x3fec_cccc_cccc_cccd ∷ 0x4000_0000_0000_0000
    ∷ 1 ∷ 4194304
    -- on, 1.0, 0.25
    ∷ 1 ∷ 0x3ff0_0000_0000_0000 ∷ 0x3fd0_0000_0000_0000
    -- age-out with threshold, 0.999, 3, 0.1; up to 1,048,576
    ∷ 3 ∷ 0x3fef_f7ce_d916_872b ∷ 3 ∷ 0x3fb9_9999_9999_999a
    ∷ 1 ∷ 1048576
    ∷ []

-- 0.3 in a lead and a standby, 0.01 alone
unfoldable pub default_words : List ℕ
default_words = words_with 0x3fd3_3333_3333_3333

pub lead_words : settings_words (defaults Lead) ≡ default_words
unfolding settings_words defaults default_words words_with round to_bits
lead_words = refl

pub standby_words : settings_words (defaults Standby) ≡ default_words
unfolding settings_words defaults default_words words_with round to_bits
standby_words = refl

pub alone_words : settings_words (defaults Alone) ≡ words_with 0x3f84_7ae1_47ae_147b
unfolding settings_words defaults words_with round to_bits
alone_words = refl

-- words, and whether they are a picture
pub data Case : Type 0 where
  is : List ℕ → Bool → Case

unfoldable pub holds : Case → Bool
unfolding picture
holds (is ws b) = beq (picture ws) b

pub cases : List Case
unfolding default_words words_with
cases =
    is default_words true
    ∷ is (default_words ++ (7 ∷ [])) true
    -- not set, which configuring passes
    ∷ is (set default_words 1 0) true
    -- a flag of 2, a kind of 2, and bytes of an absent cap
    ∷ is (set default_words 0 2) false
    ∷ is (set default_words 10 2) false
    ∷ is (set default_words 10 0) false
    ∷ is (set (set default_words 10 0) 11 0) true
    -- a decrease rule of kind 4, and an age-out with an upper rate
    ∷ is (set default_words 15 4) false
    ∷ is (set default_words 15 2) false
    ∷ is (set (set default_words 15 2) 16 0) true
    -- no number as clean fraction, and an epoch length out of limits
    ∷ is (set default_words 3 0x7ff8_0000_0000_0000) false
    ∷ is (set default_words 6 99) false
    ∷ []

pub cases_hold : every holds cases ≡ true
unfolding cases every holds default_words words_with first_bad settings_of settings_words round to_bits of_bits le lt eq
cases_hold = refl
