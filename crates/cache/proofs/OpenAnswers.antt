-- What opening comes to, test by test.
use Rattle.std.specs.Prelude.{Ok, Err}
use Prim.Native.Nat.{ℕ, ◌<◌, ◌≤◌}
use mathlib.Core.Bool.{Bool, true, false, not, ◌||◌}
use mathlib.Core.List.{List}
use mathlib.Core.Path.{◌≡◌}
use lib.Dec.{eqb, leb, ltb}
use lib.ListN.{length, drop}
use borrow.Author.Tests.{eq-eqb, ne_eqb, leb-true, lt-ltb, le-ltb, ltb-true, ltb-false, lt-leb, le-leb, not-false}
use Rattle.settings.specs.Validation.{first_bad}
use Rattle.settings.specs.declared.Settings.{Settings}
use Rattle.rules.proofs.Tests.{split, neither, or_true}
use Rattle.rules.specs.Cache.{fresh}
use Rattle.rules.specs.Limits.{most_rows, most_threshold}
use Rattle.rules.specs.Opening.{refusal_of_opening}
use Rattle.rules.specs.Refusals.{first_of}
use Rattle.rules.specs.declared.answer.Refusal.TheVariants as refusal
use Rattle.settings.specs.declared.Mode.{Mode}
use Rattle.layout.specs.Layout.{layout_words}
use Rattle.layout.specs.Picture.{encode}
use Rattle.cache.specs.Tables.{opened, open_words}

abbrev pub table_refused : ℕ → ℕ → Bool
table_refused rows words = eqb rows 0 || ltb most_rows rows || not (leb (layout_words rows) words)

abbrev pub threshold_refused : ℕ → Bool
threshold_refused threshold = eqb threshold 0 || ltb most_threshold threshold

-- there are words enough if the table is not refused
pub long_enough : (rows words : ℕ) → table_refused rows words ≡ false → layout_words rows ≤ words
long_enough rows words h =
    leb-true (layout_words rows) words (not-false (leb (layout_words rows) words) (neither (eqb rows 0 || ltb most_rows rows) (not (leb (layout_words rows) words)) h).1)

-- the tests of the table one by one
pub no_rows : (rows words : ℕ) → rows ≡ 0 → true ≡ table_refused rows words
no_rows rows words e = rw (eq-eqb rows 0 e)

pub many_rows : (rows words : ℕ) → most_rows < rows → true ≡ table_refused rows words
many_rows rows words h = rw (lt-ltb most_rows rows h, or_true (eqb rows 0))

pub few_words : (rows words n : ℕ) → (rows ≡ 0 → ⊥) → rows ≤ most_rows → n ≡ layout_words rows → ltb words n ≡ table_refused rows words
few_words rows words n z m e =
    rw (ne_eqb rows 0 z, le-ltb most_rows rows m, e)
    (split (ltb words (layout_words rows))
    (λ h. let l = ltb-true words (layout_words rows) h in rw (h, lt-leb (layout_words rows) words l))
    (λ h. let l = ltb-false words (layout_words rows) h in rw (h, le-leb (layout_words rows) words l)))

module _ (table : List ℕ) (rows : ℕ) (mode : Mode) (threshold : ℕ) (s : Settings) where
  pub open_table : table_refused rows (length table) ≡ true → opened (Err refusal.Table) table ≡ open_words table rows mode threshold s
  unfolding open_words refusal_of_opening first_of
  open_table h = rw h

  module _ (h : table_refused rows (length table) ≡ false) where
    pub open_mode : threshold_refused threshold ≡ true → opened (Err refusal.Mode) table ≡ open_words table rows mode threshold s
    unfolding open_words refusal_of_opening first_of
    open_mode k = rw (h, k)

    module _ (k : threshold_refused threshold ≡ false) where
      pub open_setting : (n : ℕ) → n ≡ first_bad s true → (n ≡ 0 → ⊥) → opened (Err (refusal.Setting n)) table ≡ open_words table rows mode threshold s
      unfolding open_words refusal_of_opening first_of
      open_setting n e b = rw (h, k, ← e, ne_eqb n 0 b)

      pub open_fresh : {out : List ℕ} (n : ℕ) → n ≡ first_bad s true → n ≡ 0 → out ≡ encode (fresh rows mode threshold s) (drop (layout_words rows) table)
          → opened (Ok 0) out ≡ open_words table rows mode threshold s
      unfolding open_words refusal_of_opening first_of
      open_fresh n e b o = rw (o, h, k, ← e, eq-eqb n 0 b)
