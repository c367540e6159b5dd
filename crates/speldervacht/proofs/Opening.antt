-- Opening in a mode and in none.
use Rattle.std.specs.Prelude.{if◌then◌else◌, None, Some, Err}
use Prim.Native.Nat.{ℕ}
use mathlib.Core.Bool.{Bool, true, false}
use mathlib.Core.List.{List}
use mathlib.Core.Path.{◌≡◌, refl, sym, ◌∙◌}
use lib.ListN.{length}
use Rattle.settings.specs.declared.Settings.{Settings}
use Rattle.rules.specs.Cache.{Cache}
use Rattle.rules.specs.Opening.{refusal_of_opening}
use Rattle.rules.specs.Refusals.{first_of}
use Rattle.rules.specs.declared.answer.Refusal.TheVariants as refusal
use Rattle.settings.specs.declared.Mode.{Mode}
use Rattle.settings.specs.declared.Mode.TheVariants.{Alone}
use Rattle.cache.proofs.OpenAnswers.{table_refused}
use Rattle.cache.specs.Tables.{opened, opened_with, open_words}
use Rattle.speldervacht.specs.Numbers.{open_in}

module _ (table : List ℕ) (rows threshold : ℕ) (s : Settings) where
  -- a mode
  pub in_mode : (mode : Mode) → open_words table rows mode threshold s ≡ open_in table rows (Some mode) threshold s
  unfolding open_words open_in
  in_mode mode = refl

  refused : (b : Bool) (c : Cache) → opened_with (if b then Some refusal.Table else Some refusal.Mode) table rows c ≡ opened (Err (if b then refusal.Table else refusal.Mode)) table
  refused true c = refl
  refused false c = refl

  -- no mode: 1 or 5, and no word changes
  pub no_mode : open_in table rows None threshold s ≡ opened (Err (if table_refused rows (length table) then refusal.Table else refusal.Mode)) table
  unfolding open_in refusal_of_opening first_of
  no_mode = refused (table_refused rows (length table)) _

  -- which is what a threshold of 0 comes to
  pub in_no_mode : open_words table rows Alone 0 s ≡ open_in table rows None threshold s
  unfolding open_words refusal_of_opening first_of
  in_no_mode = refused (table_refused rows (length table)) _ ∙ sym no_mode
