-- What report comes to.
use Rattle.std.specs.Prelude.{Ok, Err}
use Prim.Native.Nat.{ℕ}
use mathlib.Core.Bool.{true, false}
use mathlib.Core.List.{List}
use mathlib.Core.Path.{◌≡◌}
use Rattle.rules.specs.Reports.{report_of}
use Rattle.rules.specs.declared.answer.Refusal.TheVariants as refusal
use Rattle.rules.specs.declared.report.Report.{Report}
use Rattle.layout.specs.Picture.{cache_in}
use Rattle.judge.specs.Verdict.{judge_words}
use Rattle.cache.specs.Tables.{report_words}

module _ (table : List ℕ) where
  pub report_refused : judge_words table ≡ false → Err refusal.Table ≡ report_words table
  unfolding report_words
  report_refused h = rw h

  pub report_given : (r : Report) → judge_words table ≡ true → r ≡ report_of (cache_in table) → Ok r ≡ report_words table
  unfolding report_words
  report_given r h e = rw (h, e)
