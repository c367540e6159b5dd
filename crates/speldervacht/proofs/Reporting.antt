-- A report that is refused.
use Prim.Native.Nat.{ℕ}
use mathlib.Core.Bool.{false}
use mathlib.Core.List.{List}
use mathlib.Core.Path.{◌≡◌}
use lib.ListN.{replicate}
use Rattle.judge.specs.Verdict.{judge_words}
use Rattle.cache.specs.Tables.{report_words}
use Rattle.speldervacht.specs.Numbers.{report_numbers}
use Rattle.numbers.specs.declared.raw.RawFigures.{RawFigures}

-- 1, and all else 0
pub refused_report : (table : List ℕ) → judge_words table ≡ false
    → (◌≡◌ {A = RawFigures} (report_numbers table) (record { number = 1; held = 0; dirty = 0; entries = 0; maximum = 0; clean = 0; missing = 0; count = 0; due = 0; next = 0; totals = replicate 11 0 }))
unfolding report_numbers report_words
refused_report table h = rw h
