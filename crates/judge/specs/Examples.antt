-- A small table and its words changed one at a time, judged by computation: one list of cases, and one statement that each holds.
use Rattle.std.specs.Prelude.{ℕ, ◌≡◌, refl, Bool, true, false, List, [], ◌∷◌, set}
use Rattle.std.specs.Bool.{beq}
use Rattle.std.specs.Float.Ieee.{round, of_bits, to_bits, le, lt}
use Rattle.fraction.specs.Examples.{every}
use Rattle.settings.specs.Validation.{first_bad}
use Rattle.settings_words.specs.Words.{settings_words}
use Rattle.settings_words.specs.Picture.{settings_of}
use Rattle.rules.specs.Addresses.{elem, twice, insert_rising}
use Rattle.rules.specs.Limits.{count_stop}
use Rattle.rules.specs.Rows.{get}
use Rattle.layout.specs.Layout.{ones, version}
use Rattle.layout.specs.Picture.{row_number, addresses, rows_words, run, encode, entry_of, rows_of, run_of, cache_in}
use Rattle.judge.specs.Verdict.{◌and◌, every_entry, every_address, distinct, is_allowed, same_words, judge_words}

-- Three rows: an entry that is listed, a free row, and a pinned entry that is held for writing; and a word past the layout's end.
abbrev table : List ℕ
table =
    version ∷ 3 ∷ 1 ∷ 1_000 ∷ 4_096 ∷ 99 ∷ 99 ∷ count_stop ∷ 1 ∷ 1
    -- 10: settings, with no rule on
    ∷ 1 ∷ 0 ∷ 0 ∷ 0 ∷ 16_384 ∷ 1_024 ∷ 100 ∷ 0 ∷ 0 ∷ 0 ∷ 0 ∷ 0 ∷ 0 ∷ 0 ∷ 0 ∷ 0 ∷ 0 ∷ 0 ∷ 0 ∷ 0 ∷ 0
    -- 31, 37, 43: rows
    ∷ 300 ∷ 4_096 ∷ 1 ∷ 3 ∷ 0 ∷ 0
    ∷ 0 ∷ 0 ∷ 0 ∷ 0 ∷ 0 ∷ 0
    ∷ 200 ∷ 100 ∷ 0 ∷ 10 ∷ 1 ∷ 65_536
    -- 49: the recency run
    ∷ 0 ∷ ones ∷ ones
    -- 52: the address run
    ∷ 2 ∷ 0 ∷ ones
    ∷ 77 ∷ []

-- The table with a word put at a place, and whether it is to pass.
pub data Case : Type 0 where
  put : ℕ → ℕ → Bool → Case

unfoldable pub holds : Case → Bool
unfolding judge_words
holds (put at w verdict) = beq (judge_words (set table at w)) verdict

pub cases : List Case
cases =
    -- as it is, and with another word past the layout's end
    put 0 version true
    ∷ put 55 5 true
    -- the header
    ∷ put 0 0 false
    ∷ put 1 0 false
    ∷ put 1 4 false
    ∷ put 2 3 false
    ∷ put 3 0 false
    ∷ put 4 1_023 false
    ∷ put 4 16_385 false
    ∷ put 5 100 false
    ∷ put 6 98 true
    ∷ put 6 100 false
    ∷ put 7 1_099_511_627_777 false
    -- any number may be next
    ∷ put 8 0 true
    ∷ put 8 ones true
    ∷ put 9 0 true
    ∷ put 9 2 false
    ∷ put 10 2 false
    ∷ put 16 99 false
    -- row 0
    ∷ put 31 ones false
    ∷ put 31 200 false
    ∷ put 31 201 true
    ∷ put 32 0 false
    ∷ put 32 134_217_729 false
    ∷ put 33 2 false
    ∷ put 34 10 true
    ∷ put 34 11 false
    ∷ put 35 1 false
    ∷ put 36 1 false
    -- row 1, which is free
    ∷ put 37 1 false
    -- row 2
    ∷ put 48 1 true
    ∷ put 48 0 true
    ∷ put 48 65_537 false
    -- the recency run: no row, a free row, a held row, a row twice, a word after the end
    ∷ put 49 3 false
    ∷ put 49 1 false
    ∷ put 49 2 false
    ∷ put 49 ones false
    ∷ put 50 0 false
    ∷ put 51 0 false
    -- the address run
    ∷ put 52 0 false
    ∷ put 53 ones false
    ∷ put 54 1 false
    ∷ []

pub cases_hold : every holds cases ≡ true
unfolding cases every holds judge_words is_allowed ◌and◌ every_entry every_address distinct same_words elem twice insert_rising get row_number addresses rows_words run encode entry_of rows_of run_of cache_in settings_of settings_words first_bad round of_bits to_bits le lt
cases_hold = refl
