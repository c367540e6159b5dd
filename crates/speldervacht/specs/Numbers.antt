-- The seven functions over numbers: what each answers and leaves, on any input.
use Rattle.std.specs.Prelude.{ℕ, List, leb, length, if◌then◌else◌, Option, unwrap_or, None, Some, Err}
use Rattle.settings.specs.declared.Settings.{Settings}
use Rattle.rules.specs.Answers.{verdict_number}
use Rattle.rules.specs.Cache.{fresh}
use Rattle.rules.specs.Opening.{refusal_of_opening}
use Rattle.rules.specs.Types.{Verdict}
use Rattle.rules.specs.declared.answer.Refusal.{Refusal}
use Rattle.rules.specs.declared.answer.Refusal.TheVariants as refusal
use Rattle.settings.specs.declared.Mode.{Mode}
use Rattle.settings.specs.declared.Mode.TheVariants.{Alone}
use Rattle.layout.specs.Layout.{layout_words}
use Rattle.judge.specs.Verdict.{judge_words}
use Rattle.batch.specs.Batch.{After, batch_words}
use Rattle.batch.specs.declared.Batched.{Batched}
use Rattle.cache.specs.Asked.{ask_words}
use Rattle.cache.specs.Tables.{Left, left, step_words, Opened, opened_with, report_words}
use Rattle.explain.specs.Explanation.{Explanation, explain_words}
use Rattle.message.specs.Writes.{Wrote, write_words}
use Rattle.numbers.specs.Answers.{answer_numbers, verdict_numbers, figure_numbers, written_numbers}
use Rattle.numbers.specs.Explanations.{explanation_numbers}
use Rattle.numbers.specs.Meanings.{mode_of_raw, settings_of_raw, asked_of_raw}
use Rattle.numbers.specs.declared.raw.RawAnswer.{RawAnswer}
use Rattle.numbers.specs.declared.raw.RawBatched.{RawBatched}
use Rattle.numbers.specs.declared.raw.RawExplanation.{RawExplanation}
use Rattle.numbers.specs.declared.raw.RawFigures.{RawFigures}
use Rattle.numbers.specs.declared.raw.RawRequest.{RawRequest}
use Rattle.numbers.specs.declared.raw.RawSettings.{RawSettings}
use Rattle.numbers.specs.declared.raw.RawVerdict.{RawVerdict}
use Rattle.numbers.specs.declared.raw.RawWritten.{RawWritten}
use Rattle.numbers.specs.Types.{Asked}

-- ---- opening

-- The answer, and the words of the table after it.
pub record AfterOpen : Type 0 where
  pub answer : RawAnswer
  pub table : List ℕ

abbrev pub after_open : RawAnswer → List ℕ → AfterOpen
after_open a table = record { answer = a; table = table }

-- As `open_words` of crate cache, but there may be no mode: then the rules refuse, and the fresh cache is not written.
unfoldable pub open_in : List ℕ → ℕ → Option Mode → ℕ → Settings → Opened
open_in table rows mode threshold s =
    opened_with (refusal_of_opening rows (leb (layout_words rows) (length table)) mode threshold s) table rows
    (fresh rows (unwrap_or mode Alone) threshold s)

abbrev pub opened_numbers : Opened → AfterOpen
opened_numbers x = after_open (answer_numbers x.answer) x.table

unfoldable pub open_numbers : List ℕ → ℕ → ℕ → ℕ → RawSettings → AfterOpen
open_numbers table rows mode threshold w = opened_numbers (open_in table rows (mode_of_raw mode) threshold (settings_of_raw w))

-- ---- a request

-- The answer, and the words of the table and of the order slice after it.
pub record AfterStep : Type 0 where
  pub answer : RawAnswer
  pub table : List ℕ
  pub orders : List ℕ

abbrev pub after_step : RawAnswer → List ℕ → List ℕ → AfterStep
after_step a table orders = record { answer = a; table = table; orders = orders }

-- A request of no known kind is meant for no mode: 5, or 1 if the words picture no cache.
abbrev pub unknown_refusal : List ℕ → Refusal
unknown_refusal table = if judge_words table then refusal.Mode else refusal.Table

-- By `step_words` of crate cache; a request of no known kind changes no word.
abbrev pub step_asked : List ℕ → List ℕ → List ℕ → Asked → Left
step_asked table orders message None = left (Err (unknown_refusal table)) table orders
step_asked table orders message (Some r) = step_words table orders message r

abbrev pub left_numbers : Left → AfterStep
left_numbers x = after_step (answer_numbers x.answer) x.table x.orders

unfoldable pub step_numbers : List ℕ → List ℕ → List ℕ → RawRequest → AfterStep
step_numbers table orders message w = left_numbers (step_asked table orders message (asked_of_raw w))

-- ---- a request explained

-- The answer, and the words of the table, of the order slice and of the reason slice after it.
pub record AfterExplain : Type 0 where
  pub answer : RawExplanation
  pub table : List ℕ
  pub orders : List ℕ
  pub reasons : List ℕ

abbrev pub after_explain : RawExplanation → List ℕ → List ℕ → List ℕ → AfterExplain
after_explain a table orders reasons = record { answer = a; table = table; orders = orders; reasons = reasons }

-- By `explain_words` of crate explain; a request of no known kind changes no word, and no change is named.
abbrev pub explain_asked : List ℕ → List ℕ → List ℕ → List ℕ → Asked → Explanation
explain_asked table orders reasons message None =
    record { left = left (Err (unknown_refusal table)) table orders; reasons = reasons; change = None }
explain_asked table orders reasons message (Some r) = explain_words table orders reasons message r

abbrev pub explained_numbers : Explanation → AfterExplain
explained_numbers x = after_explain (explanation_numbers x.left.answer x.change) x.left.table x.left.orders x.reasons

unfoldable pub explain_numbers : List ℕ → List ℕ → List ℕ → List ℕ → RawRequest → AfterExplain
explain_numbers table orders reasons message w = explained_numbers (explain_asked table orders reasons message (asked_of_raw w))

-- ---- a batch

-- The answer, and the words of the table, of the order slice and of the answer slice after it.
pub record AfterBatch : Type 0 where
  pub answer : RawBatched
  pub table : List ℕ
  pub orders : List ℕ
  pub answers : List ℕ

abbrev pub after_batch : RawBatched → List ℕ → List ℕ → List ℕ → AfterBatch
after_batch b table orders answers = record { answer = b; table = table; orders = orders; answers = answers }

-- In the documents' numbering: 0 if every request was answered.
abbrev pub batched_numbers : Batched → RawBatched
batched_numbers b = record { number = verdict_number b.verdict; done = b.done; orders = b.orders }

abbrev pub after_numbers : After → AfterBatch
after_numbers x = after_batch (batched_numbers x.batched) x.table x.orders x.answers

-- By `batch_words` of crate batch.
unfoldable pub batch_numbers : List ℕ → List ℕ → List ℕ → List ℕ → AfterBatch
batch_numbers table orders requests answers = after_numbers (batch_words table orders requests answers)

-- ---- asking

-- By `ask_words` of crate cache; a request of no known kind as a step answers it.
abbrev pub ask_asked : List ℕ → ℕ → List ℕ → Asked → Verdict
ask_asked table lent message None = Err (unknown_refusal table)
ask_asked table lent message (Some r) = ask_words table lent message r

unfoldable pub ask_numbers : List ℕ → ℕ → List ℕ → RawRequest → RawVerdict
ask_numbers table lent message w = verdict_numbers (ask_asked table lent message (asked_of_raw w))

-- ---- the report

-- 0 and the figures, or 1 and zeros.
unfoldable pub report_numbers : List ℕ → RawFigures
report_numbers table = figure_numbers (report_words table)

-- ---- writing a message

-- The answer, and the bytes lent after it.
pub record AfterWriting : Type 0 where
  pub answer : RawWritten
  pub bytes : List ℕ

abbrev pub after_writing : RawWritten → List ℕ → AfterWriting
after_writing a bytes = record { answer = a; bytes = bytes }

abbrev pub wrote_numbers : Wrote → AfterWriting
wrote_numbers x = after_writing (written_numbers x.answer) x.bytes

-- By `write_words` of crate message.
unfoldable pub write_numbers : List ℕ → ℕ → List ℕ → AfterWriting
write_numbers bytes number list = wrote_numbers (write_words bytes number list)
