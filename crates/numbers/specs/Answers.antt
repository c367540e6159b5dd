-- What a host is answered, as numbers.
use Rattle.std.specs.Prelude.{ℕ, false, replicate, Result, Ok, Err}
use Rattle.settings_words.specs.Words.{flag_word}
use Rattle.rules.specs.Answers.{refusal_number, answer_number, answer_field, answer_orders, verdict_number, verdict_field}
use Rattle.rules.specs.Types.{Answer, Verdict}
use Rattle.rules.specs.declared.report.Report.{Report}
use Rattle.rules.specs.declared.answer.Refusal.{Refusal}
use Rattle.numbers.specs.declared.raw.RawAnswer.{RawAnswer}
use Rattle.numbers.specs.declared.raw.RawFigures.{RawFigures}
use Rattle.numbers.specs.declared.raw.RawVerdict.{RawVerdict}
use Rattle.numbers.specs.declared.raw.RawWritten.{RawWritten}

-- An answer in the documents' numbering.
abbrev pub answer_numbers : Answer → RawAnswer
answer_numbers a = record { number = answer_number a; field = answer_field a; orders = answer_orders a }

-- A verdict in the documents' numbering.
abbrev pub verdict_numbers : Verdict → RawVerdict
verdict_numbers v = record { number = verdict_number v; field = verdict_field v }

-- All zero, which a refused report gives.
abbrev pub no_report : Report
no_report = record {
  held = 0;
  dirty = 0;
  entries = 0;
  maximum = 0;
  clean = 0;
  missing = 0;
  count = 0;
  due = false;
  next = 0;
  totals = replicate 11 0;
}

-- A report's number, 0 or 1, and its figures. Due is 1 if a list is due, else 0.
abbrev pub figures_with : ℕ → Report → RawFigures
figures_with n report = record {
  number = n;
  held = report.held;
  dirty = report.dirty;
  entries = report.entries;
  maximum = report.maximum;
  clean = report.clean;
  missing = report.missing;
  count = report.count;
  due = flag_word report.due;
  next = report.next;
  totals = report.totals;
}

abbrev pub figure_numbers : Result Report Refusal → RawFigures
figure_numbers (Ok report) = figures_with 0 report
figure_numbers (Err r) = figures_with (refusal_number r) no_report

-- How many bytes a message has that was written, or why it was not.
abbrev pub written_numbers : Result ℕ Refusal → RawWritten
written_numbers (Ok n) = record { number = 0; bytes = n }
written_numbers (Err r) = record { number = refusal_number r; bytes = 0 }
