-- Many requests on one table: what a batch answers and leaves, on any input.
use Rattle.std.specs.Prelude.{ℕ, suc, ◌+◌, ◌*◌, Bool, List, [], ◌∷◌, ◌++◌, eqb, ltb, length, take, drop, if◌then◌else◌, None, Some, Ok, Err}
use Rattle.rules.specs.declared.answer.Refusal.TheVariants as refusal
use Rattle.rules.specs.Types.{Verdict}
use Rattle.rules.specs.Answers.{answer_number, answer_orders}
use Rattle.judge.specs.Verdict.{judge_words}
use Rattle.cache.specs.Tables.{Left, left, step_words}
use Rattle.numbers.specs.Meanings.{asked, plain_of}
use Rattle.numbers.specs.Types.{Asked}
use Rattle.batch.specs.declared.Batched.{Batched}

-- The answer, and the words of the table, of the order slice and of the answer slice after it.
pub record After : Type 0 where
  pub batched : Batched
  pub table : List ℕ
  pub orders : List ℕ
  pub answers : List ℕ

abbrev pub after : Batched → List ℕ → List ℕ → List ℕ → After
after b table orders answers = record { batched = b; table = table; orders = orders; answers = answers }

-- ---- one request

-- As a step does it, with no message. A kind that a batch has not is meant for no mode: 5.
abbrev pub done_with : Asked → List ℕ → List ℕ → Left
done_with None table orders = left (Err refusal.Mode) table orders
done_with (Some r) table orders = step_words table orders [] r

-- It would be refused for too few order words.
abbrev pub lacks_words : Left → Bool
lacks_words x = eqb (answer_number x.answer) 2

-- ---- many

-- Nothing more is done.
abbrev pub stopped : Verdict → List ℕ → List ℕ → List ℕ → After
stopped v table orders answers = after (record { verdict = v; done = 0; orders = 0 }) table orders answers

-- A request before others: its orders and its answer come before theirs.
abbrev pub before : Left → After → After
before x y = record {
  batched = record { verdict = y.batched.verdict; done = suc y.batched.done; orders = answer_orders x.answer + y.batched.orders };
  table = y.table;
  orders = take (answer_orders x.answer * 3) x.orders ++ y.orders;
  answers = answer_number x.answer ∷ answer_orders x.answer ∷ y.answers;
}

-- One request after another, each on the table that the one before it left, with the order words and answer words that are then
-- left; it stops before the first for which these are too few. Words that are no whole request are not read.
unfoldable pub one_by_one : List ℕ → List ℕ → List ℕ → List ℕ → After
one_by_one [] table orders answers = stopped (Ok tt) table orders answers
one_by_one (k ∷ []) table orders answers = stopped (Ok tt) table orders answers
one_by_one (k ∷ a ∷ []) table orders answers = stopped (Ok tt) table orders answers
one_by_one (k ∷ a ∷ s ∷ rest) table orders answers =
    let x = done_with (asked (plain_of k a s)) table orders in
    if ltb (length answers) 2
    then stopped (Err refusal.OrderWords) table orders answers
    else (if lacks_words x
    then stopped (Err refusal.OrderWords) table orders answers
    else before x (one_by_one rest x.table (drop (answer_orders x.answer * 3) x.orders) (drop 2 answers)))

-- A table that pictures no cache is refused: 1.
unfoldable pub batch_words : List ℕ → List ℕ → List ℕ → List ℕ → After
batch_words table orders requests answers =
    if judge_words table then one_by_one requests table orders answers else stopped (Err refusal.Table) table orders answers
