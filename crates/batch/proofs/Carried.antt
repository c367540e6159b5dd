-- A batch is its requests one after another: what each of them keeps, the batch keeps. So a batch of local requests goes on with a run of
-- demand 3, and any batch goes on with a history of held bytes.
use Prim.Native.Nat.{ℕ, ◌*◌}
use mathlib.Core.Path.{◌≡◌, refl, sym, ap, subst}
use Rattle.std.specs.Prelude.{Option, None, Some}
use mathlib.Core.List.{List, [], ◌∷◌, ◌++◌}
use lib.Dec.{ltb}
use lib.ListN.{length, drop}
use Rattle.rules.proofs.Sides.{put_same}
use Rattle.rules.proofs.Tests.{choose}
use Rattle.rules.specs.declared.request.Request.{Request}
use Rattle.rules.specs.Answers.{answer_orders}
use Rattle.rules.specs.Hosts.{Pending}
use Rattle.rules.specs.Ledger.{Ledger, Local}
use Rattle.rules.specs.Sides.{Side, one, two, Pair, at, put}
use Rattle.judge.specs.Verdict.{judge_words}
use Rattle.cache.specs.Tables.{step_words}
use Rattle.numbers.specs.Meanings.{asked, plain_of}
use Rattle.runs.specs.History.{TableCall, table_past}
use Rattle.runs.specs.Hosts.{FloatsOf, TableRun}
use Rattle.batch.specs.Batch.{After, done_with, lacks_words, one_by_one, batch_words}
use Rattle.batch.specs.Named.{Named}
use Rattle.batch.proofs.Plain.{plain_floats}

-- what is kept, of a table's words, by requests of a kind
abbrev Keeps : (Request → Type 0) → (List ℕ → Type 0) → Type 0
Keeps Q P = (ws os : List ℕ) (r : Request) → Q r → FloatsOf r → P ws → P (step_words ws os [] r).table

module _ {Q : Request → Type 0} {P : List ℕ → Type 0} (keeps : Keeps Q P) where
  one_keeps : (ws os : List ℕ) (o : Option Request) → ((r : Request) → o ≡ Some r → Q r) → ((r : Request) → o ≡ Some r → FloatsOf r) → P ws → P (done_with (asked o) ws os).table
  one_keeps ws os None q f p = p
  one_keeps ws os (Some r) q f p = keeps ws os r (q r refl) (f r refl) p

  each_keeps : (requests table orders answers : List ℕ) → Named Q requests → P table → P (one_by_one requests table orders answers).table
  unfolding one_by_one
  each_keeps [] table orders answers n p = p
  each_keeps (k ∷ []) table orders answers n p = p
  each_keeps (k ∷ a ∷ []) table orders answers n p = p
  each_keeps (k ∷ a ∷ s ∷ rest) table orders answers n p =
      let x = done_with (asked (plain_of k a s)) table orders in
      choose (λ (y : After). P y.table) (ltb (length answers) 2) (λ few. p)
      (λ enough. choose (λ (y : After). P y.table) (lacks_words x) (λ few. p)
      (λ goes. each_keeps rest x.table (drop (answer_orders x.answer * 3) x.orders) (drop 2 answers) n.1 (one_keeps table orders (plain_of k a s) n.0 (plain_floats k a s) p)))

  pub batch_keeps : (table orders requests answers : List ℕ) → Named Q requests → P table → P (batch_words table orders requests answers).table
  unfolding batch_words
  batch_keeps table orders requests answers n p =
      choose (λ (y : After). P y.table) (judge_words table) (λ v. each_keeps requests table orders answers n p) (λ v. p)

-- ---- demand 3

pub batch_run : {t : ℕ} {h : Pair (List ℕ)} {l : Ledger} {p : Pending} (x : Side) (orders requests answers : List ℕ) → Named Local requests
    → TableRun t h l p → TableRun t (put x (batch_words (at x h) orders requests answers).table h) l p
batch_run {t} {h} {l} {p} x orders requests answers n run =
    batch_keeps {Q = Local} {P = λ (ws : List ℕ). TableRun t (put x ws h) l p} (goes_on x) (at x h) orders requests answers n
    (subst (λ (k : Pair (List ℕ)). TableRun t k l p) (sym (put_same x h)) run)
  where
    goes_on : (x : Side) → Keeps Local (λ (ws : List ℕ). TableRun t (put x ws h) l p)
    goes_on one ws os r q f run = TableRun.local one os [] r q f run
    goes_on two ws os r q f run = TableRun.local two os [] r q f run

-- ---- the history of held bytes

every_named : (requests : List ℕ) → Named (λ r. Unit) requests
every_named [] = tt
every_named (k ∷ []) = tt
every_named (k ∷ a ∷ []) = tt
every_named (k ∷ a ∷ s ∷ rest) = ((λ r e. tt), every_named rest)

pub batch_past : (ws : List ℕ) (calls : List TableCall) (orders requests answers : List ℕ)
    → (more : List TableCall) × ((batch_words (table_past ws calls).table orders requests answers).table ≡ (table_past ws (more ++ calls)).table)
unfolding table_past
batch_past ws calls orders requests answers =
    batch_keeps {Q = λ r. Unit} {P = λ (vs : List ℕ). (more : List TableCall) × (vs ≡ (table_past ws (more ++ calls)).table)} goes_on
    (table_past ws calls).table orders requests answers (every_named requests) ([], refl)
  where
    goes_on : Keeps (λ r. Unit) (λ (vs : List ℕ). (more : List TableCall) × (vs ≡ (table_past ws (more ++ calls)).table))
    goes_on vs os r q f p = (record { request = r; orders = os; message = []; floats = f } ∷ p.0, ap (λ (us : List ℕ). (step_words us os [] r).table) p.1)
