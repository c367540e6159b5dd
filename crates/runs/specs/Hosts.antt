-- A lead and a standby on their tables: the runs that demand 3 speaks of, and the demand, over the entry points on words.
use Rattle.std.specs.Prelude.{ℕ, zero, suc, ◌+◌, ◌≡◌, Bool, true, false, not, ◌&&◌, List, [], ◌∷◌, ◌++◌, eqb, ltb, get_or, drop, if◌then◌else◌, Option, None, Some, Ok}
use Rattle.settings.specs.declared.Settings.{Settings}
use Rattle.settings_words.specs.FloatsFit.{FloatsFit}
use Rattle.settings_words.specs.Words.{flag_of}
use Rattle.rules.specs.declared.report.Report.{Report}
use Rattle.rules.specs.declared.order.Kind.TheVariants.{Write}
use Rattle.settings.specs.declared.Mode.TheVariants.{Lead, Standby}
use Rattle.rules.specs.declared.request.Request.{Request}
use Rattle.rules.specs.declared.request.Request.TheVariants.{Insert, Protect, Release, ReleaseChanged, Pin, Unpin, Resize, Discard, Flush, Sync, Take, Configure}
use Rattle.rules.specs.Answers.{answer_orders}
use Rattle.rules.specs.Hosts.{is_accepted, Pending, settled, change, sent, heard, hear_message}
use Rattle.rules.specs.Ledger.{Ledger, blank, Shared, Local, Sends}
use Rattle.rules.specs.Messages.{Words, message_of}
use Rattle.rules.specs.Sides.{Side, other, Pair, at, put}
use Rattle.layout.specs.Layout.{row_count_at, threshold_at, count_at, next_at, row_at, kind_word}
use Rattle.cache.specs.Tables.{Left, step_words, open_words, report_words}

-- ---- what a host reads

abbrev pub accepts : Left → Bool
accepts x = is_accepted x.answer

-- The addresses of the write orders among the first n.
unfoldable pub writes_in : ℕ → List ℕ → List ℕ
writes_in zero orders = []
writes_in (suc n) orders = (if eqb (get_or orders 0 0) (kind_word Write) then get_or orders 1 0 ∷ [] else []) ++ writes_in n (drop 3 orders)

-- The list that a flush or sync sends.
abbrev pub list_in : Left → List ℕ
list_in x = writes_in (answer_orders x.answer) x.orders

-- The number of a table's next message.
abbrev pub next_in : List ℕ → ℕ
next_in ws = get_or ws next_at 0

-- The message that a flush or sync sends: its list, with the number that was next before it.
abbrev pub message_from : List ℕ → Left → List ℕ
message_from ws x = message_of (next_in ws) (list_in x)

-- Every f64 of a program fits the format: so do those of a configure's settings.
abbrev pub FloatsOf : Request → Type 0
FloatsOf (Insert a s) = Unit
FloatsOf (Protect x a s) = Unit
FloatsOf (Release a) = Unit
FloatsOf (ReleaseChanged a s) = Unit
FloatsOf (Pin a) = Unit
FloatsOf (Unpin a) = Unit
FloatsOf (Resize a s) = Unit
FloatsOf (Discard a) = Unit
FloatsOf Flush = Unit
FloatsOf Sync = Unit
FloatsOf Take = Unit
FloatsOf (Configure s) = FloatsFit s

-- ---- runs

-- The two tables, the ledger and what is pending after a run. Each request gets its cache's table as the request before
-- left it, with any order slice and any message bytes. What may come, and when, is as in the rules' own runs: both get each shared
-- change, and a message that the one sends the other takes before the next message or change. Every address that a program sends is a
-- 64-bit number.
pub data TableRun (t : ℕ) : Pair (List ℕ) → Ledger → Pending → Type 0 where
  opened : (a b : List ℕ) (n m : ℕ) (s u : Settings) → FloatsFit s → FloatsFit u
      → (open_words a n Lead t s).answer ≡ Ok 0 → (open_words b m Standby t u).answer ≡ Ok 0
      → TableRun t (record { one = (open_words a n Lead t s).table; two = (open_words b m Standby t u).table }) blank settled
  local : {h : Pair (List ℕ)} {l : Ledger} {p : Pending} (x : Side) (orders message : List ℕ) (r : Request) → Local r → FloatsOf r
      → TableRun t h l p → TableRun t (put x (step_words (at x h) orders message r).table h) l p
  refuses : {h : Pair (List ℕ)} {l : Ledger} {p : Pending} (x : Side) (orders message : List ℕ) (r : Request) → accepts (step_words (at x h) orders message r) ≡ false
      → TableRun t h l p → TableRun t (put x (step_words (at x h) orders message r).table h) l p
  begins : {h : Pair (List ℕ)} {l : Ledger} {r : Request} (x : Side) (k : Shared r) (orders message : List ℕ)
      → TableRun t h l settled → TableRun t (put x (step_words (at x h) orders message r).table h) l (change x k (accepts (step_words (at x h) orders message r)))
  ends : {h : Pair (List ℕ)} {l : Ledger} {r : Request} (x : Side) (k : Shared r) (orders message : List ℕ) (ok : Bool)
      → accepts (step_words (at (other x) h) orders message r) ≡ ok
      → TableRun t h l (change x k ok) → TableRun t (put (other x) (step_words (at (other x) h) orders message r).table h) (heard ok k l) settled
  sends : {h : Pair (List ℕ)} {l : Ledger} {r : Request} (x : Side) (k : Sends r) (orders message : List ℕ) → accepts (step_words (at x h) orders message r) ≡ true
      → Words (list_in (step_words (at x h) orders message r))
      → TableRun t h l settled → TableRun t (put x (step_words (at x h) orders message r).table h) l (sent x (message_from (at x h) (step_words (at x h) orders message r)))
  takes : {h : Pair (List ℕ)} {l : Ledger} (x : Side) (orders message : List ℕ) → accepts (step_words (at (other x) h) orders message Take) ≡ true
      → TableRun t h l (sent x message) → TableRun t (put (other x) (step_words (at (other x) h) orders message Take).table h) (hear_message message l) settled

-- The messages that were sent in a run, and those that were taken, the latest first.
abbrev pub sent_on : {t : ℕ} {h : Pair (List ℕ)} {l : Ledger} {p : Pending} → TableRun t h l p → List (List ℕ)
sent_on (opened a b n m s u i j h k) = []
sent_on (local x orders message r k f run) = sent_on run
sent_on (refuses x orders message r e run) = sent_on run
sent_on (begins x k orders message run) = sent_on run
sent_on (ends x k orders message ok e run) = sent_on run
sent_on (sends {h} {r = r} x k orders message e w run) = message_from (at x h) (step_words (at x h) orders message r) ∷ sent_on run
sent_on (takes x orders message e run) = sent_on run

abbrev pub taken_on : {t : ℕ} {h : Pair (List ℕ)} {l : Ledger} {p : Pending} → TableRun t h l p → List (List ℕ)
taken_on (opened a b n m s u i j h k) = []
taken_on (local x orders message r k f run) = taken_on run
taken_on (refuses x orders message r e run) = taken_on run
taken_on (begins x k orders message run) = taken_on run
taken_on (ends x k orders message ok e run) = taken_on run
taken_on (sends x k orders message e w run) = taken_on run
taken_on (takes x orders message e run) = message ∷ taken_on run

-- ---- the demand

-- The size of the dirty record at an address, among n rows from row r on.
unfoldable pub dirty_in : ℕ → ℕ → List ℕ → ℕ → Option ℕ
dirty_in zero r ws a = None
dirty_in (suc n) r ws a =
    if not (eqb (get_or ws (row_at r + 1) 0) 0) && eqb (get_or ws (row_at r) 0) a
    then (if flag_of (get_or ws (row_at r + 2) 0) then Some (get_or ws (row_at r + 1) 0) else None)
    else dirty_in n (suc r) ws a

-- The dirty records in a table's words, and its byte count.
abbrev pub ledger_in : List ℕ → Ledger
ledger_in ws = record { sizes = dirty_in (get_or ws row_count_at 0) 0 ws; count = get_or ws count_at 0 }

-- Whether its words say that a list is due.
abbrev pub due_in : List ℕ → Bool
due_in ws = ltb (get_or ws threshold_at 0) (get_or ws count_at 0)

-- The same dirty records at the same sizes, the same byte count and the same word on whether a list is due, and these
-- records, sizes and count are what the ledger gives. The message that the standby takes next is the one that the lead sends next.
pub record TablesAgree (h : Pair (List ℕ)) (l : Ledger) : Type 0 where
  pub ledger : (x : Side) → ledger_in (at x h) ≡ l
  pub due : due_in h.one ≡ due_in h.two
  pub next : next_in h.one ≡ next_in h.two

-- Both reports are given, and they have the same byte count, say alike whether a list is due and have the same next number.
pub record ReportsAgree (h : Pair (List ℕ)) : Type 0 where
  pub report : Pair Report
  pub answer : (x : Side) → report_words (at x h) ≡ Ok (at x report)
  pub count : report.one.count ≡ report.two.count
  pub due : report.one.due ≡ report.two.due
  pub next : report.one.next ≡ report.two.next
