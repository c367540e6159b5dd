-- A lead and a standby: the runs that demand 3 speaks of.
use Rattle.std.specs.Prelude.{ℕ, ◌+◌, ◌≡◌, Bool, true, false, List, [], ◌∷◌, length, None, Some, Ok, Err}
use Rattle.settings.specs.declared.Settings.{Settings}
use Rattle.rules.specs.Types.{Answer}
use Rattle.settings.specs.declared.Mode.TheVariants.{Lead, Standby}
use Rattle.rules.specs.declared.request.Request.{Request}
use Rattle.rules.specs.declared.request.Request.TheVariants.{Take}
use Rattle.rules.specs.Cache.{Cache, fresh, due}
use Rattle.rules.specs.Ledger.{Ledger, ledger_of, blank, hear, hear_list, Shared, Local, Sends, sent_by}
use Rattle.rules.specs.Messages.{Words, message_of, read_message, number_in, addresses_in}
use Rattle.rules.specs.Opening.{refusal_of_opening}
use Rattle.rules.specs.Refusals.{Call}
use Rattle.rules.specs.Requests.{Outcome, step}
use Rattle.rules.specs.Sides.{Side, other, Pair, at, put}

abbrev pub is_accepted : Answer → Bool
is_accepted (Ok n) = true
is_accepted (Err r) = false

abbrev pub accepted : Outcome → Bool
accepted o = is_accepted o.answer

-- Message bytes and order words go with a request.
abbrev pub asking : Request → List ℕ → ℕ → Call
asking r message lent = record { request = r; message = message; lent = lent }

-- The message that a flush or sync sends: its list, with the number that was next before it.
abbrev pub message_by : Cache → Outcome → List ℕ
message_by c o = message_of c.next (sent_by o)

-- What only one of the two has had by now.
pub data Pending : Type 0 where
  -- nothing
  settled : Pending
  -- a shared change that this host had first, and whether it accepted it
  change : Side → {r : Request} → Shared r → Bool → Pending
  -- a message that this host sent
  sent : Side → List ℕ → Pending

-- The ledger hears of a change that both accept.
abbrev pub heard : Bool → {r : Request} → Shared r → Ledger → Ledger
heard true h l = hear h l
heard false h l = l

-- And of the list of a message that is taken.
abbrev pub hear_message : List ℕ → Ledger → Ledger
hear_message message l = hear_list (addresses_in (read_message message)) l

-- The two caches, the ledger and what is pending after a run, where each request gets its cache as the request before
-- left it. A shared change goes to both, to either first, and both accept it or both refuse it. A message that the one sends
-- (the lead: a standby refuses flush and sync) goes to the other before the next message or change. Local requests, and refused
-- ones of any kind, may come at any time.
pub data Run (t : ℕ) : Pair Cache → Ledger → Pending → Type 0 where
  opened : (n m : ℕ) (s u : Settings) → refusal_of_opening n true (Some Lead) t s ≡ None → refusal_of_opening m true (Some Standby) t u ≡ None
      → Run t (record { one = fresh n Lead t s; two = fresh m Standby t u }) blank settled
  local : {h : Pair Cache} {l : Ledger} {p : Pending} (x : Side) (call : Call) → Local call.request
      → Run t h l p → Run t (put x (step (at x h) call).cache h) l p
  refuses : {h : Pair Cache} {l : Ledger} {p : Pending} (x : Side) (call : Call) → accepted (step (at x h) call) ≡ false
      → Run t h l p → Run t (put x (step (at x h) call).cache h) l p
  begins : {h : Pair Cache} {l : Ledger} {r : Request} (x : Side) (k : Shared r) (message : List ℕ) (lent : ℕ)
      → Run t h l settled
      → Run t (put x (step (at x h) (asking r message lent)).cache h) l (change x k (accepted (step (at x h) (asking r message lent))))
  ends : {h : Pair Cache} {l : Ledger} {r : Request} (x : Side) (k : Shared r) (message : List ℕ) (lent : ℕ) (ok : Bool)
      → accepted (step (at (other x) h) (asking r message lent)) ≡ ok
      → Run t h l (change x k ok) → Run t (put (other x) (step (at (other x) h) (asking r message lent)).cache h) (heard ok k l) settled
  sends : {h : Pair Cache} {l : Ledger} (x : Side) (call : Call) → Sends call.request → accepted (step (at x h) call) ≡ true → Words (sent_by (step (at x h) call))
      → Run t h l settled → Run t (put x (step (at x h) call).cache h) l (sent x (message_by (at x h) (step (at x h) call)))
  takes : {h : Pair Cache} {l : Ledger} (x : Side) (message : List ℕ) (lent : ℕ) → accepted (step (at (other x) h) (asking Take message lent)) ≡ true
      → Run t h l (sent x message) → Run t (put (other x) (step (at (other x) h) (asking Take message lent)).cache h) (hear_message message l) settled

-- Demand 3: the same dirty records at the same sizes, the same byte count and the same word on whether a list is due,
-- and these records, sizes and count are what the ledger gives. The message that the standby takes next is the one that the lead
-- sends next.
pub record Agree (h : Pair Cache) (l : Ledger) : Type 0 where
  pub ledger : (x : Side) → ledger_of (at x h) ≡ l
  pub due : due h.one ≡ due h.two
  pub next : h.one.next ≡ h.two.next

-- ---- the messages of a run

-- Those that were sent, and those that were taken, the latest first.
abbrev pub sent_in : {t : ℕ} {h : Pair Cache} {l : Ledger} {p : Pending} → Run t h l p → List (List ℕ)
sent_in (opened n m s u i j) = []
sent_in (local x call k run) = sent_in run
sent_in (refuses x call e run) = sent_in run
sent_in (begins x k message lent run) = sent_in run
sent_in (ends x k message lent ok e run) = sent_in run
sent_in (sends {h} x call k e w run) = message_by (at x h) (step (at x h) call) ∷ sent_in run
sent_in (takes x message lent e run) = sent_in run

abbrev pub taken_in : {t : ℕ} {h : Pair Cache} {l : Ledger} {p : Pending} → Run t h l p → List (List ℕ)
taken_in (opened n m s u i j) = []
taken_in (local x call k run) = taken_in run
taken_in (refuses x call e run) = taken_in run
taken_in (begins x k message lent run) = taken_in run
taken_in (ends x k message lent ok e run) = taken_in run
taken_in (sends x call k e w run) = taken_in run
taken_in (takes x message lent e run) = message ∷ taken_in run

-- The number of each is one more than there are before it: 1, 2, 3 and so on.
abbrev pub InOrder : List (List ℕ) → Type 0
InOrder [] = Unit
InOrder (message ∷ earlier) = (number_in (read_message message) ≡ length earlier + 1) × InOrder earlier

-- What holds of each of them.
abbrev pub Each : (List ℕ → Type 0) → List (List ℕ) → Type 0
Each P [] = Unit
Each P (message ∷ earlier) = P message × Each P earlier
