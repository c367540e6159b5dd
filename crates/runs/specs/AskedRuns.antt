-- Runs by asking: each shared change is asked of both tables before it is done.
use Rattle.std.specs.Prelude.{ℕ, ◌≡◌, false, true, List, length, Ok}
use Rattle.settings.specs.declared.Settings.{Settings}
use Rattle.settings_words.specs.FloatsFit.{FloatsFit}
use Rattle.settings.specs.declared.Mode.TheVariants.{Lead, Standby}
use Rattle.rules.specs.declared.request.Request.{Request}
use Rattle.rules.specs.declared.request.Request.TheVariants.{Take}
use Rattle.rules.specs.Hosts.{Pending, hear_message}
use Rattle.rules.specs.Ledger.{Ledger, blank, hear, Shared, Local, Sends}
use Rattle.rules.specs.Messages.{Words}
use Rattle.rules.specs.Sides.{Side, other, Pair, at, put}
use Rattle.cache.specs.Asked.{ask_words}
use Rattle.cache.specs.Tables.{step_words, open_words}
use Rattle.runs.specs.Hosts.{accepts, list_in, message_from, FloatsOf}

-- What is still to be done: nothing; a shared change that both said yes to and that this host has had, on the other's table,
-- with the words and the message it was asked with; a message that this host sent, which the other takes.
pub data Outstanding : Type 0 where
  nothing : Outstanding
  doing : Side → {r : Request} → Shared r → ℕ → List ℕ → Outstanding
  taking : Side → List ℕ → Outstanding

-- The same as the runs of demand 3 name it.
abbrev pub pending_of : Outstanding → Pending
pending_of nothing = Pending.settled
pending_of (doing x k n message) = Pending.change x k true
pending_of (taking x message) = Pending.sent x message

-- Another request may come to a table: it is not the one to do the change next.
abbrev pub Free : Side → Outstanding → Type 0
Free y nothing = Unit
Free y (doing x k n message) = y ≡ x
Free y (taking x message) = Unit

-- A shared change is asked of both tables, and done on the one and then the other if both say yes; no request comes to a
-- table between its yes and its doing. No premise speaks of an answer that a host has not had when it goes on.
pub data AskedRun (t : ℕ) : Pair (List ℕ) → Ledger → Outstanding → Type 0 where
  opened : (a b : List ℕ) (n m : ℕ) (s u : Settings) → FloatsFit s → FloatsFit u
      → (open_words a n Lead t s).answer ≡ Ok 0 → (open_words b m Standby t u).answer ≡ Ok 0
      → AskedRun t (record { one = (open_words a n Lead t s).table; two = (open_words b m Standby t u).table }) blank nothing
  local : {h : Pair (List ℕ)} {l : Ledger} {p : Outstanding} (x : Side) (orders message : List ℕ) (r : Request) → Local r → FloatsOf r → Free x p
      → AskedRun t h l p → AskedRun t (put x (step_words (at x h) orders message r).table h) l p
  refuses : {h : Pair (List ℕ)} {l : Ledger} {p : Outstanding} (x : Side) (orders message : List ℕ) (r : Request) → accepts (step_words (at x h) orders message r) ≡ false → Free x p
      → AskedRun t h l p → AskedRun t (put x (step_words (at x h) orders message r).table h) l p
  begins : {h : Pair (List ℕ)} {l : Ledger} {r : Request} (x : Side) (k : Shared r) (orders message : List ℕ) (lent : ℕ) (theirs : List ℕ)
      → ask_words (at x h) (length orders) message r ≡ Ok tt → ask_words (at (other x) h) lent theirs r ≡ Ok tt
      → AskedRun t h l nothing → AskedRun t (put x (step_words (at x h) orders message r).table h) l (doing x k lent theirs)
  ends : {h : Pair (List ℕ)} {l : Ledger} {r : Request} (x : Side) (k : Shared r) (orders message : List ℕ)
      → AskedRun t h l (doing x k (length orders) message) → AskedRun t (put (other x) (step_words (at (other x) h) orders message r).table h) (hear k l) nothing
  sends : {h : Pair (List ℕ)} {l : Ledger} {r : Request} (x : Side) (k : Sends r) (orders message : List ℕ) → accepts (step_words (at x h) orders message r) ≡ true
      → Words (list_in (step_words (at x h) orders message r))
      → AskedRun t h l nothing → AskedRun t (put x (step_words (at x h) orders message r).table h) l (taking x (message_from (at x h) (step_words (at x h) orders message r)))
  takes : {h : Pair (List ℕ)} {l : Ledger} (x : Side) (orders message : List ℕ)
      → AskedRun t h l (taking x message) → AskedRun t (put (other x) (step_words (at (other x) h) orders message Take).table h) (hear_message message l) nothing
