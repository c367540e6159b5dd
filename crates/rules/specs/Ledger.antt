-- The ledger of document 01: what shared changes and lists tell, and nothing else.
use Rattle.std.specs.Prelude.{ℕ, ◌+◌, min, Bool, true, false, ◌||◌, List, [], ◌∷◌, map, eqb, if◌then◌else◌, Option, None, Some}
use Rattle.settings.specs.declared.Settings.{Settings}
use Rattle.rules.specs.declared.entry.Entry.{Entry}
use Rattle.rules.specs.declared.request.Access.{Access}
use Rattle.rules.specs.declared.request.Request.{Request}
use Rattle.rules.specs.declared.request.Request.TheVariants.{Insert, Protect, Release, ReleaseChanged, Pin, Unpin, Resize, Discard, Flush, Sync, Configure}
use Rattle.rules.specs.Cache.{Cache}
use Rattle.rules.specs.Requests.{Outcome}
use Rattle.rules.specs.Rows.{get}

-- Addresses with sizes, and a count.
pub record Ledger : Type 0 where
  pub sizes : ℕ → Option ℕ
  pub count : ℕ

-- At first none and 0.
abbrev pub blank : Ledger
blank = record { sizes = λ a. None; count = 0 }

abbrev pub is_in : Option ℕ → Bool
is_in None = false
is_in (Some s) = true

-- An address not in it adds the named size to the count, within the stop; then it has that size.
abbrev pub noted : ℕ → ℕ → Ledger → Ledger
noted a s l = record {
  sizes = λ b. if eqb a b then Some s else l.sizes b;
  count = (if is_in (l.sizes a) then l.count else min (l.count + s) 1_099_511_627_776);
}

-- Discard strikes its address.
abbrev pub struck : ℕ → Ledger → Ledger
struck a l = record { sizes = λ b. if eqb a b then None else l.sizes b; count = l.count }

unfoldable pub names : List ℕ → ℕ → Bool
names [] b = false
names (a ∷ list) b = eqb a b || names list b

-- A list strikes its own addresses and sets the count to 0.
abbrev pub hear_list : List ℕ → Ledger → Ledger
hear_list list l = record { sizes = λ b. if names list b then None else l.sizes b; count = 0 }

-- ---- which requests it hears of

-- Shared changes: inserts, changed releases, resizes and discards.
pub data Shared : Request → Type 0 where
  insert : (a s : ℕ) → Shared (Insert a s)
  changed : (a s : ℕ) → Shared (ReleaseChanged a s)
  resize : (a s : ℕ) → Shared (Resize a s)
  discard : (a : ℕ) → Shared (Discard a)

-- Local requests: protect, release unchanged, pin, unpin and reconfigure.
pub data Local : Request → Type 0 where
  protect : (x : Access) (a s : ℕ) → Local (Protect x a s)
  unchanged : (a : ℕ) → Local (Release a)
  pin : (a : ℕ) → Local (Pin a)
  unpin : (a : ℕ) → Local (Unpin a)
  configure : (s : Settings) → Local (Configure s)

-- Each accepted flush or sync of a lead sends one list.
pub data Sends : Request → Type 0 where
  flush : Sends Flush
  sync : Sends Sync

-- A shared change that both accept.
unfoldable pub hear : {r : Request} → Shared r → Ledger → Ledger
hear (insert a s) l = noted a s l
hear (changed a s) l = noted a s l
hear (resize a s) l = noted a s l
hear (discard a) l = struck a l

-- ---- what a cache has

-- The size of a dirty record.
abbrev pub dirty_size : Option Entry → Option ℕ
dirty_size None = None
dirty_size (Some e) = if e.dirty then Some e.size else None

-- The dirty records of a cache with their sizes, and its byte count.
abbrev pub ledger_of : Cache → Ledger
ledger_of c = record { sizes = λ a. dirty_size (get c.rows a); count = c.count }

-- The list sent: the addresses of the write orders.
abbrev pub sent_by : Outcome → List ℕ
sent_by o = map (λ w. w.address) o.orders
