-- An entry: who stands in the recency list, and an entry changed in one field.
use Rattle.std.specs.Prelude.{ℕ, ◌+◌, ◌-◌, Bool, true, false, not, ◌&&◌, leb, if◌then◌else◌}
use Rattle.rules.specs.declared.entry.Entry.{Entry}
use Rattle.rules.specs.declared.entry.Hold.{Hold}
use Rattle.rules.specs.declared.entry.Hold.TheVariants.{Unheld, Readers, Writer}
use Rattle.rules.specs.declared.request.Access.{Access}
use Rattle.rules.specs.declared.request.Access.TheVariants.{Reading, Writing}
use Rattle.rules.specs.Limits.{most_readers}

-- ---- holds

abbrev pub is_held : Hold → Bool
is_held Unheld = false
is_held (Readers n) = true
is_held Writer = true

abbrev pub is_read : Hold → Bool
is_read Unheld = false
is_read (Readers n) = true
is_read Writer = false

abbrev pub is_written : Hold → Bool
is_written Unheld = false
is_written (Readers n) = false
is_written Writer = true

-- A further reader joins readers; any other second hold, or reader 65,536, is refused.
abbrev pub forbids : Hold → Access → Bool
forbids Unheld x = false
forbids (Readers n) Reading = leb most_readers n
forbids (Readers n) Writing = true
forbids Writer x = true

abbrev pub joined : Access → Hold → Hold
joined Reading Unheld = Readers 1
joined Reading (Readers n) = Readers (n + 1)
joined Reading Writer = Writer
joined Writing h = Writer

-- One hold less.
abbrev pub less_one : Hold → Hold
less_one Unheld = Unheld
less_one (Readers n) = if leb n 1 then Unheld else Readers (n - 1)
less_one Writer = Unheld

-- ---- entries

-- Entries neither held nor pinned, and only those, stand in the recency list.
abbrev pub is_listed : Entry → Bool
is_listed e = not (is_held e.hold) && not e.pinned

abbrev pub is_clean : Entry → Bool
is_clean e = not e.dirty

abbrev pub with_size : ℕ → Entry → Entry
with_size s e = record { address = e.address; size = s; dirty = e.dirty; idle = e.idle; pinned = e.pinned; hold = e.hold }

abbrev pub with_dirty : Bool → Entry → Entry
with_dirty d e = record { address = e.address; size = e.size; dirty = d; idle = e.idle; pinned = e.pinned; hold = e.hold }

abbrev pub with_idle : ℕ → Entry → Entry
with_idle n e = record { address = e.address; size = e.size; dirty = e.dirty; idle = n; pinned = e.pinned; hold = e.hold }

abbrev pub with_pin : Bool → Entry → Entry
with_pin p e = record { address = e.address; size = e.size; dirty = e.dirty; idle = e.idle; pinned = p; hold = e.hold }

abbrev pub with_hold : Hold → Entry → Entry
with_hold h e = record { address = e.address; size = e.size; dirty = e.dirty; idle = e.idle; pinned = e.pinned; hold = h }

-- An entry that was written or taken.
abbrev pub cleaned : Entry → Entry
cleaned e = with_dirty false e

-- An entry that takes a size and is dirty.
abbrev pub changed_to : ℕ → Entry → Entry
changed_to s e = with_dirty true (with_size s e)

-- Protected once more, with idle count 0.
abbrev pub protected_for : Access → Entry → Entry
protected_for x e = with_idle 0 (with_hold (joined x e.hold) e)

-- One hold less; when the last hold goes, the idle count becomes 0.
abbrev pub released : Entry → Entry
released e = with_idle (if is_held (less_one e.hold) then e.idle else 0) (with_hold (less_one e.hold) e)

-- A new entry: idle 0, not pinned.
abbrev pub new_entry : ℕ → ℕ → Bool → Hold → Entry
new_entry a s d h = record { address = a; size = s; dirty = d; idle = 0; pinned = false; hold = h }
