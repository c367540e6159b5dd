-- The reasons and changes of a hit and of a miss.
use Rattle.std.specs.Prelude.{ℕ, true, false, List, ◌∷◌, ◌++◌}
use Rattle.rules.specs.declared.request.Access.{Access}
use Rattle.rules.specs.Cache.{Cache, Work, start, touch}
use Rattle.rules.specs.Entries.{protected_for}
use Rattle.rules.specs.Requests.{loaded}
use Rattle.rules.specs.Resizing.{flashed}
use Rattle.rules.specs.Room.{make_room}
use Rattle.reason_rules.specs.declared.Change.{Change}
use Rattle.reason_rules.specs.declared.Reason.{Reason}
use Rattle.reason_rules.specs.declared.Reason.TheVariants as reason
use Rattle.reason_rules.specs.Reasons.{room_reasons, count_reasons, flash_change, count_change}

abbrev pub hit_reasons : Access → ℕ → Cache → List Reason
hit_reasons x a c = count_reasons true (start (touch a (protected_for x) c))

abbrev pub hit_changes : Access → ℕ → Cache → List Change
hit_changes x a c = count_change true (start (touch a (protected_for x) c))

-- The work with the entry loaded.
abbrev pub loaded_work : Access → ℕ → ℕ → Cache → Work
loaded_work x a s c = loaded x a s (make_room s true (start (flashed s c)))

abbrev pub miss_reasons : Access → ℕ → ℕ → Cache → List Reason
miss_reasons x a s c = room_reasons s true (start (flashed s c)) ++ reason.Load ∷ count_reasons false (loaded_work x a s c)

abbrev pub miss_changes : Access → ℕ → ℕ → Cache → List Change
miss_changes x a s c = flash_change s c ++ count_change false (loaded_work x a s c)
