-- What a pin and an unpin come to, case by case.
use mathlib.Core.Bool.{Bool, true}
use mathlib.Core.Path.{◌≡◌, refl}
use Rattle.rules.specs.Entries.{is_held, is_listed, with_pin}
use Rattle.rules.specs.declared.entry.Entry.{Entry}
use Rattle.table.proofs.Amended.{Keeps}

pub pin_keeps : (t : Bool) (e : Entry) → Keeps (with_pin t) e
pin_keeps t e = record {
  address = λ x. refl;
  allowed = λ k. record { address = k.address; nonempty = k.nonempty; size = k.size; idle = k.idle; hold = k.hold };
}

-- a held entry is not listed, pinned or not
pub held_listed : (e : Entry) → is_held e.hold ≡ true → is_listed (with_pin true e) ≡ is_listed e
held_listed e h = rw h
