-- The fields of the first i addresses stand there.
use Prim.Native.Nat.{◌*◌}
use mathlib.Core.List.{◌++◌}
use mathlib.Core.Path.{◌≡◌}
use lib.ListN.{length, take, drop}
use Rattle.rules.specs.Messages.{address_fields}
use Rattle.message.proofs.write.put_addresses.Given as goal

abbrev pub invariant-loop-i : goal.invariant-loop-i
invariant-loop-i l = (length l.part ≡ length l.initial.part) × (l.part ≡ address_fields (take l.i l.list) ++ drop (l.i * 11) l.initial.part)
