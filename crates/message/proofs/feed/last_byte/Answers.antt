-- The address is whole, and is one more.
use Rattle.message.proofs.Bytewise.{more_kept}
use mathlib.Core.Path.{refl}
use Rattle.message.proofs.feed.last_byte.Goals as goal

pub returns : goal.returns
returns c = record { each = λ list k. record { reading = refl; keeps = more_kept _ refl refl k } }
