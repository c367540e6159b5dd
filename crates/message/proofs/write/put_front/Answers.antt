-- The number, and the count behind it.
use Rattle.message.proofs.Putting.{put_behind, number_length}
use Rattle.rules.specs.Messages.{bytes_of}
use lib.ListN.{drop}
use mathlib.Core.Path.{sym, ◌∙◌}
use mathlib.Core.List.{◌∷◌, append_assoc}
use Rattle.message.proofs.write.put_front.Goals as goal

pub returns : goal.returns
returns c = let s = c.args in put_behind (1 ∷ 0 ∷ 8 ∷ bytes_of 8 s.number) s.part.now (2 ∷ 0 ∷ 2 ∷ bytes_of 2 s.count) 11 5 c.put_number.ensures (number_length 1 s.number) c.put_count.ensures ∙ sym (append_assoc (1 ∷ 0 ∷ 8 ∷ bytes_of 8 s.number) (2 ∷ 0 ∷ 2 ∷ bytes_of 2 s.count) (drop 16 s.part.now))
