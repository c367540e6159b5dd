-- The entries are clean, then the byte count is 0, then the number is used up.
use Rattle.lists.proofs.Numbering.{after_next}
use Rattle.layout.proofs.Held.{holds_good, holds_cache, onward}
use Rattle.rules.specs.Cache.{Cache, with_count, with_next}
use mathlib.Core.Path.{ap, ◌∙◌}
use native.Mathlib.Omega.{arith}
use Rattle.lists.proofs.take.take_list.Goals as goal

pub set_count-requires : goal.set_count-requires
set_count-requires c = (holds_good c.clean_each.ensures, omega arith)

pub next_number-next-requires : goal.next_number-next-requires
next_number-next-requires c = holds_good c.set_count.ensures

pub set_next-requires : goal.set_next-requires
set_next-requires c = holds_good c.set_count.ensures

pub returns : goal.returns
returns c = after_next _ (c.next_number-next.ensures ∙ ap (λ (x : Cache). x.next) (holds_cache (onward (with_count 0) c.clean_each.ensures c.set_count.ensures))) c.next_after.ensures (onward (with_next c.next_after.result) (onward (with_count 0) c.clean_each.ensures c.set_count.ensures) c.set_next.ensures)
