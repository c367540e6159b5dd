-- The order's three words are written from its place on.
use Prim.Native.Nat.{◌*◌}
use mathlib.Core.List.{[], ◌∷◌}
use Rattle.layout.specs.Leaves.{put_order}
use Rattle.layout.specs.Picture.{order_words}
use Rattle.layout.proofs.Leaves.{over_end}
use Rattle.layout.proofs.order.order_put.Goals as goal

pub returns : goal.returns
unfolding put_order order_words
returns c =
    let s = c.args in
    over_end (s.n * 3) 3 (order_words (s.order ∷ [])) s.orders.now _ (rw c.kind_word.ensures at c.copy_in.ensures)
