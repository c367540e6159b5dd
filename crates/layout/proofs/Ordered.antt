-- An order written after those before it.
use Prim.Native.Nat.{ℕ, ◌+◌, ◌*◌}
use mathlib.Core.List.{List, [], ◌∷◌, ◌++◌}
use mathlib.Core.Path.{◌≡◌, refl, ap, ◌∙◌}
use native.Mathlib.Omega.{arith}
use lib.ListN.{length, length-append}
use Rattle.rules.specs.declared.order.Order.{Order}
use Rattle.layout.specs.Layout.{kind_word}
use Rattle.layout.specs.Leaves.{put_order}
use Rattle.layout.specs.Picture.{order_words, written}
use Rattle.layout.proofs.Leaves.{over_next}

pub length_orders : (orders : List Order) → length (order_words orders) ≡ length orders * 3
unfolding order_words
length_orders [] = refl
length_orders (o ∷ orders) = let ih = length_orders orders in omega arith

orders_append : (l m : List Order) → order_words (l ++ m) ≡ order_words l ++ order_words m
unfolding order_words
orders_append [] m = refl
orders_append (o ∷ l) m = ap (λ (ws : List ℕ). kind_word o.kind ∷ o.address ∷ o.size ∷ ws) (orders_append l m)

pub written_none : (ws : List ℕ) → written [] ws ≡ ws
unfolding written order_words
written_none ws = refl

pub written_next : (orders : List Order) (o : Order) (ws : List ℕ) → put_order (length orders) o (written orders ws) ≡ written (orders ++ o ∷ []) ws
unfolding written put_order
written_next orders o ws =
    let e : length (orders ++ o ∷ []) * 3 ≡ length orders * 3 + 3 = ap (λ (n : ℕ). n * 3) (length-append orders (o ∷ [])) ∙ omega arith in
    over_next (order_words orders) (order_words (o ∷ [])) ws (length orders * 3) 3 (length_orders orders)
    ∙ rw (e, orders_append orders (o ∷ []))
