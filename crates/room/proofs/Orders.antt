-- Orders put into the words lent for them, one after the other.
use Prim.Native.Nat.{ℕ, suc, ◌+◌, ◌*◌}
use mathlib.Core.Bool.{false}
use mathlib.Core.List.{List, [], ◌∷◌, ◌++◌}
use mathlib.Core.Path.{◌≡◌, refl, sym, ap, ◌∙◌}
use native.Mathlib.Omega.{arith}
use lib.Dec.{ltb}
use lib.ListN.{length, length-append}
use borrow.Author.Tests.{ltb-false}
use Rattle.rules.proofs.Moved.{left_most}
use Rattle.rules.specs.Cache.{Cache, Work, start}
use Rattle.rules.specs.declared.order.Order.{Order}
use Rattle.layout.proofs.Held.{onward}
use Rattle.layout.specs.Holds.{Holds}
use Rattle.layout.specs.Leaves.{put_order}
use Rattle.layout.specs.Picture.{cache_in, rest_in}
use Rattle.room.specs.After.{after}
use Rattle.room.specs.Did.{put_orders, Did, Fits}

pub put_none : (n : ℕ) (ws : List ℕ) → ws ≡ put_orders n [] ws
unfolding put_orders
put_none n ws = refl

pub put_more : (n : ℕ) (l m : List Order) (ws : List ℕ) → put_orders n (l ++ m) ws ≡ put_orders (n + length l) m (put_orders n l ws)
unfolding put_orders
put_more n [] m ws = let e : n ≡ n + 0 = omega arith in ap (λ (k : ℕ). put_orders k m ws) e
put_more n (o ∷ l) m ws =
    let e : suc n + length l ≡ n + suc (length l) = omega arith in
    put_more (suc n) l m (put_order n o ws) ∙ ap (λ (k : ℕ). put_orders k m (put_orders (suc n) l (put_order n o ws))) e

pub put_next : (n : ℕ) (l : List Order) (o : Order) (ws : List ℕ) → put_orders n (l ++ o ∷ []) ws ≡ put_order (n + length l) o (put_orders n l ws)
unfolding put_orders
put_next n l o ws = put_more n l (o ∷ []) ws

-- a piece of work after another
pub did_then : {v w : Work} {rest table₁ table : List ℕ} {before given r : ℕ} {lent words₁ words : List ℕ} → Did v rest table₁ before lent words₁ given
    → Did w rest table given words₁ words r → Did (after v.orders w) rest table before lent words r
did_then {v} {w} {before = before} {lent = lent} p q = record {
  holds = q.holds;
  orders = q.orders ∙ rw (p.orders, p.number) (sym (put_more before v.orders w.orders lent));
  number = let e = p.number in let f = q.number in let g = length-append v.orders w.orders in omega arith;
}

-- a change after work that leaves the orders as they are
pub did_onward : {v : Work} {rest table₁ table₂ lent words : List ℕ} {before given : ℕ} (f : Cache → Cache) → Did v rest table₁ before lent words given
    → Holds table₂ (f (cache_in table₁)) (rest_in table₁) → Did (record { cache = f v.cache; orders = v.orders }) rest table₂ before lent words given
did_onward f d k = record { holds = onward f d.holds k; orders = d.orders; number = d.number }

-- a change with no order
pub did_holds : {d : Cache} {rest table lent : List ℕ} {before : ℕ} → Holds table d rest → Did (start d) rest table before lent lent before
did_holds {lent = lent} {before} h = record { holds = h; orders = put_none before lent; number = omega arith }

-- if the words lent suffice, every order of a cache with as many rows fits: each row gives at most two
pub words_fit : (c d : Cache) (lent : List ℕ) → ltb (length lent) (3 * (2 * length c.rows + 1)) ≡ false → length d.rows ≡ length c.rows → Fits d 0 lent
words_fit c d lent t e =
    let m = left_most d.rows in
    let l = ltb-false (length lent) (3 * (2 * length c.rows + 1)) t in
    omega arith

-- the number after the orders, by another name
pub did_number : {w : Work} {rest table lent words : List ℕ} {before given r : ℕ} → r ≡ given → Did w rest table before lent words given → Did w rest table before lent words r
did_number e d = record { holds = d.holds; orders = d.orders; number = e ∙ d.number }
