-- What a piece of work on a table leaves.
use Rattle.std.specs.Prelude.{ℕ, suc, ◌+◌, ◌*◌, ◌≤◌, ◌≡◌, Bool, List, [], ◌∷◌, length, if◌then◌else◌}
use Rattle.rules.specs.declared.order.Order.{Order}
use Rattle.rules.specs.Cache.{Cache, Work}
use Rattle.rules.specs.Room.{lacking}
use Rattle.rules.specs.Rows.{held_bytes}
use Rattle.rules.proofs.Moved.{left}
use Rattle.layout.specs.Holds.{Holds}
use Rattle.layout.specs.Leaves.{put_order}
use Rattle.room.specs.declared.pass.Evicted.{Evicted}
use Rattle.room.specs.declared.pass.Stop.{Stop}
use Rattle.room.specs.declared.pass.Stop.TheVariants.{Enough, NothingLeft}

-- Orders in the words lent for them, from number n on.
unfoldable pub put_orders : ℕ → List Order → List ℕ → List ℕ
put_orders n [] ws = ws
put_orders n (o ∷ orders) ws = put_orders (suc n) orders (put_order n o ws)

-- The table holds the work's cache; the words lent have its orders from number `before` on, and `given` is the number after them.
pub record Did (w : Work) (rest table : List ℕ) (before : ℕ) (lent words : List ℕ) (given : ℕ) : Type 0 where
  pub holds : Holds table w.cache rest
  pub orders : words ≡ put_orders before w.orders lent
  pub number : given ≡ before + length w.orders

-- The orders that can still come for a cache fit in the words lent, from number `before` on.
abbrev pub Fits : Cache → ℕ → List ℕ → Type 0
Fits c before lent = (before + left c) * 3 ≤ length lent

-- What stopped the room-making loop: room suffices, or the list has nothing to give.
abbrev pub stop_of : ℕ → Bool → Work → Stop
stop_of x row w = if lacking x row w.cache then NothingLeft else Enough

-- The same of a room-making loop, with what stopped it and the held bytes that are left.
pub record Stopped (x : ℕ) (row : Bool) (w : Work) (rest table : List ℕ) (before : ℕ) (lent words : List ℕ) (r : Evicted) : Type 0 where
  pub did : Did w rest table before lent words r.given
  pub stop : r.stop ≡ stop_of x row w
  pub held : r.held ≡ held_bytes w.cache.rows
