-- Orders as the host carries them out: what is written was dirty, what is evicted was clean and neither held nor pinned.
use Rattle.std.specs.Prelude.{ℕ, ◌≡◌, Bool, true, false, List, [], ◌∷◌, eqb, if◌then◌else◌, Option, None, Some, option_map}
use Rattle.rules.specs.declared.entry.Entry.{Entry}
use Rattle.rules.specs.declared.order.Kind.{Kind}
use Rattle.rules.specs.declared.order.Order.{Order}
use Rattle.rules.specs.declared.request.Request.{Request}
use Rattle.rules.specs.declared.request.Request.TheVariants.{Insert, Protect, Release, ReleaseChanged, Pin, Unpin, Resize, Discard, Flush, Sync, Take, Configure}
use Rattle.rules.specs.Cache.{Cache, touch}
use Rattle.rules.specs.Entries.{is_listed, protected_for, released, changed_to}
use Rattle.rules.specs.Requests.{Outcome, named}
use Rattle.rules.specs.Rows.{get, is_here}

-- What orders go by: an entry's size, its mark, and whether it stands in the recency list.
pub record Standing : Type 0 where
  pub size : ℕ
  pub dirty : Bool
  pub listed : Bool

abbrev pub standing : Entry → Standing
standing e = record { size = e.size; dirty = e.dirty; listed = is_listed e }

-- The entries of a cache by address.
abbrev pub View : Type 0
View = ℕ → Option Standing

abbrev pub view_of : Cache → View
view_of c = λ a. option_map standing (get c.rows a)

-- A view with another standing at an address.
abbrev pub at : ℕ → Option Standing → View → View
at a s v = λ b. if eqb a b then s else v b

-- The orders lead from one view to another.
pub data Given : View → List Order → View → Type 0 where
  nothing : {v : View} → Given v [] v
  -- a dirty entry is written, after which it is clean
  write : {v u : View} {orders : List Order} (a s : ℕ) (l : Bool) → v a ≡ Some (record { size = s; dirty = true; listed = l })
      → Given (at a (Some (record { size = s; dirty = false; listed = l })) v) orders u
      → Given v (record { kind = Kind.Write; address = a; size = s } ∷ orders) u
  -- a clean entry that stands in the recency list goes
  evict : {v u : View} {orders : List Order} (a s : ℕ) → v a ≡ Some (record { size = s; dirty = false; listed = true })
      → Given (at a None v) orders u
      → Given v (record { kind = Kind.Evict; address = a; size = s } ∷ orders) u
  -- a clean entry comes, held
  load : {v u : View} {orders : List Order} (a s : ℕ) → v a ≡ None
      → Given (at a (Some (record { size = s; dirty = false; listed = false })) v) orders u
      → Given v (record { kind = Kind.Load; address = a; size = s } ∷ orders) u

-- The cache when a request's first order can be given: a hit has taken its hold, and a release has let one go.
abbrev pub orders_from : Cache → Request → Cache
orders_from c (Insert a s) = c
orders_from c (Protect x a s) = if is_here c.rows a then touch a (protected_for x) c else c
orders_from c (Release a) = touch a released c
orders_from c (ReleaseChanged a s) = touch a (λ e. released (changed_to s e)) (named a s c)
orders_from c (Pin a) = c
orders_from c (Unpin a) = c
orders_from c (Resize a s) = c
orders_from c (Discard a) = c
orders_from c Flush = c
orders_from c Sync = c
orders_from c Take = c
orders_from c (Configure s) = c

-- What its orders lead to: the cache that it leaves, but for the entry that an insert puts in last.
abbrev pub orders_to : Request → Cache → View
orders_to (Insert a s) d = at a None (view_of d)
orders_to (Protect x a s) d = view_of d
orders_to (Release a) d = view_of d
orders_to (ReleaseChanged a s) d = view_of d
orders_to (Pin a) d = view_of d
orders_to (Unpin a) d = view_of d
orders_to (Resize a s) d = view_of d
orders_to (Discard a) d = view_of d
orders_to Flush d = view_of d
orders_to Sync d = view_of d
orders_to Take d = view_of d
orders_to (Configure s) d = view_of d

-- Orders can come from insert, protect, release, flush, sync and configure.
abbrev pub can_order : Request → Bool
can_order (Insert a s) = true
can_order (Protect x a s) = true
can_order (Release a) = true
can_order (ReleaseChanged a s) = true
can_order (Pin a) = false
can_order (Unpin a) = false
can_order (Resize a s) = false
can_order (Discard a) = false
can_order Flush = true
can_order Sync = true
can_order Take = false
can_order (Configure s) = true

-- The orders of an accepted request, by its kind: they lead from the one cache to the other, or there are none.
abbrev pub OrdersGiven : Bool → Cache → Request → Outcome → Type 0
OrdersGiven true c r o = Given (view_of (orders_from c r)) o.orders (orders_to r o.cache)
OrdersGiven false c r o = o.orders ≡ []
