-- The bytes that came and went over a run of requests.
use Rattle.std.specs.Prelude.{ℕ, ◌+◌, ◌-◌, ◌≡◌, Bool, List, [], ◌∷◌, if◌then◌else◌}
use Rattle.rules.specs.declared.order.Kind.{Kind}
use Rattle.rules.specs.declared.order.Order.{Order}
use Rattle.rules.specs.declared.request.Request.{Request}
use Rattle.rules.specs.declared.request.Request.TheVariants.{Insert, Protect, Release, ReleaseChanged, Pin, Unpin, Resize, Discard, Flush, Sync, Take, Configure}
use Rattle.rules.specs.Cache.{Cache, held}
use Rattle.rules.specs.Hosts.{accepted}
use Rattle.rules.specs.Refusals.{Call}
use Rattle.rules.specs.Requests.{Outcome, step}
use Rattle.rules.specs.Rows.{is_here, size_at}

-- ---- one accepted request

-- Bytes brought in: an insert's, and a miss's.
abbrev pub brought_in : Cache → Request → ℕ
brought_in c (Insert a s) = s
brought_in c (Protect x a s) = if is_here c.rows a then 0 else s
brought_in c (Release a) = 0
brought_in c (ReleaseChanged a s) = 0
brought_in c (Pin a) = 0
brought_in c (Unpin a) = 0
brought_in c (Resize a s) = 0
brought_in c (Discard a) = 0
brought_in c Flush = 0
brought_in c Sync = 0
brought_in c Take = 0
brought_in c (Configure s) = 0

-- The size that a request names for an entry of the cache, and the size that the entry had.
abbrev pub new_size : Request → ℕ
new_size (Insert a s) = 0
new_size (Protect x a s) = 0
new_size (Release a) = 0
new_size (ReleaseChanged a s) = s
new_size (Pin a) = 0
new_size (Unpin a) = 0
new_size (Resize a s) = s
new_size (Discard a) = 0
new_size Flush = 0
new_size Sync = 0
new_size Take = 0
new_size (Configure s) = 0

abbrev pub old_size : Cache → Request → ℕ
old_size c (Insert a s) = 0
old_size c (Protect x a s) = 0
old_size c (Release a) = 0
old_size c (ReleaseChanged a s) = size_at c.rows a
old_size c (Pin a) = 0
old_size c (Unpin a) = 0
old_size c (Resize a s) = size_at c.rows a
old_size c (Discard a) = 0
old_size c Flush = 0
old_size c Sync = 0
old_size c Take = 0
old_size c (Configure s) = 0

-- Bytes discarded.
abbrev pub thrown_away : Cache → Request → ℕ
thrown_away c (Insert a s) = 0
thrown_away c (Protect x a s) = 0
thrown_away c (Release a) = 0
thrown_away c (ReleaseChanged a s) = 0
thrown_away c (Pin a) = 0
thrown_away c (Unpin a) = 0
thrown_away c (Resize a s) = 0
thrown_away c (Discard a) = size_at c.rows a
thrown_away c Flush = 0
thrown_away c Sync = 0
thrown_away c Take = 0
thrown_away c (Configure s) = 0

abbrev pub evicted_by : Kind → ℕ → ℕ
evicted_by Kind.Write s = 0
evicted_by Kind.Evict s = s
evicted_by Kind.Load s = 0

-- The bytes of a list's evict orders.
unfoldable pub evicted_bytes : List Order → ℕ
evicted_bytes [] = 0
evicted_bytes (o ∷ orders) = evicted_by o.kind o.size + evicted_bytes orders

-- ---- a run

-- The cache at the end of a run, with the bytes that came and went.
pub record Past : Type 0 where
  pub cache : Cache
  pub brought : ℕ
  pub grown : ℕ
  pub evicted : ℕ
  pub discarded : ℕ
  pub shrunk : ℕ

-- A figure that an accepted request adds to.
abbrev pub plus : Bool → ℕ → ℕ → ℕ
plus ok n k = if ok then n + k else n

-- A history that goes on with a request and its outcome.
abbrev pub added : Past → Request → Outcome → Past
added p r o =
    let c = p.cache in
    record {
      cache = o.cache;
      brought = plus (accepted o) p.brought (brought_in c r);
      grown = plus (accepted o) p.grown (new_size r - old_size c r);
      evicted = plus (accepted o) p.evicted (evicted_bytes o.orders);
      discarded = plus (accepted o) p.discarded (thrown_away c r);
      shrunk = plus (accepted o) p.shrunk (old_size c r - new_size r);
    }

abbrev pub next : Past → Call → Past
next p call = added p call.request (step p.cache call)

-- The latest request stands first.
unfoldable pub past : Cache → List Call → Past
past c [] = record { cache = c; brought = 0; grown = 0; evicted = 0; discarded = 0; shrunk = 0 }
past c (call ∷ earlier) = next (past c earlier) call

-- Held bytes equal bytes brought in and grown, less bytes evicted, discarded and shrunk.
abbrev pub Balanced : Past → Type 0
Balanced p = held p.cache + (p.evicted + p.discarded + p.shrunk) ≡ p.brought + p.grown
