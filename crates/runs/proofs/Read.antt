-- Orders read back from the words that they were written to.
use Rattle.std.specs.Prelude.{if◌then◌else◌}
use Prim.Native.Nat.{ℕ, ◌+◌, ◌*◌}
use mathlib.Core.Bool.{not, ◌&&◌}
use mathlib.Core.List.{List, [], ◌∷◌, ◌++◌, map}
use mathlib.Core.Path.{◌≡◌, refl, ap, ap₂}
use lib.Dec.{eqb, ltb}
use lib.ListN.{length, drop}
use Rattle.rules.proofs.Tests.{choose}
use Rattle.rules.specs.Cache.{Cache, Work, start, give}
use Rattle.rules.specs.History.{evicted_by, evicted_bytes}
use Rattle.rules.specs.Ledger.{Sends, flush, sync}
use Rattle.rules.specs.Requests.{effect, writes_of}
use Rattle.rules.specs.Room.{share_missing, write_dirty, write_in_place}
use Rattle.rules.specs.Rows.{dirty_at, dirty_rising}
use Rattle.rules.specs.Types.{Row}
use Rattle.rules.specs.declared.order.Kind.TheVariants.{Write, Evict, Load}
use Rattle.rules.specs.declared.order.Kind.{Kind}
use Rattle.rules.specs.declared.order.Order.{Order}
use Rattle.rules.specs.declared.request.Request.{Request}
use Rattle.layout.specs.Layout.{kind_word}
use Rattle.layout.specs.Picture.{order_words, written}
use Rattle.runs.specs.History.{evicted_in}
use Rattle.runs.specs.Hosts.{writes_in}

-- ---- a flush and a sync give writes alone

abbrev pub Writes : List Order → Type 0
Writes [] = Unit
Writes (o ∷ orders) = (o.kind ≡ Write) × Writes orders

writes_each : (rows : List Row) (l : List ℕ) → Writes (writes_of rows l)
writes_each rows [] = tt
writes_each rows (a ∷ l) = (refl, writes_each rows l)

writes_give : (a s : ℕ) (orders : List Order) → Writes orders → Writes (give Write a s orders)
writes_give a s [] w = (refl, tt)
writes_give a s (o ∷ orders) w = (w.0, writes_give a s orders w.1)

writes_dirty : (x : ℕ) (l : List ℕ) (w : Work) → Writes w.orders → Writes (write_dirty x l w).orders
unfolding write_dirty
writes_dirty x [] w k = k
writes_dirty x (a ∷ l) w k =
    writes_dirty x l (if ltb 0 (share_missing x w.cache) && dirty_at w.cache.rows a then write_in_place a w else w)
    (choose (λ (v : Work). Writes v.orders) (ltb 0 (share_missing x w.cache) && dirty_at w.cache.rows a) (λ h. writes_give a _ w.orders k) (λ h. k))

pub sends_writes : (c : Cache) (message : List ℕ) {r : Request} → Sends r → Writes (effect c message r).orders
unfolding effect
sends_writes c message flush = writes_each c.rows (dirty_rising c.rows)
sends_writes c message sync = writes_dirty 0 c.recency (start c) tt

-- ---- read back

writes_laid : (orders : List Order) (rest : List ℕ) → Writes orders → writes_in (length orders) (order_words orders ++ rest) ≡ map (λ o. o.address) orders
unfolding writes_in order_words
writes_laid [] rest w = refl
writes_laid (o ∷ orders) rest w = rw w.0 (ap (λ (l : List ℕ). o.address ∷ l) (writes_laid orders rest w.1))

pub writes_back : (orders : List Order) (ws : List ℕ) → Writes orders → writes_in (length orders) (written orders ws) ≡ map (λ o. o.address) orders
unfolding written
writes_back orders ws w = writes_laid orders (drop (length orders * 3) ws) w

evicted_laid : (orders : List Order) (rest : List ℕ) → evicted_in (length orders) (order_words orders ++ rest) ≡ evicted_bytes orders
unfolding evicted_in order_words evicted_bytes
evicted_laid [] rest = refl
evicted_laid (o ∷ orders) rest = ap₂ (λ (m n : ℕ). m + n) (go o.kind) (evicted_laid orders rest)
  where
    go : (k : Kind) → (if eqb (kind_word k) (kind_word Evict) then o.size else 0) ≡ evicted_by k o.size
    go Write = refl
    go Evict = refl
    go Load = refl

pub evicted_back : (orders : List Order) (ws : List ℕ) → evicted_in (length orders) (written orders ws) ≡ evicted_bytes orders
unfolding written
evicted_back orders ws = evicted_laid orders (drop (length orders * 3) ws)
