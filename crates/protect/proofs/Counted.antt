-- An access counted after other work: what counting asks of the table, and the work with the count.
use Prim.Native.Nat.{ℕ, ◌+◌, ◌*◌, ◌≤◌, ◌<◌}
use mathlib.Core.Bool.{Bool}
use mathlib.Core.List.{List, append-nil}
use mathlib.Core.Path.{◌≡◌, refl, sym, ap, subst, ◌∙◌}
use lib.ListN.{length}
use Rattle.rules.proofs.Figures.{InRange, figures_of}
use Rattle.rules.proofs.Moved.{left}
use Rattle.rules.specs.Cache.{Work, start}
use Rattle.rules.specs.Resizing.{count_access}
use Rattle.layout.proofs.Held.{holds_cache, holds_rest}
use Rattle.layout.specs.Picture.{cache_in, rest_in}
use Rattle.room.proofs.After.{same_work, count_carries}
use Rattle.room.proofs.Orders.{did_then}
use Rattle.room.specs.After.{after}
use Rattle.room.specs.Did.{Did, Fits}
use Rattle.table.proofs.Told.{good_rows}
use Rattle.table.specs.Asked.{GoodRows}

-- what counting asks
abbrev pub Countable : List ℕ → ℕ → ℕ → List ℕ → Type 0
Countable table rows given lent =
    GoodRows table rows × ((cache_in table).accesses < (cache_in table).settings.epoch) × ((cache_in table).hits ≤ (cache_in table).accesses) × Fits (cache_in table) given lent

module _ {v : Work} {rest table₁ lent words₁ : List ℕ} {before given : ℕ} (d : Did v rest table₁ before lent words₁ given) where
  pub count_asks : {rows : ℕ} → rows ≡ length v.cache.rows → InRange (figures_of v.cache) → (given + left v.cache) * 3 ≤ length words₁
      → Countable table₁ rows given words₁
  count_asks e r f =
      let same = holds_cache d.holds in
      (good_rows d.holds e, rw same r.early, rw same r.ranged.hits, rw same f)

  pub count_joins : {table words : List ℕ} {r : ℕ} (hit : Bool) → Did (count_access hit (start (cache_in table₁))) (rest_in table₁) table given words₁ words r
      → Did (count_access hit v) rest table before lent words r
  count_joins {table} {words} {r} hit e =
      let q : Did (count_access hit (start v.cache)) rest table given words₁ words r = rw (holds_cache d.holds, holds_rest d.holds) at e in
      let same : after v.orders (start v.cache) ≡ v = same_work v.orders refl (append-nil v.orders) in
      subst (λ (w : Work). Did w rest table before lent words r)
      (sym (count_carries v.orders hit (start v.cache)) ∙ ap (count_access hit) same)
      (did_then d q)
