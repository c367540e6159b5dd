-- An entry changed in its row, as a request changes it: what setting or touching it asks, and what either leaves.
use Prim.Native.Nat.{ℕ}
use mathlib.Core.List.{List}
use Rattle.std.specs.Prelude.{Some}
use mathlib.Core.Path.{◌≡◌, sym, ap, ap₂, subst, ◌∙◌}
use Rattle.rules.specs.Allowed.{EntryAllowed}
use Rattle.rules.specs.Cache.{Cache, with_rows, amend_at, touch}
use Rattle.rules.specs.Entries.{is_listed}
use Rattle.rules.specs.Rows.{get, passes}
use Rattle.rules.specs.declared.entry.Entry.{Entry}
use Rattle.rules.specs.Types.{Row}
use Rattle.layout.specs.Holds.{Holds}
use Rattle.layout.specs.Picture.{cache_in}
use Rattle.table.specs.Asked.{GoodRows, RowOf}
use Rattle.table.specs.Told.{become}
use Rattle.table.proofs.Told.{told_address}
use Rattle.table.proofs.Turned.{become_as, touch_as}

-- what may become of an entry that is within its limits
pub record Keeps (f : Entry → Entry) (e : Entry) : Type 0 where
  pub address : (x : Entry) → (f x).address ≡ x.address
  pub allowed : EntryAllowed e → EntryAllowed (f e)

module _ (f : Entry → Entry) {a : ℕ} {e x : Entry} (k : Keeps f e) (p : x ≡ f e) where
  module _ {ws : List ℕ} {rows row : ℕ} (h : GoodRows ws rows) (r : RowOf (cache_in ws).rows a row) (g : get (cache_in ws).rows a ≡ Some e) where
    same : x.address ≡ a
    same = ap (λ (y : Entry). y.address) p ∙ k.address e ∙ told_address (cache_in ws).rows a e g

    row_asked : RowOf (cache_in ws).rows x.address row
    row_asked = rw same r

    allowed_asked : EntryAllowed x
    allowed_asked = rw p (k.allowed (h.good.steady.entries a e g))

    -- what setting the entry asks, where it is listed as before
    pub asks_set : is_listed (f e) ≡ is_listed e → GoodRows ws rows × RowOf (cache_in ws).rows x.address row × EntryAllowed x × (is_listed x ≡ passes is_listed (get (cache_in ws).rows x.address))
    asks_set l =
        (h, row_asked, allowed_asked, ap is_listed p ∙ l ∙ sym (ap (λ (b : ℕ). passes is_listed (get (cache_in ws).rows b)) same ∙ ap (passes is_listed) g))

    -- what touching it asks
    pub asks_touch : GoodRows ws rows × RowOf (cache_in ws).rows x.address row × EntryAllowed x
    asks_touch = (h, row_asked, allowed_asked)

    -- either leaves the rules' change
    pub told_set : {vs rest : List ℕ} → Holds vs (amend_at x.address (become x) (cache_in ws)) rest → Holds vs (amend_at a f (cache_in ws)) rest
    told_set {vs} {rest} =
        subst (λ (d : Cache). Holds vs d rest)
        (ap₂ (λ (b : ℕ) (y : Entry). amend_at b (become y) (cache_in ws)) same p
        ∙ ap (λ (l : List Row). with_rows l (cache_in ws).recency (cache_in ws)) (become_as f k.address (cache_in ws).rows a e h.good.steady.sound.distinct g))

    pub told_touch : {vs rest : List ℕ} → Holds vs (touch x.address (become x) (cache_in ws)) rest → Holds vs (touch a f (cache_in ws)) rest
    told_touch {vs} {rest} =
        subst (λ (d : Cache). Holds vs d rest)
        (ap₂ (λ (b : ℕ) (y : Entry). touch b (become y) (cache_in ws)) same p ∙ touch_as f k.address (cache_in ws) a e h.good.steady.sound.distinct g)
