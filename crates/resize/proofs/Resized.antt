-- What a resize comes to, case by case.
use Prim.Native.Nat.{ℕ}
use mathlib.Core.Bool.{false}
use mathlib.Core.List.{List}
use Rattle.std.specs.Prelude.{Some, Option}
use mathlib.Core.Path.{◌≡◌, refl, sym, ap, subst, ◌∙◌}
use lib.ListN.{length}
use Rattle.rules.proofs.Effects.{changed_allowed}
use Rattle.rules.specs.Allowed.{EntryAllowed}
use Rattle.rules.specs.Cache.{Cache, amend_at}
use Rattle.rules.specs.Entries.{is_listed, changed_to}
use Rattle.rules.specs.Refusals.{bad_size}
use Rattle.rules.specs.Requests.{named, growth}
use Rattle.rules.specs.Rows.{get, passes}
use Rattle.rules.specs.declared.entry.Entry.{Entry}
use Rattle.rules.specs.Types.{Row}
use Rattle.reason_rules.specs.declared.Change.{Change}
use Rattle.reason_rules.specs.Reasons.{flash_change}
use Rattle.reasons.specs.Changes.{change_of}
use Rattle.layout.proofs.Held.{holds_cache, onward}
use Rattle.layout.specs.Holds.{Holds}
use Rattle.layout.specs.Picture.{cache_in, rest_in}
use Rattle.table.proofs.Told.{good_rows, told_address}
use Rattle.table.specs.Asked.{GoodRows, RowOf}
use Rattle.table.specs.Told.{become}
use Rattle.table.proofs.Amended.{Keeps, asks_set, told_set}
use Rattle.resize.proofs.Laws.{flashed_rows}

pub changed_keeps : (s : ℕ) (e : Entry) → bad_size s ≡ false → Keeps (changed_to s) e
changed_keeps s e b = record {
  address = λ x. refl;
  allowed = changed_allowed s e b;
}

-- an entry is found at its own address
pub own_get : (rows : List Row) (a : ℕ) (e : Entry) → get rows a ≡ Some e → get rows e.address ≡ Some e
own_get rows a e g = ap (get rows) (told_address rows a e g) ∙ g

-- and the change of its growth is that of the growth at the address
pub own_change : (c : Cache) (a s : ℕ) (e : Entry) → get c.rows a ≡ Some e → {y : Option Change} → y ≡ change_of (flash_change (growth e.address s c) c)
    → y ≡ change_of (flash_change (growth a s c) c)
own_change c a s e g i = i ∙ ap (λ (b : ℕ). change_of (flash_change (growth b s c) c)) (told_address c.rows a e g)

-- ---- after the size is named

module _ {vs rest : List ℕ} (c : Cache) (b s : ℕ) (h : Holds vs (named b s c) rest) where
  named_rows : (cache_in vs).rows ≡ c.rows
  named_rows = ap (λ (d : Cache). d.rows) (holds_cache h) ∙ flashed_rows _ c

  module _ {a rows row : ℕ} {e x : Entry} (z : bad_size s ≡ false) (p : x ≡ changed_to s e) (q : rows ≡ length c.rows) (r : RowOf c.rows a row) (g : get c.rows a ≡ Some e) where
    good : GoodRows vs rows
    good = good_rows h (q ∙ sym (ap length (flashed_rows _ c)))

    there : RowOf (cache_in vs).rows a row
    there = rw named_rows r

    found : get (cache_in vs).rows a ≡ Some e
    found = rw named_rows g

    -- what setting the entry asks
    pub named_asks : GoodRows vs rows × RowOf (cache_in vs).rows x.address row × EntryAllowed x × (is_listed x ≡ passes is_listed (get (cache_in vs).rows x.address))
    named_asks = asks_set (changed_to s) (changed_keeps s e z) p good there found refl

    -- and what it leaves
    pub named_told : {ws : List ℕ} → b ≡ a → Holds ws (amend_at x.address (become x) (cache_in vs)) (rest_in vs) → Holds ws (amend_at a (changed_to s) (named a s c)) rest
    named_told {ws} w k =
        subst (λ (n : ℕ). Holds ws (amend_at a (changed_to s) (named n s c)) rest) w
        (onward (amend_at a (changed_to s)) h (told_set (changed_to s) (changed_keeps s e z) p good there found k))
