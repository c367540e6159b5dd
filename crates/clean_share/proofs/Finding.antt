-- The clean bytes wanted and missing, as the code finds them.
use Prim.Native.Nat.{ℕ, ◌+◌, ◌-◌, ◌*◌, ◌≤◌}
use mathlib.Core.Bool.{true, false}
use mathlib.Core.List.{List}
use Rattle.std.specs.Prelude.{Some}
use mathlib.Core.Path.{◌≡◌, ap₂, ◌∙◌}
use native.Mathlib.Nat.{le_refl}
use native.Mathlib.Omega.{arith}
use Rattle.fraction.specs.Fraction.{size_product}
use Rattle.settings.specs.declared.Settings.{Settings}
use Rattle.rules.specs.Cache.{Cache}
use Rattle.rules.specs.Limits.{most_rows, most_size}
use Rattle.rules.specs.Room.{clean_bytes, share_missing}
use Rattle.rules.specs.Rows.{get, held_bytes}
use Rattle.rules.specs.declared.entry.Entry.{Entry}
use Rattle.rules.specs.Types.{Row}
use Rattle.layout.specs.Picture.{cache_in}
use Rattle.table.proofs.Turns.{total_fits}
use Rattle.table.specs.Asked.{GoodRows}
use Rattle.table.specs.Told.{clean_size}
use Rattle.clean_share.specs.Wanted.{wanted_bytes}

pub wanted_found : (c : Cache) (x maximum held : ℕ) (s : Settings) {unused least r : ℕ} → maximum ≡ c.maximum → s ≡ c.settings → held ≡ held_bytes c.rows
    → unused ≡ maximum - (held + x) → least ≡ size_product maximum s.clean → r ≡ least - unused → r ≡ wanted_bytes x c
wanted_found c x maximum held s m t h u l r = r ∙ ap₂ (λ (p q : ℕ). p - q) (l ∙ ap₂ (λ (n : ℕ) (z : Settings). size_product n z.clean) m t) (u ∙ ap₂ (λ (n k : ℕ). n - (k + x)) m h)

-- what the entry at an address counts, dirty or clean
module _ (rows : List Row) (a : ℕ) (e : Entry) (r : get rows a ≡ Some e) where
  pub size_dirty : e.dirty ≡ true → 0 ≡ clean_size rows a
  size_dirty d = rw (r, d)

  pub size_clean : e.dirty ≡ false → e.size ≡ clean_size rows a
  size_clean d = rw (r, d)

-- what is wanted less what is clean is what is missing
pub missing_found : (x : ℕ) (c : Cache) {wanted r : ℕ} → wanted ≡ wanted_bytes x c → r ≡ wanted - clean_bytes c.rows c.recency → r ≡ share_missing x c
missing_found x c w e = omega arith

pub missing_none : (x : ℕ) (c : Cache) {wanted : ℕ} → wanted ≡ wanted_bytes x c → wanted ≡ 0 → 0 ≡ share_missing x c
missing_none x c w z = omega arith

-- held bytes fit a word with room to spare
pub held_fits : {table : List ℕ} {rows : ℕ} → GoodRows table rows → held_bytes (cache_in table).rows ≤ most_rows * most_size
held_fits g = total_fits g (λ e. e.size) (λ e. le_refl e.size)
