-- The row that a request works on: that of an address that is here.
use Rattle.std.specs.Prelude.{Option, None, Some}
use Prim.Native.Nat.{ℕ}
use mathlib.Core.Bool.{true, false≢true}
use mathlib.Core.List.{List, []}
use mathlib.Core.Path.{◌≡◌, sym, ap, subst, ◌∙◌}
use Rattle.rules.specs.Hosts.{asking}
use Rattle.rules.specs.Rows.{passes, is_here}
use Rattle.rules.specs.Types.{Row}
use Rattle.rules.specs.declared.request.Request.TheVariants.{Release, ReleaseChanged, Pin, Unpin, Resize}
use Rattle.layout.specs.Picture.{cache_in}
use Rattle.table.proofs.Told.{found_at, found_no}
use Rattle.table.specs.Asked.{RowOf}
use Rattle.table.specs.Told.{found_in}
use Rattle.table.specs.declared.lookup.Found.{Found}
use Rattle.refusals.specs.Named.{row_found}
use Rattle.refusals.specs.Unrefused.{Unrefused}
use Rattle.refusals.proofs.Unrefused.{releasable, changeable, pinnable, unpinnable, resizable}

found_row : (rows : List Row) (a : ℕ) (f : Option Found) → f ≡ found_in rows a → is_here rows a ≡ true → RowOf rows a (row_found f)
found_row rows a (Some f) e h = (found_at rows a f (sym e)).0
found_row rows a None e h = absurd (false≢true (sym (ap (passes (λ x. true)) (found_no rows a (sym e))) ∙ h))

-- ---- the row of a request that is not refused, by where its address was found

module _ {f : Option Found} {row : ℕ} (r : row ≡ row_found f) where
  row_there : (rows : List Row) (a : ℕ) → f ≡ found_in rows a → is_here rows a ≡ true → RowOf rows a row
  row_there rows a e h = subst (RowOf rows a) (sym r) (found_row rows a f e h)

  pub release_row : {ws : List ℕ} {a lent : ℕ} → Unrefused ws (asking (Release a) [] lent) → f ≡ found_in (cache_in ws).rows a → RowOf (cache_in ws).rows a row
  release_row {ws} {a} {lent} u e = row_there (cache_in ws).rows a e (releasable (cache_in ws) lent a u.accepted).1

  pub changed_row : {ws : List ℕ} {a s lent : ℕ} → Unrefused ws (asking (ReleaseChanged a s) [] lent) → f ≡ found_in (cache_in ws).rows a → RowOf (cache_in ws).rows a row
  changed_row {ws} {a} {s} {lent} u e = row_there (cache_in ws).rows a e (changeable (cache_in ws) lent a s u.accepted).here

  pub pin_row : {ws : List ℕ} {a : ℕ} → Unrefused ws (asking (Pin a) [] 0) → f ≡ found_in (cache_in ws).rows a → RowOf (cache_in ws).rows a row
  pin_row {ws} {a} u e = row_there (cache_in ws).rows a e (pinnable (cache_in ws) a u.accepted).here

  pub unpin_row : {ws : List ℕ} {a : ℕ} → Unrefused ws (asking (Unpin a) [] 0) → f ≡ found_in (cache_in ws).rows a → RowOf (cache_in ws).rows a row
  unpin_row {ws} {a} u e = row_there (cache_in ws).rows a e (unpinnable (cache_in ws) a u.accepted)

  pub resize_row : {ws : List ℕ} {a s : ℕ} → Unrefused ws (asking (Resize a s) [] 0) → f ≡ found_in (cache_in ws).rows a → RowOf (cache_in ws).rows a row
  resize_row {ws} {a} {s} u e = row_there (cache_in ws).rows a e (resizable (cache_in ws) a s u.accepted).1
