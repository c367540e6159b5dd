-- The place has the address; else it is searched for.
use Rattle.std.specs.Prelude.{Option, Some}
use Rattle.table.specs.declared.lookup.Found.{Found}
use Rattle.table.specs.Asked.{PlaceIn}
use Rattle.table.proofs.Told.{key_here, found_here}
use Rattle.table.proofs.Between.{place_at}
use Rattle.layout.specs.Picture.{row_number, addresses, cache_in}
use Rattle.layout.proofs.Numbers.{rising_addresses}
use mathlib.Core.Path.{sym, ap, ap₂, ◌∙◌}
use Prim.Native.Nat.{ℕ}
use native.Mathlib.Omega.{arith}
use Rattle.taken_list.proofs.find_next.Goals as goal

pub returns-then-key_at-address : goal.returns-then-key_at-address
returns-then-key_at-address c = let g = c.requires.0 in let a = c.args.address in let rows = (cache_in c.args.table.now).rows in let p : PlaceIn (addresses rows) a c.args.near = record { low = omega (arith, c.requires.1); same = sym c.key_at.ensures ∙ c.if-key_at-address.true } in ap₂ {C = Option Found} (λ (x y : ℕ). Some (record { place = x; row = y })) (place_at (addresses rows) a c.args.near (rising_addresses rows g.good.steady.sound.distinct) p.low p.same) (c.address_row-row.ensures.number ∙ ap (row_number rows) p.same) ∙ sym (found_here rows a (key_here g a _ p))
