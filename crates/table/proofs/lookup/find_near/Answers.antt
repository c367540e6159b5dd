-- The search's place has the address, or no place has it.
use Rattle.std.specs.Prelude.{Option, Some}
use Prim.Native.Nat.{ℕ}
use mathlib.Core.Path.{sym, ap, ap₂, ◌∙◌}
use native.Mathlib.Omega.{arith}
use lib.ListN.{get_or}
use Rattle.layout.specs.Picture.{row_number, addresses, cache_in}
use Rattle.table.specs.declared.lookup.Found.{Found}
use Rattle.table.specs.Asked.{PlaceIn}
use Rattle.table.proofs.Told.{place_key, key_here, found_here, found_none, false_of}
use Rattle.table.proofs.lookup.find_near.Goals as goal
use Rattle.table.proofs.lookup.find_near.Goals.{else-place-n-via-then-place-n+else-key_at-address, else-place-n-via-else-place-n}

pub returns-then-key_at-address : goal.returns-then-key_at-address
returns-then-key_at-address c =
    let g = c.requires.0 in
    let a = c.args.address in
    let rows = (cache_in c.args.table.now).rows in
    let p : PlaceIn (addresses rows) a c.place_of-place.result = record { low = omega (arith, c.requires.1); same = sym c.key_at.ensures ∙ c.if-key_at-address.true } in
    ap₂ {C = Option Found} (λ (x y : ℕ). Some (record { place = x; row = y })) c.place_of-place.ensures (c.address_row-row.ensures.number ∙ ap (row_number rows) p.same) ∙ sym (found_here rows a (key_here g a _ p))

pub returns : goal.returns
returns c =
    let g = c.requires.0 in
    let a = c.args.address in
    let rows = (cache_in c.args.table.now).rows in
    sym (found_none rows a (false_of _ (λ h.
    let k = place_key g a h in
    elim c.else-place-n.branch [
      | else-place-n-via-then-place-n+else-key_at-address w ↦ w.if-key_at-address.false (w.key_at.ensures ∙ ap (λ (i : ℕ). get_or (addresses rows) i 0) c.place_of-place.ensures ∙ k.same)
      | else-place-n-via-else-place-n w ↦ let l = k.low in omega (arith, c.requires.1, c.place_of-place.ensures)
    ])))
