-- The number of entries is the number of addresses.
use Rattle.std.specs.Prelude.{None, Some}
use Prim.Native.Nat.{ℕ, suc}
use mathlib.Core.List.{List, [], ◌∷◌}
use mathlib.Core.Path.{◌≡◌, refl, ap}
use native.Mathlib.Omega.{arith}
use lib.Dec.{leb}
use lib.ListN.{length}
use Rattle.rules.specs.Types.{Row}
use Rattle.rules.specs.Addresses.{insert_rising}
use Rattle.rules.specs.Rows.{total}
use Rattle.rules.proofs.Tests.{choose}
use Rattle.layout.specs.Picture.{addresses}

one_longer : (a : ℕ) (l : List ℕ) → length (insert_rising a l) ≡ suc (length l)
unfolding insert_rising
one_longer a [] = refl
one_longer a (b ∷ l) = choose (λ (m : List ℕ). length m ≡ suc (suc (length l))) (leb a b) (λ p. refl) (λ p. ap suc (one_longer a l))

pub entries_are : (rows : List Row) → length (addresses rows) ≡ total (λ e. 1) rows
unfolding addresses total
entries_are [] = refl
entries_are (None ∷ rows) = entries_are rows
entries_are (Some e ∷ rows) = let i = one_longer e.address (addresses rows) in let h = entries_are rows in omega arith
