-- The first field that is bad, by its place.
use Rattle.std.proofs.Common.{ℕ, ◌+◌, ◌≡◌, Bool, true, false, List, [], ◌∷◌, Some, None, refl, arith, length, cond, ltb}
use Rattle.std.specs.List.{position, position_or_len}
use Rattle.settings.specs.Validation.{first_true}

-- the first that is true, counted from n, is n more than its index
counted : (n : ℕ) (bs : List Bool) → first_true n bs ≡ cond (ltb (position_or_len (λ b. b) bs) (length bs)) (n + position_or_len (λ b. b) bs) 0
counted n [] = refl
counted n (true ∷ bs) = grind arith
counted n (false ∷ bs) = grind (arith, counted (n + 1) bs)

pub found : (bs : List Bool) (i : ℕ) → position (λ b. b) bs ≡ Some i → i + 1 ≡ first_true 1 bs
found bs i h = grind (arith, counted 1 bs)

pub not_found : (bs : List Bool) → position (λ b. b) bs ≡ None → 0 ≡ first_true 1 bs
not_found bs h = grind (arith, counted 1 bs)
