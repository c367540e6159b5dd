-- Which requests the words of a batch name.
use Rattle.std.specs.Prelude.{ℕ, ◌≡◌, List, [], ◌∷◌, Some}
use Rattle.rules.specs.declared.request.Request.{Request}
use Rattle.numbers.specs.Meanings.{plain_of}

-- All of them are such requests.
abbrev pub Named : (Request → Type 0) → List ℕ → Type 0
Named Q [] = Unit
Named Q (k ∷ []) = Unit
Named Q (k ∷ a ∷ []) = Unit
Named Q (k ∷ a ∷ s ∷ rest) = ((r : Request) → plain_of k a s ≡ Some r → Q r) × Named Q rest
