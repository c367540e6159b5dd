-- What the operations leave of a slice's words.
use Rattle.std.specs.Prelude.{ℕ, suc, List, [], ◌∷◌, ◌++◌, length, take, drop}

-- The word that names no row.
abbrev pub ones : ℕ
ones = 0xffff_ffff_ffff_ffff

-- Less the word at pos: the words past it move down by one, and the last is all ones.
unfoldable pub removed : ℕ → List ℕ → List ℕ
removed pos xs = take pos xs ++ (drop (suc pos) xs ++ ones ∷ [])

-- With v at pos: the words from there on move up by one, and the last falls out.
unfoldable pub inserted : ℕ → ℕ → List ℕ → List ℕ
inserted pos v xs = take (length xs) (take pos xs ++ v ∷ drop pos xs)
