-- What a shift of a part leaves, and what a run is whose part from pos on is shifted.
use Rattle.std.proofs.Common.{ℕ, zero, suc, ◌-◌, ◌<◌, List, [], ◌∷◌, ◌++◌, append-nil, ◌≡◌, refl, ap, le_of_suc-le-suc, add-one, sub-one, one-add, zero-add, arith, length, length-drop, get_or, set, take, drop, drop_of_length-le}
use native.Mathlib.Nat.{sub-zero}
use lib.Seq.{take_all, take-length, drop-drop, drop-cons, set_at}
use Rattle.std.specs.List.{copy_within}
use Rattle.words.specs.Runs.{ones, removed, inserted}

-- all words but the first are moved down by one, and the last is all ones
pub moved_down : (xs ys : List ℕ) → 0 < length xs → ys ≡ copy_within xs 1 (length xs) 0 → set ys (length xs - 1) ones ≡ removed 0 xs
unfolding removed
moved_down [] ys h e = absurd (omega arith)
moved_down (x ∷ xs) ys h e =
    rw (e, sub-one, take-length xs, zero-add, drop-cons (x ∷ xs) (length xs) 0 (omega arith), drop_of_length-le xs {i = length xs} (omega arith))
    (set_at xs (get_or (x ∷ xs) (length xs) 0) [] ones (length xs) refl)

-- all words but the last are moved up by one, and the first is v
pub moved_up : (xs ys : List ℕ) (v : ℕ) → 0 < length xs → ys ≡ copy_within xs 0 (length xs - 1) 1 → set ys 0 v ≡ inserted 0 v xs
unfolding inserted
moved_up [] ys v h e = absurd (omega arith)
moved_up (x ∷ xs) ys v h e =
    rw (e, sub-one, sub-zero, one-add, drop_of_length-le xs {i = length xs} (omega arith))
    (ap (λ (l : List ℕ). v ∷ l) (append-nil (take (length xs) (x ∷ xs))))

-- the words from pos to the end came back as ys
pub from_pos : (xs ys : List ℕ) (pos : ℕ) (f : List ℕ → List ℕ) → ys ≡ f (take (length xs - pos) (drop pos xs))
    → take pos xs ++ (ys ++ drop (length xs - pos) (drop pos xs)) ≡ take pos xs ++ f (drop pos xs)
from_pos xs ys pos f q =
    let l = length-drop pos xs in
    rw (q, take_all (length xs - pos) (drop pos xs) (omega arith), drop_of_length-le (drop pos xs) {i = length xs - pos} (omega arith), append-nil)

pub removed_from : (xs : List ℕ) (pos : ℕ) → take pos xs ++ removed 0 (drop pos xs) ≡ removed pos xs
unfolding removed
removed_from xs pos = rw (drop-drop 1 pos xs, add-one)

pub inserted_from : (xs : List ℕ) (pos v : ℕ) → pos < length xs → take pos xs ++ inserted 0 v (drop pos xs) ≡ inserted pos v xs
unfolding inserted
inserted_from [] pos v h = absurd (omega arith)
inserted_from (x ∷ xs) zero v h = refl
inserted_from (x ∷ xs) (suc pos) v h = ap (λ (l : List ℕ). x ∷ l) (inserted_from xs pos v (le_of_suc-le-suc h))
