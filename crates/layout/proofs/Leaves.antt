-- A part of a table that was lent and came back changed.
use Prim.Native.Nat.{ℕ, ◌+◌, ◌-◌, ◌≤◌}
use mathlib.Core.List.{List, ◌++◌, append-nil, append_assoc}
use mathlib.Core.Path.{◌≡◌, sym, ap, ◌∙◌}
use native.Mathlib.Omega.{arith}
use lib.ListN.{length, take, drop, replicate, length-drop, drop_of_length-le}
use lib.Seq.{take_all, take_at, drop_at, drop-drop, length-take-le}
use Rattle.layout.specs.Leaves.{over}

-- the words from a to a + n came back as ys
pub over_part : (a n : ℕ) (f : List ℕ → List ℕ) (ws ys : List ℕ) → ys ≡ f (take (a + n - a) (drop a ws))
    → take a ws ++ (ys ++ drop (a + n - a) (drop a ws)) ≡ over a n f ws
over_part a n f ws ys q =
    let e : a + n - a ≡ n = omega arith in
    rw (q, e)

-- the words from a to the end came back with vs over the first n of them
pub over_end : (a n : ℕ) (vs ws ys : List ℕ) → ys ≡ vs ++ drop n (take (length ws - a) (drop a ws))
    → take a ws ++ (ys ++ drop (length ws - a) (drop a ws)) ≡ over a n (λ old. vs) ws
over_end a n vs ws ys q =
    let l = length-drop a ws in
    rw (q, take_all (length ws - a) (drop a ws) (omega arith), drop_of_length-le (drop a ws) {i = length ws - a} (omega arith), append-nil)

-- the words from a to a + n came back as v throughout
pub over_filled : (a n v : ℕ) (ws ys : List ℕ) → a + n ≤ length ws → ys ≡ replicate (length (take (a + n - a) (drop a ws))) v
    → take a ws ++ (ys ++ drop (a + n - a) (drop a ws)) ≡ over a n (λ old. replicate n v) ws
over_filled a n v ws ys h q =
    let l = length-drop a ws in
    over_part a n (λ old. replicate (length old) v) ws ys q
    ∙ ap (λ (k : ℕ). take a ws ++ (replicate k v ++ drop n (drop a ws))) (length-take-le n (drop a ws) (omega arith))

-- the next n words of a table whose first words are A
pub over_next : (A vs ws : List ℕ) (a n : ℕ) → length A ≡ a → over a n (λ old. vs) (A ++ drop a ws) ≡ (A ++ vs) ++ drop (a + n) ws
over_next A vs ws a n p =
    rw (take_at A (drop a ws) a p, drop_at A (drop a ws) a p, drop-drop n a ws) (sym (append_assoc A vs (drop (a + n) ws)))
