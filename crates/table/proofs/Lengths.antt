-- The search for a run's length: a word is all ones exactly from the length on.
use Prim.Native.Nat.{ℕ, zero, suc, ◌+◌, ◌-◌, ◌<◌, ◌≤◌}
use mathlib.Core.Bool.{not, true, false, false≢true}
use mathlib.Core.List.{List, [], ◌∷◌}
use mathlib.Core.Path.{◌≡◌, sym, ap, ◌∙◌}
use native.Mathlib.Nat.{le_of_suc-le-suc}
use native.Mathlib.Omega.{arith}
use lib.Dec.{eqb, ltb}
use lib.ListN.{length, get_or, take, drop, get_or-replicate, length-take, length-drop}
use lib.Seq.{get_or-take, get_or-drop}
use borrow.Author.Tests.{eqb-false, eq-eqb, ne_eqb, ltb-true, ltb-false}
use Rattle.std.proofs.lemmas.List.{get_or_default}
use Rattle.std.specs.List.Sorted.{IsPartitionedBy, IsPartitionPoint}
use Rattle.rules.proofs.Tests.{split}
use Rattle.layout.specs.Layout.{ones}
use Rattle.layout.specs.Picture.{run, run_of}
use Rattle.layout.proofs.Cuts.{get_d_run}
use Rattle.table.specs.Asked.{RunIn}

-- no word of the list is all ones
number_not : (n : ℕ) (ws : List ℕ) (i : ℕ) → i < length (run_of n ws) → get_or (run_of n ws) i 0 ≡ ones → ⊥
unfolding run_of
number_not zero ws i h q = absurd (omega arith)
number_not (suc n) [] i h q = absurd (omega arith)
number_not (suc n) (w ∷ ws) zero h q =
    split (eqb w ones) (λ p. let k = simp p at h in omega arith) (λ p. eqb-false w ones p (simp p at q))
number_not (suc n) (w ∷ ws) (suc i) h q =
    split (eqb w ones) (λ p. let k = simp p at h in omega arith) (λ p. number_not n ws i (le_of_suc-le-suc (simp p at h)) (simp p at q))

-- past the list every word is
ones_past : (n i : ℕ) (l : List ℕ) → length l ≤ i → i < n → get_or (run n l) i 0 ≡ ones
unfolding run
ones_past n i [] h k = let e : n - 0 ≡ n = omega arith in rw e (get_or-replicate n i ones 0 k)
ones_past n zero (x ∷ l) h k = absurd (omega arith)
ones_past zero (suc i) (x ∷ l) h k = absurd (omega arith)
ones_past (suc n) (suc i) (x ∷ l) h k =
    let e : suc n - suc (length l) ≡ n - length l = omega arith in
    rw e (ones_past n i l (le_of_suc-le-suc h) (le_of_suc-le-suc k))

run_most : (n : ℕ) (ws : List ℕ) → length (run_of n ws) ≤ n
unfolding run_of
run_most zero ws = omega arith
run_most (suc n) [] = omega arith
run_most (suc n) (w ∷ ws) = split (eqb w ones) (λ p. simp p (omega arith)) (λ p. let k = run_most n ws in simp p (omega arith))

module _ {ws : List ℕ} {at n : ℕ} (r : RunIn ws at n) (i : ℕ) (h : i < n) where
  word_is : get_or ws (at + i) 0 ≡ get_or (run n (run_of n (drop at ws))) i 0
  word_is = sym (get_or-drop at ws i 0) ∙ sym (get_or-take n (drop at ws) i 0 h) ∙ ap (λ (l : List ℕ). get_or l i 0) r.all

  pub at_ones : get_or ws (at + i) 0 ≡ ones → length (run_of n (drop at ws)) ≤ i
  at_ones q =
      split (ltb i (length (run_of n (drop at ws))))
      (λ p. let k = ltb-true i _ p in absurd (number_not n (drop at ws) i k (sym (get_d_run n i _ k) ∙ sym word_is ∙ q)))
      (λ p. ltb-false i _ p)

  pub at_number : (get_or ws (at + i) 0 ≡ ones → ⊥) → i < length (run_of n (drop at ws))
  at_number q =
      split (ltb i (length (run_of n (drop at ws))))
      (λ p. ltb-true i _ p)
      (λ p. absurd (q (word_is ∙ ones_past n i _ (ltb-false i _ p) h)))

-- the words of the run are parted there, so that the point which parts them is the length
module _ {ws : List ℕ} {at n k : ℕ} (r : RunIn ws at n) (e : k ≡ n) where
  pub word_of : (i d : ℕ) → i < n → get_or (take k (drop at ws)) i d ≡ get_or ws (at + i) 0
  word_of i d h =
      let f = r.fits in
      let l : at + i < length ws = omega arith in
      get_or-take k (drop at ws) i d (omega arith) ∙ get_or-drop at ws i d ∙ get_or_default ws (at + i) d 0 l

  number_at : (i d : ℕ) → i < n → not (eqb (get_or (take k (drop at ws)) i d) ones) ≡ true → i < length (run_of n (drop at ws))
  number_at i d h q = at_number r i h (λ o. false≢true (sym (ap not (eq-eqb _ ones (word_of i d h ∙ o))) ∙ q))

  number_of : (i d : ℕ) → i < n → i < length (run_of n (drop at ws)) → not (eqb (get_or (take k (drop at ws)) i d) ones) ≡ true
  number_of i d h q = ap not (ne_eqb _ ones (λ o. let m = at_ones r i h (sym (word_of i d h) ∙ o) in omega arith))

  pub run_parted : IsPartitionedBy (λ w. not (eqb w ones)) (take k (drop at ws))
  run_parted i j d l h q =
      let s : j < n = omega (arith, length-take k (drop at ws)) in
      let m = number_at j d s q in
      number_of i d (omega arith) (omega arith)

  pub run_point : (i : ℕ) → i ≤ n → IsPartitionPoint (λ w. not (eqb w ones) ≡ true) (λ w. not (eqb w ones) ≡ false) (take k (drop at ws)) i
      → i ≡ length (run_of n (drop at ws))
  run_point i h p =
      let f = r.fits in
      let m = run_most n (drop at ws) in
      let s = length-take k (drop at ws) in
      let t = length-drop at ws in
      split (ltb i (length (run_of n (drop at ws))))
      (λ q. let l = ltb-true i _ q in absurd (false≢true (sym (p.1 i 0 (omega arith) (omega arith)) ∙ number_of i 0 (omega arith) l)))
      (λ q. let l = ltb-false i _ q in
      split (ltb (length (run_of n (drop at ws))) i)
      (λ u. let l = ltb-true _ i u in let z = number_at (length (run_of n (drop at ws))) 0 (omega arith) (p.0 _ 0 (omega arith) l) in absurd (omega arith))
      (λ u. let m = ltb-false _ i u in omega arith))
