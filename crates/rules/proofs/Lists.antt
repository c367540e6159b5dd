-- Lists of addresses after a change.
use Rattle.std.specs.Prelude.{if◌then◌else◌}
use Prim.Native.Nat.{ℕ}
use mathlib.Core.Path.{◌≡◌, refl, sym}
use mathlib.Core.Bool.{Bool, true, false, ◌&&◌, ◌||◌}
use mathlib.Core.List.{List, [], ◌∷◌, ◌++◌}
use lib.Dec.{eqb}
use borrow.Author.Tests.{eq-eqb}
use Rattle.rules.specs.Addresses.{elem, strike, twice}
use Rattle.rules.proofs.Tests.{split, choose, if_same, or_false, or_true, alike, apart, swap, neither}

pub elem_append : (b : ℕ) (l m : List ℕ) → elem b (l ++ m) ≡ elem b l || elem b m
unfolding elem
elem_append b [] m = refl
elem_append b (a ∷ l) m = rw (elem_append b l m) (go (eqb a b))
  where
    go : (t : Bool) → t || (elem b l || elem b m) ≡ t || elem b l || elem b m
    go true = refl
    go false = refl

pub elem_if : (t : Bool) (a b : ℕ) → elem b (if t then a ∷ [] else []) ≡ t && eqb a b
unfolding elem
elem_if true a b = or_false (eqb a b)
elem_if false a b = refl

pub elem_first : (a : ℕ) (l : List ℕ) → elem a (a ∷ l) ≡ true
unfolding elem
elem_first a l = rw (eq-eqb a a refl)

pub elem_rest : (a b : ℕ) (l : List ℕ) → elem b l ≡ true → elem b (a ∷ l) ≡ true
unfolding elem
elem_rest a b l h = rw h (or_true (eqb a b))

pub elem_strike : (a b : ℕ) (l : List ℕ) → elem b (strike a l) ≡ (if eqb a b then false else elem b l)
unfolding elem strike
elem_strike a b [] = sym (if_same (eqb a b) false)
elem_strike a b (x ∷ l) =
    split (eqb x a)
    (λ p. split (eqb a b) (λ q. simp (p, q, elem_strike a b l)) (λ q. simp (p, q, alike x a b p, elem_strike a b l)))
    (λ p. split (eqb a b) (λ q. simp (p, q, apart x a b p q, elem_strike a b l)) (λ q. simp (p, q, elem_strike a b l)))

pub strike_absent : (a : ℕ) (l : List ℕ) → elem a l ≡ false → strike a l ≡ l
unfolding elem strike
strike_absent a [] h = refl
strike_absent a (x ∷ l) h = let k = neither (eqb x a) (elem a l) h in simp (k.0, strike_absent a l k.1)

pub strike_first : (a : ℕ) (l : List ℕ) → twice (a ∷ l) ≡ false → strike a (a ∷ l) ≡ l
unfolding twice strike
strike_first a l h = simp (eq-eqb a a refl, strike_absent a l (neither (elem a l) (twice l) h).0)

pub twice_strike : (a : ℕ) (l : List ℕ) → twice l ≡ false → twice (strike a l) ≡ false
unfolding twice strike
twice_strike a [] h = refl
twice_strike a (x ∷ l) h =
    let k = neither (elem x l) (twice l) h in
    choose (λ (m : List ℕ). twice m ≡ false) (eqb x a)
    (λ p. twice_strike a l k.1)
    (λ p. rw (elem_strike a x l, swap x a p, k.0) (twice_strike a l k.1))

pub twice_last : (a : ℕ) (l : List ℕ) → twice l ≡ false → elem a l ≡ false → twice (l ++ a ∷ []) ≡ false
unfolding twice elem
twice_last a [] h n = refl
twice_last a (x ∷ l) h n =
    let k = neither (elem x l) (twice l) h in let m = neither (eqb x a) (elem a l) n in
    rw (elem_append x l (a ∷ []), k.0) (simp (swap x a m.0, twice_last a l k.1 m.1))
