-- Sums over the entries after the rows changed.
use Prim.Native.Nat.{ℕ, zero, suc, ◌+◌}
use mathlib.Core.Path.{◌≡◌, refl, sym, ap, ◌∙◌}
use mathlib.Core.Bool.{true, false≢true}
use Rattle.std.specs.Prelude.{Option, option_map, unwrap_or, None, Some}
use mathlib.Core.List.{List, [], ◌∷◌}
use native.Mathlib.Omega.{arith}
use lib.Dec.{eqb}
use lib.ListN.{replicate}
use borrow.Author.Tests.{eqb-true}
use Rattle.rules.specs.declared.entry.Entry.{Entry}
use Rattle.rules.specs.Types.{Row}
use Rattle.rules.specs.Allowed.{Distinct}
use Rattle.rules.specs.Rows.{get, amend, amend_each, amend_all, remove, place, has_free, total}
use Rattle.rules.proofs.Found.{remove_absent, amend_absent}
use Rattle.rules.proofs.Tests.{split, choose}

-- the figure of what is found, 0 where nothing is
abbrev pub figure_of : (Entry → ℕ) → Option Entry → ℕ
figure_of figure o = unwrap_or (option_map figure o) 0

module _ (figure : Entry → ℕ) where
  pub total_remove : (a : ℕ) (rows : List Row) → Distinct rows → total figure (remove a rows) + figure_of figure (get rows a) ≡ total figure rows
  unfolding get remove total
  total_remove a [] d = refl
  total_remove a (None ∷ rows) d = total_remove a rows d
  total_remove a (Some e ∷ rows) d =
      split (eqb e.address a)
      (λ p. simp (p, remove_absent a rows (ap (get rows) (sym (eqb-true e.address a p)) ∙ d.0)) (omega arith))
      (λ p. let ih = total_remove a rows d.1 in simp p (omega arith))

  pub total_amend : (a : ℕ) (f : Entry → Entry) (rows : List Row) → Distinct rows
      → total figure (amend a f rows) + figure_of figure (get rows a) ≡ total figure rows + figure_of (λ e. figure (f e)) (get rows a)
  unfolding get amend total
  total_amend a f [] d = refl
  total_amend a f (None ∷ rows) d = total_amend a f rows d
  total_amend a f (Some e ∷ rows) d =
      split (eqb e.address a)
      (λ p. simp (p, amend_absent a f rows (ap (get rows) (sym (eqb-true e.address a p)) ∙ d.0)) (omega arith))
      (λ p. let ih = total_amend a f rows d.1 in simp p (omega arith))

  -- where no figure changes
  pub total_same : (a : ℕ) (f : Entry → Entry) → ((e : Entry) → figure (f e) ≡ figure e) → (rows : List Row) → total figure (amend a f rows) ≡ total figure rows
  unfolding amend total
  total_same a f k [] = refl
  total_same a f k (None ∷ rows) = total_same a f k rows
  total_same a f k (Some e ∷ rows) =
      rw (total_same a f k rows)
      (choose (λ (x : Entry). figure x + total figure rows ≡ figure e + total figure rows) (eqb e.address a) (λ p. rw (k e)) (λ p. refl))

  pub total_each : (l : List ℕ) (f : Entry → Entry) → ((e : Entry) → figure (f e) ≡ figure e) → (rows : List Row) → total figure (amend_each l f rows) ≡ total figure rows
  unfolding amend_each
  total_each [] f k rows = refl
  total_each (a ∷ l) f k rows = total_each l f k (amend a f rows) ∙ total_same a f k rows

  pub total_all : (f : Entry → Entry) → ((e : Entry) → figure (f e) ≡ figure e) → (rows : List Row) → total figure (amend_all f rows) ≡ total figure rows
  unfolding amend_all total
  total_all f k [] = refl
  total_all f k (None ∷ rows) = total_all f k rows
  total_all f k (Some e ∷ rows) = rw (k e, total_all f k rows)

  pub total_place : (e : Entry) (rows : List Row) → has_free rows ≡ true → total figure (place e rows) ≡ figure e + total figure rows
  unfolding place has_free total
  total_place e [] h = absurd (false≢true h)
  total_place e (None ∷ rows) h = refl
  total_place e (Some x ∷ rows) h = let ih = total_place e rows h in omega arith

  pub total_free : (n : ℕ) → total figure (replicate n None) ≡ 0
  unfolding total
  total_free zero = refl
  total_free (suc n) = total_free n
