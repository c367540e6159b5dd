-- What the marking of a run keeps from its first word to its last, and what it says at each of its ends.
use Prim.Native.Nat.{ℕ, ◌+◌, ◌≤◌, ◌<◌}
use mathlib.Core.Path.{◌≡◌, refl, sym, ap, ◌∙◌}
use mathlib.Core.Bool.{Bool, true, false, ◌||◌}
use mathlib.Core.Logic.{dite}
use mathlib.Core.List.{List, [], ◌∷◌}
use native.Mathlib.Numerals.{add-one}
use native.Mathlib.Omega.{arith}
use native.Mathlib.Decide.{ℕ_discrete}
use borrow.Author.Count.{below_more}
use borrow.Author.Tests.{eq-eqb, ne_eqb}
use lib.ListN.{length, get_or, set, take, length-set}
use lib.Seq.{get_or-set_same, get_or-set_other, take-suc, take_all}
use Rattle.rules.specs.Addresses.{elem}
use Rattle.rules.specs.Limits.{most_rows}
use Rattle.rules.proofs.Lists.{elem_append}
use Rattle.rules.proofs.Tests.{or_true, or_false}
use Rattle.judge.specs.Fits.{Below, Unmarked, Marked}
use Rattle.judge.proofs.Says.{no, says_no, says_yes}

-- the first i words are numbers of rows, and these rows are marked
pub record Kept (run : List ℕ) (rows : ℕ) (seen : List Bool) (i : ℕ) : Type 0 where
  pub len : length seen ≡ most_rows
  pub below : Below run i rows
  pub shows : (x : ℕ) → get_or seen x false ≡ elem x (take i run)

pub or_right : (a b : Bool) → b ≡ true → (a || b) ≡ true
or_right true b e = refl
or_right false b e = e

pub kept_start : (run : List ℕ) (rows : ℕ) (seen : List Bool) → Unmarked seen → Kept run rows seen 0
unfolding elem
kept_start run rows seen u = record { len = u.size; below = λ j l. absurd (omega arith); shows = u.none }

module _ {run : List ℕ} {rows : ℕ} {seen : List Bool} {i : ℕ} (k : Kept run rows seen i) (left : i < length run) where
  one_more : (x : ℕ) → elem x (take (i + 1) run) ≡ elem x (take i run) || elem x (get_or run i 0 ∷ [])
  one_more x = rw (add-one, take-suc run i 0 (omega arith), elem_append)

  pub kept_on : get_or run i 0 < rows → rows ≤ most_rows → Kept run rows (set seen (get_or run i 0) true) (i + 1)
  unfolding elem
  kept_on b r =
      let w = get_or run i 0 in
      record {
        len = length-set seen w true ∙ k.len;
        below = below_more _ _ k.below b;
        shows = λ x. dite (ℕ_discrete x w)
            (λ (e : x ≡ w). rw (one_more, e, eq-eqb w w refl, or_true, get_or-set_same seen w true false (omega (arith, k.len))))
            (λ (e : x ≡ w → ⊥). rw (one_more, ne_eqb w x (λ (q : w ≡ x). e (sym q)), or_false, get_or-set_other seen w x true false e) (k.shows x));
      }

  -- a word that names no row
  pub says_high : {s : List Bool} → rows ≤ get_or run i 0 → Marked false run rows s
  says_high b = record { says = says_no (λ d. omega (arith, d i left)); shows = λ e. no _ refl e }

pub says_all : {run : List ℕ} {rows : ℕ} {seen : List Bool} {i : ℕ} → Kept run rows seen i → i ≡ length run → Marked true run rows seen
says_all {run} {i = i} k e =
    record { says = says_yes (rw e at k.below); shows = λ _ x. k.shows x ∙ ap (elem x) (take_all i run (omega arith)) }
