-- The clean entry nearest the tail, where none stands before a place of the list.
use Prim.Native.Nat.{ℕ, zero, suc, ◌<◌, ◌≤◌}
use mathlib.Core.Bool.{Bool, true, false}
use mathlib.Core.List.{List, [], ◌∷◌}
use Rattle.std.proofs.lemmas.Option.{none-some}
use Rattle.std.specs.Prelude.{Option, None, Some}
use mathlib.Core.Path.{sym, ◌≡◌, refl, ap, ◌∙◌}
use native.Mathlib.Nat.{le_of_suc-le-suc}
use native.Mathlib.Omega.{arith}
use lib.Dec.{eqb}
use lib.ListN.{length, get_or, take, drop}
use lib.Seq.{drop-cons}
use Rattle.rules.proofs.Found.{get_remove}
use Rattle.rules.proofs.Tests.{split}
use Rattle.rules.specs.Addresses.{nearest}
use Rattle.rules.specs.Entries.{is_clean}
use Rattle.rules.specs.Rows.{passes, remove, clean_at}
use Rattle.rules.specs.declared.entry.Entry.{Entry}
use Rattle.rules.specs.Types.{Row}
use Rattle.layout.proofs.Cuts.{cut}

pub not_clean : (o : Option Entry) → passes (λ e. e.dirty) o ≡ true → passes is_clean o ≡ false
not_clean None d = refl
not_clean (Some e) d = rw d

module _ (test : ℕ → Bool) where
  pub nearest_past : (pos : ℕ) (l : List ℕ) → nearest test (take pos l) ≡ None → nearest test l ≡ nearest test (drop pos l)
  unfolding nearest
  nearest_past zero l h = refl
  nearest_past (suc pos) [] h = refl
  nearest_past (suc pos) (a ∷ l) h =
      split (test a) (λ p. absurd (none-some a (sym (simp p at h)))) (λ p. rw p (nearest_past pos l (simp p at h)))

  -- the entry at the place passes
  pub nearest_here : (pos : ℕ) (l : List ℕ) → pos < length l → nearest test (take pos l) ≡ None → test (get_or l pos 0) ≡ true → nearest test l ≡ Some (get_or l pos 0)
  unfolding nearest
  nearest_here pos l low h p = nearest_past pos l h ∙ rw (drop-cons l pos 0 low, p) refl

  -- no place is left
  pub nearest_none : (pos : ℕ) (l : List ℕ) → length l ≤ pos → nearest test (take pos l) ≡ None → nearest test l ≡ None
  unfolding nearest
  nearest_none pos [] low h = refl
  nearest_none zero (a ∷ l) low h = absurd (omega arith)
  nearest_none (suc pos) (a ∷ l) low h =
      split (test a) (λ p. absurd (none-some a (sym (simp p at h)))) (λ p. rw p (nearest_none pos l (le_of_suc-le-suc low) (simp p at h)))

  -- one place more is passed
  pub passed_more : (pos : ℕ) (l : List ℕ) → pos < length l → test (get_or l pos 0) ≡ false → nearest test (take pos l) ≡ None → nearest test (take (suc pos) l) ≡ None
  unfolding nearest
  passed_more pos [] low p h = absurd (omega arith)
  passed_more zero (a ∷ l) low p h = rw p
  passed_more (suc pos) (a ∷ l) low p h =
      split (test a) (λ q. absurd (none-some a (sym (simp q at h)))) (λ q. rw q (passed_more pos l (le_of_suc-le-suc low) p (simp q at h)))

  fewer_pass : {some-pass : ℕ → Bool} → ((b : ℕ) → test b ≡ false → some-pass b ≡ false) → (l : List ℕ) → nearest test l ≡ None → nearest some-pass l ≡ None
  unfolding nearest
  fewer_pass f [] h = refl
  fewer_pass f (a ∷ l) h = split (test a) (λ p. absurd (none-some a (sym (simp p at h)))) (λ p. rw (f a p) (fewer_pass f l (simp p at h)))

take_cut : (pos : ℕ) (l : List ℕ) → take pos (cut pos l) ≡ take pos l
unfolding cut
take_cut zero l = refl
take_cut (suc pos) [] = refl
take_cut (suc pos) (x ∷ l) = ap (λ (y : List ℕ). x ∷ y) (take_cut pos l)

-- an entry removed, and its place cut out
pub passed_cut : (a pos : ℕ) (rows : List Row) (l : List ℕ) → nearest (clean_at rows) (take pos l) ≡ None → nearest (clean_at (remove a rows)) (take pos (cut pos l)) ≡ None
passed_cut a pos rows l h =
    rw (take_cut pos l)
    (fewer_pass (clean_at rows) (λ b p. rw (get_remove a b rows) (split (eqb a b) (λ q. simp q) (λ q. simp q p))) (take pos l) h)
