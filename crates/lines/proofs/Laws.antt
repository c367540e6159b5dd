-- Reading goes on from any place: what is left to read gives what the whole gives.
use Prim.Native.Nat.{ℕ, zero, suc, ◌+◌, ◌-◌, ◌*◌, ◌^◌, ◌≤◌, ◌<◌}
use mathlib.Core.Path.{◌≡◌, refl, sym, ap, ◌∙◌}
use mathlib.Core.Bool.{Bool, true, false, not, ◌&&◌, cond}
use mathlib.Core.List.{List, [], ◌∷◌}
use native.Mathlib.Nat.{le_trans, add-zero}
use native.Mathlib.Numerals.{add-one}
use native.Mathlib.Omega.{arith}
use lib.Dec.{eqb, ltb}
use lib.ListN.{length, get_or, take, drop, drop_of_length-le, length-drop}
use Rattle.std.specs.Char.{is_ascii_digit}
use Rattle.std.specs.List.{prefix_len, position}
use Rattle.std.proofs.lemmas.List.Sums.{prefix_len-le-length}
use Rattle.std.specs.Prelude.{Option, Some, None}
use lib.Seq.{drop-cons, take-length}
use borrow.Author.Tests.{le-ltb, lt-ltb, ltb-false}
use Rattle.lines.specs.declared.number.Number.{Number}
use Rattle.lines.specs.Lines.{digits, value_from, number, number_at, length_of_line}

-- ---- numbers

-- the number from a place on, of which the digits before i count v
abbrev pub resumed : ℕ → ℕ → ℕ → List ℕ → Option Number
resumed at i v ds = cond (ltb at (i + length ds) && ltb (value_from v ds) (2 ^ 64)) (Some (number (value_from v ds) (i + length ds))) None

-- what is known at the loop's test
pub record Kept (s : List ℕ) (at i v : ℕ) : Type 0 where
  pub from : at ≤ i
  pub within : i ≤ length s
  pub small : v < 2 ^ 64
  pub same : resumed at i v (digits (drop i s)) ≡ number_at s at

pub started : (s : List ℕ) (at : ℕ) → at ≤ length s → Kept s at at 0
unfolding number_at value_from
started s at h = record {
  from = omega arith;
  within = h;
  small = omega arith;
  same = go (digits (drop at s));
}
  where
    go : (ds : List ℕ) → resumed at at 0 ds ≡ cond (ltb 0 (length ds) && ltb (value_from 0 ds) (2 ^ 64)) (Some (number (value_from 0 ds) (at + length ds))) None
    go ds = ap (λ (t : Bool). cond (t && ltb (value_from 0 ds) (2 ^ 64)) (Some (number (value_from 0 ds) (at + length ds))) None) (same_test (length ds))
      where
        same_test : (n : ℕ) → ltb at (at + n) ≡ ltb 0 n
        same_test zero = le-ltb at (at + 0) (omega arith) ∙ sym (le-ltb 0 0 (omega arith))
        same_test (suc n) = lt-ltb at (at + suc n) (omega arith) ∙ sym (lt-ltb 0 (suc n) (omega arith))

-- digits only raise the value
grows : (v : ℕ) (ds : List ℕ) → v ≤ value_from v ds
unfolding value_from
grows v [] = omega arith
grows v (d ∷ ds) = let h = grows (v * 10 + (d - 48)) ds in omega arith

-- with no digit left
none_left : (at i v : ℕ) → v < 2 ^ 64 → cond (ltb at i) (Some (number v i)) None ≡ resumed at i v []
unfolding value_from
none_left at i v h = rw (add-zero, lt-ltb v (2 ^ 64) h) (go (ltb at i))
  where
    go : (t : Bool) → cond t (Some (number v i)) None ≡ cond (t && true) (Some (number v i)) None
    go true = refl
    go false = refl

digits_end : (b : ℕ) (bs : List ℕ) → is_ascii_digit b ≡ false → digits (b ∷ bs) ≡ []
digits_end b bs n = rw n

digits_more : (b : ℕ) (bs : List ℕ) → is_ascii_digit b ≡ true → digits (b ∷ bs) ≡ b ∷ digits bs
digits_more b bs d =
    let e : 1 + prefix_len is_ascii_digit bs ≡ suc (prefix_len is_ascii_digit bs) = omega arith in
    rw (d, e)

one_more : (at i v b : ℕ) (ds : List ℕ) → resumed at i v (b ∷ ds) ≡ resumed at (suc i) (v * 10 + (b - 48)) ds
unfolding value_from
one_more at i v b ds =
    let w = value_from (v * 10 + (b - 48)) ds in
    let e : i + suc (length ds) ≡ suc i + length ds = omega arith in
    ap (λ (n : ℕ). cond (ltb at n && ltb w (2 ^ 64)) (Some (number w n)) None) e

too_many : (at i v : ℕ) (ds : List ℕ) → 2 ^ 64 ≤ v → resumed at i v ds ≡ None
too_many at i v ds h =
    ap (λ (t : Bool). cond (ltb at (i + length ds) && t) (Some (number (value_from v ds) (i + length ds))) None) (le-ltb (value_from v ds) (2 ^ 64) (le_trans h (grows v ds)))
    ∙ go (ltb at (i + length ds)) (Some (number (value_from v ds) (i + length ds)))
  where
    go : (t : Bool) (x : Option Number) → cond (t && false) x None ≡ None
    go true x = refl
    go false x = refl

module _ {s : List ℕ} {at i v : ℕ} (k : Kept s at i v) where
  -- the text ends
  pub ended : i ≡ length s → cond (ltb at (length s)) (Some (number v (length s))) None ≡ number_at s at
  ended h = rw (← h) (none_left at i v k.small ∙ ap (λ (l : List ℕ). resumed at i v (digits l)) (sym (drop_of_length-le s (omega arith))) ∙ k.same)

  module _ (h : i < length s) where
    rest : drop i s ≡ get_or s i 0 ∷ drop (suc i) s
    rest = drop-cons s i 0 h

    -- no digit comes
    pub stopped : is_ascii_digit (get_or s i 0) ≡ false → cond (ltb at i) (Some (number v i)) None ≡ number_at s at
    stopped n = none_left at i v k.small ∙ ap (resumed at i v) (sym (ap digits rest ∙ digits_end (get_or s i 0) (drop (suc i) s) n)) ∙ k.same

    abbrev next : ℕ
    next = v * 10 + (get_or s i 0 - 48)

    more : is_ascii_digit (get_or s i 0) ≡ true → resumed at (suc i) next (digits (drop (suc i) s)) ≡ number_at s at
    more d =
        sym (one_more at i v (get_or s i 0) (digits (drop (suc i) s)))
        ∙ ap (resumed at i v) (sym (ap digits rest ∙ digits_more (get_or s i 0) (drop (suc i) s) d))
        ∙ k.same

    -- a digit too many
    pub passed : is_ascii_digit (get_or s i 0) ≡ true → 2 ^ 64 ≤ next → None ≡ number_at s at
    passed d l = sym (too_many at (suc i) next (digits (drop (suc i) s)) l) ∙ more d

    -- one digit more
    pub went_on : is_ascii_digit (get_or s i 0) ≡ true → next < 2 ^ 64 → Kept s at (i + 1) next
    went_on d l = record {
      from = let f = k.from in omega arith;
      within = omega arith;
      small = l;
      same = rw add-one (more d);
    }

-- ---- lines

-- a line ends within its text
pub line_within : (s : List ℕ) (at : ℕ) → at ≤ length s → at + length_of_line (drop at s) ≤ length s
line_within s at h = omega (arith, prefix_len-le-length (λ (b : ℕ). not (eqb b 10)) (drop at s), length-drop at s)

no_newline_in : (s : List ℕ) → None ≡ position (λ b. eqb b 10) s → length_of_line s ≡ length s
no_newline_in s = go (ltb (length_of_line s) (length s)) refl
  where
    go : (t : Bool) → ltb (length_of_line s) (length s) ≡ t → None ≡ cond t (Some (length_of_line s)) None → length_of_line s ≡ length s
    go true e h = cc
    go false e h = let f = ltb-false _ _ e in let l = prefix_len-le-length (λ (b : ℕ). not (eqb b 10)) s in omega arith

-- without a newline the line ends with the text
pub no_newline : (s : List ℕ) (at : ℕ) → at ≤ length s → None ≡ position (λ b. eqb b 10) (take (length s - at) (drop at s)) → length s ≡ at + length_of_line (drop at s)
no_newline s at h n =
    let e : take (length s - at) (drop at s) ≡ drop at s = rw (← length-drop at s) (take-length (drop at s)) in
    omega (arith, no_newline_in (drop at s) (rw e at n), length-drop at s)
