-- A sound cache stays sound when an entry is touched, placed or cleaned: what is found at each address and what the list has change alike.
use Rattle.std.specs.Prelude.{if◌then◌else◌, None}
use Prim.Native.Nat.{ℕ, zero, suc}
use mathlib.Core.Path.{◌≡◌, refl, ap, ◌∙◌}
use mathlib.Core.Bool.{true, false}
use mathlib.Core.List.{List, [], ◌∷◌, ◌++◌, append-nil}
use lib.Dec.{eqb}
use lib.ListN.{replicate}
use borrow.Author.Tests.{eqb-true, eq-eqb}
use Rattle.settings.specs.declared.Settings.{Settings}
use Rattle.rules.specs.declared.entry.Entry.{Entry}
use Rattle.rules.specs.declared.entry.Hold.TheVariants.{Unheld}
use Rattle.rules.specs.declared.request.Access.{Access}
use Rattle.rules.specs.declared.request.Access.TheVariants.{Reading, Writing}
use Rattle.settings.specs.declared.Mode.{Mode}
use Rattle.rules.specs.Addresses.{elem, strike, twice}
use Rattle.rules.specs.Allowed.{Sound, Distinct}
use Rattle.rules.specs.Cache.{Cache, fresh, touch, with_rows}
use Rattle.rules.specs.Entries.{is_listed, cleaned, new_entry, joined}
use Rattle.rules.specs.Rows.{get, passes, amend_each, place, has_free}
use Rattle.rules.proofs.Found.{get_amend, get_place, distinct_amend, distinct_place, pass_map}
use Rattle.rules.proofs.Lists.{elem_append, elem_if, elem_strike, twice_strike, twice_last}
use Rattle.rules.proofs.Moves.{sound_write, same_list}
use Rattle.rules.proofs.Tests.{split, choose, or_false, and_true, and_false}

module _ (a : ℕ) (f : Entry → Entry) (keeps : (e : Entry) → (f e).address ≡ e.address) where
  pub sound_touch : (c : Cache) → Sound c → Sound (touch a f c)
  sound_touch c k =
      let new = passes (λ e. is_listed (f e)) (get c.rows a) in
      record {
        distinct = distinct_amend a f keeps c.rows k.distinct;
        listed = λ b. rw (elem_append b (strike a c.recency) (if new then a ∷ [] else []), elem_strike a b c.recency, elem_if new a b, get_amend a f keeps b c.rows)
            (split (eqb a b)
            (λ q. simp (q, and_true, pass_map f is_listed) (ap (λ (x : ℕ). passes (λ e. is_listed (f e)) (get c.rows x)) (eqb-true a b q)))
            (λ q. simp (q, and_false, or_false) (k.listed b)));
        once = choose (λ (m : List ℕ). twice (strike a c.recency ++ m) ≡ false) new
            (λ p. twice_last a (strike a c.recency) (twice_strike a c.recency k.once) (rw (elem_strike a a c.recency, eq-eqb a a refl)))
            (λ p. rw append-nil (twice_strike a c.recency k.once));
      }

-- an entry comes that was not there, at the head if it is listed
pub sound_place : (e : Entry) (c : Cache) → has_free c.rows ≡ true → get c.rows e.address ≡ None → Sound c
    → Sound (with_rows (place e c.rows) (c.recency ++ (if is_listed e then e.address ∷ [] else [])) c)
sound_place e c h n k = record {
  distinct = distinct_place e c.rows h n k.distinct;
  listed = λ b. rw (elem_append b c.recency (if is_listed e then e.address ∷ [] else []), elem_if (is_listed e) e.address b, get_place e b c.rows h n)
      (split (eqb e.address b)
      (λ q. simp (q, and_true, k.listed b, ← ap (get c.rows) (eqb-true e.address b q), n))
      (λ q. simp (q, and_false, or_false) (k.listed b)));
  once = choose (λ (m : List ℕ). twice (c.recency ++ m) ≡ false) (is_listed e)
      (λ p. twice_last e.address c.recency k.once (k.listed e.address ∙ ap (passes is_listed) n))
      (λ p. rw append-nil k.once);
}

-- a loaded entry is held, so the list stays
pub sound_load : (x : Access) (a s : ℕ) (c : Cache) → has_free c.rows ≡ true → get c.rows a ≡ None → Sound c
    → Sound (with_rows (place (new_entry a s false (joined x Unheld)) c.rows) c.recency c)
sound_load Reading a s c h n k = rw append-nil at (sound_place (new_entry a s false (joined Reading Unheld)) c h n k)
sound_load Writing a s c h n k = rw append-nil at (sound_place (new_entry a s false (joined Writing Unheld)) c h n k)

pub sound_clean : (l : List ℕ) (c : Cache) → Sound c → Sound (with_rows (amend_each l cleaned c.rows) c.recency c)
unfolding amend_each
sound_clean [] c k = k
sound_clean (a ∷ l) c k = sound_clean l (with_rows _ c.recency c) (sound_write a c.recency c (same_list c.recency) k)

-- ---- a fresh cache

pub none_free : (n : ℕ) (b : ℕ) → get (replicate n None) b ≡ None
unfolding get
none_free zero b = refl
none_free (suc n) b = none_free n b

distinct_free : (n : ℕ) → Distinct (replicate n None)
distinct_free zero = tt
distinct_free (suc n) = distinct_free n

pub sound_fresh : (n : ℕ) (m : Mode) (t : ℕ) (s : Settings) → Sound (fresh n m t s)
unfolding elem twice
sound_fresh n m t s = record { distinct = distinct_free n; listed = λ a. rw (none_free n a); once = refl }
