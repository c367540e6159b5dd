-- Totals by a key sum to held bytes, if each entry's key has a total: its bytes stand in that one. So do the eleven totals by idle count,
-- which is at most 10.
use Rattle.std.specs.Prelude.{if◌then◌else◌, Some, None}
use Prim.Native.Nat.{ℕ, zero, suc, ◌+◌, ◌≤◌, ◌<◌}
use mathlib.Core.Path.{◌≡◌, refl, sym, ap, ◌∙◌}
use Rattle.std.proofs.lemmas.Option.{none-some}
use mathlib.Core.List.{List, [], ◌∷◌}
use native.Mathlib.Omega.{arith}
use lib.Dec.{eqb}
use lib.ListN.{length}
use borrow.Author.Tests.{eqb-true, eqb-false, eq-eqb, ne_eqb}
use Rattle.rules.specs.declared.entry.Entry.{Entry}
use Rattle.rules.specs.Types.{Row}
use Rattle.rules.specs.Allowed.{Allowed, Distinct}
use Rattle.rules.specs.Cache.{Cache}
use Rattle.rules.specs.Reports.{totals_from, idle_count, report_of, sum_of}
use Rattle.rules.specs.Rows.{get, total, held_bytes}
use Rattle.rules.proofs.Tests.{split}

-- the rows after an entry's have what they had
tail_found : (e x : Entry) (a : ℕ) (rows : List Row) → Distinct (Some e ∷ rows) → get rows a ≡ Some x → get (Some e ∷ rows) a ≡ Some x
unfolding get
tail_found e x a rows d g =
    split (eqb e.address a)
    (λ p. absurd (none-some x (sym (sym g ∙ ap (get rows) (sym (eqb-true e.address a p)) ∙ d.0))))
    (λ p. rw p g)

head_found : (e : Entry) (rows : List Row) → get (Some e ∷ rows) e.address ≡ Some e
unfolding get
head_found e rows = rw (eq-eqb e.address e.address refl)

-- ---- over any key

module _ (key : Entry → ℕ) where
  -- an entry's bytes in the n totals from k on
  own : ℕ → ℕ → Entry → ℕ
  own k zero e = 0
  own k (suc n) e = (if eqb (key e) k then e.size else 0) + own (suc k) n e

  own_later : (k n : ℕ) (e : Entry) → key e < k → own k n e ≡ 0
  unfolding own
  own_later k zero e h = refl
  own_later k (suc n) e h = rw (ne_eqb (key e) k (λ q. omega arith), own_later (suc k) n e (omega arith))

  own_once : (k n : ℕ) (e : Entry) → k ≤ key e → key e < k + n → own k n e ≡ e.size
  unfolding own
  own_once k zero e p q = absurd (omega arith)
  own_once k (suc n) e p q =
      split (eqb (key e) k)
      (λ h. let i = own_later (suc k) n e (omega (arith, eqb-true (key e) k h)) in rw h (omega arith))
      (λ h. let i = own_once (suc k) n e (omega (arith, eqb-false (key e) k h)) (omega arith) in rw h (omega arith))

  sum_empty : (k n : ℕ) → sum_of (totals_from key k n []) ≡ 0
  unfolding totals_from sum_of total
  sum_empty k zero = refl
  sum_empty k (suc n) = rw (sum_empty (suc k) n)

  sum_free : (k n : ℕ) (rows : List Row) → sum_of (totals_from key k n (None ∷ rows)) ≡ sum_of (totals_from key k n rows)
  unfolding totals_from sum_of total
  sum_free k zero rows = refl
  sum_free k (suc n) rows = rw (sum_free (suc k) n rows)

  sum_used : (k n : ℕ) (e : Entry) (rows : List Row) → sum_of (totals_from key k n (Some e ∷ rows)) ≡ own k n e + sum_of (totals_from key k n rows)
  unfolding totals_from sum_of total own
  sum_used k zero e rows = refl
  sum_used k (suc n) e rows = let i = sum_used (suc k) n e rows in omega arith

  -- where each entry's key is below n, the n totals sum to held bytes
  pub keys_sum : (n : ℕ) (rows : List Row) → Distinct rows → ((a : ℕ) (e : Entry) → get rows a ≡ Some e → key e < n)
      → sum_of (totals_from key 0 n rows) ≡ held_bytes rows
  unfolding total get
  keys_sum n [] d f = sum_empty 0 n
  keys_sum n (None ∷ rows) d f = sum_free 0 n rows ∙ keys_sum n rows d f
  keys_sum n (Some e ∷ rows) d f =
      let i = sum_used 0 n e rows in
      let j = own_once 0 n e (omega arith) (omega (arith, f e.address e (head_found e rows))) in
      let k = keys_sum n rows d.1 (λ a x g. f a x (tail_found e x a rows d g)) in
      omega arith

-- ---- the report

pub totals_sum : (c : Cache) → Allowed c → sum_of (report_of c).totals ≡ (report_of c).held
unfolding report_of
totals_sum c k = keys_sum idle_count 11 c.rows k.sound.distinct (λ a e g. let i = (k.entries a e g).idle in omega arith)

pub totals_length : (c : Cache) → length (report_of c).totals ≡ 11
unfolding report_of totals_from
totals_length c = refl
