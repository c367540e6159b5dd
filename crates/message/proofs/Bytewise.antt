-- One byte: what the rules say at each place, and what the code does there.
use Rattle.std.specs.Prelude.{if◌then◌else◌, Option, None}
use Prim.Native.Nat.{ℕ, zero, suc, ◌+◌, ◌-◌, ◌<◌, ◌≤◌, ◌^◌}
use mathlib.Core.Bool.{Bool, ◌||◌}
use mathlib.Core.List.{List, [], ◌∷◌, ◌++◌}
use mathlib.Core.Logic.{⊎_elim}
use mathlib.Core.Path.{◌≡◌, sym, ap, ◌∙◌}
use native.Mathlib.Nat.{eq-or-lt_of_le}
use native.Mathlib.Numerals.{add-one}
use native.Mathlib.Omega.{arith}
use lib.Dec.{eqb, ltb}
use lib.ListN.{length-append}
use borrow.Author.Tests.{lt-ltb, le-ltb, eq-eqb, ne_eqb}
use Rattle.rules.proofs.Lists.{elem_append}
use Rattle.rules.proofs.Tests.{or_false}
use Rattle.rules.specs.Addresses.{elem}
use Rattle.rules.specs.Limits.{all_ones}
use Rattle.rules.specs.Messages as messages
use Rattle.rules.specs.Messages.{Reading, going, wrong, must, tag, number_byte, count_byte, address_byte, last_byte, feed, power256, Within}
use Rattle.message.specs.Feeding.{having, Keeps, Sound, expects, Feeds}
use Rattle.message.specs.declared.feed.Reader.{Reader}
use Rattle.message.specs.declared.feed.Fed.{Fed}

-- ---- the rules at each place

module _ (b : ℕ) (r : messages.Reader) where
  -- a fixed byte, in the code's terms
  fixed : (x : ℕ) → must x b r ≡ expects x (r.place + 1) b r
  fixed x = rw (add-one r.place)

  pub at_number_head : r.place < 3 → feed b r ≡ expects (if eqb r.place 0 then 1 else (if eqb r.place 1 then 0 else 8)) (r.place + 1) b r
  unfolding feed
  at_number_head h = rw (lt-ltb r.place 3 h) (fixed _)

  pub at_number : 3 ≤ r.place → r.place < 11 → feed b r ≡ number_byte b r
  unfolding feed
  at_number i h = rw (le-ltb r.place 3 i, lt-ltb r.place 11 h)

  pub at_count_head : 11 ≤ r.place → r.place < 14 → feed b r ≡ expects (if eqb r.place 12 then 0 else 2) (r.place + 1) b r
  unfolding feed
  at_count_head i h = rw (le-ltb r.place 3 (omega arith), le-ltb r.place 11 i, lt-ltb r.place 14 h) (fixed _)

  pub at_count : 14 ≤ r.place → r.place < 16 → feed b r ≡ count_byte b r
  unfolding feed
  at_count i h = rw (le-ltb r.place 3 (omega arith), le-ltb r.place 11 (omega arith), le-ltb r.place 14 i, lt-ltb r.place 16 h)

  module _ (i : 16 ≤ r.place) where
    past : feed b r ≡ (if eqb r.place 16 then tag b r
        else (if ltb r.place 19 then must (if eqb r.place 17 then 0 else 8) b r
        else (if ltb r.place 26 then address_byte b r
        else (if eqb r.place 26 then last_byte b r
        else (if ltb r.place 29 then must 0 b r
        else wrong)))))
    unfolding feed
    past = rw (le-ltb r.place 3 (omega arith), le-ltb r.place 11 (omega arith), le-ltb r.place 14 (omega arith), le-ltb r.place 16 i)

    pub at_tag : r.place ≡ 16 → feed b r ≡ tag b r
    at_tag e = past ∙ rw (eq-eqb r.place 16 e)

    pub at_length : (r.place ≡ 16 → ⊥) → r.place < 19 → feed b r ≡ expects (if eqb r.place 17 then 0 else 8) (r.place + 1) b r
    at_length n h = past ∙ rw (ne_eqb r.place 16 n, lt-ltb r.place 19 h) (fixed _)

    pub at_address : 19 ≤ r.place → r.place < 26 → feed b r ≡ address_byte b r
    at_address j h = past ∙ rw (ne_eqb r.place 16 (λ e. omega arith), le-ltb r.place 19 j, lt-ltb r.place 26 h)

    pub at_last : r.place ≡ 26 → feed b r ≡ last_byte b r
    at_last e = past ∙ rw (ne_eqb r.place 16 (λ n. omega arith), le-ltb r.place 19 (omega arith), le-ltb r.place 26 (omega arith), eq-eqb r.place 26 e)

    pub at_the_end : 26 ≤ r.place → (r.place ≡ 26 → ⊥) → r.place < 29 → feed b r ≡ expects 0 (r.place + 1) b r
    at_the_end j n h =
        past
        ∙ rw (ne_eqb r.place 16 (λ e. omega arith), le-ltb r.place 19 (omega arith), le-ltb r.place 26 j, ne_eqb r.place 26 n, lt-ltb r.place 29 h) (fixed 0)

    pub at_nothing : 29 ≤ r.place → feed b r ≡ wrong
    at_nothing j =
        past
        ∙ rw (ne_eqb r.place 16 (λ e. omega arith), le-ltb r.place 19 (omega arith), le-ltb r.place 26 (omega arith), ne_eqb r.place 26 (λ e. omega arith), le-ltb r.place 29 j)

-- ---- the code

-- by another rule that does the same to this reader
pub feeds_by : {rule : messages.Reader → Reading} (same : messages.Reader → Reading) {r : Reader} {x : Option Fed}
    → ((list : List ℕ) → same (having list r) ≡ rule (having list r)) → Feeds rule r x → Feeds same r x
feeds_by same e f = record { each = λ list k. record { reading = (f.each list k).reading ∙ sym (e list); keeps = (f.each list k).keeps } }

pub feeds_wrong : {rule : messages.Reader → Reading} {r : Reader} → ((list : List ℕ) → rule (having list r) ≡ wrong) → Feeds rule r None
feeds_wrong e = record { each = λ list k. record { reading = sym (e list); keeps = tt } }

-- one more address
pub more_kept : {r s : Reader} (a : ℕ) {list : List ℕ} → s.taken ≡ r.taken + 1 → s.ones ≡ (r.ones || eqb a all_ones) → Keeps r list → Keeps s (list ++ a ∷ [])
unfolding elem
more_kept a {list} t o k = record {
  taken = t ∙ ap (λ (n : ℕ). n + 1) k.taken ∙ sym (length-append list (a ∷ []));
  ones = o ∙ ap (λ (x : Bool). x || eqb a all_ones) k.ones ∙ ap (λ (x : Bool). elem all_ones list || x) (sym (or_false (eqb a all_ones))) ∙ sym (elem_append all_ones list (a ∷ []));
}

-- ---- a sound reader's numbers

-- more bytes, no smaller a number
power_most : (k n : ℕ) → k ≤ n → power256 k ≤ power256 n
unfolding power256
power_most k zero h = let e : k ≡ 0 = omega arith in rw e (omega arith)
power_most k (suc n) h =
    ⊎_elim
    (λ (q : k ≡ suc n). rw q (omega arith))
    (λ (q : k < suc n). let i = power_most k n (omega arith) in omega arith)
    (eq-or-lt_of_le {n = k} {m = suc n} h)

module _ {r : Reader} (s : Sound r) where
  pub number_small : r.place < 11 → r.number < 2 ^ 56
  unfolding power256
  number_small h = let p = power_most (messages.bytes_from 8 3 r.place) 7 (omega arith) in let n = s.within.number in omega arith

  pub count_small : r.place < 16 → r.count < 256
  unfolding power256
  count_small h = let p = power_most (messages.bytes_from 2 14 r.place) 1 (omega arith) in let n = s.within.count in omega arith

  pub part_small : r.place < 27 → r.part < 2 ^ 56
  unfolding power256
  part_small h =
      let e : messages.part_bytes r.place ≡ r.place - 19 = rw (lt-ltb r.place 27 h) in
      let p = power_most (r.place - 19) 7 (omega arith) in
      let n = s.within.part in
      let m : r.part < power256 (r.place - 19) = rw e at n in
      omega arith

  pub taken_small : r.place ≡ 26 → r.taken < 65536
  unfolding power256
  taken_small e =
      let p = power_most (messages.bytes_from 2 14 r.place) 2 (omega arith) in
      let n = s.within.count in
      let w = s.within.wanting (omega arith) (omega arith) in
      let t = s.keeps.taken in
      omega arith
