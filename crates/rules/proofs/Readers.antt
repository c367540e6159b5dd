-- What bytes lead to is within its limits.
use Prim.Native.Nat.{ℕ, suc, ◌+◌, ◌*◌, ◌-◌, ◌<◌, ◌≤◌}
use mathlib.Core.Path.{◌≡◌, sym, subst, ◌∙◌}
use mathlib.Core.List.{List, [], ◌∷◌, ◌++◌}
use native.Mathlib.Omega.{arith}
use lib.Dec.{eqb, ltb}
use lib.ListN.{length, length-append}
use borrow.Author.Tests.{lt-ltb, le-ltb, ltb-true, ltb-false, eqb-true, eqb-false}
use Rattle.rules.specs.Limits.{last_number}
use Rattle.rules.specs.Messages.{Words, Bytes, Reader, Reading, going, wrong, fresh_reader, must, tag, number_byte, count_byte, address_byte, last_byte, feed, feed_all, power256, part_bytes, bytes_from, Within}
use Rattle.rules.proofs.Tests.{choose}

abbrev pub WithinAt : Reading → Type 0
WithinAt (going r) = Within r
WithinAt wrong = Unit

-- one more byte of a number
more : (k v b : ℕ) → v < power256 k → b < 256 → v * 256 + b < power256 (suc k)
unfolding power256
more k v b h i = omega arith

-- the bytes of an address that have come: none up to its first and past its last
none_part : (p : ℕ) → p ≤ 19 → part_bytes p ≡ 0
none_part p h = rw (lt-ltb p 27 (omega arith)) (omega arith)

some_part : (p : ℕ) → 19 ≤ p → p < 27 → part_bytes p ≡ p - 19
some_part p h i = rw (lt-ltb p 27 i)

past_part : (p : ℕ) → 27 ≤ p → part_bytes p ≡ 0
past_part p h = rw (le-ltb p 27 h)

pub words_on : (l : List ℕ) (a : ℕ) → Words l → a ≤ last_number → Words (l ++ a ∷ [])
words_on [] a w h = (h, tt)
words_on (x ∷ l) a w h = (w.0, words_on l a w.1 h)

-- the bytes of a number: one more within it, as many before it and past it
byte_in : (n from p : ℕ) → from ≤ p → p < from + n → bytes_from n from (suc p) ≡ suc (bytes_from n from p)
byte_in n from p h i = omega arith

byte_before : (n from p : ℕ) → p < from → bytes_from n from (suc p) ≡ bytes_from n from p
byte_before n from p h = omega arith

byte_past : (n from p : ℕ) → from + n ≤ p → bytes_from n from (suc p) ≡ bytes_from n from p
byte_past n from p h = omega arith

module _ (b : ℕ) (h : b < 256) (r : Reader) (w : Within r) where
  -- at the next place, where as many bytes of each number have come
  moves : bytes_from 8 3 (suc r.place) ≡ bytes_from 8 3 r.place → bytes_from 2 14 (suc r.place) ≡ bytes_from 2 14 r.place
      → part_bytes (suc r.place) ≡ part_bytes r.place → (17 ≤ suc r.place → suc r.place ≤ 26 → length r.addresses < r.count)
      → (x : ℕ) → WithinAt (must x b r)
  moves e f g k x =
      choose WithinAt (eqb b x)
      (λ t. record { number = rw e w.number; count = rw f w.count; part = rw g w.part; addresses = w.addresses; few = w.few; wanting = k })
      (λ t. tt)

  first : r.place < 3 → (x : ℕ) → WithinAt (must x b r)
  first i =
      moves (byte_before 8 3 r.place i) (byte_before 2 14 r.place (omega arith))
      (none_part (suc r.place) (omega arith) ∙ sym (none_part r.place (omega arith))) (λ j k. absurd (omega arith))

  second : 11 ≤ r.place → r.place < 14 → (x : ℕ) → WithinAt (must x b r)
  second i j =
      moves (byte_past 8 3 r.place i) (byte_before 2 14 r.place j)
      (none_part (suc r.place) (omega arith) ∙ sym (none_part r.place (omega arith))) (λ k l. absurd (omega arith))

  third : 17 ≤ r.place → r.place < 19 → (x : ℕ) → WithinAt (must x b r)
  third i j =
      moves (byte_past 8 3 r.place (omega arith)) (byte_past 2 14 r.place (omega arith))
      (none_part (suc r.place) (omega arith) ∙ sym (none_part r.place (omega arith))) (λ k l. w.wanting i (omega arith))

  fourth : 27 ≤ r.place → (x : ℕ) → WithinAt (must x b r)
  fourth i =
      moves (byte_past 8 3 r.place (omega arith)) (byte_past 2 14 r.place (omega arith))
      (past_part (suc r.place) (omega arith) ∙ sym (past_part r.place i)) (λ k l. absurd (omega arith))

  in_number : 3 ≤ r.place → r.place < 11 → WithinAt (number_byte b r)
  in_number i j = record {
    number = rw (byte_in 8 3 r.place i j) (more (bytes_from 8 3 r.place) r.number b w.number h);
    count = rw (byte_before 2 14 r.place (omega arith)) w.count;
    part = rw (none_part (suc r.place) (omega arith)) (rw (none_part r.place (omega arith)) at w.part);
    addresses = w.addresses;
    few = w.few;
    wanting = λ k l. absurd (omega arith);
  }

  in_count : 14 ≤ r.place → r.place < 16 → WithinAt (count_byte b r)
  in_count i j = record {
    number = rw (byte_past 8 3 r.place (omega arith)) w.number;
    count = rw (byte_in 2 14 r.place i j) (more (bytes_from 2 14 r.place) r.count b w.count h);
    part = rw (none_part (suc r.place) (omega arith)) (rw (none_part r.place (omega arith)) at w.part);
    addresses = w.addresses;
    few = let l = w.few in omega arith;
    wanting = λ k l. absurd (omega arith);
  }

  in_address : 19 ≤ r.place → r.place < 26 → WithinAt (address_byte b r)
  in_address i j =
      let g : suc r.place - 19 ≡ suc (r.place - 19) = omega arith in
      record {
        number = rw (byte_past 8 3 r.place (omega arith)) w.number;
        count = rw (byte_past 2 14 r.place (omega arith)) w.count;
        part = rw (some_part (suc r.place) (omega arith) (omega arith), g) (more (r.place - 19) r.part b (rw (some_part r.place i (omega arith)) at w.part) h);
        addresses = w.addresses;
        few = w.few;
        wanting = λ k l. w.wanting (omega arith) (omega arith);
      }

  -- the whole address
  last_address : r.place ≡ 26 → r.part * 256 + b ≤ last_number
  unfolding power256
  last_address e = let p = more 7 r.part b (rw e at w.part) h in omega arith

  in_last : r.place ≡ 26 → WithinAt (last_byte b r)
  unfolding power256
  in_last e =
      let l = w.wanting (omega arith) (omega arith) in
      record {
        number = rw e at w.number;
        count = rw e at w.count;
        part = omega arith;
        addresses = words_on r.addresses (r.part * 256 + b) w.addresses (last_address e);
        few = omega (arith, length-append r.addresses ((r.part * 256 + b) ∷ []));
        wanting = λ i j. absurd (omega arith);
      }

  -- a tag: an address is wanting, or none is
  in_tag : r.place ≡ 16 → WithinAt (tag b r)
  unfolding power256
  in_tag e =
      choose WithinAt (ltb (length r.addresses) r.count)
      (λ t. choose WithinAt (eqb b 3)
      (λ s. record { number = rw e at w.number; count = rw e at w.count; part = rw e at w.part; addresses = w.addresses; few = w.few; wanting = λ i j. ltb-true _ _ t }) (λ s. tt))
      (λ t. choose WithinAt (eqb b 9)
      (λ s. record { number = rw e at w.number; count = rw e at w.count; part = rw e at w.part; addresses = w.addresses; few = w.few; wanting = λ i j. absurd (omega arith) }) (λ s. tt))

  pub fed : WithinAt (feed b r)
  unfolding feed
  fed =
      let p = r.place in
      choose WithinAt (ltb p 3) (λ a. first (ltb-true p 3 a) _)
      (λ a. choose WithinAt (ltb p 11) (λ c. in_number (ltb-false p 3 a) (ltb-true p 11 c))
      (λ c. choose WithinAt (ltb p 14) (λ d. second (ltb-false p 11 c) (ltb-true p 14 d) _)
      (λ d. choose WithinAt (ltb p 16) (λ e. in_count (ltb-false p 14 d) (ltb-true p 16 e))
      (λ e. let m = ltb-false p 16 e in
      choose WithinAt (eqb p 16) (λ f. in_tag (eqb-true p 16 f))
      (λ f. let n = eqb-false p 16 f in
      choose WithinAt (ltb p 19) (λ g. third (omega arith) (ltb-true p 19 g) _)
      (λ g. choose WithinAt (ltb p 26) (λ i. in_address (ltb-false p 19 g) (ltb-true p 26 i))
      (λ i. let u = ltb-false p 26 i in
      choose WithinAt (eqb p 26) (λ j. in_last (eqb-true p 26 j))
      (λ j. let v = eqb-false p 26 j in
      choose WithinAt (ltb p 29) (λ k. fourth (omega arith) _) (λ k. tt)))))))))

pub fresh_within : Within fresh_reader
unfolding power256
fresh_within = record { number = omega arith; count = omega arith; part = omega arith; addresses = tt; few = omega arith; wanting = λ i j. absurd (omega arith) }

fed_all : (bytes : List ℕ) (x : Reading) → Bytes bytes → WithinAt x → WithinAt (feed_all bytes x)
unfolding feed_all
fed_all [] x h w = w
fed_all (b ∷ bytes) (going r) h w = fed_all bytes (feed b r) h.1 (fed b h.0 r w)
fed_all (b ∷ bytes) wrong h w = fed_all bytes wrong h.1 tt

-- all that bytes lead to
pub read_within : (bytes : List ℕ) (r : Reader) → Bytes bytes → feed_all bytes (going fresh_reader) ≡ going r → Within r
read_within bytes r h e = subst WithinAt e (fed_all bytes (going fresh_reader) h fresh_within)
