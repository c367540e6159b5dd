-- One numbered list has one message: what was written is read. Byte after byte, and cut anywhere.
use Prim.Native.Nat.{ℕ, zero, suc, ◌+◌, ◌*◌, ◌/◌, ◌%◌, ◌<◌, ◌≤◌}
use mathlib.Core.Path.{◌≡◌, refl, sym, ap, ◌∙◌}
use mathlib.Core.Bool.{Bool, true, false, false≢true, true≢false}
use mathlib.Core.List.{List, [], ◌∷◌, ◌++◌, append_assoc, append-nil}
use native.Mathlib.Omega.{arith}
use lib.Dec.{eqb}
use lib.ListN.{length, length-append}
use borrow.Author.Tests.{lt-ltb, le-ltb, eqb-true}
use Rattle.rules.proofs.Tests.{split}
use Rattle.rules.specs.Limits.{last_number, most_listed}
use Rattle.rules.specs.Messages.{bytes_of, address_fields, message_of, Words, IsMessage, Reader, Reading, going, wrong, fresh_reader, feed, feed_on, feed_all, Message, right, early, malformed, message_in, read_message, is_malformed, Unfinished, power256}

-- ---- cuts

pub feed_append : (xs ys : List ℕ) (x : Reading) → feed_all (xs ++ ys) x ≡ feed_all ys (feed_all xs x)
unfolding feed_all
feed_append [] ys x = refl
feed_append (b ∷ xs) ys x = feed_append xs ys (feed_on b x)

-- ---- numbers

-- the number that bytes make, high byte first, after a number
unfoldable value : List ℕ → ℕ → ℕ
value [] v = v
value (b ∷ bytes) v = value bytes (v * 256 + b)

value_last : (l : List ℕ) (b v : ℕ) → value (l ++ b ∷ []) v ≡ value l v * 256 + b
unfolding value
value_last [] b v = refl
value_last (x ∷ l) b v = value_last l b (v * 256 + x)

value_bytes : (n v : ℕ) → v < power256 n → value (bytes_of n v) 0 ≡ v
unfolding value bytes_of power256
value_bytes zero v h = omega arith
value_bytes (suc n) v h =
    value_last (bytes_of n (v / 256)) (v % 256) 0
    ∙ ap (λ (k : ℕ). k * 256 + v % 256) (value_bytes n (v / 256) (omega arith))
    ∙ omega arith

eight : (v : ℕ) → v ≤ last_number → value (bytes_of 8 v) 0 ≡ v
unfolding power256
eight v h = value_bytes 8 v (omega arith)

two : (c : ℕ) → c ≤ most_listed → value (bytes_of 2 c) 0 ≡ c
unfolding power256
two c h = value_bytes 2 c (omega arith)

abbrev pub at : ℕ → ℕ → ℕ → ℕ → List ℕ → Reading
at p n c q l = going (record { place = p; number = n; count = c; part = q; addresses = l })

-- ---- field by field

module _ (rest : List ℕ) where
  read_number : (v : ℕ) → v ≤ last_number → feed_all (bytes_of 8 v ++ rest) (at 3 0 0 0 []) ≡ feed_all rest (at 11 v 0 0 [])
  unfolding feed_all feed value bytes_of
  read_number v h = go ∙ ap (λ (n : ℕ). feed_all rest (at 11 n 0 0 [])) (eight v h)
    where
      go : feed_all (bytes_of 8 v ++ rest) (at 3 0 0 0 []) ≡ feed_all rest (at 11 (value (bytes_of 8 v) 0) 0 0 [])
      go = refl

  read_count : (n c : ℕ) → c ≤ most_listed → feed_all (bytes_of 2 c ++ rest) (at 14 n 0 0 []) ≡ feed_all rest (at 16 n c 0 [])
  unfolding feed_all feed value bytes_of
  read_count n c h = go ∙ ap (λ (c : ℕ). feed_all rest (at 16 n c 0 [])) (two c h)
    where
      go : feed_all (bytes_of 2 c ++ rest) (at 14 n 0 0 []) ≡ feed_all rest (at 16 n (value (bytes_of 2 c) 0) 0 [])
      go = refl

  read_address : (n c a : ℕ) (l : List ℕ) → a ≤ last_number → feed_all (bytes_of 8 a ++ rest) (at 19 n c 0 l) ≡ feed_all rest (at 16 n c 0 (l ++ a ∷ []))
  unfolding feed_all feed value bytes_of
  read_address n c a l h = go ∙ ap (λ (a : ℕ). feed_all rest (at 16 n c 0 (l ++ a ∷ []))) (eight a h)
    where
      go : feed_all (bytes_of 8 a ++ rest) (at 19 n c 0 l) ≡ feed_all rest (at 16 n c 0 (l ++ value (bytes_of 8 a) 0 ∷ []))
      go = refl

-- a tag and a length where an address is wanting
pub tag_three : (n c : ℕ) (l rest : List ℕ) → length l < c → feed_all (3 ∷ 0 ∷ 8 ∷ rest) (at 16 n c 0 l) ≡ feed_all rest (at 19 n c 0 l)
unfolding feed_all feed
tag_three n c l rest h = rw (lt-ltb (length l) c h)

read_fields : (rest : List ℕ) (n c : ℕ) (l done : List ℕ) → Words l → length done + length l ≡ c
    → feed_all (address_fields l ++ rest) (at 16 n c 0 done) ≡ feed_all rest (at 16 n c 0 (done ++ l))
unfolding address_fields
read_fields rest n c [] done f e = rw (append-nil done)
read_fields rest n c (a ∷ l) done f e =
    tag_three n c done ((bytes_of 8 a ++ address_fields l) ++ rest) (omega arith)
    ∙ ap (λ (m : List ℕ). feed_all m (at 19 n c 0 done)) (append_assoc (bytes_of 8 a) (address_fields l) rest)
    ∙ read_address (address_fields l ++ rest) n c a done f.0
    ∙ read_fields rest n c l (done ++ a ∷ []) f.1 (omega (arith, length-append done (a ∷ [])))
    ∙ ap (λ (m : List ℕ). feed_all rest (at 16 n c 0 m)) (append_assoc done (a ∷ []) l)

read_end : (n c : ℕ) (l : List ℕ) → length l ≡ c → feed_all (9 ∷ 0 ∷ 0 ∷ []) (at 16 n c 0 l) ≡ at 29 n c 0 l
unfolding feed_all feed
read_end n c l h = rw (le-ltb (length l) c (omega arith))

-- ---- the whole

-- what follows the count
abbrev tail : List ℕ → List ℕ
tail l = address_fields l ++ 9 ∷ 0 ∷ 0 ∷ []

module _ (n : ℕ) (l : List ℕ) (h : n ≤ last_number) (k : length l ≤ most_listed) (f : Words l) where
  read_all : feed_all (message_of n l) (going fresh_reader) ≡ at 29 n (length l) 0 l
  unfolding message_of feed_all feed
  read_all =
      first
      ∙ read_number (2 ∷ 0 ∷ 2 ∷ (bytes_of 2 (length l) ++ tail l)) n h
      ∙ second
      ∙ read_count (tail l) n (length l) k
      ∙ read_fields (9 ∷ 0 ∷ 0 ∷ []) n (length l) l [] f (omega arith)
      ∙ read_end n (length l) l refl
    where
      first : feed_all (message_of n l) (going fresh_reader) ≡ feed_all (bytes_of 8 n ++ 2 ∷ 0 ∷ 2 ∷ (bytes_of 2 (length l) ++ tail l)) (at 3 0 0 0 [])
      first = refl

      second : feed_all (2 ∷ 0 ∷ 2 ∷ (bytes_of 2 (length l) ++ tail l)) (at 11 n 0 0 []) ≡ feed_all (bytes_of 2 (length l) ++ tail l) (at 14 n 0 0 [])
      second = refl

  pub read_written : read_message (message_of n l) ≡ right n l
  unfolding read_message
  read_written = ap message_in read_all

-- bytes that are a message are read as that message
pub reads : {bytes : List ℕ} {n : ℕ} {l : List ℕ} → IsMessage bytes n l → read_message bytes ≡ right n l
reads {n = n} {l} k = ap read_message k.written ∙ read_written n l k.number k.count k.addresses

-- ---- beginnings

pub stays_wrong : (bytes : List ℕ) → feed_all bytes wrong ≡ wrong
unfolding feed_all
stays_wrong [] = refl
stays_wrong (b ∷ bytes) = stays_wrong bytes

abbrev is_wrong : Reading → Bool
is_wrong (going r) = false
is_wrong wrong = true

abbrev is_right : Message → Bool
is_right (right n l) = true
is_right early = false
is_right malformed = false

pub malformed_wrong : (x : Reading) → message_in x ≡ malformed → x ≡ wrong
malformed_wrong (going r) h =
    split (eqb r.place 29) (λ p. absurd (false≢true (ap is_malformed (simp p at h)))) (λ p. absurd (false≢true (ap is_malformed (simp p at h))))
malformed_wrong wrong h = refl

-- after the end every byte is wrong
past_end : (c : ℕ) (rest : List ℕ) (r : Reader) → r.place ≡ 29 → feed_all (c ∷ rest) (going r) ≡ wrong
unfolding feed_all feed
past_end c rest r p = rw p (stays_wrong rest)

right_ends : (x : Reading) → is_right (message_in x) ≡ true → (r : Reader) × (x ≡ going r) × (r.place ≡ 29)
right_ends (going r) h = split (eqb r.place 29) (λ p. (r, refl, eqb-true r.place 29 p)) (λ p. absurd (false≢true (simp p at h)))
right_ends wrong h = absurd (false≢true h)

module _ (b rest : List ℕ) {n : ℕ} {l : List ℕ} (k : IsMessage (b ++ rest) n l) where
  reaches : feed_all rest (feed_all b (going fresh_reader)) ≡ at 29 n (length l) 0 l
  reaches = sym (feed_append b rest (going fresh_reader)) ∙ ap (λ (m : List ℕ). feed_all m (going fresh_reader)) k.written ∙ read_all n l k.number k.count k.addresses

  -- what a right message begins with is not malformed
  pub never_wrong : read_message b ≡ malformed → ⊥
  unfolding read_message
  never_wrong m =
      let w = malformed_wrong (feed_all b (going fresh_reader)) m in
      true≢false (sym (ap is_wrong (stays_wrong rest)) ∙ ap (λ (x : Reading). is_wrong (feed_all rest x)) (sym w) ∙ ap is_wrong reaches)

-- nor is it a right message, if bytes are wanting
pub no_half : (b : List ℕ) (c : ℕ) (rest : List ℕ) {n : ℕ} {l : List ℕ} → IsMessage (b ++ c ∷ rest) n l → (m : ℕ) (j : List ℕ) → read_message b ≡ right m j → ⊥
unfolding read_message
no_half b c rest k m j q =
    let r = right_ends (feed_all b (going fresh_reader)) (ap is_right q) in
    let w : feed_all (c ∷ rest) (feed_all b (going fresh_reader)) ≡ wrong = ap (feed_all (c ∷ rest)) r.1 ∙ past_end c rest r.0 r.2 in
    true≢false (sym (ap is_wrong w) ∙ ap is_wrong (reaches b (c ∷ rest) k))

-- so it is one that ends early
pub unfinished_early : (b : List ℕ) → Unfinished b → read_message b ≡ early
unfinished_early b u = go (read_message b) refl
  where
    go : (x : Message) → read_message b ≡ x → x ≡ early
    go (right m j) e = absurd (no_half b u.next u.rest u.whole m j e)
    go early e = refl
    go malformed e = absurd (never_wrong b (u.next ∷ u.rest) u.whole e)
