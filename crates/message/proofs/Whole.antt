-- A message read whole: byte after byte, or an address field at a time.
use Prim.Native.Nat.{ℕ, zero, suc, ◌+◌, ◌*◌, ◌-◌, ◌<◌, ◌≤◌}
use mathlib.Core.Bool.{true, ◌||◌}
use mathlib.Core.List.{List, [], ◌∷◌, ◌++◌}
use mathlib.Core.Path.{◌≡◌, refl, sym, ap, ap₂, subst, ◌∙◌}
use native.Mathlib.Nat.{add-zero}
use native.Mathlib.Numerals.{add-one}
use native.Mathlib.Omega.{arith}
use lib.Dec.{eqb}
use lib.ListN.{length, get_or, set, take, drop, length-append, length-set, take-append-drop}
use lib.Seq.{take-suc, take-add, take-length, take-set-le, get_or-set_same, drop-cons}
use borrow.Author.Tests.{eqb-true}
use Rattle.rules.proofs.Messages.{at, feed_append, stays_wrong, tag_three}
use Rattle.rules.proofs.Readers.{WithinAt, fed, words_on, fresh_within}
use Rattle.rules.proofs.Tests.{both, split}
use Rattle.rules.specs.Addresses.{elem}
use Rattle.rules.specs.Limits.{all_ones, last_number, most_rows}
use Rattle.rules.specs.Messages as messages
use Rattle.rules.specs.Messages.{Reading, going, wrong, fresh_reader, feed, feed_on, feed_all, power256, Message, message_in, read_message}
use Rattle.std.specs.Prelude.{Option, Some, None, Result, Err}
use Rattle.std.specs.Int.{w64, from_be_bytes}
use Rattle.message.specs.Feeding.{having, Sound, with_address, Feeds}
use Rattle.message.specs.Reads.{after, fresh_code, Kept, Reads, address_head, number_at, read_as, ended_as, KeptOf}
use Rattle.message.specs.declared.feed.Reader.{Reader}
use Rattle.message.specs.declared.feed.Fed.{Fed}
use Rattle.message.specs.declared.read.NumberedList.{NumberedList}
use Rattle.message.specs.declared.read.BadMessage.{BadMessage}
use Rattle.message.specs.declared.read.BadMessage.TheVariants.{Malformed}
use Rattle.message.proofs.Bytewise.{more_kept}

-- what is no `Some` is `None`
pub none_left : {A : Type 0} (o : Option A) → ((x : A) → o ≡ Some x → ⊥) → o ≡ None
none_left None f = refl
none_left (Some x) f = absurd (f x refl)

-- ---- the words for addresses

-- one more address
pub kept_on : (list words : List ℕ) (a n : ℕ) → n ≡ length list → Kept list words → Kept (list ++ a ∷ []) (set words n a)
kept_on list words a n e k = record {
  long = length-set words n a ∙ k.long;
  all = λ h.
      let l = k.long in
      let s = length-append list (a ∷ []) in
      let u : length (list ++ a ∷ []) ≡ suc (length list) = s ∙ add-one (length list) in
      let m : length list < most_rows = omega arith in
      let t : suc (length list) ≤ length (set words (length list) a) = omega (arith, length-set words (length list) a) in
      rw (e, u)
      (take-suc (set words (length list) a) (length list) 0 t
      ∙ ap₂ (λ (p : List ℕ) (x : ℕ). p ++ x ∷ []) (take-set-le (length list) words (length list) a (omega arith) ∙ k.all (omega arith)) (get_or-set_same words (length list) a 0 (omega arith)));
}

-- ---- the first bytes

module _ (bytes : List ℕ) where
  feed_next : (x : Reading) (i : ℕ) → i < length bytes → feed_all (take (i + 1) bytes) x ≡ feed_on (get_or bytes i 0) (feed_all (take i bytes) x)
  unfolding feed_all
  feed_next x i h =
      ap (λ (l : List ℕ). feed_all l x) (ap (λ (n : ℕ). take n bytes) (add-one i) ∙ take-suc bytes i 0 h)
      ∙ feed_append (take i bytes) (get_or bytes i 0 ∷ []) x

  -- one byte more of those that a slice has
  pub reads_on : (x : Reading) (i : ℕ) {r : Reader} {words : List ℕ} → i < length bytes → Reads (feed_on (get_or bytes i 0) (feed_all (take i bytes) x)) r words
      → Reads (feed_all (take (i + 1) bytes) x) r words
  reads_on x i {r} {words} h k = subst (λ (y : Reading). Reads y r words) (sym (feed_next x i h)) k

  pub wrong_on : (x : Reading) (i : ℕ) → i < length bytes → feed_on (get_or bytes i 0) (feed_all (take i bytes) x) ≡ wrong → feed_all bytes x ≡ wrong
  wrong_on x i h w =
      ap (λ (l : List ℕ). feed_all l x) (sym (take-append-drop (i + 1) bytes))
      ∙ feed_append (take (i + 1) bytes) (drop (i + 1) bytes) x
      ∙ ap (feed_all (drop (i + 1) bytes)) (feed_next x i h ∙ w)
      ∙ stays_wrong (drop (i + 1) bytes)

  after_add : (i n : ℕ) → after (i + n) bytes ≡ feed_all (take n (drop i bytes)) (after i bytes)
  after_add i n =
      ap (λ (l : List ℕ). feed_all l (going fresh_reader)) (take-add i n bytes)
      ∙ feed_append (take i bytes) (take n (drop i bytes)) (going fresh_reader)

  pub after_wrong : (i to : ℕ) → i ≤ to → after i bytes ≡ wrong → after to bytes ≡ wrong
  after_wrong i to h w =
      let e : i + (to - i) ≡ to = omega arith in
      ap (λ (n : ℕ). after n bytes) (sym e) ∙ after_add i (to - i) ∙ ap (feed_all (take (to - i) (drop i bytes))) w ∙ stays_wrong (take (to - i) (drop i bytes))

  -- the bytes from a place on
  pub rest_fed : (i : ℕ) → i ≤ length bytes → feed_all (take (length bytes - i) (drop i bytes)) (after i bytes) ≡ after (length bytes) bytes
  rest_fed i h =
      let e : i + (length bytes - i) ≡ length bytes = omega arith in
      sym (after_add i (length bytes - i)) ∙ ap (λ (n : ℕ). after n bytes) e

  after_all : after (length bytes) bytes ≡ feed_all bytes (going fresh_reader)
  after_all = ap (λ (l : List ℕ). feed_all l (going fresh_reader)) (take-length bytes)

-- before the first byte
pub reads_start : (words : List ℕ) → length words ≡ most_rows → Reads (going fresh_reader) fresh_code words
unfolding elem
reads_start words l = record {
  list = [];
  reading = refl;
  keeps = record { taken = refl; ones = refl };
  within = fresh_within;
  kept = record { long = l; all = λ h. refl };
}

pub reads_sound : {x : Reading} {r : Reader} {words : List ℕ} → Reads x r words → Sound r
reads_sound k = record { list = k.list; keeps = k.keeps; within = k.within }

-- ---- one byte more

module _ {b : ℕ} (h : b < 256) {x : Reading} {r : Reader} {words : List ℕ} (k : Reads x r words) where
  fed_next : feed_on b x ≡ feed b (having k.list r)
  fed_next = ap (feed_on b) k.reading

  within_next : {y : messages.Reader} → feed b (having k.list r) ≡ going y → messages.Within y
  within_next e = subst WithinAt e (fed b h (having k.list r) k.within)

  module _ {s : Fed} (f : Feeds (feed b) r (Some s)) where
    next_fed : {left : List ℕ} → Kept (with_address k.list s.address) left → Reads (feed_on b x) s.reader left
    next_fed t =
        let g = f.each k.list k.keeps in
        record {
          list = with_address k.list s.address;
          reading = fed_next ∙ sym g.reading;
          keeps = g.keeps;
          within = within_next (sym g.reading);
          kept = t;
        }

    pub next_going : s.address ≡ None → Reads (feed_on b x) s.reader words
    next_going e = next_fed (rw e k.kept)

    pub next_address : {a : ℕ} → s.address ≡ Some a → Reads (feed_on b x) s.reader (set words r.taken a)
    next_address {a} e = next_fed (rw e (kept_on k.list words a r.taken k.keeps.taken k.kept))

  pub next_wrong : Feeds (feed b) r None → feed_on b x ≡ wrong
  next_wrong f = fed_next ∙ sym (f.each k.list k.keeps).reading

-- ---- an address field

-- n bytes, each by its place
unfoldable run : List ℕ → ℕ → ℕ → ℕ → List ℕ
run l i k zero = []
run l i k (suc n) = get_or l (i + k) 0 ∷ run l i (suc k) n

run_is : (l : List ℕ) (i k n : ℕ) → i + k + n ≤ length l → take n (drop (i + k) l) ≡ run l i k n
unfolding run
run_is l i k zero h = refl
run_is l i k (suc n) h =
    let e : suc (i + k) ≡ i + suc k = omega arith in
    ap (take (suc n)) (drop-cons l (i + k) 0 (omega arith))
    ∙ ap (λ (m : List ℕ). get_or l (i + k) 0 ∷ m) (ap (λ (j : ℕ). take n (drop j l)) e ∙ run_is l i (suc k) n (omega arith))

-- eight bytes as one number
eight : (a b c d e f g h : ℕ) → (((((((0 * 256 + a) * 256 + b) * 256 + c) * 256 + d) * 256 + e) * 256 + f) * 256 + g) * 256 + h
    ≡ from_be_bytes w64 (a ∷ b ∷ c ∷ d ∷ e ∷ f ∷ g ∷ h ∷ [])
eight a b c d e f g h = omega arith

field_read : (n m : ℕ) (l : List ℕ) (a b c d e f g h : ℕ) → length l < m
    → feed_all (3 ∷ 0 ∷ 8 ∷ a ∷ b ∷ c ∷ d ∷ e ∷ f ∷ g ∷ h ∷ []) (at 16 n m 0 l)
    ≡ at 16 n m 0 (l ++ from_be_bytes w64 (a ∷ b ∷ c ∷ d ∷ e ∷ f ∷ g ∷ h ∷ []) ∷ [])
unfolding feed_all feed
field_read n m l a b c d e f g h i =
    tag_three n m l (a ∷ b ∷ c ∷ d ∷ e ∷ f ∷ g ∷ h ∷ []) i
    ∙ ap (λ (v : ℕ). at 16 n m 0 (l ++ v ∷ [])) (eight a b c d e f g h)

module _ (bytes : List ℕ) (i : ℕ) where
  module _ {r : Reader} {words : List ℕ} (k : Reads (after i bytes) r words) (p : r.place ≡ 16) (w : r.taken < r.count)
      (fit : i + 11 ≤ length bytes) (head : address_head bytes i ≡ true) {v : ℕ} (e : v ≡ number_at bytes (i + 3)) (small : v ≤ last_number) where
    no_part : r.part ≡ 0
    unfolding power256
    no_part = let q : r.part < power256 (messages.part_bytes 16) = rw p at k.within.part in omega arith

    heads : (get_or bytes (i + 0) 0 ≡ 3) × (get_or bytes (i + 1) 0 ≡ 0) × (get_or bytes (i + 2) 0 ≡ 8)
    heads =
        let a = both _ _ head in
        let b = both _ _ a.1 in
        (ap (λ (n : ℕ). get_or bytes n 0) (add-zero i) ∙ eqb-true _ _ a.0, eqb-true _ _ b.0, eqb-true _ _ b.1)

    eleven : take 11 (drop i bytes) ≡ 3 ∷ 0 ∷ 8 ∷ run bytes i 3 8
    unfolding run
    eleven =
        ap (λ (n : ℕ). take 11 (drop n bytes)) (sym (add-zero i)) ∙ run_is bytes i 0 11 (omega arith)
        ∙ rw (heads.0, heads.1, heads.2)

    there : after i bytes ≡ at 16 r.number r.count 0 k.list
    there = k.reading ∙ ap₂ (λ (q m : ℕ). at q r.number r.count m k.list) p no_part

    field_on : after (i + 11) bytes ≡ at 16 r.number r.count 0 (k.list ++ v ∷ [])
    unfolding run
    field_on =
        after_add bytes i 11
        ∙ ap₂ feed_all eleven there
        ∙ field_read r.number r.count k.list _ _ _ _ _ _ _ _ (omega (arith, k.keeps.taken))
        ∙ ap (λ (x : ℕ). at 16 r.number r.count 0 (k.list ++ x ∷ [])) (sym (e ∙ ap (from_be_bytes w64) (run_is bytes i 3 8 (omega arith))))

    pub reads_field : (n : ℕ) → r.taken ≡ n → {s : Reader}
        → s ≡ record { place = r.place; number = r.number; count = r.count; part = r.part; taken = n + 1; ones = r.ones || eqb v all_ones }
        → Reads (after (i + 11) bytes) s (set words n v)
    reads_field n t {s} q =
        rw (q, ← t)
        (record {
          list = k.list ++ v ∷ [];
          reading = field_on ∙ sym (ap₂ (λ (q m : ℕ). at q r.number r.count m (k.list ++ v ∷ [])) p no_part);
          keeps = more_kept v refl refl k.keeps;
          within = record {
            number = k.within.number;
            count = k.within.count;
            part = k.within.part;
            addresses = words_on k.list v k.within.addresses small;
            few = omega (arith, k.keeps.taken, length-append k.list (v ∷ []));
            wanting = λ a b. absurd (omega arith);
          };
          kept = kept_on k.list words v r.taken k.keeps.taken k.kept;
        })

-- ---- when no byte is left

module _ (bytes words : List ℕ) where
  pub whole_wrong : after (length bytes) bytes ≡ wrong → (Err Malformed ≡ read_as (read_message bytes)) × KeptOf (read_message bytes) words
  unfolding read_message
  whole_wrong w =
      let e : read_message bytes ≡ messages.malformed = ap message_in (sym (after_all bytes) ∙ w) in
      rw e (refl, tt)

  pub whole_read : {r : Reader} {x : Result NumberedList BadMessage} → Reads (after (length bytes) bytes) r words → x ≡ ended_as r
      → (x ≡ read_as (read_message bytes)) × KeptOf (read_message bytes) words
  unfolding read_message
  whole_read {r} {x} k e =
      let m : read_message bytes ≡ message_in (going (having k.list r)) = ap message_in (sym (after_all bytes) ∙ k.reading) in
      split (eqb r.place 29)
      (λ p. rw (m, p) (e ∙ rw (p, k.keeps.taken, k.keeps.ones), k.kept))
      (λ p. rw (m, p) (e ∙ rw p, tt))
