-- A message written: each field behind the one before it.
use Prim.Native.Nat.{ℕ, zero, suc, ◌+◌, ◌*◌, ◌-◌, ◌/◌, ◌%◌, ◌<◌, ◌≤◌}
use mathlib.Core.List.{List, [], ◌∷◌, ◌++◌, append_assoc, append-nil}
use mathlib.Core.Path.{◌≡◌, refl, sym, ap, ap₂, ◌∙◌}
use native.Mathlib.Numerals.{add-one}
use native.Mathlib.Omega.{arith}
use lib.ListN.{length, get_or, take, drop, length-append}
use lib.Seq.{take_at, drop_at, drop-drop, take-suc, length-take-le}
use borrow.Author.Tests.{lt-ltb, le-ltb}
use Rattle.std.specs.Int.{w64, to_be_bytes}
use Rattle.words.proofs.Shifts.{from_pos}
use Rattle.rules.specs.declared.answer.Refusal.TheVariants.{OrderWords, Malformed}
use Rattle.rules.specs.Limits.{most_listed}
use Rattle.rules.specs.Messages.{bytes_of, address_fields, message_of}
use Rattle.message.specs.Writes.{message_front, wrote, write_words, message_bytes}
use Rattle.std.specs.Prelude.{Ok, Err}

-- ---- one field behind another

-- the part from p on came back as ys, which has the field and then what stood past it
pub put_behind : {xs ys : List ℕ} (done l field : List ℕ) (p n : ℕ) → xs ≡ done ++ drop p l → length done ≡ p
    → ys ≡ field ++ drop n (take (length xs - p) (drop p xs))
    → take p xs ++ (ys ++ drop (length xs - p) (drop p xs)) ≡ done ++ (field ++ drop (p + n) l)
put_behind {xs} {ys} done l field p n e d q =
    from_pos xs ys p (λ (part : List ℕ). field ++ drop n part) q
    ∙ rw (e, take_at done (drop p l) p d, drop_at done (drop p l) p d, drop-drop n p l)

-- ---- numbers

pub bytes_length : (n v : ℕ) → length (bytes_of n v) ≡ n
unfolding bytes_of
bytes_length zero v = refl
bytes_length (suc n) v = length-append (bytes_of n (v / 256)) (v % 256 ∷ []) ∙ ap (λ (k : ℕ). k + 1) (bytes_length n (v / 256)) ∙ add-one n

-- the bytes that the library gives; and the last two of a number's eight
pub eight_bytes : (v : ℕ) → to_be_bytes w64 v ≡ bytes_of 8 v
unfolding bytes_of
eight_bytes v =
    let b : v / 65536 ≡ v / 256 / 256 = omega arith in
    let c : v / 16777216 ≡ v / 65536 / 256 = omega arith in
    let d : v / 4294967296 ≡ v / 16777216 / 256 = omega arith in
    let e : v / 1099511627776 ≡ v / 4294967296 / 256 = omega arith in
    let f : v / 281474976710656 ≡ v / 1099511627776 / 256 = omega arith in
    let g : v / 72057594037927936 ≡ v / 281474976710656 / 256 = omega arith in
    rw (g, f, e, d, c, b)

pub two_bytes : (v : ℕ) → take 2 (drop 6 (bytes_of 8 v)) ≡ bytes_of 2 v
unfolding bytes_of
two_bytes v = refl

-- ---- addresses

fields_last : (list : List ℕ) (a : ℕ) (rest : List ℕ) → address_fields (list ++ a ∷ []) ++ rest ≡ address_fields list ++ (3 ∷ 0 ∷ 8 ∷ (bytes_of 8 a ++ rest))
unfolding address_fields
fields_last [] a rest = rw (append-nil (bytes_of 8 a))
fields_last (x ∷ list) a rest =
    ap (λ (m : List ℕ). 3 ∷ 0 ∷ 8 ∷ m)
    (append_assoc (bytes_of 8 x) (address_fields (list ++ a ∷ [])) rest
    ∙ ap (λ (m : List ℕ). bytes_of 8 x ++ m) (fields_last list a rest)
    ∙ sym (append_assoc (bytes_of 8 x) (address_fields list) (3 ∷ 0 ∷ 8 ∷ (bytes_of 8 a ++ rest))))

pub fields_length : (list : List ℕ) → length (address_fields list) ≡ length list * 11
unfolding address_fields
fields_length [] = refl
fields_length (x ∷ list) =
    let b = length-append (bytes_of 8 x) (address_fields list) in
    let n = bytes_length 8 x in
    let r = fields_length list in
    omega arith

pub fields_start : (list l : List ℕ) → l ≡ address_fields (take 0 list) ++ drop (0 * 11) l
unfolding address_fields
fields_start list l = refl

-- one more address
pub fields_next : (list l : List ℕ) (i : ℕ) {xs ys : List ℕ} → i < length list → xs ≡ address_fields (take i list) ++ drop (i * 11) l
    → ys ≡ 3 ∷ 0 ∷ 8 ∷ (bytes_of 8 (get_or list i 0) ++ drop 11 (take (length xs - i * 11) (drop (i * 11) xs)))
    → take (i * 11) xs ++ (ys ++ drop (length xs - i * 11) (drop (i * 11) xs)) ≡ address_fields (take (i + 1) list) ++ drop ((i + 1) * 11) l
fields_next list l i h e q =
    let d : length (address_fields (take i list)) ≡ i * 11 = fields_length (take i list) ∙ ap (λ (k : ℕ). k * 11) (length-take-le i list (omega arith)) in
    let n : i * 11 + 11 ≡ (i + 1) * 11 = omega arith in
    put_behind (address_fields (take i list)) l (3 ∷ 0 ∷ 8 ∷ bytes_of 8 (get_or list i 0)) (i * 11) 11 e d q
    ∙ sym (fields_last (take i list) (get_or list i 0) (drop (i * 11 + 11) l))
    ∙ ap₂ (λ (m r : List ℕ). address_fields m ++ r) (sym (take-suc list i 0 h) ∙ ap (λ (k : ℕ). take k list) (sym (add-one i))) (ap (λ (k : ℕ). drop k l) n)

-- ---- the whole

pub number_length : (t v : ℕ) → length (t ∷ 0 ∷ 8 ∷ bytes_of 8 v) ≡ 11
number_length t v = ap (λ (k : ℕ). suc (suc (suc k))) (bytes_length 8 v)

pub front_length : (number count : ℕ) → length (message_front number count) ≡ 16
front_length number count =
    let a = length-append (bytes_of 8 number) (2 ∷ 0 ∷ 2 ∷ bytes_of 2 count) in
    let b = bytes_length 8 number in
    let c = bytes_length 2 count in
    omega arith

-- front, fields and end are the message
pub message_is : (number : ℕ) (list rest : List ℕ) → message_front number (length list) ++ (address_fields list ++ (9 ∷ 0 ∷ 0 ∷ rest)) ≡ message_of number list ++ rest
unfolding message_of
message_is number list rest =
    let r : List ℕ = 9 ∷ 0 ∷ 0 ∷ [] in
    ap (λ (m : List ℕ). 1 ∷ 0 ∷ 8 ∷ m)
    (append_assoc (bytes_of 8 number) (2 ∷ 0 ∷ 2 ∷ bytes_of 2 (length list)) (address_fields list ++ (9 ∷ 0 ∷ 0 ∷ rest))
    ∙ ap (λ (m : List ℕ). bytes_of 8 number ++ (2 ∷ 0 ∷ 2 ∷ m))
    (ap (λ (m : List ℕ). bytes_of 2 (length list) ++ m) (sym (append_assoc (address_fields list) r rest)) ∙ sym (append_assoc (bytes_of 2 (length list)) (address_fields list ++ r) rest))
    ∙ sym (append_assoc (bytes_of 8 number) (2 ∷ 0 ∷ 2 ∷ (bytes_of 2 (length list) ++ (address_fields list ++ r))) rest))

module _ (bytes : List ℕ) (number : ℕ) (list : List ℕ) where
  pub few_bytes : length bytes < message_bytes (length list) → wrote (Err OrderWords) bytes ≡ write_words bytes number list
  few_bytes h = rw (lt-ltb (length bytes) (message_bytes (length list)) h)

  module _ (h : message_bytes (length list) ≤ length bytes) where
    pub long_list : most_listed < length list → wrote (Err Malformed) bytes ≡ write_words bytes number list
    long_list m = rw (le-ltb (length bytes) (message_bytes (length list)) h, lt-ltb most_listed (length list) m)

    pub is_written_byte : length list ≤ most_listed → {left : List ℕ} → left ≡ message_of number list ++ drop (message_bytes (length list)) bytes
        → wrote (Ok (message_bytes (length list))) left ≡ write_words bytes number list
    is_written_byte m e = rw (le-ltb (length bytes) (message_bytes (length list)) h, le-ltb most_listed (length list) m, e)

  module _ {xs ys : List ℕ} (e : xs ≡ message_front number (length list) ++ drop 16 bytes)
      (f : ys ≡ address_fields list ++ drop (length list * 11) (take (length xs - 16) (drop 16 xs))) where
    abbrev fielded : List ℕ
    fielded = take 16 xs ++ (ys ++ drop (length xs - 16) (drop 16 xs))

    abbrev done : List ℕ
    done = message_front number (length list) ++ address_fields list

    fielded_is : fielded ≡ done ++ drop (16 + length list * 11) bytes
    fielded_is =
        put_behind (message_front number (length list)) bytes (address_fields list) 16 (length list * 11) e (front_length number (length list)) f
        ∙ sym (append_assoc (message_front number (length list)) (address_fields list) (drop (16 + length list * 11) bytes))

    done_length : length done ≡ 16 + length list * 11
    done_length =
        length-append (message_front number (length list)) (address_fields list)
        ∙ ap₂ (λ (m n : ℕ). m + n) (front_length number (length list)) (fields_length list)

    pub all_put : {zs : List ℕ} → zs ≡ 9 ∷ 0 ∷ 0 ∷ drop 3 (take (length fielded - (16 + length list * 11)) (drop (16 + length list * 11) fielded))
        → take (16 + length list * 11) fielded ++ (zs ++ drop (length fielded - (16 + length list * 11)) (drop (16 + length list * 11) fielded))
        ≡ message_of number list ++ drop (message_bytes (length list)) bytes
    all_put q =
        let n : 16 + length list * 11 + 3 ≡ message_bytes (length list) = omega arith in
        put_behind done bytes (9 ∷ 0 ∷ 0 ∷ []) (16 + length list * 11) 3 fielded_is done_length q
        ∙ append_assoc (message_front number (length list)) (address_fields list) (9 ∷ 0 ∷ 0 ∷ drop (16 + length list * 11 + 3) bytes)
        ∙ message_is number list (drop (16 + length list * 11 + 3) bytes)
        ∙ ap (λ (k : ℕ). message_of number list ++ drop k bytes) n
