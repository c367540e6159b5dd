-- One message has one numbered list: the bytes that lead to a reader are known from it, and at the end they are the message. Bytes that end
-- early are the beginning of one, and where they are malformed, some byte is the first after which none goes on.
use Rattle.std.specs.Prelude.{if◌then◌else◌}
use Prim.Native.Nat.{ℕ, zero, suc, ◌+◌, ◌*◌, ◌-◌, ◌/◌, ◌%◌, ◌<◌, ◌≤◌}
use mathlib.Core.Path.{◌≡◌, refl, sym, ap, subst, ◌∙◌}
use mathlib.Core.Bool.{Bool, true, false, false≢true, true≢false}
use mathlib.Core.List.{List, [], ◌∷◌, ◌++◌, append_assoc, append-nil}
use native.Mathlib.Omega.{arith}
use lib.Dec.{eqb, ltb}
use lib.ListN.{length, length-append}
use borrow.Author.Tests.{lt-ltb, le-ltb, ltb-true, ltb-false, eqb-true, ne_eqb}
use Rattle.rules.specs.Messages.{bytes_of, address_fields, message_of, Bytes, IsMessage, Unfinished, Begins, WrongAt, Reader, Reading, going, wrong, fresh_reader, feed, feed_all, power256, Message, right, early, malformed, message_in, read_message, is_malformed, is_early}
use Rattle.rules.proofs.Messages.{feed_append, never_wrong}
use Rattle.rules.proofs.Readers.{read_within}
use Rattle.rules.proofs.Tests.{split, choose}

-- the bytes up to the number, up to the count, and up to the addresses so far
abbrev headed : ℕ → List ℕ
headed n = 1 ∷ 0 ∷ 8 ∷ bytes_of 8 n

abbrev counted : ℕ → ℕ → List ℕ
counted n c = headed n ++ 2 ∷ 0 ∷ 2 ∷ bytes_of 2 c

abbrev listed : ℕ → ℕ → List ℕ → List ℕ
listed n c l = counted n c ++ address_fields l

-- a reader, and the bytes that lead to it
data Came : Reader → List ℕ → Type 0 where
  came0 : Came (record { place = 0; number = 0; count = 0; part = 0; addresses = [] }) []
  came1 : Came (record { place = 1; number = 0; count = 0; part = 0; addresses = [] }) (1 ∷ [])
  came2 : Came (record { place = 2; number = 0; count = 0; part = 0; addresses = [] }) (1 ∷ 0 ∷ [])
  number : (k p n : ℕ) → p ≡ 3 + k → k < 8 → Came (record { place = p; number = n; count = 0; part = 0; addresses = [] }) (1 ∷ 0 ∷ 8 ∷ bytes_of k n)
  came11 : (n : ℕ) → Came (record { place = 11; number = n; count = 0; part = 0; addresses = [] }) (headed n)
  came12 : (n : ℕ) → Came (record { place = 12; number = n; count = 0; part = 0; addresses = [] }) (headed n ++ 2 ∷ [])
  came13 : (n : ℕ) → Came (record { place = 13; number = n; count = 0; part = 0; addresses = [] }) (headed n ++ 2 ∷ 0 ∷ [])
  came14 : (n : ℕ) → Came (record { place = 14; number = n; count = 0; part = 0; addresses = [] }) (headed n ++ 2 ∷ 0 ∷ 2 ∷ [])
  came15 : (n c : ℕ) → Came (record { place = 15; number = n; count = c; part = 0; addresses = [] }) (headed n ++ 2 ∷ 0 ∷ 2 ∷ bytes_of 1 c)
  tagged : (n c : ℕ) (l : List ℕ) → length l ≤ c → Came (record { place = 16; number = n; count = c; part = 0; addresses = l }) (listed n c l)
  came17 : (n c : ℕ) (l : List ℕ) → length l < c → Came (record { place = 17; number = n; count = c; part = 0; addresses = l }) (listed n c l ++ 3 ∷ [])
  came18 : (n c : ℕ) (l : List ℕ) → length l < c → Came (record { place = 18; number = n; count = c; part = 0; addresses = l }) (listed n c l ++ 3 ∷ 0 ∷ [])
  part : (k p n c q : ℕ) (l : List ℕ) → p ≡ 19 + k → k < 8 → length l < c
      → Came (record { place = p; number = n; count = c; part = q; addresses = l }) (listed n c l ++ 3 ∷ 0 ∷ 8 ∷ bytes_of k q)
  came27 : (n c : ℕ) (l : List ℕ) → length l ≡ c → Came (record { place = 27; number = n; count = c; part = 0; addresses = l }) (listed n c l ++ 9 ∷ [])
  came28 : (n c : ℕ) (l : List ℕ) → length l ≡ c → Came (record { place = 28; number = n; count = c; part = 0; addresses = l }) (listed n c l ++ 9 ∷ 0 ∷ [])
  came29 : (n c : ℕ) (l : List ℕ) → length l ≡ c → Came (record { place = 29; number = n; count = c; part = 0; addresses = l }) (listed n c l ++ 9 ∷ 0 ∷ 0 ∷ [])

abbrev CameTo : Reading → List ℕ → Type 0
CameTo (going r) bytes = Came r bytes
CameTo wrong bytes = Unit

bytes_on : (k v b : ℕ) → b < 256 → bytes_of (suc k) (v * 256 + b) ≡ bytes_of k v ++ b ∷ []
unfolding bytes_of
bytes_on k v b h =
    let p : (v * 256 + b) / 256 ≡ v = omega arith in
    let q : (v * 256 + b) % 256 ≡ b = omega arith in
    rw (p, q)

fields_on : (l : List ℕ) (a : ℕ) → address_fields (l ++ a ∷ []) ≡ address_fields l ++ 3 ∷ 0 ∷ 8 ∷ bytes_of 8 a
unfolding address_fields
fields_on [] a = rw (append-nil (bytes_of 8 a))
fields_on (x ∷ l) a = ap (λ (m : List ℕ). 3 ∷ 0 ∷ 8 ∷ m) (ap (λ (m : List ℕ). bytes_of 8 x ++ m) (fields_on l a) ∙ sym (append_assoc (bytes_of 8 x) (address_fields l) (3 ∷ 0 ∷ 8 ∷ bytes_of 8 a)))

-- a byte that has to be this one
fixed : (x b : ℕ) (s : Reader) (bytes : List ℕ) → Came s (bytes ++ x ∷ []) → CameTo (if eqb b x then going s else wrong) (bytes ++ b ∷ [])
fixed x b s bytes k =
    choose (λ (y : Reading). CameTo y (bytes ++ b ∷ [])) (eqb b x)
    (λ p. subst (λ (c : ℕ). Came s (bytes ++ c ∷ [])) (sym (eqb-true b x p)) k) (λ p. tt)

again : (r : Reader) {l m : List ℕ} → l ≡ m → Came r l → Came r m
again r e k = subst (Came r) e k

came_on : (r : Reader) (bytes : List ℕ) (b : ℕ) → b < 256 → Came r bytes → CameTo (feed b r) (bytes ++ b ∷ [])
unfolding feed bytes_of address_fields
came_on r bytes b h came0 = fixed 1 b _ [] came1
came_on r bytes b h came1 = fixed 0 b _ (1 ∷ []) came2
came_on r bytes b h came2 = fixed 8 b _ (1 ∷ 0 ∷ []) (number 0 3 0 refl (omega arith))
came_on r bytes b h (number k p n e i) =
    rw (le-ltb p 3 (omega arith), lt-ltb p 11 (omega arith))
    (split (ltb (suc k) 8)
    (λ t. again _ (ap (λ (m : List ℕ). 1 ∷ 0 ∷ 8 ∷ m) (bytes_on k n b h)) (number (suc k) (suc p) (n * 256 + b) (omega arith) (ltb-true (suc k) 8 t)))
    (λ t. let j : k ≡ 7 = let u = ltb-false (suc k) 8 t in omega arith in let w : p ≡ 10 = omega arith in
    rw (w, j) (again _ (ap (λ (m : List ℕ). 1 ∷ 0 ∷ 8 ∷ m) (bytes_on 7 n b h)) (came11 (n * 256 + b)))))
came_on r bytes b h (came11 n) = fixed 2 b _ (headed n) (came12 n)
came_on r bytes b h (came12 n) = fixed 0 b _ (headed n ++ 2 ∷ []) (again _ (sym (append_assoc (headed n) (2 ∷ []) (0 ∷ []))) (came13 n))
came_on r bytes b h (came13 n) = fixed 2 b _ (headed n ++ 2 ∷ 0 ∷ []) (again _ (sym (append_assoc (headed n) (2 ∷ 0 ∷ []) (2 ∷ []))) (came14 n))
came_on r bytes b h (came14 n) =
    again _ (ap (λ (m : List ℕ). headed n ++ 2 ∷ 0 ∷ 2 ∷ m) (bytes_on 0 0 b h) ∙ sym (append_assoc (headed n) (2 ∷ 0 ∷ 2 ∷ []) (b ∷ []))) (came15 n (0 * 256 + b))
came_on r bytes b h (came15 n c) =
    again _
    (append-nil (counted n (c * 256 + b)) ∙ ap (λ (m : List ℕ). headed n ++ 2 ∷ 0 ∷ 2 ∷ m) (bytes_on 1 c b h) ∙ sym (append_assoc (headed n) (2 ∷ 0 ∷ 2 ∷ bytes_of 1 c) (b ∷ [])))
    (tagged n (c * 256 + b) [] (omega arith))
came_on r bytes b h (tagged n c l i) =
    choose (λ (y : Reading). CameTo y (listed n c l ++ b ∷ [])) (ltb (length l) c)
    (λ t. fixed 3 b _ (listed n c l) (came17 n c l (ltb-true (length l) c t)))
    (λ t. fixed 9 b _ (listed n c l) (came27 n c l (let u = ltb-false (length l) c t in omega arith)))
came_on r bytes b h (came17 n c l i) = fixed 0 b _ (listed n c l ++ 3 ∷ []) (again _ (sym (append_assoc (listed n c l) (3 ∷ []) (0 ∷ []))) (came18 n c l i))
came_on r bytes b h (came18 n c l i) = fixed 8 b _ (listed n c l ++ 3 ∷ 0 ∷ []) (again _ (sym (append_assoc (listed n c l) (3 ∷ 0 ∷ []) (8 ∷ []))) (part 0 19 n c 0 l refl (omega arith) i))
came_on r bytes b h (part k p n c q l e i j) =
    rw (le-ltb p 3 (omega arith), le-ltb p 11 (omega arith), le-ltb p 14 (omega arith), le-ltb p 16 (omega arith), ne_eqb p 16 (omega arith), le-ltb p 19 (omega arith))
    (split (ltb (suc k) 8)
    (λ t. let u = ltb-true (suc k) 8 t in
    rw (lt-ltb p 26 (omega arith))
    (again _
    (ap (λ (m : List ℕ). listed n c l ++ 3 ∷ 0 ∷ 8 ∷ m) (bytes_on k q b h) ∙ sym (append_assoc (listed n c l) (3 ∷ 0 ∷ 8 ∷ bytes_of k q) (b ∷ [])))
    (part (suc k) (suc p) n c (q * 256 + b) l (omega arith) u j)))
    (λ t. let u = ltb-false (suc k) 8 t in
    let w : k ≡ 7 = omega arith in
    let v : p ≡ 26 = omega arith in
    rw (v, w)
    (again _
    (ap (λ (m : List ℕ). counted n c ++ m) (fields_on l (q * 256 + b))
    ∙ sym (append_assoc (counted n c) (address_fields l) (3 ∷ 0 ∷ 8 ∷ bytes_of 8 (q * 256 + b)))
    ∙ ap (λ (m : List ℕ). listed n c l ++ 3 ∷ 0 ∷ 8 ∷ m) (bytes_on 7 q b h)
    ∙ sym (append_assoc (listed n c l) (3 ∷ 0 ∷ 8 ∷ bytes_of 7 q) (b ∷ [])))
    (tagged n c (l ++ (q * 256 + b) ∷ []) (omega (arith, length-append l ((q * 256 + b) ∷ [])))))))
came_on r bytes b h (came27 n c l e) = fixed 0 b _ (listed n c l ++ 9 ∷ []) (again _ (sym (append_assoc (listed n c l) (9 ∷ []) (0 ∷ []))) (came28 n c l e))
came_on r bytes b h (came28 n c l e) = fixed 0 b _ (listed n c l ++ 9 ∷ 0 ∷ []) (again _ (sym (append_assoc (listed n c l) (9 ∷ 0 ∷ []) (0 ∷ []))) (came29 n c l e))
came_on r bytes b h (came29 n c l e) = tt

-- ---- all bytes

came_all : (more bytes : List ℕ) (x : Reading) → Bytes more → CameTo x bytes → CameTo (feed_all more x) (bytes ++ more)
unfolding feed_all
came_all [] bytes x h k = rw (append-nil bytes) k
came_all (b ∷ more) bytes (going r) h k =
    subst (CameTo (feed_all more (feed b r))) (append_assoc bytes (b ∷ []) more) (came_all more (bytes ++ b ∷ []) (feed b r) h.1 (came_on r bytes b h.0 k))
came_all (b ∷ more) bytes wrong h k =
    subst (CameTo (feed_all more wrong)) (append_assoc bytes (b ∷ []) more) (came_all more (bytes ++ b ∷ []) wrong h.1 tt)

ended : (r : Reader) (bytes : List ℕ) → Came r bytes → r.place ≡ 29 → bytes ≡ message_of r.number r.addresses
unfolding message_of
ended r bytes came0 e = absurd (omega arith)
ended r bytes came1 e = absurd (omega arith)
ended r bytes came2 e = absurd (omega arith)
ended r bytes (number k p n i j) e = absurd (omega arith)
ended r bytes (came11 n) e = absurd (omega arith)
ended r bytes (came12 n) e = absurd (omega arith)
ended r bytes (came13 n) e = absurd (omega arith)
ended r bytes (came14 n) e = absurd (omega arith)
ended r bytes (came15 n c) e = absurd (omega arith)
ended r bytes (tagged n c l i) e = absurd (omega arith)
ended r bytes (came17 n c l i) e = absurd (omega arith)
ended r bytes (came18 n c l i) e = absurd (omega arith)
ended r bytes (part k p n c q l i j t) e = absurd (omega arith)
ended r bytes (came27 n c l i) e = absurd (omega arith)
ended r bytes (came28 n c l i) e = absurd (omega arith)
ended r bytes (came29 n c l i) e =
    append_assoc (counted n c) (address_fields l) (9 ∷ 0 ∷ 0 ∷ [])
    ∙ append_assoc (headed n) (2 ∷ 0 ∷ 2 ∷ bytes_of 2 c) (address_fields l ++ 9 ∷ 0 ∷ 0 ∷ [])
    ∙ ap (λ (k : ℕ). headed n ++ 2 ∷ 0 ∷ 2 ∷ (bytes_of 2 k ++ (address_fields l ++ 9 ∷ 0 ∷ 0 ∷ []))) (sym i)

-- what a complete reader has read is a message
complete : (bytes : List ℕ) (r : Reader) → Bytes bytes → feed_all bytes (going fresh_reader) ≡ going r → r.place ≡ 29 → IsMessage bytes r.number r.addresses
unfolding power256
complete bytes r h e p =
    let w = read_within bytes r h e in
    let n = rw p at w.number in
    let c = rw p at w.count in
    record {
      number = omega arith;
      count = let f = w.few in omega arith;
      addresses = w.addresses;
      written = ended r bytes (subst (λ (x : Reading). CameTo x bytes) e (came_all bytes [] (going fresh_reader) h came0)) p;
    }

abbrev is_right : Message → Bool
is_right (right n l) = true
is_right early = false
is_right malformed = false

-- what is read as right was written
pub written_read : (bytes : List ℕ) (n : ℕ) (l : List ℕ) → Bytes bytes → read_message bytes ≡ right n l → IsMessage bytes n l
unfolding read_message
written_read bytes n l h e = go (feed_all bytes (going fresh_reader)) refl e
  where
    go : (x : Reading) → feed_all bytes (going fresh_reader) ≡ x → message_in x ≡ right n l → IsMessage bytes n l
    go wrong q m = absurd (false≢true (ap is_right m))
    go (going r) q m =
        split (eqb r.place 29)
        (λ p. let same : right r.number r.addresses ≡ right n l = simp p at m in
        let i : r.number ≡ n = cc in let j : r.addresses ≡ l = cc in
        rw (← i, ← j) (complete bytes r h q (eqb-true r.place 29 p)))
        (λ p. absurd (false≢true (ap is_right (simp p at m))))

-- ---- a beginning goes on

-- bytes that complete what a reader has begun
record Ends (r : Reader) : Type 0 where
  rest : List ℕ
  bytes : Bytes rest
  last : Reader
  reaches : feed_all rest (going r) ≡ going last
  complete : last.place ≡ 29

joined : (l m : List ℕ) → Bytes l → Bytes m → Bytes (l ++ m)
joined [] m h k = k
joined (b ∷ l) m h k = (h.0, joined l m h.1 k)

-- some bytes first
first : (l : List ℕ) → Bytes l → (r s : Reader) → feed_all l (going r) ≡ going s → Ends s → Ends r
first l h r s e k = record {
  rest = l ++ k.rest;
  bytes = joined l k.rest h k.bytes;
  last = k.last;
  reaches = feed_append l k.rest (going r) ∙ ap (feed_all k.rest) e ∙ k.reaches;
  complete = k.complete;
}

small : (b : ℕ) → b < 256 → Bytes (b ∷ [])
small b h = (h, tt)

ends_last : (r : Reader) → r.place ≡ 29 → Ends r
unfolding feed_all
ends_last r p = record { rest = []; bytes = tt; last = r; reaches = refl; complete = p }

abbrev tag_at : ℕ → ℕ → List ℕ → Reader
tag_at n c l = record { place = 16; number = n; count = c; part = 0; addresses = l }

-- d addresses are wanting
ends_tag : (d n c : ℕ) (l : List ℕ) → length l + d ≡ c → Ends (tag_at n c l)
unfolding feed_all feed
ends_tag zero n c l e =
    first (9 ∷ 0 ∷ 0 ∷ []) (omega arith, (omega arith, (omega arith, tt))) (tag_at n c l) (record { place = 29; number = n; count = c; part = 0; addresses = l })
    (rw (le-ltb (length l) c (omega arith))) (ends_last _ refl)
ends_tag (suc d) n c l e =
    first (3 ∷ 0 ∷ 8 ∷ 0 ∷ 0 ∷ 0 ∷ 0 ∷ 0 ∷ 0 ∷ 0 ∷ 0 ∷ [])
    (omega arith, (omega arith, (omega arith, (omega arith, (omega arith, (omega arith, (omega arith, (omega arith, (omega arith, (omega arith, (omega arith, tt)))))))))))
    (tag_at n c l) (tag_at n c (l ++ 0 ∷ []))
    (rw (lt-ltb (length l) c (omega arith))) (ends_tag d n c (l ++ 0 ∷ []) (omega (arith, length-append l (0 ∷ []))))

ends_tag_at : (n c : ℕ) (l : List ℕ) → length l ≤ c → Ends (tag_at n c l)
ends_tag_at n c l h = ends_tag (c - length l) n c l (omega arith)

abbrev part_at : ℕ → ℕ → ℕ → ℕ → List ℕ → Reader
part_at p n c q l = record { place = p; number = n; count = c; part = q; addresses = l }

ends_part : (d k p n c q : ℕ) (l : List ℕ) → k + d ≡ 7 → p ≡ 19 + k → length l < c → Ends (part_at p n c q l)
unfolding feed_all feed
ends_part zero k p n c q l i e j =
    let v : p ≡ 26 = omega arith in
    first (0 ∷ []) (small 0 (omega arith)) (part_at p n c q l) (tag_at n c (l ++ (q * 256 + 0) ∷ [])) (rw v)
    (ends_tag_at n c (l ++ (q * 256 + 0) ∷ []) (omega (arith, length-append l ((q * 256 + 0) ∷ []))))
ends_part (suc d) k p n c q l i e j =
    first (0 ∷ []) (small 0 (omega arith)) (part_at p n c q l) (part_at (suc p) n c (q * 256 + 0) l)
    (rw (le-ltb p 3 (omega arith), le-ltb p 11 (omega arith), le-ltb p 14 (omega arith), le-ltb p 16 (omega arith), ne_eqb p 16 (omega arith), le-ltb p 19 (omega arith), lt-ltb p 26 (omega arith)))
    (ends_part d (suc k) (suc p) n c (q * 256 + 0) l (omega arith) (omega arith) j)

abbrev count_at : ℕ → ℕ → ℕ → Reader
count_at p n c = record { place = p; number = n; count = c; part = 0; addresses = [] }

ends_number : (d k p n : ℕ) → k + d ≡ 7 → p ≡ 3 + k → Ends (count_at p n 0)
unfolding feed_all feed
ends_number zero k p n i e =
    let v : p ≡ 10 = omega arith in
    first (0 ∷ 2 ∷ 0 ∷ 2 ∷ 0 ∷ 0 ∷ []) (omega arith, (omega arith, (omega arith, (omega arith, (omega arith, (omega arith, tt)))))) (count_at p n 0) (tag_at (n * 256 + 0) 0 []) (rw v)
    (ends_tag_at (n * 256 + 0) 0 [] (omega arith))
ends_number (suc d) k p n i e =
    first (0 ∷ []) (small 0 (omega arith)) (count_at p n 0) (count_at (suc p) (n * 256 + 0) 0)
    (rw (le-ltb p 3 (omega arith), lt-ltb p 11 (omega arith)))
    (ends_number d (suc k) (suc p) (n * 256 + 0) (omega arith) (omega arith))

ends : (r : Reader) (bytes : List ℕ) → Came r bytes → Ends r
unfolding feed_all feed
ends r bytes came0 = first (1 ∷ 0 ∷ 8 ∷ []) (omega arith, (omega arith, (omega arith, tt))) _ (count_at 3 0 0) refl (ends_number 7 0 3 0 refl refl)
ends r bytes came1 = first (0 ∷ 8 ∷ []) (omega arith, (omega arith, tt)) _ (count_at 3 0 0) refl (ends_number 7 0 3 0 refl refl)
ends r bytes came2 = first (8 ∷ []) (omega arith, tt) _ (count_at 3 0 0) refl (ends_number 7 0 3 0 refl refl)
ends r bytes (number k p n e i) = ends_number (7 - k) k p n (omega arith) e
ends r bytes (came11 n) = first (2 ∷ 0 ∷ 2 ∷ 0 ∷ 0 ∷ []) (omega arith, (omega arith, (omega arith, (omega arith, (omega arith, tt))))) _ (tag_at n 0 []) refl (ends_tag_at n 0 [] (omega arith))
ends r bytes (came12 n) = first (0 ∷ 2 ∷ 0 ∷ 0 ∷ []) (omega arith, (omega arith, (omega arith, (omega arith, tt)))) _ (tag_at n 0 []) refl (ends_tag_at n 0 [] (omega arith))
ends r bytes (came13 n) = first (2 ∷ 0 ∷ 0 ∷ []) (omega arith, (omega arith, (omega arith, tt))) _ (tag_at n 0 []) refl (ends_tag_at n 0 [] (omega arith))
ends r bytes (came14 n) = first (0 ∷ 0 ∷ []) (omega arith, (omega arith, tt)) _ (tag_at n 0 []) refl (ends_tag_at n 0 [] (omega arith))
ends r bytes (came15 n c) = first (0 ∷ []) (omega arith, tt) _ (tag_at n (c * 256 + 0) []) refl (ends_tag_at n (c * 256 + 0) [] (omega arith))
ends r bytes (tagged n c l i) = ends_tag_at n c l i
ends r bytes (came17 n c l i) = first (0 ∷ 8 ∷ []) (omega arith, (omega arith, tt)) _ (part_at 19 n c 0 l) refl (ends_part 7 0 19 n c 0 l refl refl i)
ends r bytes (came18 n c l i) = first (8 ∷ []) (omega arith, tt) _ (part_at 19 n c 0 l) refl (ends_part 7 0 19 n c 0 l refl refl i)
ends r bytes (part k p n c q l e i j) = ends_part (7 - k) k p n c q l (omega arith) e j
ends r bytes (came27 n c l e) = first (0 ∷ 0 ∷ []) (omega arith, (omega arith, tt)) _ (part_at 29 n c 0 l) refl (ends_last _ refl)
ends r bytes (came28 n c l e) = first (0 ∷ []) (omega arith, tt) _ (part_at 29 n c 0 l) refl (ends_last _ refl)
ends r bytes (came29 n c l e) = ends_last _ refl

-- a reader that is not complete is completed by bytes, and not by none
not_early : (r : Reader) → r.place ≡ 29 → is_early (message_in (going r)) ≡ false
not_early r p = rw p

finished : (bytes : List ℕ) (r : Reader) → Bytes bytes → feed_all bytes (going fresh_reader) ≡ going r → is_early (message_in (going r)) ≡ true
    → (rest : List ℕ) → Bytes rest → (last : Reader) → feed_all rest (going r) ≡ going last → last.place ≡ 29 → Unfinished bytes
unfolding feed_all
finished bytes r h q m [] b last f p = absurd (true≢false (sym m ∙ ap (λ (x : Reading). is_early (message_in x)) f ∙ not_early last p))
finished bytes r h q m (c ∷ rest) b last f p = record {
  next = c;
  rest = rest;
  number = last.number;
  list = last.addresses;
  whole = complete (bytes ++ c ∷ rest) last (joined bytes (c ∷ rest) h b) (feed_append bytes (c ∷ rest) (going fresh_reader) ∙ ap (feed_all (c ∷ rest)) q ∙ f) p;
}

-- 14: bytes that end early are the beginning of a message
pub early_unfinished : (bytes : List ℕ) → Bytes bytes → read_message bytes ≡ early → Unfinished bytes
unfolding read_message
early_unfinished bytes h e = go (feed_all bytes (going fresh_reader)) refl e
  where
    go : (x : Reading) → feed_all bytes (going fresh_reader) ≡ x → message_in x ≡ early → Unfinished bytes
    go wrong q m = absurd (false≢true (ap is_early m))
    go (going r) q m =
        let k : Came r bytes = subst (λ (y : Reading). CameTo y bytes) q (came_all bytes [] (going fresh_reader) h came0) in
        let n = ends r bytes k in
        finished bytes r h q (ap is_early m) n.rest n.bytes n.last n.reaches n.complete

-- ---- the first byte that is wrong

-- bytes that are not malformed begin a message
begins : (bytes : List ℕ) → Bytes bytes → (read_message bytes ≡ malformed → ⊥) → Begins bytes
begins bytes h n = go (read_message bytes) refl
  where
    go : (x : Message) → read_message bytes ≡ x → Begins bytes
    go (right m l) e = record { rest = []; number = m; list = l; whole = rw (append-nil bytes) (written_read bytes m l h e) }
    go early e = let u = early_unfinished bytes h e in record { rest = u.next ∷ u.rest; number = u.number; list = u.list; whole = u.whole }
    go malformed e = absurd (n e)

not_begun : (bytes : List ℕ) → read_message bytes ≡ malformed → Begins bytes → ⊥
not_begun bytes e k = never_wrong bytes k.rest k.whole e

search_wrong : (done more : List ℕ) → Bytes done → Bytes more → (read_message done ≡ malformed → ⊥) → read_message (done ++ more) ≡ malformed → WrongAt (done ++ more)
search_wrong done [] h k n e = absurd (n (rw (append-nil done) at e))
search_wrong done (b ∷ more) h k n e =
    go (read_message (done ++ b ∷ [])) refl
    (λ m. subst WrongAt (append_assoc done (b ∷ []) more)
    (search_wrong (done ++ b ∷ []) more (joined done (b ∷ []) h (k.0, tt)) k.1 m (rw (append_assoc done (b ∷ []) more) e)))
  where
    go : (x : Message) → read_message (done ++ b ∷ []) ≡ x → ((read_message (done ++ b ∷ []) ≡ malformed → ⊥) → WrongAt (done ++ b ∷ more)) → WrongAt (done ++ b ∷ more)
    go malformed q on = record { before = done; byte = b; after = more; whole = refl; begins = begins done h n; not_with = not_begun (done ++ b ∷ []) q }
    go early q on = on (λ m. false≢true (ap is_malformed (sym q ∙ m)))
    go (right i l) q on = on (λ m. false≢true (ap is_malformed (sym q ∙ m)))

-- 15: malformed bytes have such a byte
pub malformed_at : (bytes : List ℕ) → Bytes bytes → read_message bytes ≡ malformed → WrongAt bytes
unfolding read_message feed_all
malformed_at bytes h e = search_wrong [] bytes tt h (λ m. false≢true (ap is_malformed m)) e

came_bytes : (l m : List ℕ) → Bytes (l ++ m) → Bytes l × Bytes m
came_bytes [] m h = (tt, h)
came_bytes (b ∷ l) m h = let k = came_bytes l m h.1 in ((h.0, k.0), k.1)

-- and bytes that have one are malformed
pub at_malformed : (bytes : List ℕ) → Bytes bytes → WrongAt bytes → read_message bytes ≡ malformed
at_malformed bytes h w = go (read_message bytes) refl
  where
    with : Begins bytes → Begins (w.before ++ w.byte ∷ [])
    with k = record {
      rest = w.after ++ k.rest;
      number = k.number;
      list = k.list;
      whole = subst (λ (l : List ℕ). IsMessage l k.number k.list)
          (ap (λ (l : List ℕ). l ++ k.rest) (w.whole ∙ sym (append_assoc w.before (w.byte ∷ []) w.after)) ∙ append_assoc (w.before ++ w.byte ∷ []) w.after k.rest)
          k.whole;
    }

    go : (x : Message) → read_message bytes ≡ x → read_message bytes ≡ malformed
    go malformed q = q
    go early q = absurd (w.not_with (with (begins bytes h (λ m. false≢true (ap is_malformed (sym q ∙ m))))))
    go (right i l) q = absurd (w.not_with (with (begins bytes h (λ m. false≢true (ap is_malformed (sym q ∙ m))))))
