-- A numbered list as a message: its bytes, and how they are read, one after the other.
--
--   tag 1, length 8   the list's number
--   tag 2, length 2   the count of addresses
--   tag 3, length 8   an address, once for each
--   tag 9, length 0   the end
--
-- A tag is one byte and a length two; numbers have the high byte first.
use Rattle.std.specs.Prelude.{ℕ, zero, suc, ◌+◌, ◌-◌, ◌*◌, ◌/◌, ◌%◌, ◌≤◌, ◌<◌, min, ◌≡◌, Bool, true, false, List, [], ◌∷◌, ◌++◌, eqb, ltb, length, if◌then◌else◌}
use Rattle.rules.specs.Limits.{last_number, most_listed}

-- ---- the message of a numbered list

-- The lowest n bytes of a number, high byte first.
unfoldable pub bytes_of : ℕ → ℕ → List ℕ
bytes_of zero v = []
bytes_of (suc n) v = bytes_of n (v / 256) ++ v % 256 ∷ []

unfoldable pub address_fields : List ℕ → List ℕ
address_fields [] = []
address_fields (a ∷ list) = 3 ∷ 0 ∷ 8 ∷ (bytes_of 8 a ++ address_fields list)

unfoldable pub message_of : ℕ → List ℕ → List ℕ
message_of n list = 1 ∷ 0 ∷ 8 ∷ (bytes_of 8 n ++ 2 ∷ 0 ∷ 2 ∷ (bytes_of 2 (length list) ++ (address_fields list ++ 9 ∷ 0 ∷ 0 ∷ [])))

-- ---- right messages

-- Every number of a program is a 64-bit one, and every byte is below 256.
abbrev pub Words : List ℕ → Type 0
Words [] = Unit
Words (a ∷ list) = (a ≤ last_number) × Words list

abbrev pub Bytes : List ℕ → Type 0
Bytes [] = Unit
Bytes (b ∷ bytes) = (b < 256) × Bytes bytes

-- Bytes that are the message of a number and a list.
pub record IsMessage (bytes : List ℕ) (n : ℕ) (list : List ℕ) : Type 0 where
  pub number : n ≤ last_number
  pub count : length list ≤ most_listed
  pub addresses : Words list
  pub written : bytes ≡ message_of n list

-- Bytes that some right message goes on from.
pub record Unfinished (bytes : List ℕ) : Type 0 where
  pub next : ℕ
  pub rest : List ℕ
  pub number : ℕ
  pub list : List ℕ
  pub whole : IsMessage (bytes ++ next ∷ rest) number list

-- Bytes that some right message begins with, or is.
pub record Begins (bytes : List ℕ) : Type 0 where
  pub rest : List ℕ
  pub number : ℕ
  pub list : List ℕ
  pub whole : IsMessage (bytes ++ rest) number list

-- The first byte that no right message can have there: some right message begins with the bytes before it, and none with it.
pub record WrongAt (bytes : List ℕ) : Type 0 where
  pub before : List ℕ
  pub byte : ℕ
  pub after : List ℕ
  pub whole : bytes ≡ before ++ byte ∷ after
  pub begins : Begins before
  pub not_with : Begins (before ++ byte ∷ []) → ⊥

-- ---- reading

-- What has been read. The place says what comes next: 0 to 2 tag and length of the number, 3 to 10 the number, 11 to 13 tag and length
-- of the count, 14 and 15 the count, 16 a tag, 17 and 18 the length of an address, 19 to 26 the address, 27 and 28 the end's length,
-- 29 nothing.
pub record Reader : Type 0 where
  pub place : ℕ
  pub number : ℕ
  pub count : ℕ
  -- the address under way, as far as it has come
  pub part : ℕ
  pub addresses : List ℕ

pub data Reading : Type 0 where
  going : Reader → Reading
  -- after a byte that no right message can have there
  wrong : Reading

abbrev pub fresh_reader : Reader
fresh_reader = record { place = 0; number = 0; count = 0; part = 0; addresses = [] }

abbrev pub move_to : ℕ → Reader → Reader
move_to p r = record { place = p; number = r.number; count = r.count; part = r.part; addresses = r.addresses }

-- A byte that has to be this one.
abbrev pub must : ℕ → ℕ → Reader → Reading
must expected b r = if eqb b expected then going (move_to (suc r.place) r) else wrong

-- A tag: 3 while addresses are wanting, then 9.
abbrev pub tag : ℕ → Reader → Reading
tag b r =
    if ltb (length r.addresses) r.count
    then (if eqb b 3 then going (move_to 17 r) else wrong)
    else (if eqb b 9 then going (move_to 27 r) else wrong)

abbrev pub number_byte : ℕ → Reader → Reading
number_byte b r = going (record { place = suc r.place; number = r.number * 256 + b; count = r.count; part = r.part; addresses = r.addresses })

abbrev pub count_byte : ℕ → Reader → Reading
count_byte b r = going (record { place = suc r.place; number = r.number; count = r.count * 256 + b; part = r.part; addresses = r.addresses })

abbrev pub address_byte : ℕ → Reader → Reading
address_byte b r = going (record { place = suc r.place; number = r.number; count = r.count; part = r.part * 256 + b; addresses = r.addresses })

-- The last byte of an address: a tag comes next.
abbrev pub last_byte : ℕ → Reader → Reading
last_byte b r = going (record { place = 16; number = r.number; count = r.count; part = 0; addresses = r.addresses ++ (r.part * 256 + b) ∷ [] })

-- One byte more.
unfoldable pub feed : ℕ → Reader → Reading
feed b r =
    let p = r.place in
    if ltb p 3 then must (if eqb p 0 then 1 else (if eqb p 1 then 0 else 8)) b r
    else (if ltb p 11 then number_byte b r
    else (if ltb p 14 then must (if eqb p 12 then 0 else 2) b r
    else (if ltb p 16 then count_byte b r
    else (if eqb p 16 then tag b r
    else (if ltb p 19 then must (if eqb p 17 then 0 else 8) b r
    else (if ltb p 26 then address_byte b r
    else (if eqb p 26 then last_byte b r
    else (if ltb p 29 then must 0 b r
    else wrong))))))))

abbrev pub feed_on : ℕ → Reading → Reading
feed_on b (going r) = feed b r
feed_on b wrong = wrong

-- Bytes one after the other.
unfoldable pub feed_all : List ℕ → Reading → Reading
feed_all [] x = x
feed_all (b ∷ bytes) x = feed_all bytes (feed_on b x)

-- n bytes have a value below this.
unfoldable pub power256 : ℕ → ℕ
power256 zero = 1
power256 (suc n) = 256 * power256 n

-- How many bytes of an address have come.
abbrev pub part_bytes : ℕ → ℕ
part_bytes p = if ltb p 27 then p - 19 else 0

-- How many bytes of a number have come that has n bytes from a place on.
abbrev pub bytes_from : ℕ → ℕ → ℕ → ℕ
bytes_from n from p = min (p - from) n

-- What bytes lead to: each number is one that its bytes can have, and while one address more is under way, it is one of those named.
pub record Within (r : Reader) : Type 0 where
  pub number : r.number < power256 (bytes_from 8 3 r.place)
  pub count : r.count < power256 (bytes_from 2 14 r.place)
  pub part : r.part < power256 (part_bytes r.place)
  pub addresses : Words r.addresses
  pub few : length r.addresses ≤ r.count
  pub wanting : 17 ≤ r.place → r.place ≤ 26 → length r.addresses < r.count

-- ---- what bytes are

pub data Message : Type 0 where
  -- a numbered list
  right : ℕ → List ℕ → Message
  -- the beginning of a message: they end early
  early : Message
  -- some byte is one that no right message can have there
  malformed : Message

abbrev pub message_in : Reading → Message
message_in (going r) = if eqb r.place 29 then right r.number r.addresses else early
message_in wrong = malformed

unfoldable pub read_message : List ℕ → Message
read_message bytes = message_in (feed_all bytes (going fresh_reader))

abbrev pub is_malformed : Message → Bool
is_malformed (right n list) = false
is_malformed early = false
is_malformed malformed = true

abbrev pub is_early : Message → Bool
is_early (right n list) = false
is_early early = true
is_early malformed = false

-- The number and the addresses of a right message.
abbrev pub number_in : Message → ℕ
number_in (right n list) = n
number_in early = 0
number_in malformed = 0

abbrev pub addresses_in : Message → List ℕ
addresses_in (right n list) = list
addresses_in early = []
addresses_in malformed = []

-- ---- numbers

-- The number after a list's: after the last one 0, none is left.
abbrev pub next_after : ℕ → ℕ
next_after n = if eqb n last_number then 0 else suc n
