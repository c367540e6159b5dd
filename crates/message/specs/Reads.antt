-- A message, read whole: what its first bytes lead to, and what the code has then.
use Rattle.std.specs.Prelude.{ℕ, ◌+◌, ◌*◌, ◌-◌, ◌≤◌, ◌<◌, Bool, false, ◌&&◌, List, ◌≡◌, eqb, length, get_or, take, drop, if◌then◌else◌, Option, Some, None, Result, Ok, Err}
use Rattle.std.specs.Int.{w64, from_be_bytes}
use Rattle.rules.specs.Addresses.{elem}
use Rattle.rules.specs.Limits.{all_ones, most_rows}
use Rattle.rules.specs.Messages.{Reading, going, wrong, fresh_reader, feed_on, feed_all, Within, Message, right, early, malformed}
use Rattle.message.specs.Feeding.{having, Keeps}
use Rattle.message.specs.declared.feed.Reader.{Reader}
use Rattle.message.specs.declared.read.NumberedList.{NumberedList}
use Rattle.message.specs.declared.read.BadMessage.{BadMessage}
use Rattle.message.specs.declared.read.BadMessage.TheVariants.{Cut, Malformed}

-- What the first i bytes lead to.
abbrev pub after : ℕ → List ℕ → Reading
after i bytes = feed_all (take i bytes) (going fresh_reader)

abbrev pub fresh_code : Reader
fresh_code = record { place = 0; number = 0; count = 0; part = 0; taken = 0; ones = false }

-- The words have the addresses, if there are enough words.
pub record Kept (list words : List ℕ) : Type 0 where
  pub long : length words ≡ most_rows
  pub all : length list ≤ most_rows → take (length list) words ≡ list

-- The reader is the rules', and the words have the addresses.
pub record Reads (x : Reading) (r : Reader) (words : List ℕ) : Type 0 where
  pub list : List ℕ
  pub reading : x ≡ going (having list r)
  pub keeps : Keeps r list
  pub within : Within (having list r)
  pub kept : Kept list words

-- The same, or the bytes are wrong.
abbrev pub ReadsTo : Reading → Option Reader → List ℕ → Type 0
ReadsTo x (Some r) words = Reads x r words
ReadsTo x None words = x ≡ wrong

-- One byte more.
pub record FeedsOn (b : ℕ) (r : Reader) (words : List ℕ) (y : Option Reader) (left : List ℕ) : Type 0 where
  pub each : (x : Reading) → Reads x r words → ReadsTo (feed_on b x) y left

-- Some bytes lead to the reader and the words.
pub record Readable (r : Reader) (words : List ℕ) : Type 0 where
  pub reading : Reading
  pub reads : Reads reading r words

-- Bytes, one after the other.
pub record FeedsAll (bytes : List ℕ) (r : Reader) (words : List ℕ) (y : Option Reader) (left : List ℕ) : Type 0 where
  pub each : (x : Reading) → Reads x r words → ReadsTo (feed_all bytes x) y left

-- Tag and length of an address.
abbrev pub address_head : List ℕ → ℕ → Bool
address_head bytes at = eqb (get_or bytes at 0) 3 && (eqb (get_or bytes (at + 1) 0) 0 && eqb (get_or bytes (at + 2) 0) 8)

-- The number in eight bytes, high byte first.
abbrev pub number_at : List ℕ → ℕ → ℕ
number_at bytes at = from_be_bytes w64 (take 8 (drop at bytes))

-- Behind whole address fields in so many bytes there may be so many addresses: no more than the count, and a word for each.
pub record FieldsEnd (r : Reader) (left n : ℕ) : Type 0 where
  pub low : r.taken ≤ n
  pub fit : (n - r.taken) * 11 ≤ left
  pub tagged : r.taken < n → r.place ≡ 16
  pub wanting : r.taken < n → n ≤ r.count
  pub words : r.taken < n → n ≤ most_rows

abbrev pub numbered : ℕ → ℕ → Bool → NumberedList
numbered number count ones = record { number = number; count = count; ones = ones }

-- What a message is, with the list's length in place of the list.
abbrev pub read_as : Message → Result NumberedList BadMessage
read_as (right n list) = Ok (numbered n (length list) (elem all_ones list))
read_as early = Err Cut
read_as malformed = Err Malformed

-- The words have a right message's addresses.
abbrev pub KeptOf : Message → List ℕ → Type 0
KeptOf (right n list) words = Kept list words
KeptOf early words = Unit
KeptOf malformed words = Unit

-- What a message is, of a reader when no byte is left.
abbrev pub ended_as : Reader → Result NumberedList BadMessage
ended_as r = if eqb r.place 29 then Ok (numbered r.number r.taken r.ones) else Err Cut
