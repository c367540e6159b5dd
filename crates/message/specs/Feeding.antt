-- One byte of a message: the reader of the code and that of the rules.
use Rattle.std.specs.Prelude.{ℕ, List, [], ◌∷◌, ◌++◌, ◌≡◌, eqb, length, if◌then◌else◌, Option, Some, None}
use Rattle.rules.specs.Addresses.{elem}
use Rattle.rules.specs.Limits.{all_ones}
use Rattle.rules.specs.Messages as messages
use Rattle.rules.specs.Messages.{Reading, going, wrong, move_to, Within}
use Rattle.message.specs.declared.feed.Reader.{Reader}
use Rattle.message.specs.declared.feed.Fed.{Fed}

-- The rules' reader: the code's, with the addresses that have come.
abbrev pub having : List ℕ → Reader → messages.Reader
having list r = record { place = r.place; number = r.number; count = r.count; part = r.part; addresses = list }

-- What the code's reader says of these addresses: how many, and whether all ones is one of them.
pub record Keeps (r : Reader) (list : List ℕ) : Type 0 where
  pub taken : r.taken ≡ length list
  pub ones : r.ones ≡ elem all_ones list

-- A reader that bytes lead to.
pub record Sound (r : Reader) : Type 0 where
  pub list : List ℕ
  pub keeps : Keeps r list
  pub within : Within (having list r)

-- A byte that has to be this one, and the place after it.
abbrev pub expects : ℕ → ℕ → ℕ → messages.Reader → Reading
expects expected next b r = if eqb b expected then going (move_to next r) else wrong

-- The addresses that have come, with the one that came now.
abbrev pub with_address : List ℕ → Option ℕ → List ℕ
with_address list None = list
with_address list (Some a) = list ++ a ∷ []

-- What a byte leads to, with the addresses that had come before it.
abbrev pub fed_to : Option Fed → List ℕ → Reading
fed_to (Some x) list = going (having (with_address list x.address) x.reader)
fed_to None list = wrong

abbrev pub KeepsTo : Option Fed → List ℕ → Type 0
KeepsTo (Some x) list = Keeps x.reader (with_address list x.address)
KeepsTo None list = Unit

pub record FedIs (x : Option Fed) (list : List ℕ) (y : Reading) : Type 0 where
  pub reading : fed_to x list ≡ y
  pub keeps : KeepsTo x list

-- The byte does to the reader what the rules say.
pub record Feeds (rule : messages.Reader → Reading) (r : Reader) (x : Option Fed) : Type 0 where
  pub each : (list : List ℕ) → Keeps r list → FedIs x list (rule (having list r))
