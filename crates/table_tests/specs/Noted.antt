-- What take's tests tell.
use Rattle.std.specs.Prelude.{ℕ, Bool, List, [], ◌∷◌, ◌≡◌, length, Ok}
use Rattle.rules.specs.declared.answer.Refusal.TheVariants as refusal
use Rattle.rules.specs.declared.request.Request.TheVariants.{Take}
use Rattle.rules.specs.Addresses.{elem}
use Rattle.rules.specs.Answers.{verdict_in}
use Rattle.rules.specs.Cache.{Cache}
use Rattle.rules.specs.Limits.{all_ones}
use Rattle.rules.specs.Messages.{addresses_in, read_message}
use Rattle.rules.specs.Refusals.{Test, tests, not_next, bad_list}
use Rattle.message.specs.Reads.{Kept}
use Rattle.taken_list.specs.Listed.{Named}
use Rattle.rules.specs.Types.{Answer}
use Rattle.verdicts.specs.Tells.{Tells}

-- The tests of a right message, from its number on.
abbrev pub right_tests : Cache → ℕ → List ℕ → List Test
right_tests c n list = (not_next c n, refusal.Number) ∷ (elem all_ones list, refusal.Address) ∷ (bad_list c list, refusal.List) ∷ []

-- So many addresses has the list, and their rows are noted.
pub record Noted (c : Cache) (list named : List ℕ) (n : ℕ) : Type 0 where
  pub count : n ≡ length list
  pub rows : Named c.rows list named

-- Where no test passes, the rows of the addresses are noted.
pub record TestedRight (c : Cache) (n : ℕ) (list named : List ℕ) (t : Answer) : Type 0 where
  pub tells : Tells (verdict_in t) (right_tests c n list)
  pub noted : (k : ℕ) → t ≡ Ok k → Noted c list named k

pub record TestedAs (c : Cache) (message named : List ℕ) (t : Answer) : Type 0 where
  pub tells : (lent : ℕ) → Tells (verdict_in t) (tests c lent message Take)
  pub noted : (k : ℕ) → t ≡ Ok k → Noted c (addresses_in (read_message message)) named k

-- A right message is known by its number, how many addresses it has, whether all ones is one of them, and the words that have them.
pub record Right (list words : List ℕ) (n : ℕ) (some : Bool) : Type 0 where
  pub count : n ≡ length list
  pub ones : some ≡ elem all_ones list
  pub kept : Kept list words
