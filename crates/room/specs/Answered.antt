-- What a request on a table leaves and answers.
use Rattle.std.specs.Prelude.{ℕ, ◌≡◌, List}
use Rattle.rules.specs.Types.{Answer}
use Rattle.rules.specs.Requests.{Outcome}
use Rattle.layout.specs.Holds.{Holds}
use Rattle.room.specs.Did.{put_orders}

-- The answer is the outcome's, the table holds its cache, and the words lent have its orders.
pub record Answered (o : Outcome) (rest table lent words : List ℕ) (r : Answer) : Type 0 where
  pub answer : r ≡ o.answer
  pub holds : Holds table o.cache rest
  pub orders : words ≡ put_orders 0 o.orders lent
