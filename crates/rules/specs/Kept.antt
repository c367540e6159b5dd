-- What no request changes, and what a refused one leaves.
use Rattle.std.specs.Prelude.{ℕ, ◌≡◌, [], length, if◌then◌else◌}
use Rattle.rules.specs.declared.request.Request.{Request}
use Rattle.rules.specs.declared.request.Request.TheVariants.{Insert, Protect, Release, ReleaseChanged, Pin, Unpin, Resize, Discard, Flush, Sync, Take, Configure}
use Rattle.rules.specs.Cache.{Cache}
use Rattle.rules.specs.Messages.{next_after}
use Rattle.rules.specs.Refusals.{is_lead}
use Rattle.rules.specs.Requests.{Outcome}

-- The threshold is fixed at opening, and so is the number of rows.
pub record Kept (c d : Cache) : Type 0 where
  pub threshold : d.threshold ≡ c.threshold
  pub rows : length d.rows ≡ length c.rows

-- The number of the next list after an accepted request: a lead's flush and sync use one up, and so does a take.
abbrev pub number_after : Cache → Request → ℕ
number_after c (Insert a s) = c.next
number_after c (Protect x a s) = c.next
number_after c (Release a) = c.next
number_after c (ReleaseChanged a s) = c.next
number_after c (Pin a) = c.next
number_after c (Unpin a) = c.next
number_after c (Resize a s) = c.next
number_after c (Discard a) = c.next
number_after c Flush = if is_lead c.mode then next_after c.next else c.next
number_after c Sync = if is_lead c.mode then next_after c.next else c.next
number_after c Take = next_after c.next
number_after c (Configure s) = c.next

-- No orders, and the cache as it was.
pub record Untouched (c : Cache) (o : Outcome) : Type 0 where
  pub cache : o.cache ≡ c
  pub orders : o.orders ≡ []
