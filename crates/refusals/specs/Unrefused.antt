-- What the work of a request asks.
use Rattle.std.specs.Prelude.{ℕ, List, ◌≡◌, None}
use Rattle.rules.specs.Allowed.{Allowed}
use Rattle.rules.specs.Refusals.{Call, refusal_of}
use Rattle.layout.specs.Holds.{Good}
use Rattle.layout.specs.Picture.{cache_in}

-- The table passed, and the request is not refused.
pub record Unrefused (ws : List ℕ) (call : Call) : Type 0 where
  pub good : Good ws
  pub allowed : Allowed (cache_in ws)
  pub accepted : refusal_of (cache_in ws) call ≡ None
