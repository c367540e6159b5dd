-- The requests that the work is for.
use Rattle.std.specs.Prelude.{◌≡◌}
use Rattle.rules.specs.declared.request.Request.{Request}
use Rattle.rules.specs.declared.request.Request.TheVariants.{Take}

-- Any but take, whose tests find the rows that its work needs.
abbrev pub NoTake : Request → Type 0
NoTake r = r ≡ Take → ⊥
