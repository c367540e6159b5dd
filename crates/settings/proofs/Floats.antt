-- A range of floats. Assumes nothing.
use Rattle.std.proofs.Common.{◌≡◌, Bool, true, false, Some, None, refl, cond, ◌||◌, ◌&&◌}
use Rattle.std.specs.Float.{Float}
use Rattle.std.specs.Float.Ieee.{le, lt, eq}
use Rattle.std.specs.Ordering.{float_partial_cmp, partial_le, is_some_and, is_le}
use Rattle.std.specs.declared.cmp.Ordering.TheVariants.{Less, Equal, Greater}
use Rattle.settings.specs.Limits.{closed}

-- at floats `<=` is less or equal
float_le : (x y : Float) → partial_le float_partial_cmp x y ≡ le x y
unfolding le
float_le x y = cases (lt x y) (eq x y) (lt y x)
  where
    cases : (l e g : Bool) → is_some_and is_le (cond l (Some Less) (cond e (Some Equal) (cond g (Some Greater) None))) ≡ l || e
    cases true e g = refl
    cases false true g = refl
    cases false false true = refl
    cases false false false = refl

pub in_closed : (low high x : Float) → partial_le float_partial_cmp low x && partial_le float_partial_cmp x high ≡ closed low high x
in_closed low high x = rw (float_le low x, float_le x high)
