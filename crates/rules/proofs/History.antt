-- Over any history held bytes are what came less what went: each accepted request adds to both sides alike, and a refused one to neither.
use Prim.Native.Nat.{ℕ}
use mathlib.Core.List.{List, [], ◌∷◌}
use native.Mathlib.Omega.{arith}
use Rattle.settings.specs.declared.Settings.{Settings}
use Rattle.settings.specs.declared.Mode.{Mode}
use Rattle.rules.specs.Allowed.{Sound}
use Rattle.rules.specs.Cache.{Cache, fresh}
use Rattle.rules.specs.History.{Past, past, next, added, Balanced}
use Rattle.rules.specs.Refusals.{Call, refusal_of}
use Rattle.rules.proofs.Effects.{effects}
use Rattle.rules.proofs.Kept.{step_sound}
use Rattle.rules.proofs.Sound.{sound_fresh}
use Rattle.rules.proofs.Steps.{stepped}
use Rattle.rules.proofs.Totals.{total_free}

balanced_next : (p : Past) (call : Call) → Sound p.cache → Balanced p → Balanced (next p call)
unfolding refusal_of
balanced_next p call k b =
    let c = p.cache in
    let r = call.request in
    stepped c call (λ o. Balanced (added p r o))
    (λ e. let h = (effects c call.lent call.message r k e).held in omega arith)
    (λ x. b)

pub sound_past : (c : Cache) (calls : List Call) → Sound c → Sound (past c calls).cache
unfolding past
sound_past c [] k = k
sound_past c (call ∷ earlier) k = step_sound (past c earlier).cache call (sound_past c earlier k)

module _ (n : ℕ) (m : Mode) (t : ℕ) (s : Settings) where
  pub balanced : (calls : List Call) → Balanced (past (fresh n m t s) calls)
  unfolding past
  balanced [] = let h = total_free (λ e. e.size) n in omega arith
  balanced (call ∷ earlier) =
      balanced_next (past (fresh n m t s) earlier) call (sound_past (fresh n m t s) earlier (sound_fresh n m t s)) (balanced earlier)
