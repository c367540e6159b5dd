-- The number of a list that is sent or taken is used up.
use Rattle.std.specs.Prelude.{if◌then◌else◌}
use Prim.Native.Nat.{ℕ}
use mathlib.Core.Bool.{Bool, true, false}
use mathlib.Core.List.{List}
use mathlib.Core.Path.{◌≡◌, sym, ap, subst, ◌∙◌}
use Rattle.rules.specs.Cache.{Cache, with_next}
use Rattle.rules.specs.Messages.{next_after}
use Rattle.rules.specs.Refusals.{is_lead}
use Rattle.rules.specs.Requests.{numbered}
use Rattle.layout.specs.Holds.{Holds}

module _ {out rest : List ℕ} (c : Cache) {lead : Bool} (l : lead ≡ is_lead c.mode) where
  pub numbered_lead : {n : ℕ} → lead ≡ true → n ≡ next_after c.next → Holds out (with_next n c) rest → Holds out (numbered c) rest
  numbered_lead t e h =
      subst (λ (m : ℕ). Holds out (with_next m c) rest) (e ∙ ap (λ (b : Bool). if b then next_after c.next else c.next) (sym t ∙ l)) h

  pub numbered_not : lead ≡ false → Holds out c rest → Holds out (numbered c) rest
  numbered_not t h =
      subst (λ (m : ℕ). Holds out (with_next m c) rest) (ap (λ (b : Bool). if b then next_after c.next else c.next) (sym t ∙ l)) h

-- the number after the one in the table
pub after_next : {out rest : List ℕ} (c : Cache) {n k : ℕ} → k ≡ c.next → n ≡ next_after k → Holds out (with_next n c) rest → Holds out (with_next (next_after c.next) c) rest
after_next {out} {rest} c e f h = subst (λ (m : ℕ). Holds out (with_next m c) rest) (f ∙ ap next_after e) h
