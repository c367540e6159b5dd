-- A flash: where the size is not large the maximum stays, and else it rises to a number within the settings.
use Rattle.std.specs.Prelude.{if◌then◌else◌, None, Option, Some}
use Prim.Native.Nat.{ℕ, ◌≤◌, ◌<◌}
use mathlib.Core.Bool.{false}
use mathlib.Core.List.{List}
use mathlib.Core.Path.{◌≡◌, refl, sym, ap, ap₂, subst, ◌∙◌}
use native.Mathlib.Omega.{arith}
use lib.Dec.{ltb}
use borrow.Author.Tests.{ltb-true, ltb-false, le-ltb}
use Rattle.fraction.specs.Fraction.{exceeds_share}
use Rattle.settings.specs.declared.Flash.{Flash}
use Rattle.settings.specs.declared.Flash.TheVariants as flash
use Rattle.settings.specs.declared.Settings.{Settings}
use Rattle.rules.proofs.Tests.{choose, either}
use Rattle.rules.specs.Cache.{Cache, with_maximum, restart, held}
use Rattle.rules.specs.Resizing.{flash_maximum, flashed_to, flashed}
use Rattle.reason_rules.specs.declared.Bound.{Bound}
use Rattle.reason_rules.specs.declared.Cause.TheVariants as cause
use Rattle.reason_rules.specs.Bounds.{rise_bound}
use Rattle.reason_rules.specs.Reasons.{flash_raw, flash_change}
use Rattle.reasons.specs.Changes.{change_of, flash_value}
use Rattle.reasons.proofs.Changes.{change_if}
use Rattle.layout.proofs.Held.{onward}
use Rattle.layout.specs.Holds.{Holds}
use Rattle.layout.specs.Picture.{cache_in, rest_in}
use Rattle.flash.specs.Raised.{is_flash, raised}

-- ---- the maximum after a flash

most : (f : Flash) (x m h l : ℕ) → m ≤ l → flash_maximum f x m h l ≤ l
most flash.Off x m h l k = k
most (flash.On n t) x m h l k = choose (λ (r : ℕ). r ≤ l) (exceeds_share x t m) (λ p. omega arith) (λ p. k)

same : (f : Flash) (x m h l : ℕ) → is_flash f x m ≡ false → flash_maximum f x m h l ≡ m
same flash.Off x m h l e = refl
same (flash.On n t) x m h l e = choose (λ (r : ℕ). r ≡ m) (exceeds_share x t m) (λ p. either (exceeds_share x t m) p e) (λ p. refl)

-- ---- a raise

pub raise_up : {vs ws rest : List ℕ} (c : Cache) (n : ℕ) → c.maximum < n → Holds vs (with_maximum n c) rest → Holds ws (restart (cache_in vs)) (rest_in vs)
    → Holds ws (raised n c) rest
raise_up {vs} {ws} {rest} c n l h k =
    choose (λ (d : Cache). Holds ws d rest) (ltb c.maximum n)
    (λ p. onward restart h k)
    (λ p. absurd (omega (arith, ltb-false c.maximum n p)))

pub raise_not : {ws rest : List ℕ} {c : Cache} (n : ℕ) → n ≤ c.maximum → Holds ws c rest → Holds ws (raised n c) rest
raise_not {ws} {rest} {c} n l h =
    choose (λ (d : Cache). Holds ws d rest) (ltb c.maximum n) (λ p. absurd (omega (arith, ltb-true c.maximum n p))) (λ p. h)

-- ---- a flash

raw_is : (f : Flash) (x : ℕ) (c : Cache) → flash_raw f x c ≡ flash_value f x c.maximum (held c)
raw_is flash.Off x c = refl
raw_is (flash.On m t) x c = refl

module _ (c : Cache) (x : ℕ) (s : Settings) (before : ℕ) (p : s ≡ c.settings) (q : before ≡ c.maximum) where
  pub flash_not : {ws rest : List ℕ} → is_flash s.flash x before ≡ false → Holds ws c rest → Holds ws (flashed x c) rest
  unfolding flashed
  flash_not e h =
      raise_not (flashed_to x c)
      (let k = same c.settings.flash x c.maximum (held c) c.settings.largest (sym (ap₂ (λ (s : Settings) (m : ℕ). is_flash s.flash x m) p q) ∙ e) in omega arith)
      h

  pub flash_same : is_flash s.flash x before ≡ false → None ≡ change_of (flash_change x c)
  flash_same e =
      let k = same c.settings.flash x c.maximum (held c) c.settings.largest (sym (ap₂ (λ (s : Settings) (m : ℕ). is_flash s.flash x m) p q) ∙ e) in
      rw (le-ltb c.maximum (flashed_to x c) (omega arith))

  module _ (h n : ℕ) (r : h ≡ held c) (e : n ≡ flash_maximum s.flash x before h s.largest) where
    pub flash_to : n ≡ flashed_to x c
    flash_to = e ∙ rw (p, q, r)

    -- the bound that the numbers give is that of the change
    pub flash_named : (b : Option Bound) → b ≡ rise_bound None (flash_value s.flash x before h) before s.largest
        → (if ltb before n then Some (record { cause = cause.Flash; bound = b }) else None) ≡ change_of (flash_change x c)
    flash_named b i =
        let j : b ≡ rise_bound None (flash_raw c.settings.flash x c) c.maximum c.settings.largest = i ∙ rw (p, q, r, raw_is c.settings.flash x c) in
        ap₂ (λ (m k : ℕ). if ltb m k then Some (record { cause = cause.Flash; bound = b }) else None) q flash_to
        ∙ ap (λ (d : Option Bound). if ltb c.maximum (flashed_to x c) then Some (record { cause = cause.Flash; bound = d }) else None) j
        ∙ change_if cause.Flash _ (ltb c.maximum (flashed_to x c))

    pub flash_most : c.maximum ≤ c.settings.largest → n ≤ c.settings.largest
    flash_most l = rw flash_to (most c.settings.flash x c.maximum (held c) c.settings.largest l)

    pub flash_raised : {ws rest : List ℕ} → Holds ws (raised n c) rest → Holds ws (flashed x c) rest
    unfolding flashed
    flash_raised {ws} {rest} k = subst (λ (i : ℕ). Holds ws (raised i c) rest) flash_to k
