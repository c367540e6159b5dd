-- The bound that is named decided the value, and no other did.
use Rattle.std.specs.Prelude.{if◌then◌else◌, None, Some, Option}
use Prim.Native.Nat.{ℕ, ◌+◌, ◌-◌, ◌≤◌, ◌<◌, min, max}
use mathlib.Core.Path.{◌≡◌, refl, sym, ap, subst, ◌∙◌}
use mathlib.Core.Logic.{◌⊎◌, inl, inr}
use mathlib.Core.Bool.{Bool, true, false, ◌&&◌}
use mathlib.Core.List.{List, [], ◌∷◌}
use native.Mathlib.Omega.{arith}
use lib.Dec.{leb, ltb}
use borrow.Author.Tests.{ltb-true, ltb-false, leb-true, leb-false}
use Rattle.settings.specs.Types.{Cap}
use Rattle.rules.specs.Resizing.{at_most, at_least}
use Rattle.rules.proofs.Tests.{choose, both}
use Rattle.reason_rules.specs.declared.Bound.TheVariants as bound
use Rattle.reason_rules.specs.declared.Bound.{Bound}
use Rattle.reason_rules.specs.Bounds.{bound_number, rise_bound, fall_bound, Limit, Every, Any, above, below, Decided, uncut, cut, Rise, Fall}

-- ---- one bound decides

abbrev bound_of : ℕ → Option Bound
bound_of n = if leb n 4 then None else (if leb n 5 then Some bound.Largest else (if leb n 6 then Some bound.Smallest else (if leb n 9 then Some bound.Increment else Some bound.Decrement)))

number_back : (b : Option Bound) → bound_of (bound_number b) ≡ b
number_back None = refl
number_back (Some bound.Largest) = refl
number_back (Some bound.Smallest) = refl
number_back (Some bound.Increment) = refl
number_back (Some bound.Decrement) = refl

number_one : (b d : Option Bound) → bound_number b ≡ bound_number d → b ≡ d
number_one b d h = sym (number_back b) ∙ ap bound_of h ∙ number_back d

-- a limit that has the one property has the other, which all have
which : {P Q : Limit → Type 0} (l : List Limit) → Any P l → Every Q l → (x : Limit) × P x × Q x
which [] s e = absurd s
which (x ∷ l) (inl p) e = (x, p, e.0)
which (x ∷ l) (inr s) e = which l s e.1

module _ (within : ℕ → ℕ → Type 0) (antisym : (n m : ℕ) → within n m → within m n → n ≡ m) (raw : ℕ) (limits : List Limit) where
  decided_one : {b d : Option Bound} {n m : ℕ} → Decided within raw limits b n → Decided within raw limits d m → (b ≡ d) × (n ≡ m)
  decided_one (uncut h) (uncut k) = (refl, refl)
  decided_one (uncut h) (cut c s e) = absurd (let x = which limits s h in c (subst (within raw) x.1.1 x.2))
  decided_one (cut c s e) (uncut k) = absurd (let x = which limits s k in c (subst (within raw) x.1.1 x.2))
  decided_one (cut {b = b} {value = n} c s e) (cut {b = d} {value = m} f t g) =
      let x = which limits s g in
      let y = which limits t e in
      let same : n ≡ m = antisym n m (subst (within n) y.1.1 y.2.0) (subst (within m) x.1.1 x.2.0) in
      let p = ap (λ (l : Bound). bound_number (Some l)) x.1.0 in let q = ap (λ (l : Bound). bound_number (Some l)) y.1.0 in
      (number_one (Some b) (Some d) (omega (arith, p, q, x.2.1 (x.1.1 ∙ same), y.2.1 (y.1.1 ∙ sym same))), same)

module _ {raw : ℕ} {limits : List Limit} {b d : Option Bound} {n m : ℕ} where
  pub rise_one : Rise raw limits b n → Rise raw limits d m → (b ≡ d) × (n ≡ m)
  rise_one h k = decided_one (λ n m. n ≤ m) (λ n m p q. omega arith) raw limits h k

  pub fall_one : Fall raw limits b n → Fall raw limits d m → (b ≡ d) × (n ≡ m)
  fall_one h k = decided_one (λ n m. m ≤ n) (λ n m p q. omega arith) raw limits h k

-- ---- the one that is named

no_and : (s t : Bool) → s && t ≡ false → (s ≡ false) ⊎ (t ≡ false)
no_and true t h = inr h
no_and false t h = inl refl

module _ (raw maximum largest : ℕ) where
  pub rise_by : (k : Cap) → Rise raw (above k maximum largest) (rise_bound k raw maximum largest) (at_most k maximum (min raw largest))
  rise_by None =
      choose (λ (b : Option Bound). Rise raw (above None maximum largest) b (min raw largest)) (ltb largest raw)
      (λ h. let p = ltb-true largest raw h in cut (λ q. omega arith) (inl (refl, omega arith)) ((omega arith, λ e. omega arith), tt))
      (λ h. let p = ltb-false largest raw h in subst (Rise raw (above None maximum largest) None) (omega arith) (uncut (omega arith, tt)))
  rise_by (Some most) =
      let R : Option Bound → Type 0 = λ b. Rise raw (above (Some most) maximum largest) b (min (min raw largest) (maximum + most)) in
      choose R (ltb largest raw && leb largest (maximum + most))
      (λ h. let d = both (ltb largest raw) (leb largest (maximum + most)) h in
      let p = ltb-true largest raw d.0 in let q = leb-true largest (maximum + most) d.1 in
      cut (λ r. omega arith) (inl (refl, omega arith)) ((omega arith, λ e. omega arith), ((omega arith, λ e. omega arith), tt)))
      (λ h. let d = no_and (ltb largest raw) (leb largest (maximum + most)) h in
      choose R (ltb (maximum + most) raw)
      (λ i. let p = ltb-true (maximum + most) raw i in
      let q : maximum + most < largest = elim d [ inl j ↦ omega (arith, ltb-false largest raw j) | inr j ↦ leb-false largest (maximum + most) j ] in
      cut (λ r. omega arith) (inr (inl (refl, omega arith))) ((omega arith, λ e. absurd (omega arith)), ((omega arith, λ e. omega arith), tt)))
      (λ i. let p = ltb-false (maximum + most) raw i in
      let q : raw ≤ largest = elim d [ inl j ↦ ltb-false largest raw j | inr j ↦ omega (arith, leb-false largest (maximum + most) j) ] in
      subst (Rise raw (above (Some most) maximum largest) None) (omega arith) (uncut (omega arith, (omega arith, tt)))))

module _ (raw maximum smallest : ℕ) where
  pub fall_by : (k : Cap) → Fall raw (below k maximum smallest) (fall_bound k raw maximum smallest) (at_least k maximum (max raw smallest))
  fall_by None =
      choose (λ (b : Option Bound). Fall raw (below None maximum smallest) b (max raw smallest)) (ltb raw smallest)
      (λ h. let p = ltb-true raw smallest h in cut (λ q. omega arith) (inl (refl, omega arith)) ((omega arith, λ e. omega arith), tt))
      (λ h. let p = ltb-false raw smallest h in subst (Fall raw (below None maximum smallest) None) (omega arith) (uncut (omega arith, tt)))
  fall_by (Some most) =
      let F : Option Bound → Type 0 = λ b. Fall raw (below (Some most) maximum smallest) b (max (max raw smallest) (maximum - most)) in
      choose F (ltb raw smallest && leb (maximum - most) smallest)
      (λ h. let d = both (ltb raw smallest) (leb (maximum - most) smallest) h in
      let p = ltb-true raw smallest d.0 in let q = leb-true (maximum - most) smallest d.1 in
      cut (λ r. omega arith) (inl (refl, omega arith)) ((omega arith, λ e. omega arith), ((omega arith, λ e. omega arith), tt)))
      (λ h. let d = no_and (ltb raw smallest) (leb (maximum - most) smallest) h in
      choose F (ltb raw (maximum - most))
      (λ i. let p = ltb-true raw (maximum - most) i in
      let q : smallest < maximum - most = elim d [ inl j ↦ omega (arith, ltb-false raw smallest j) | inr j ↦ leb-false (maximum - most) smallest j ] in
      cut (λ r. omega arith) (inr (inl (refl, omega arith))) ((omega arith, λ e. absurd (omega arith)), ((omega arith, λ e. omega arith), tt)))
      (λ i. let p = ltb-false raw (maximum - most) i in
      let q : smallest ≤ raw = elim d [ inl j ↦ ltb-false raw smallest j | inr j ↦ omega (arith, leb-false (maximum - most) smallest j) ] in
      subst (Fall raw (below (Some most) maximum smallest) None) (omega arith) (uncut (omega arith, (omega arith, tt)))))
