-- What holds of settings that pass validation, as facts on their fields. Assumes nothing.
use Prim.Native.Nat.{ℕ, zero, suc, ◌≤◌}
use mathlib.Core.Path.{◌≡◌, refl, sym, subst}
use mathlib.Core.Bool.{Bool, true, false, not, ◌&&◌}
use mathlib.Core.List.{List, [], ◌∷◌}
use native.Mathlib.Omega.{arith}
use lib.Dec.{T, ltb}
use lib.ListN.{get_or}
use borrow.Author.Tests.{ltb-false, not-false}
use Rattle.settings.specs.declared.Settings.{Settings}
use Rattle.settings.specs.Limits.{within, unit, size_allowed, cap_allowed, smallest_size, largest_size, shortest_epoch, longest_epoch}
use Rattle.settings.proofs.Tests.{neither, in_range}
use Rattle.settings.specs.Validation.{increase_allowed, rates_in_order, flash_allowed, decrease_allowed, bad_evictions, bad_preset, bad_fields, first_true, first_bad}

pub record Passed (s : Settings) (opening : Bool) : Type 0 where
  pub evictions : bad_evictions s ≡ false
  pub preset : bad_preset s opening ≡ false
  pub initial : s.preset ≡ true → (s.smallest ≤ s.initial) × (s.initial ≤ s.largest)
  pub clean : unit s.clean ≡ true
  pub largest : s.largest ≤ largest_size
  pub smallest : smallest_size ≤ s.smallest
  pub ordered : s.smallest ≤ s.largest
  pub epoch : (shortest_epoch ≤ s.epoch) × (s.epoch ≤ longest_epoch)
  pub increase : increase_allowed s.increase ≡ true
  pub rates : rates_in_order s.increase s.decrease ≡ true
  pub increment : cap_allowed s.increment ≡ true
  pub flash : flash_allowed s.flash ≡ true
  pub decrease : decrease_allowed s.decrease ≡ true
  pub decrement : cap_allowed s.decrement ≡ true

-- where no first is found, none is true
none : (n : ℕ) (bs : List Bool) → first_true (suc n) bs ≡ 0 → (k : ℕ) → get_or bs k false ≡ false
none n [] h k = refl
none n (true ∷ bs) h k = let z : ◌≡◌ {A = ℕ} (suc n) 0 = h in absurd (omega arith)
none n (false ∷ bs) h zero = refl
none n (false ∷ bs) h (suc k) = none (suc n) bs h k

of_initial : (p w : Bool) → p && not w ≡ false → p ≡ true → w ≡ true
of_initial true w h e = not-false w h
of_initial false w h e = absurd (subst T (sym e) tt)

module _ (s : Settings) (opening : Bool) (h : first_bad s opening ≡ 0) where
  -- the field with the number k + 1 is not bad
  good : (k : ℕ) → get_or (bad_fields s opening) k false ≡ false
  unfolding first_bad
  good k = none 0 (bad_fields s opening) h k

  pub passed : Passed s opening
  passed =
      let size = neither (not (size_allowed s.smallest)) (ltb s.largest s.smallest) (good 5) in
      let rule = neither (not (increase_allowed s.increase)) (not (rates_in_order s.increase s.decrease)) (good 7) in
      record {
        evictions = good 0;
        preset = good 1;
        initial = λ e. in_range s.smallest s.largest s.initial (of_initial s.preset (within s.smallest s.largest s.initial) (good 2) e);
        clean = not-false _ (good 3);
        largest = (in_range smallest_size largest_size s.largest (not-false _ (good 4))).1;
        smallest = (in_range smallest_size largest_size s.smallest (not-false _ size.0)).0;
        ordered = ltb-false _ _ size.1;
        epoch = in_range shortest_epoch longest_epoch s.epoch (not-false _ (good 6));
        increase = not-false _ rule.0;
        rates = not-false _ rule.1;
        increment = not-false _ (good 8);
        flash = not-false _ (good 9);
        decrease = not-false _ (good 10);
        decrement = not-false _ (good 11);
      }
