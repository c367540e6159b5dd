-- A miss: room is made, the entry is loaded, and the access is counted. The load is one order beyond those that could come before.
use Prim.Native.Nat.{ℕ, ◌+◌, ◌*◌, ◌≤◌}
use mathlib.Core.Bool.{true, false}
use mathlib.Core.List.{List, ◌∷◌, ◌++◌}
use Rattle.std.specs.Prelude.{None, Option}
use mathlib.Core.Path.{◌≡◌, sym, ap, ap₂, ◌∙◌}
use native.Mathlib.Omega.{arith}
use lib.Dec.{ltb}
use lib.ListN.{length}
use Rattle.rules.proofs.Allowed.{figures_allowed}
use Rattle.rules.proofs.Effects.{Ready, flash_sound, room_for, ready}
use Rattle.rules.proofs.Figures.{InRange, flash_range, room_figures}
use Rattle.rules.proofs.Found.{length_place}
use Rattle.rules.proofs.Moved.{left, orders_left, moved}
use Rattle.rules.proofs.Totals.{total_place}
use Rattle.rules.specs.Allowed.{Allowed}
use Rattle.rules.specs.Cache.{Cache, start}
use Rattle.rules.specs.Refusals.{no_row, too_few_words}
use Rattle.rules.specs.Requests.{loaded, missed}
use Rattle.rules.specs.Resizing.{flashed, flashed_to, count_access}
use Rattle.rules.specs.Rows.{get, passes, has_free}
use Rattle.rules.specs.declared.request.Access.{Access}
use Rattle.layout.proofs.Held.{holds_cache, holds_rest}
use Rattle.layout.specs.Picture.{cache_in, rest_in}
use Rattle.reason_rules.specs.declared.Cause.TheVariants as cause
use Rattle.reason_rules.specs.declared.Change.{Change}
use Rattle.reason_rules.specs.declared.Reason.{Reason}
use Rattle.reason_rules.specs.declared.Reason.TheVariants as reason
use Rattle.reason_rules.specs.Reasons.{room_reasons, count_reasons, flash_change, count_change}
use Rattle.reasons.proofs.Changes.{first_change}
use Rattle.reasons.specs.Changes.{change_of, first_of}
use Rattle.room.proofs.Orders.{did_then}
use Rattle.room.proofs.Reasons.{count_from, change_from}
use Rattle.room.specs.Did.{Did}
use Rattle.table.specs.Asked.{GoodRows}
use Rattle.admission.proofs.Admission.{admitted_good, admitted_free, admitted_absent, admitted_left}
use Rattle.protect.proofs.Counted.{Countable, count_asks, count_joins}
use Rattle.protect.proofs.Loaded.{entry_for, no_orders}
use Rattle.protect.proofs.Words.{words_enough}
use Rattle.protect.specs.Told.{loaded_work, miss_reasons, miss_changes}

module _ (x : Access) (a s : ℕ) (c : Cache) (k : Allowed c) (n : get c.rows a ≡ None) (f : no_row c ≡ false) {table₁ rest lent words₁ : List ℕ} {evicted : ℕ}
    (d : Did (room_for s c) rest table₁ 0 lent words₁ evicted) where
  is_ready : Ready a s c
  is_ready = ready a s c k.sound (ap (passes (λ e. true)) n) f

  -- the table that the load begins with, and the words that are left for its order
  pub load_asks : {rows : ℕ} → rows ≡ length c.rows → too_few_words c (length lent) ≡ false → length words₁ ≡ length lent
      → GoodRows table₁ rows × (has_free (cache_in table₁).rows ≡ true) × (get (cache_in table₁).rows a ≡ None) × (evicted * 3 + 3 ≤ length words₁)
  load_asks m t l = (
    admitted_good c a s k.sound n f d m,
    admitted_free c a s k.sound n f d,
    admitted_absent c a s k.sound n f d,
    omega (arith, words_enough c (length lent) t, admitted_left c a s k.sound n f d),
  )

  module _ {table₂ words₂ : List ℕ} {given : ℕ} (e : Did (loaded x a s (start (cache_in table₁))) (rest_in table₁) table₂ evicted words₁ words₂ given) where
    loaded_did : Did (loaded x a s (room_for s c)) rest table₂ 0 lent words₂ given
    loaded_did = did_then d (rw (holds_cache d.holds, holds_rest d.holds) at e)

    loaded_left : given + left (loaded x a s (room_for s c)).cache ≡ left c + 1
    loaded_left =
        omega
        (arith, e.number, admitted_left c a s k.sound n f d, ap left (holds_cache d.holds), total_place orders_left (entry_for x a s) (room_for s c).cache.rows is_ready.free, no_orders x a s)

    pub missed_asks : {rows : ℕ} → rows ≡ length c.rows → too_few_words c (length lent) ≡ false → length words₂ ≡ length lent → Countable table₂ rows given words₂
    missed_asks m t l =
        count_asks loaded_did (m ∙ sym (length_place (entry_for x a s) (room_for s c).cache.rows ∙ (moved is_ready.moves k.sound).kept.rows))
        (room_figures InRange s true (start (flashed s c)) (flash_sound s c k.sound) (flash_range s c (figures_allowed c k)))
        (omega (arith, loaded_left, words_enough c (length lent) t))

    pub missed_did : {table words : List ℕ} {r : ℕ} → Did (count_access false (start (cache_in table₂))) (rest_in table₂) table given words₂ words r
        → Did (missed x a s c) rest table 0 lent words r
    missed_did = count_joins loaded_did false

    loaded_cache : cache_in table₂ ≡ (loaded_work x a s c).cache
    loaded_cache = holds_cache loaded_did.holds

    -- the reasons of the room, of the load, and of the access that is counted
    pub missed_reasons : {l room aged : List Reason} → l ≡ room ++ (reason.Load ∷ aged) → room ≡ room_reasons s true (start (flashed s c))
        → aged ≡ count_reasons false (start (cache_in table₂)) → l ≡ miss_reasons x a s c
    missed_reasons p q h =
        p ∙ ap₂ (λ (i j : List Reason). i ++ (reason.Load ∷ j)) q
        (h ∙ ap (λ (d : Cache). count_reasons false (start d)) loaded_cache ∙ count_from false (loaded_work x a s c))

    -- the flash's change, or the epoch's
    pub missed_changes : {r f g : Option Change} → r ≡ first_of f g → f ≡ change_of (flash_change s c) → g ≡ change_of (count_change false (start (cache_in table₂)))
        → r ≡ change_of (miss_changes x a s c)
    missed_changes p q h =
        p ∙ ap₂ first_of q (h ∙ ap change_of (ap (λ (d : Cache). count_change false (start d)) loaded_cache ∙ change_from false (loaded_work x a s c)))
        ∙ first_change cause.Flash _ (ltb c.maximum (flashed_to s c)) (count_change false (loaded_work x a s c))
