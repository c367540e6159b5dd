-- Settings taken: the maximum they give is in their range, and the counters restart.
use Rattle.std.specs.Prelude.{if◌then◌else◌, Option}
use Prim.Native.Nat.{ℕ, ◌≤◌}
use mathlib.Core.Bool.{false}
use mathlib.Core.List.{List}
use mathlib.Core.Path.{◌≡◌, ap, ap₂, subst, ◌∙◌}
use lib.Dec.{eqb}
use lib.ListN.{length}
use Rattle.settings.specs.Validation.{first_bad}
use Rattle.settings.specs.declared.Settings.{Settings}
use Rattle.rules.proofs.Figures.{configured_range}
use Rattle.rules.specs.Cache.{Cache, start, with_settings, with_maximum, restart}
use Rattle.rules.specs.Limits.{count_stop}
use Rattle.rules.specs.Refusals.{too_few_words}
use Rattle.rules.specs.Requests.{brought, configured}
use Rattle.reason_rules.specs.declared.Cause.TheVariants as cause
use Rattle.reason_rules.specs.declared.Change.{Change}
use Rattle.reason_rules.specs.declared.Reason.{Reason}
use Rattle.reason_rules.specs.Bounds.{settings_bound}
use Rattle.reason_rules.specs.Reasons.{settings_change, room_reasons}
use Rattle.reasons.proofs.Changes.{change_unless}
use Rattle.reasons.specs.Changes.{change_of, set_to}
use Rattle.layout.proofs.Held.{holds_cache, onward}
use Rattle.layout.specs.Holds.{Holds}
use Rattle.layout.specs.Picture.{cache_in, rest_in}
use Rattle.room.proofs.Orders.{words_fit}
use Rattle.room.specs.Did.{Fits}
use Rattle.table.specs.Asked.{Settable}

-- n is the new maximum, by the maximum that was read
module _ (s : Settings) (c : Cache) (maximum n : ℕ) (p : maximum ≡ c.maximum) (e : n ≡ (if s.preset then s.initial else brought maximum s)) where
  maximum_is : n ≡ (configured s c).maximum
  maximum_is = e ∙ ap (λ (m : ℕ). if s.preset then s.initial else brought m s) p

  pub settable : first_bad s false ≡ 0 → c.count ≤ count_stop → Settable s n
  settable h k =
      let r = (configured_range s c h k).ranged in
      record { passes = h; least = rw maximum_is r.least; most = rw maximum_is r.most }

  pub configured_held : {mid out rest : List ℕ} → Holds mid (with_maximum n (with_settings s c)) rest → Holds out (restart (cache_in mid)) (rest_in mid)
      → Holds out (configured s c) rest
  configured_held {mid} {out} {rest} h k = subst (λ (m : ℕ). Holds out (restart (with_maximum m (with_settings s c))) rest) maximum_is (onward restart h k)

  -- and the change of the maximum by it
  pub change_told : {y : Option Change} → y ≡ set_to n s maximum → y ≡ change_of (settings_change s c)
  change_told i = i ∙ ap₂ (λ (m k : ℕ). set_to m s k) maximum_is p ∙ change_unless cause.Settings (settings_bound s c.maximum) (eqb (configured s c).maximum c.maximum)

-- the orders that can come for the table that the settings left
pub configured_fits : (s : Settings) (c : Cache) (lent : List ℕ) {mid rest : List ℕ} → too_few_words c (length lent) ≡ false → Holds mid (configured s c) rest → Fits (cache_in mid) 0 lent
configured_fits s c lent {mid} t k = words_fit c (cache_in mid) lent t (ap (λ (d : Cache). length d.rows) (holds_cache k))

-- and the reasons of those that come
pub configured_reasons : (s : Settings) (c : Cache) {mid rest : List ℕ} {l : List Reason} → Holds mid (configured s c) rest → l ≡ room_reasons 0 false (start (cache_in mid))
    → l ≡ room_reasons 0 false (start (configured s c))
configured_reasons s c k i = i ∙ ap (λ (d : Cache). room_reasons 0 false (start d)) (holds_cache k)
