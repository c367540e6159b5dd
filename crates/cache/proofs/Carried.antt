-- From a request's own work to the work of the request that was matched.
use Prim.Native.Nat.{ℕ}
use mathlib.Core.List.{List, []}
use mathlib.Core.Path.{◌≡◌, refl, sym, ap, subst, ◌∙◌}
use Rattle.rules.specs.Cache.{Cache, Work}
use Rattle.rules.specs.Hosts.{asking}
use Rattle.rules.specs.Refusals.{refusal_of}
use Rattle.rules.specs.Requests.{effect}
use Rattle.rules.specs.declared.order.Order.{Order}
use Rattle.rules.specs.declared.request.Request.{Request}
use Rattle.reason_rules.specs.Reasons.{reasons_of, changes_of}
use Rattle.reasons.specs.Changes.{change_of}
use Rattle.reasons.specs.Explains.{Explains}
use Rattle.reasons.specs.Runs.{all_runs}
use Rattle.reasons.specs.declared.runs.Done.{Done}
use Rattle.layout.specs.Holds.{Holds}
use Rattle.layout.specs.Picture.{cache_in}
use Rattle.room.specs.Did.{put_orders, Did}
use Rattle.refusals.specs.Unrefused.{Unrefused}

-- it is not refused by its own name, with the message and the words that it reads
pub named : {ws message : List ℕ} {lent k : ℕ} {q : Request} (r : Request) (own : List ℕ) → Unrefused ws (asking q message lent) → q ≡ r
    → refusal_of (cache_in ws) (asking r own k) ≡ refusal_of (cache_in ws) (asking r message lent) → Unrefused ws (asking r own k)
named {ws} {message} {lent} r own u e h = record {
  good = u.good;
  allowed = u.allowed;
  accepted = h ∙ ap (λ (x : Request). refusal_of (cache_in ws) (asking x message lent)) (sym e) ∙ u.accepted;
}

module _ (c : Cache) {rest out lent words : List ℕ} {given : ℕ} (message : List ℕ) {q : Request} (r : Request) (e : q ≡ r) where
  -- it gives orders
  pub gave : Did (effect c [] r) rest out 0 lent words given → effect c [] r ≡ effect c message r
      → Did (effect c message q) rest out 0 lent words given
  gave d h = subst (λ (w : Work). Did w rest out 0 lent words given) (h ∙ ap (effect c message) (sym e)) d

module _ (c : Cache) {rest out lent : List ℕ} (message : List ℕ) {q : Request} (r : Request) (e : q ≡ r) where
  -- it gives none
  pub gave_none : Holds out (effect c message r).cache rest → (effect c message r).orders ≡ [] → Did (effect c message q) rest out 0 lent lent 0
  unfolding put_orders
  gave_none h n =
      subst (λ (w : Work). Did w rest out 0 lent lent 0) (ap (effect c message) (sym e))
      (record { holds = h; orders = ap (λ (l : List Order). put_orders 0 l lent) (sym n); number = rw n refl })

-- what its own function tells is what the request tells
module _ (c : Cache) {q : Request} (r : Request) (e : q ≡ r) {d : Done} where
  pub told : Explains c r d → Explains c q d
  told x = subst (λ (i : Request). Explains c i d) (sym e) x

  pub told_none : all_runs d.runs ≡ [] → reasons_of c r ≡ [] → d.change ≡ change_of (changes_of c r) → Explains c q d
  told_none p n h = told (record { reasons = p ∙ sym n; change = h })
