-- How a request is answered: by the refusal that its tests give, and else by its work.
use Prim.Native.Nat.{ℕ}
use mathlib.Core.List.{List}
use Rattle.std.specs.Prelude.{Option, None, Some, Ok, Err}
use mathlib.Core.Path.{◌≡◌, refl, sym, ap, subst}
use native.Mathlib.Omega.{arith}
use Rattle.rules.specs.Cache.{Cache}
use Rattle.rules.specs.Refusals.{Call, refusal_of}
use Rattle.rules.specs.Requests.{Outcome, effect, judged, step}
use Rattle.rules.specs.declared.answer.Refusal.{Refusal}
use Rattle.layout.specs.Holds.{Holds}
use Rattle.room.specs.Answered.{Answered}
use Rattle.room.specs.Did.{put_orders, Did}

step_by : (c : Cache) (call : Call) (o : Option Refusal) → refusal_of c call ≡ o → step c call ≡ judged o c (effect c call.message call.request)
unfolding step
step_by c call o e = ap (λ (x : Option Refusal). judged x c (effect c call.message call.request)) e

-- a refusal leaves the table and the words as they were
pub answered_not : {ws : List ℕ} {c : Cache} {rest : List ℕ} (call : Call) (lent : List ℕ) (r : Refusal) → Holds ws c rest → refusal_of c call ≡ Some r → Answered (step c call) rest ws lent lent (Err r)
unfolding put_orders
answered_not {ws} {c} {rest} call lent r h e =
    subst (λ (o : Outcome). Answered o rest ws lent lent (Err r)) (sym (step_by c call (Some r) e)) (record { answer = refl; holds = h; orders = refl })

-- no test passes, and the request's work is done
pub answered_done : (c : Cache) (call : Call) {rest out lent words : List ℕ} {given : ℕ} → refusal_of c call ≡ None
    → Did (effect c call.message call.request) rest out 0 lent words given → Answered (step c call) rest out lent words (Ok given)
answered_done c call {rest} {out} {lent} {words} {given} e d =
    let number = d.number in
    subst (λ (o : Outcome). Answered o rest out lent words (Ok given)) (sym (step_by c call None e))
    (record { answer = ap Ok (omega arith); holds = d.holds; orders = d.orders })
