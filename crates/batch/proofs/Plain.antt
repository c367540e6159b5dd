-- What a request of a batch leaves: a table that passes, and orders that fit in the words lent for them.
use Prim.Native.Nat.{ℕ, ◌*◌, ◌≤◌}
use mathlib.Core.Bool.{true, false≢true}
use Rattle.std.proofs.lemmas.Option.{none-some}
use Rattle.std.specs.Prelude.{Option, None, Some}
use mathlib.Core.List.{List, [], ◌∷◌}
use mathlib.Core.Path.{◌≡◌, refl, subst}
use native.Mathlib.Omega.{arith}
use lib.Dec.{eqb}
use lib.ListN.{length, drop, length-append}
use Rattle.rules.proofs.Steps.{stepped}
use Rattle.rules.proofs.Tests.{split}
use Rattle.rules.specs.declared.order.Order.{Order}
use Rattle.rules.specs.declared.request.Request.{Request}
use Rattle.rules.specs.Answers.{answer_orders}
use Rattle.rules.specs.Hosts.{asking}
use Rattle.rules.specs.Requests.{Outcome}
use Rattle.layout.proofs.Ordered.{length_orders}
use Rattle.layout.specs.Picture.{order_words, cache_in, written}
use Rattle.judge.specs.Verdict.{judge_words}
use Rattle.cache.proofs.StepAnswers.{carried}
use Rattle.cache.specs.Tables.{left, carried_out}
use Rattle.numbers.specs.Meanings.{meaning, asked, plain_kinds, plain_of}
use Rattle.runs.proofs.Pictured.{pictures_after}
use Rattle.runs.specs.Hosts.{FloatsOf}
use Rattle.batch.specs.Batch.{done_with, lacks_words}

-- ---- no request of a batch has settings

abbrev Every : {A : Type 0} → (A → Type 0) → List (ℕ × A) → Type 0
Every P [] = Unit
Every P (m ∷ l) = P m.1 × Every P l

meaning_of : {A : Type 0} (P : A → Type 0) (l : List (ℕ × A)) → Every P l → (n : ℕ) (x : A) → meaning l n ≡ Some x → P x
unfolding meaning
meaning_of P [] e n x h = absurd (none-some x h)
meaning_of P (m ∷ l) e n x h =
    split (eqb n m.0)
    (λ p. let q : Some m.1 ≡ Some x = simp p at h in let s : m.1 ≡ x = cc in subst P s e.0)
    (λ p. meaning_of P l e.1 n x (simp p at h))

pub plain_floats : (k a s : ℕ) (r : Request) → plain_of k a s ≡ Some r → FloatsOf r
unfolding plain_of
plain_floats k a s r h = meaning_of FloatsOf (plain_kinds a s) (tt, (tt, (tt, (tt, (tt, (tt, (tt, (tt, (tt, (tt, (tt, tt))))))))))) k r h

-- ---- the table

module _ (ws os : List ℕ) (v : judge_words ws ≡ true) where
  pub still_passes : (o : Option Request) → ((r : Request) → o ≡ Some r → FloatsOf r) → judge_words (done_with (asked o) ws os).table ≡ true
  still_passes None f = v
  still_passes (Some r) f = (pictures_after ws os [] r v (f r refl)).passes

  -- ---- the orders

  written_fits : (orders : List Order) → length (written orders os) ≡ length os → length orders * 3 ≤ length os
  unfolding written
  written_fits orders e =
      let l = length-append (order_words orders) (drop (length orders * 3) os) in let m = length_orders orders in omega arith

  pub orders_fit : (o : Option Request) → length (done_with (asked o) ws os).orders ≡ length os → answer_orders (done_with (asked o) ws os).answer * 3 ≤ length (done_with (asked o) ws os).orders
  orders_fit None = λ e. omega arith
  orders_fit (Some r) =
      rw (carried ws os [] r v)
      (stepped (cache_in ws) (asking r [] (length os))
      (λ (o : Outcome). length (carried_out o.answer o ws os).orders ≡ length os → answer_orders (carried_out o.answer o ws os).answer * 3 ≤ length (carried_out o.answer o ws os).orders)
      (λ h e. let f = written_fits _ e in omega arith)
      (λ x e. omega arith))

  -- a request that lacks order words changes nothing
  pub lacking_same : (o : Option Request) → lacks_words (done_with (asked o) ws os) ≡ true → done_with (asked o) ws os ≡ left (done_with (asked o) ws os).answer ws os
  lacking_same None = λ e. refl
  lacking_same (Some r) =
      rw (carried ws os [] r v)
      (stepped (cache_in ws) (asking r [] (length os))
      (λ (o : Outcome). lacks_words (carried_out o.answer o ws os) ≡ true → carried_out o.answer o ws os ≡ left (carried_out o.answer o ws os).answer ws os)
      (λ h e. absurd (false≢true e))
      (λ x e. refl))
