-- A protect or a release that gives no orders leaves the held bytes: nothing came, since a miss gives a load, and nothing went.
use Prim.Native.Nat.{ℕ, ◌+◌, ◌≤◌}
use mathlib.Core.Bool.{true, false, ◌&&◌}
use mathlib.Core.List.{List, [], ◌∷◌, append-nil}
use Rattle.std.specs.Prelude.{None, Some}
use mathlib.Core.Path.{◌≡◌, refl, sym, ap, subst, ◌∙◌}
use native.Mathlib.Omega.{arith}
use lib.Dec.{eqb, leb}
use lib.ListN.{length, length-append}
use borrow.Author.Tests.{eqb-true, leb-true, eqb-false}
use Rattle.rules.proofs.Effects.{effects}
use Rattle.rules.proofs.Steps.{stepped}
use Rattle.rules.proofs.Tests.{split, choose, both}
use Rattle.rules.specs.declared.order.Order.{Order}
use Rattle.rules.specs.declared.request.Access.{Access}
use Rattle.rules.specs.declared.request.Access.TheVariants.{Reading, Writing}
use Rattle.rules.specs.declared.request.Request.{Request}
use Rattle.rules.specs.declared.request.Request.TheVariants.{Protect, Release}
use Rattle.rules.specs.Allowed.{Sound}
use Rattle.rules.specs.Answers.{answer_orders}
use Rattle.rules.specs.Cache.{Cache, Work, start, held}
use Rattle.rules.specs.History.{evicted_bytes}
use Rattle.rules.specs.Hosts.{asking}
use Rattle.rules.specs.Refusals.{Call, refusal_of}
use Rattle.rules.specs.Requests.{Outcome, effect, step, loaded, missed}
use Rattle.rules.specs.Resizing.{flashed, count_access}
use Rattle.rules.specs.Room.{make_room}
use Rattle.rules.specs.Rows.{is_here, held_bytes}
use Rattle.layout.specs.Picture.{cache_in}
use Rattle.judge.proofs.Verdicts.{sound}
use Rattle.judge.specs.Verdict.{judge_words}
use Rattle.room.proofs.After.{same_work, count_carries}
use Rattle.room.specs.After.{after}
use Rattle.room.specs.Held.{HeldIs}
use Rattle.room.specs.Types.{Held}
use Rattle.cache.proofs.StepAnswers.{same_answer}
use Rattle.cache.specs.Tables.{step_words}
use Rattle.numbers.specs.Meanings.{meaning, asked, plain_of}
use Rattle.runs.proofs.Pictured.{pictures_after}
use Rattle.runs.specs.Hosts.{FloatsOf}
use Rattle.batch.specs.Batch.{done_with}
use Rattle.batch.specs.Known.{kept_for}

data Quiet : Request → Type 0 where
  protect : (x : Access) (a s : ℕ) → Quiet (Protect x a s)
  release : (a : ℕ) → Quiet (Release a)

-- ---- over the rules

none_given : (l : List Order) → length l ≡ 0 → l ≡ []
none_given [] e = refl
none_given (o ∷ l) e = absurd (omega arith)

-- a miss gives an order
miss_gives : (x : Access) (a s : ℕ) (c : Cache) → length (missed x a s c).orders ≡ 0 → ⊥
miss_gives x a s c e =
    let w = loaded x a s (make_room s true (start (flashed s c))) in
    let same : after w.orders (start w.cache) ≡ w = same_work w.orders refl (append-nil w.orders) in
    let counted = ap (count_access false) (sym same) ∙ count_carries w.orders false (start w.cache) in
    let l = ap (λ (v : Work). length v.orders) counted in
    let m = length-append w.orders (count_access false (start w.cache)).orders in
    let n = length-append (make_room s true (start (flashed s c))).orders in
    let k : 1 ≤ length w.orders = rw (n _) (omega arith) in
    omega arith

-- with no orders nothing is evicted
still_held : (c : Cache) (w : Work) {came went : ℕ} → held w.cache + (went + evicted_bytes w.orders) ≡ held c + came → came ≡ 0 → went ≡ 0 → length w.orders ≡ 0 → held w.cache ≡ held c
unfolding evicted_bytes
still_held c w h i j z = let n : evicted_bytes w.orders ≡ 0 = ap evicted_bytes (none_given w.orders z) in omega arith

missing : (x : Access) (a s : ℕ) (c : Cache) (message : List ℕ) → is_here c.rows a ≡ false → length (effect c message (Protect x a s)).orders ≡ 0 → ⊥
unfolding effect
missing x a s c message p z = miss_gives x a s c (rw p at z)

quiet_effect : (c : Cache) (lent : ℕ) (message : List ℕ) {r : Request} → Quiet r → Sound c → refusal_of c (record { request = r; message = message; lent = lent }) ≡ None
    → length (effect c message r).orders ≡ 0 → held (effect c message r).cache ≡ held c
unfolding refusal_of
quiet_effect c lent message (release a) k e z = still_held c (effect c message (Release a)) (effects c lent message (Release a) k e).held refl refl z
quiet_effect c lent message (protect x a s) k e z =
    split (is_here c.rows a)
    (λ p. still_held c (effect c message (Protect x a s)) (effects c lent message (Protect x a s) k e).held (rw p refl) refl z)
    (λ p. absurd (missing x a s c message p z))

quiet_step : (c : Cache) (call : Call) → Quiet call.request → Sound c → answer_orders (step c call).answer ≡ 0 → held (step c call).cache ≡ held c
quiet_step c call q k =
    stepped c call (λ (o : Outcome). answer_orders o.answer ≡ 0 → held o.cache ≡ held c)
    (λ e z. quiet_effect c call.lent call.message q k e z) (λ x z. refl)

-- ---- over words

quiet_kind : (k a s : ℕ) → 2 ≤ k → k ≤ 4 → (r : Request) × (plain_of k a s ≡ Some r) × Quiet r
unfolding plain_of meaning
quiet_kind k a s low high =
    split (eqb k 2)
    (λ p. subst (λ (n : ℕ). (r : Request) × (plain_of n a s ≡ Some r) × Quiet r) (sym (eqb-true k 2 p)) (Protect Reading a s, refl, protect Reading a s))
    (λ p. split (eqb k 3)
    (λ q. subst (λ (n : ℕ). (r : Request) × (plain_of n a s ≡ Some r) × Quiet r) (sym (eqb-true k 3 q)) (Protect Writing a s, refl, protect Writing a s))
    (λ q. let e : k ≡ 4 = let u = eqb-false k 2 p in let v = eqb-false k 3 q in omega arith in
    subst (λ (n : ℕ). (r : Request) × (plain_of n a s ≡ Some r) × Quiet r) (sym e) (Release a, refl, release a)))

-- The words of a table that passes, and order words.
module _ (ws os : List ℕ) (v : judge_words ws ≡ true) where
  quiet_words : {r : Request} → Quiet r → answer_orders (step_words ws os [] r).answer ≡ 0 → held_bytes (cache_in (step_words ws os [] r).table).rows ≡ held_bytes (cache_in ws).rows
  quiet_words {r} q z =
      ap (λ (c : Cache). held_bytes c.rows) (pictures_after ws os [] r v (floats q)).cache
      ∙ quiet_step (cache_in ws) (asking r [] (length os)) q (sound ws v).0.sound (sym (ap answer_orders (same_answer ws os [] r v)) ∙ z)
    where
      floats : {r : Request} → Quiet r → FloatsOf r
      floats (protect x a s) = tt
      floats (release a) = tt

  -- what a batch goes on knowing is so
  pub held_kept : (k a s n : ℕ) → n ≡ answer_orders (done_with (asked (plain_of k a s)) ws os).answer → (known : Held) → HeldIs known (cache_in ws)
      → HeldIs (kept_for k n known) (cache_in (done_with (asked (plain_of k a s)) ws os).table)
  held_kept k a s n e known i =
      choose (λ (h : Held). HeldIs h (cache_in (done_with (asked (plain_of k a s)) ws os).table)) (eqb n 0 && (leb 2 k && leb k 4)) (λ t. go t known i) (λ t. tt)
    where
      go : (eqb n 0 && (leb 2 k && leb k 4)) ≡ true → (known : Held) → HeldIs known (cache_in ws) → HeldIs known (cache_in (done_with (asked (plain_of k a s)) ws os).table)
      go t None i = tt
      go t (Some m) i =
          let b = both (eqb n 0) (leb 2 k && leb k 4) t in
          let d = both (leb 2 k) (leb k 4) b.1 in
          let q = quiet_kind k a s (leb-true 2 k d.0) (leb-true k 4 d.1) in
          let z = sym e ∙ eqb-true n 0 b.0 in
          i ∙ sym (rw q.1 (quiet_words q.2 (rw q.1 at z)))
