-- A batch from where it stands: what is done so far, and the rest by the same rule, come to the whole.
use Prim.Native.Nat.{ℕ, suc, ◌+◌, ◌*◌, ◌-◌, ◌<◌, ◌≤◌}
use mathlib.Core.Bool.{true, false}
use mathlib.Core.List.{List, [], ◌∷◌, ◌++◌, append_assoc, append-nil}
use Rattle.std.specs.Prelude.{Option, Ok, Err}
use mathlib.Core.Path.{◌≡◌, refl, sym, ap, subst, ◌∙◌}
use native.Mathlib.Nat.{add-zero}
use native.Mathlib.Numerals.{add-one}
use native.Mathlib.Omega.{arith}
use lib.ListN.{length, get_or, take, drop, set, take-append-drop, length-append, length-drop, length-set, drop_of_length-le}
use lib.Seq.{length-take-le, take_all, take-append-add, drop-append-add, take-suc-set, drop-set-lt, drop-drop, get_or-drop}
use lib.Dec.{eqb}
use borrow.Author.Tests.{lt-ltb, le-ltb}
use borrow.Rule.Slice.PartMut.{put_mid}
use Rattle.rules.specs.Types.{Answer, Verdict}
use Rattle.rules.specs.declared.answer.Refusal.TheVariants as refusal
use Rattle.rules.specs.declared.request.Request.{Request}
use Rattle.rules.specs.Answers.{answer_number, answer_orders}
use Rattle.judge.specs.Verdict.{judge_words}
use Rattle.cache.specs.Tables.{Left, left}
use Rattle.numbers.specs.Answers.{answer_numbers}
use Rattle.numbers.specs.Meanings.{asked, plain_of}
use Rattle.numbers.specs.declared.raw.RawAnswer.{RawAnswer}
use Rattle.room.specs.Held.{HeldIs}
use Rattle.room.specs.Types.{Held}
use Rattle.layout.specs.Picture.{cache_in}
use Rattle.batch.proofs.Quiet.{held_kept}
use Rattle.batch.specs.Known.{kept_for}
use Rattle.batch.proofs.Plain.{plain_floats, still_passes, orders_fit, lacking_same}
use Rattle.batch.specs.Batch.{After, after, done_with, lacks_words, stopped, before, one_by_one, batch_words}

-- ---- judging

module _ (table orders requests answers : List ℕ) where
  pub batch_damaged : judge_words table ≡ false → stopped (Err refusal.Table) table orders answers ≡ batch_words table orders requests answers
  unfolding batch_words
  batch_damaged v = rw v

  pub batch_passes : judge_words table ≡ true → one_by_one requests table orders answers ≡ batch_words table orders requests answers
  unfolding batch_words
  batch_passes v = rw v

-- ---- one request of the words that are left

-- the request that the first three words name
abbrev pub first : List ℕ → List ℕ → List ℕ → Left
first l table orders = done_with (asked (plain_of (get_or l 0 0) (get_or l 1 0) (get_or l 2 0))) table orders

pub no_request : (l table orders answers : List ℕ) → length l < 3 → one_by_one l table orders answers ≡ stopped (Ok tt) table orders answers
unfolding one_by_one
no_request [] table orders answers h = refl
no_request (k ∷ []) table orders answers h = refl
no_request (k ∷ a ∷ []) table orders answers h = refl
no_request (k ∷ a ∷ s ∷ l) table orders answers h = absurd (omega arith)

module _ (l table orders answers : List ℕ) (h : 3 ≤ length l) where
  pub no_answer : length answers < 2 → one_by_one l table orders answers ≡ stopped (Err refusal.OrderWords) table orders answers
  unfolding one_by_one
  no_answer few = go l h
    where
      go : (l : List ℕ) → 3 ≤ length l → one_by_one l table orders answers ≡ stopped (Err refusal.OrderWords) table orders answers
      go [] h = absurd (omega arith)
      go (k ∷ []) h = absurd (omega arith)
      go (k ∷ a ∷ []) h = absurd (omega arith)
      go (k ∷ a ∷ s ∷ l) h = rw (lt-ltb (length answers) 2 few)

  module _ (enough : 2 ≤ length answers) where
    pub no_words : lacks_words (first l table orders) ≡ true → one_by_one l table orders answers ≡ stopped (Err refusal.OrderWords) table orders answers
    unfolding one_by_one
    no_words = go l h
      where
        go : (l : List ℕ) → 3 ≤ length l → lacks_words (first l table orders) ≡ true → one_by_one l table orders answers ≡ stopped (Err refusal.OrderWords) table orders answers
        go [] h e = absurd (omega arith)
        go (k ∷ []) h e = absurd (omega arith)
        go (k ∷ a ∷ []) h e = absurd (omega arith)
        go (k ∷ a ∷ s ∷ l) h e = rw (le-ltb (length answers) 2 enough, e)

    pub one_more : lacks_words (first l table orders) ≡ false
        → one_by_one l table orders answers
        ≡ before (first l table orders) (one_by_one (drop 3 l) (first l table orders).table (drop (answer_orders (first l table orders).answer * 3) (first l table orders).orders) (drop 2 answers))
    unfolding one_by_one
    one_more = go l h
      where
        go : (l : List ℕ) → 3 ≤ length l → lacks_words (first l table orders) ≡ false
            → one_by_one l table orders answers
            ≡ before (first l table orders) (one_by_one (drop 3 l) (first l table orders).table (drop (answer_orders (first l table orders).answer * 3) (first l table orders).orders) (drop 2 answers))
        go [] h e = absurd (omega arith)
        go (k ∷ []) h e = absurd (omega arith)
        go (k ∷ a ∷ []) h e = absurd (omega arith)
        go (k ∷ a ∷ s ∷ l) h e = rw (le-ltb (length answers) 2 enough, e)

-- ---- what is done so far

abbrev pub onto : ℕ → ℕ → List ℕ → List ℕ → After → After
onto d g os bs y = record {
  batched = record { verdict = y.batched.verdict; done = d + y.batched.done; orders = g + y.batched.orders };
  table = y.table;
  orders = os ++ y.orders;
  answers = bs ++ y.answers;
}

onto_none : (y : After) → y ≡ onto 0 0 [] [] y
onto_none y =
    let p : y.batched.done ≡ 0 + y.batched.done = omega arith in
    let q : y.batched.orders ≡ 0 + y.batched.orders = omega arith in
    λ i. record { batched = record { verdict = y.batched.verdict; done = p i; orders = q i }; table = y.table; orders = y.orders; answers = y.answers }

onto_before : (d g : ℕ) (os bs : List ℕ) (x : Left) (y : After)
    → onto d g os bs (before x y)
    ≡ onto (d + 1) (g + answer_orders x.answer) (os ++ take (answer_orders x.answer * 3) x.orders) (bs ++ answer_number x.answer ∷ answer_orders x.answer ∷ []) y
onto_before d g os bs x y =
    let p : d + suc y.batched.done ≡ d + 1 + y.batched.done = omega arith in
    let q : g + (answer_orders x.answer + y.batched.orders) ≡ g + answer_orders x.answer + y.batched.orders = omega arith in
    let r = sym (append_assoc os (take (answer_orders x.answer * 3) x.orders) y.orders) in
    let s = sym (append_assoc bs (answer_number x.answer ∷ answer_orders x.answer ∷ []) y.answers) in
    λ i. record { batched = record { verdict = y.batched.verdict; done = p i; orders = q i }; table = y.table; orders = r i; answers = s i }

-- two words written one after the other
told : (l : List ℕ) (n v w : ℕ) → n + 2 ≤ length l → take (n + 2) (set (set l n v) (n + 1) w) ≡ take n l ++ v ∷ w ∷ []
told l n v w h =
    let first : take (n + 1) (set l n v) ≡ take n l ++ v ∷ [] = rw (add-one n) (take-suc-set l n v (omega arith)) in
    let e : n + 2 ≡ suc (n + 1) = omega arith in
    let m = length-set l n v in
    rw e (take-suc-set (set l n v) (n + 1) w (omega arith) ∙ ap (λ (r : List ℕ). r ++ w ∷ []) first ∙ append_assoc (take n l) (v ∷ []) (w ∷ []))

-- the words after so many requests and orders
abbrev pub rest : List ℕ → List ℕ → List ℕ → List ℕ → ℕ → ℕ → After
rest requests table orders answers d g = one_by_one (drop (d * 3) requests) table (drop (g * 3) orders) (drop (d * 2) answers)

pub record Doing (whole : After) (requests table orders answers : List ℕ) (d g : ℕ) : Type 0 where
  pub passes : judge_words table ≡ true
  pub asked : d * 3 ≤ length requests
  pub answered : d * 2 ≤ length answers
  pub ordered : g * 3 ≤ length orders
  pub so_far : whole ≡ onto d g (take (g * 3) orders) (take (d * 2) answers) (rest requests table orders answers d g)

pub doing_start : (requests table orders answers : List ℕ) → judge_words table ≡ true → Doing (one_by_one requests table orders answers) requests table orders answers 0 0
doing_start requests table orders answers v = record { passes = v; asked = omega arith; answered = omega arith; ordered = omega arith; so_far = onto_none (one_by_one requests table orders answers) }

module _ {whole : After} {requests table orders answers : List ℕ} {d g : ℕ} (k : Doing whole requests table orders answers d g) where
  pub doing_end : (v : Verdict) → rest requests table orders answers d g ≡ stopped v table (drop (g * 3) orders) (drop (d * 2) answers)
      → after (record { verdict = v; done = d; orders = g }) table orders answers ≡ whole
  doing_end v e =
      let p : d ≡ d + 0 = omega arith in
      let q : g ≡ g + 0 = omega arith in
      let r = sym (take-append-drop (g * 3) orders) in
      let s = sym (take-append-drop (d * 2) answers) in
      (λ i. record { batched = record { verdict = v; done = p i; orders = q i }; table = table; orders = r i; answers = s i })
      ∙ sym (k.so_far ∙ ap (onto d g (take (g * 3) orders) (take (d * 2) answers)) e)

  module _ (h : d * 3 + 3 ≤ length requests) (i : d * 2 + 2 ≤ length answers) where
    -- the request at the place that is reached
    abbrev here : Left
    here = first (drop (d * 3) requests) table (drop (g * 3) orders)

    abbrev given : ℕ
    given = answer_orders here.answer

    module _ (passes : judge_words here.table ≡ true) (fits : given * 3 ≤ length here.orders) (enough : lacks_words here ≡ false) where
      next_rest : rest requests table orders answers d g
          ≡ before here (one_by_one (drop (d * 3 + 3) requests) here.table (drop (given * 3) here.orders) (drop (d * 2 + 2) answers))
      next_rest =
          rw (← drop-drop 3 (d * 3) requests, ← drop-drop 2 (d * 2) answers)
          (one_more (drop (d * 3) requests) table (drop (g * 3) orders) (drop (d * 2) answers)
          (let l = length-drop (d * 3) requests in omega arith) (let l = length-drop (d * 2) answers in omega arith) enough)

      -- its orders stand behind those before it, and its answer too
      pub doing_next : Doing whole requests here.table (take (g * 3) orders ++ here.orders) (set (set answers (d * 2) (answer_number here.answer)) (d * 2 + 1) given) (d + 1) (g + given)
      doing_next =
          let free = length-take-le (g * 3) orders k.ordered in
          let behind : (g + given) * 3 ≡ length (take (g * 3) orders) + given * 3 = omega arith in
          let three : (d + 1) * 3 ≡ d * 3 + 3 = omega arith in
          let two : (d + 1) * 2 ≡ d * 2 + 2 = omega arith in
          let marked = set answers (d * 2) (answer_number here.answer) in
          let taken : take (d * 2 + 2) (set marked (d * 2 + 1) given) ≡ take (d * 2) answers ++ answer_number here.answer ∷ given ∷ [] = told answers (d * 2) (answer_number here.answer) given i in
          let dropped : drop (d * 2 + 2) (set marked (d * 2 + 1) given) ≡ drop (d * 2 + 2) answers = drop-set-lt (d * 2 + 2) marked (d * 2 + 1) given (omega arith) ∙ drop-set-lt (d * 2 + 2) answers (d * 2) (answer_number here.answer) (omega arith) in
          record {
            passes = passes;
            asked = omega arith;
            answered = let l = length-set marked (d * 2 + 1) given in let m = length-set answers (d * 2) (answer_number here.answer) in omega arith;
            ordered = let l = length-append (take (g * 3) orders) here.orders in omega arith;
            so_far =
                k.so_far ∙ ap (onto d g (take (g * 3) orders) (take (d * 2) answers)) next_rest
                ∙ onto_before d g (take (g * 3) orders) (take (d * 2) answers) here _
                ∙ rw (three, two, behind, take-append-add (take (g * 3) orders) here.orders (given * 3), drop-append-add (take (g * 3) orders) here.orders (given * 3), taken, dropped) refl;
          }

-- ---- the slices that are lent for one request

-- the words from a place on, and a slice with others in their place
rest_of : (l : List ℕ) (n : ℕ) → take (length l - n) (drop n l) ≡ drop n l
rest_of l n = take_all (length l - n) (drop n l) (let e = length-drop n l in omega arith)

put_rest : (l m : List ℕ) (n : ℕ) → put_mid n (length l - n) l m ≡ take n l ++ m
put_rest l m n = rw (drop_of_length-le (drop n l) {i = length l - n} (let e = length-drop n l in omega arith), append-nil)

module _ {whole : After} {requests table orders answers : List ℕ} {d g : ℕ} (k : Doing whole requests table orders answers d g)
    (h : d * 3 + 3 ≤ length requests) (i : d * 2 + 2 ≤ length answers) {r : Answer} {t o : List ℕ}
    (e : left r t o ≡ first (take (length requests - d * 3) (drop (d * 3) requests)) table (take (length orders - g * 3) (drop (g * 3) orders)))
    (len : length o ≡ length (take (length orders - g * 3) (drop (g * 3) orders))) where
  abbrev words : List ℕ
  words = drop (d * 3) requests

  abbrev named : Option Request
  named = plain_of (get_or words 0 0) (get_or words 1 0) (get_or words 2 0)

  done_is : left r t o ≡ first words table (drop (g * 3) orders)
  done_is = e ∙ rw (rest_of requests (d * 3), rest_of orders (g * 3))

  same_orders : length (first words table (drop (g * 3) orders)).orders ≡ length (drop (g * 3) orders)
  same_orders = sym (ap (λ (x : Left). length x.orders) done_is) ∙ len ∙ ap length (rest_of orders (g * 3))

  long : 3 ≤ length words
  long = let l = length-drop (d * 3) requests in omega arith

  enough : 2 ≤ length (drop (d * 2) answers)
  enough = let l = length-drop (d * 2) answers in omega arith

  -- it lacks order words, so nothing has changed
  pub one_lacks : eqb (answer_number r) 2 ≡ true → after (record { verdict = Err refusal.OrderWords; done = d; orders = g }) t (put_mid (g * 3) (length orders - g * 3) orders o) answers ≡ whole
  one_lacks n =
      let x = first words table (drop (g * 3) orders) in
      let lacks : lacks_words x ≡ true = ap lacks_words (sym done_is) ∙ n in
      let same = done_is ∙ lacking_same table (drop (g * 3) orders) k.passes named lacks in
      rw (put_rest orders o (g * 3), ap (λ (y : Left). y.table) same, ap (λ (y : Left). y.orders) same, take-append-drop (g * 3) orders)
      (doing_end k (Err refusal.OrderWords) (no_words words table (drop (g * 3) orders) (drop (d * 2) answers) long enough lacks))

  -- else it is done
  pub one_done : {w : RawAnswer} → w ≡ answer_numbers r → eqb (answer_number r) 2 ≡ false → Doing whole requests t (put_mid (g * 3) (length orders - g * 3) orders o) (set (set answers (d * 2) w.number) (d * 2 + 1) w.orders) (d + 1) (g + w.orders)
  one_done as-told n =
      let goes : lacks_words (first words table (drop (g * 3) orders)) ≡ false = ap lacks_words (sym done_is) ∙ n in
      rw (put_rest orders o (g * 3), as-told)
      (subst
      (λ (x : Left). Doing whole requests x.table (take (g * 3) orders ++ x.orders) (set (set answers (d * 2) (answer_number x.answer)) (d * 2 + 1) (answer_orders x.answer)) (d + 1) (g + answer_orders x.answer))
      (sym done_is)
      (doing_next k h i (still_passes table (drop (g * 3) orders) k.passes named (plain_floats (get_or words 0 0) (get_or words 1 0) (get_or words 2 0)))
      (orders_fit table (drop (g * 3) orders) k.passes named same_orders) goes))

  -- and what is kept of the held bytes holds
  pub held_next : {w : RawAnswer} → w ≡ answer_numbers r → (n : ℕ) → n ≡ get_or requests (d * 3) 0 → (known : Held) → HeldIs known (cache_in table) → (next : Held) → next ≡ kept_for n w.orders known → HeldIs next (cache_in t)
  held_next {w} as-told n named-is known h next e =
      let same : get_or words 0 0 ≡ n = get_or-drop (d * 3) requests 0 0 ∙ ap (λ (m : ℕ). get_or requests m 0) (add-zero (d * 3)) ∙ sym named-is in
      subst (λ (x : Held). HeldIs x (cache_in t)) (sym e)
      (subst (λ (x : Left). HeldIs (kept_for n w.orders known) (cache_in x.table)) (sym done_is)
      (subst (λ (m : ℕ). HeldIs (kept_for m w.orders known) (cache_in (first words table (drop (g * 3) orders)).table)) same
      (held_kept table (drop (g * 3) orders) k.passes (get_or words 0 0) (get_or words 1 0) (get_or words 2 0) w.orders
      (ap (λ (u : RawAnswer). u.orders) as-told ∙ ap (λ (x : Left). answer_orders x.answer) done_is) known h)))
