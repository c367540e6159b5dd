-- What take's tests tell, each where it is made.
use Rattle.std.specs.Prelude.{Ok, Err}
use Prim.Native.Nat.{ℕ, ◌-◌, ◌<◌, ◌≤◌}
use mathlib.Core.Bool.{Bool, true, false, not, ◌||◌}
use mathlib.Core.List.{List}
use mathlib.Core.Path.{◌≡◌, refl, sym, ap, subst, ◌∙◌}
use native.Mathlib.Omega.{arith}
use lib.Dec.{eqb}
use lib.ListN.{length, take, drop}
use Rattle.rules.specs.Types.{Answer}
use Rattle.rules.specs.Answers.{verdict_in}
use Rattle.rules.specs.declared.answer.Refusal.{Refusal}
use Rattle.rules.specs.declared.answer.Refusal.TheVariants as refusal
use Rattle.rules.specs.declared.request.Request.TheVariants.{Take}
use Rattle.rules.specs.Addresses.{elem}
use Rattle.rules.specs.Cache.{Cache}
use Rattle.rules.specs.Limits.{all_ones, most_rows}
use Rattle.rules.specs.Messages as messages
use Rattle.rules.specs.Messages.{Message, addresses_in, read_message}
use Rattle.rules.specs.Refusals.{tests, not_next, bad_list, is_standby}
use Rattle.std.specs.Prelude.{Result, Ok, Err}
use Rattle.message.specs.Reads.{KeptOf, numbered, read_as}
use Rattle.message.specs.declared.read.NumberedList.{NumberedList}
use Rattle.message.specs.declared.read.BadMessage.{BadMessage}
use Rattle.message.specs.declared.read.BadMessage.TheVariants.{Cut, Malformed}
use Rattle.taken_list.proofs.Marked.{long_bad}
use Rattle.taken_list.specs.Listed.{JudgedBad}
use Rattle.verdicts.proofs.Telling.{done, stops, past}
use Rattle.verdicts.specs.Tells.{Tells}
use Rattle.table_tests.specs.Noted.{right_tests, TestedRight, TestedAs, Right}

refused_not : (r : Refusal) (k : ℕ) → ◌≡◌ {A = Answer} (Err r) (Ok k) → ⊥
refused_not r k e = let z : ◌≡◌ {A = ℕ} 0 1 = cc in omega arith

-- ---- a right message

pub turn_is : (c : Cache) (n : ℕ) {next : ℕ} {b : Bool} → next ≡ c.next → b ≡ (eqb next 0 || not (eqb n next)) → b ≡ not_next c n
turn_is c n e r = r ∙ ap (λ (k : ℕ). eqb k 0 || not (eqb n k)) e

module _ (c : Cache) (n : ℕ) (l words named : List ℕ) (t : Answer) where
  pub right_refused : (r : Refusal) → t ≡ Err r → Tells (Err r) (right_tests c n l) → TestedRight c n l named t
  right_refused r e k = record { tells = record { same = ap verdict_in e ∙ k.same }; noted = λ i a. absurd (refused_not r i (sym e ∙ a)) }

  module _ {k : ℕ} {b : Bool} (r : Right l words k b) {turn : Bool} (u : turn ≡ not_next c n) where
    pub right_number : t ≡ Err refusal.Number → turn ≡ true → TestedRight c n l named t
    right_number e p = right_refused refusal.Number e (stops (sym u ∙ p))

    module _ (p : turn ≡ false) where
      pub right_ones : t ≡ Err refusal.Address → b ≡ true → TestedRight c n l named t
      right_ones e q = right_refused refusal.Address e (past (sym u ∙ p) (stops (sym r.ones ∙ q)))

      module _ (q : b ≡ false) where
        bad_stops : t ≡ Err refusal.List → bad_list c l ≡ true → TestedRight c n l named t
        bad_stops e x = right_refused refusal.List e (past (sym u ∙ p) (past (sym r.ones ∙ q) (stops x)))

        pub right_long : t ≡ Err refusal.List → length c.rows ≤ most_rows → most_rows < k → TestedRight c n l named t
        right_long e f h = bad_stops e (long_bad c.rows l (omega (arith, r.count)))

        module _ (few : k ≤ most_rows) where
          part_is : take (k - 0) (drop 0 words) ≡ l
          part_is =
              let e : k - 0 ≡ length l = omega (arith, r.count) in
              ap (λ (m : ℕ). take m words) e ∙ r.kept.all (omega (arith, r.count))

          module _ {bad : Bool} (j : JudgedBad c.rows (take (k - 0) (drop 0 words)) named bad) where
            judged : JudgedBad c.rows l named bad
            judged = subst (λ (m : List ℕ). JudgedBad c.rows m named bad) part_is j

            pub right_bad : t ≡ Err refusal.List → bad ≡ true → TestedRight c n l named t
            right_bad e x = bad_stops e (sym judged.verdict ∙ x)

            pub right_good : t ≡ Ok k → bad ≡ false → TestedRight c n l named t
            right_good e x = record {
              tells = record { same = ap verdict_in e ∙ (past {r = refusal.Number} (sym u ∙ p) (past {r = refusal.Address} (sym r.ones ∙ q) (past {r = refusal.List} (sym judged.verdict ∙ x) done))).same };
              noted = λ i a. let q : ◌≡◌ {A = Answer} (Ok k) (Ok i) = sym e ∙ a in let p : k ≡ i = cc in record { count = sym p ∙ r.count; rows = judged.noted x };
            }

-- ---- any bytes

-- the words for addresses are as many as there were
pub kept_long : (m : Message) (words : List ℕ) {x : Result NumberedList BadMessage} {n k : ℕ} {b : Bool} → x ≡ read_as m → x ≡ Ok (numbered n k b) → KeptOf m words → length words ≡ most_rows
kept_long (messages.right i l) words e y a = a.long
kept_long messages.early words {n = n} {k} {b} e y a = let q : Err Cut ≡ Ok (numbered n k b) = sym e ∙ y in absurd (let z : ◌≡◌ {A = ℕ} 0 1 = cc in omega arith)
kept_long messages.malformed words {n = n} {k} {b} e y a = let q : Err Malformed ≡ Ok (numbered n k b) = sym e ∙ y in absurd (let z : ◌≡◌ {A = ℕ} 0 1 = cc in omega arith)

-- what a message is, by what was read
cut_as : (y : Message) → Err Cut ≡ read_as y → y ≡ messages.early
cut_as (messages.right n l) e = cc
cut_as messages.early e = refl
cut_as messages.malformed e = cc

malformed_as : (y : Message) → Err Malformed ≡ read_as y → y ≡ messages.malformed
malformed_as (messages.right n l) e = cc
malformed_as messages.early e = cc
malformed_as messages.malformed e = refl

module _ (c : Cache) (message named : List ℕ) (t : Answer) where
  refused_as : (r : Refusal) → t ≡ Err r → ((lent : ℕ) → Tells (Err r) (tests c lent message Take)) → TestedAs c message named t
  refused_as r e k = record { tells = λ lent. record { same = ap verdict_in e ∙ (k lent).same }; noted = λ i a. absurd (refused_not r i (sym e ∙ a)) }

  module _ {s : Bool} (m : s ≡ is_standby c.mode) where
    pub not_standby : t ≡ Err refusal.Mode → not s ≡ true → TestedAs c message named t
    unfolding tests
    not_standby e h = refused_as refusal.Mode e (λ lent. stops (ap not (sym m) ∙ h))

    module _ (h : not s ≡ false) {x : Result NumberedList BadMessage} (r : x ≡ read_as (read_message message)) where
      standby : not (is_standby c.mode) ≡ false
      standby = ap not (sym m) ∙ h

      pub is_cut : t ≡ Err refusal.Cut → x ≡ Err Cut → TestedAs c message named t
      unfolding tests
      is_cut e y =
          let q = cut_as (read_message message) (sym y ∙ r) in
          refused_as refusal.Cut e (λ lent. rw q (past standby (past refl (stops refl))))

      pub is_malformed_same : t ≡ Err refusal.Malformed → x ≡ Err Malformed → TestedAs c message named t
      unfolding tests
      is_malformed_same e y =
          let q = malformed_as (read_message message) (sym y ∙ r) in
          refused_as refusal.Malformed e (λ lent. rw q (past standby (stops refl)))

      -- a right one: the tests from its number on
      pub is_right : (words : List ℕ) {n k : ℕ} {b : Bool} → x ≡ Ok (numbered n k b) → KeptOf (read_message message) words
          → ((l : List ℕ) → Right l words k b → TestedRight c n l named t) → TestedAs c message named t
      unfolding tests
      is_right words {n} {k} {b} y a f = go (read_message message) refl
        where
          go : (z : Message) → read_message message ≡ z → TestedAs c message named t
          go (messages.right i l) e =
              let q : Ok (numbered n k b) ≡ Ok (numbered i (length l) (elem all_ones l)) = sym y ∙ r ∙ ap read_as e in
              let same : numbered n k b ≡ numbered i (length l) (elem all_ones l) = cc in
              let z : n ≡ i = ap (λ (x : NumberedList). x.number) same in
              let right : Right l words k b = record { count = ap (λ (x : NumberedList). x.count) same; ones = ap (λ (x : NumberedList). x.ones) same; kept = rw e at a } in
              let g = f l right in
              record {
                tells = λ lent. rw e (past standby (past refl (past refl (rw z at g.tells))));
                noted = λ i v. rw e (g.noted i v);
              }
          go messages.early e = let q : Ok (numbered n k b) ≡ Err Cut = sym y ∙ r ∙ ap read_as e in absurd (let z : ◌≡◌ {A = ℕ} 0 1 = cc in omega arith)
          go messages.malformed e = let q : Ok (numbered n k b) ≡ Err Malformed = sym y ∙ r ∙ ap read_as e in absurd (let z : ◌≡◌ {A = ℕ} 0 1 = cc in omega arith)
