-- The two steps: what the first leaves lets the second begin, and both together are the rule.
use Prim.Native.Nat.{ℕ, ◌+◌, ◌*◌, ◌-◌, ◌<◌}
use mathlib.Core.Bool.{Bool, true, false, true≢false, ◌||◌}
use mathlib.Core.List.{List, [], append-nil}
use mathlib.Core.Path.{◌≡◌, refl, sym, ap, subst, ◌∙◌}
use native.Mathlib.Omega.{arith}
use lib.ListN.{length}
use borrow.Author.Tests.{lt-ltb, le-ltb}
use Rattle.rules.proofs.Moved.{Moved, moved}
use Rattle.rules.proofs.Moves.{tail_turns, turns_move}
use Rattle.rules.proofs.Tests.{choose, either, or_false, or_true}
use Rattle.rules.specs.Loops.{turn_in}
use Rattle.reason_rules.specs.declared.Reason.{Reason}
use Rattle.reason_rules.specs.Reasons.{first_pass, room_reasons}
use Rattle.reason_rules.proofs.Choices.{if_true, if_false}
use Rattle.rules.specs.Refusals.{is_alone}
use Rattle.rules.specs.Cache.{Cache, Work, start, with_exceeded}
use Rattle.rules.specs.Room.{clean_turn, evict_by, overfull, write_dirty, room_in, noticed, make_room}
use Rattle.rules.specs.Rows.{held_bytes}
use Rattle.settings.specs.declared.Mode.{Mode}
use Rattle.settings.specs.declared.Mode.TheVariants.{Alone, Lead, Standby}
use Rattle.layout.proofs.Held.{holds_cache, holds_rest}
use Rattle.layout.specs.Holds.{Good, Holds}
use Rattle.layout.specs.Picture.{cache_in, rest_in}
use Rattle.table.proofs.Told.{good_rows}
use Rattle.table.specs.Asked.{GoodRows}
use Rattle.room.proofs.After.{same_work, dirty_carries}
use Rattle.room.proofs.Kept.{did_start}
use Rattle.room.proofs.Orders.{did_then}
use Rattle.room.specs.After.{after}
use Rattle.room.specs.Did.{Did, Fits, Stopped}
use Rattle.room.specs.First.{turn_in as turn_by, evict_in}
use Rattle.room.specs.Made.{two_runs}
use Rattle.room.specs.declared.pass.Evicted.{Evicted}

-- the mode's rule, by whether the mode may write
module _ (x : ℕ) (row : Bool) (w : Work) where
  room_alone : (m : Mode) → is_alone m ≡ true → room_in m x row w ≡ room_in Alone x row w
  room_alone Alone h = refl
  room_alone Lead h = absurd (true≢false (sym h))
  room_alone Standby h = absurd (true≢false (sym h))

  room_other : (m : Mode) → is_alone m ≡ false → room_in m x row w ≡ evict_by clean_turn x row w
  unfolding room_in
  room_other Alone h = absurd (true≢false h)
  room_other Lead h = refl
  room_other Standby h = refl

-- the held bytes that the first step leaves are those of the table
pub held_left : {x : ℕ} {row : Bool} {w : Work} {rest table lent words : List ℕ} {before : ℕ} {r : Evicted}
    → Stopped x row w rest table before lent words r → r.held ≡ held_bytes (cache_in table).rows
held_left s = s.held ∙ ap (λ (c : Cache). held_bytes c.rows) (sym (holds_cache s.did.holds))

module _ {table lent table₁ words₁ : List ℕ} {rows before given : ℕ} {alone : Bool} (x : ℕ) (row : Bool) (g : GoodRows table rows)
    (d : Did (evict_in alone x row (cache_in table)) (rest_in table) table₁ before lent words₁ given) where
  -- in the other modes the first step is all
  pub other_joins : alone ≡ is_alone (cache_in table).mode → alone ≡ false
      → Did (room_in (cache_in table).mode x row (start (cache_in table))) (rest_in table) table₁ before lent words₁ given
  other_joins m a = rw (room_other x row (start (cache_in table)) (cache_in table).mode (sym m ∙ a)) (rw a at d)

  module _ (a : alone ≡ true) where
    first : Did (evict_in true x row (cache_in table)) (rest_in table) table₁ before lent words₁ given
    first = rw a at d

    first_moved : Moved (start (cache_in table)) (evict_in true x row (cache_in table))
    first_moved =
        let s = g.good.steady.sound in
        moved (turns_move (tail_turns {sets = false}) (2 * length (cache_in table).rows) x row (start (cache_in table)) s) s

    pub first_good : GoodRows table₁ rows
    first_good = good_rows first.holds (g.size ∙ sym first_moved.kept.rows)

    -- each order given is one that can't come any more
    pub first_fits : Fits (cache_in table) before lent → length words₁ ≡ length lent → Fits (cache_in table₁) given words₁
    first_fits f l =
        let o = first_moved.orders in
        let e = first.number in
        rw (holds_cache first.holds) (omega arith)

    pub alone_joins : {table₂ words₂ : List ℕ} {r : ℕ} → alone ≡ is_alone (cache_in table).mode
        → Did (write_dirty x (cache_in table₁).recency (start (cache_in table₁))) (rest_in table₁) table₂ given words₁ words₂ r
        → Did (room_in (cache_in table).mode x row (start (cache_in table))) (rest_in table) table₂ before lent words₂ r
    unfolding room_in
    alone_joins {table₂} {words₂} {r} m e =
        let v = evict_in true x row (cache_in table) in
        let q : Did (write_dirty x v.cache.recency (start v.cache)) (rest_in table) table₂ given words₁ words₂ r = rw (holds_cache first.holds, holds_rest first.holds) at e in
        let same : after v.orders (start v.cache) ≡ v = same_work v.orders refl (append-nil v.orders) in
        subst (λ (w : Work). Did w (rest_in table) table₂ before lent words₂ r)
        (sym (dirty_carries v.orders x v.cache.recency (start v.cache)) ∙ ap (write_dirty x v.cache.recency) same
        ∙ sym (room_alone x row (start (cache_in table)) (cache_in table).mode (sym m ∙ a)))
        (did_then first q)

-- ---- what is noted at the start

pub good_here : {table : List ℕ} → Good table → GoodRows table (length (cache_in table).rows)
good_here g = record { good = g; size = refl }

module _ (x : ℕ) (c : Cache) {maximum held : ℕ} (m : maximum ≡ c.maximum) (h : held ≡ held_bytes c.rows) where
  pub noted_above : {table rest : List ℕ} → maximum < held + x → Holds table (with_exceeded true c) rest → Holds table (noticed x (start c)).cache rest
  noted_above {table} {rest} l k =
      subst (λ (b : Bool). Holds table (with_exceeded b c) rest)
      (sym (ap (λ (t : Bool). c.exceeded || t) (lt-ltb c.maximum (held_bytes c.rows + x) (omega arith)) ∙ or_true c.exceeded)) k

  pub noted_within : {table rest : List ℕ} → (maximum < held + x → ⊥) → Holds table c rest → Holds table (noticed x (start c)).cache rest
  noted_within {table} {rest} l k =
      subst (λ (b : Bool). Holds table (with_exceeded b c) rest)
      (sym (ap (λ (t : Bool). c.exceeded || t) (le-ltb c.maximum (held_bytes c.rows + x) (omega arith)) ∙ or_false c.exceeded)) k

-- the steps after it go on from the table that has it
module _ (table : List ℕ) {table₁ : List ℕ} (x : ℕ) (n : Holds table₁ (noticed x (start (cache_in table))).cache (rest_in table)) where
  pub noted_good : {rows : ℕ} → GoodRows table rows → GoodRows table₁ rows
  noted_good g = good_rows n g.size

  pub noted_fits : (before : ℕ) (lent : List ℕ) → Fits (cache_in table) before lent → Fits (cache_in table₁) before lent
  noted_fits before lent f = rw (holds_cache n) f

  pub noted_held : {held : ℕ} → held ≡ held_bytes (cache_in table).rows → held ≡ held_bytes (cache_in table₁).rows
  noted_held h = rw (holds_cache n) h

  pub noted_joins : {table₂ lent words : List ℕ} {before given : ℕ} (row : Bool)
      → Did (room_in (cache_in table₁).mode x row (start (cache_in table₁))) (rest_in table₁) table₂ before lent words given
      → Did (room_in (cache_in table).mode x row (noticed x (start (cache_in table)))) (rest_in table) table₂ before lent words given
  noted_joins row d = rw (holds_cache n, holds_rest n) at d

-- ---- evictions on or off

pub room_off : {table lent : List ℕ} {before : ℕ} (x : ℕ) (row : Bool) → Good table → (cache_in table).settings.evictions ≡ false
    → Did (make_room x row (start (cache_in table))) (rest_in table) table before lent lent before
unfolding make_room
room_off {table} {lent} {before} x row g e =
    choose (λ (w : Work). Did w (rest_in table) table before lent lent before) (cache_in table).settings.evictions (λ h. either (cache_in table).settings.evictions h e) (λ h. did_start g)

pub room_on : (x : ℕ) (row : Bool) (c : Cache) {rest table lent words : List ℕ} {before r : ℕ} → c.settings.evictions ≡ true
    → Did (room_in c.mode x row (noticed x (start c))) rest table before lent words r → Did (make_room x row (start c)) rest table before lent words r
unfolding make_room
room_on x row c {rest} {table} {lent} {words} {before} {r} e d =
    choose (λ (w : Work). Did w rest table before lent words r) c.settings.evictions (λ h. d) (λ h. either c.settings.evictions e h)

-- ---- the reasons

-- a turn by whether the mode may write is the mode's
turn_is : (m : Mode) (x : ℕ) (row : Bool) (w : Work) → evict_by (turn_by (is_alone m)) x row w ≡ evict_by (turn_in m) x row w
turn_is Alone x row w = refl
turn_is Lead x row w = refl
turn_is Standby x row w = refl

module _ (x : ℕ) (row : Bool) (c : Cache) where
  pub reasons_off : c.settings.evictions ≡ false → {l : List Reason} → l ≡ [] → l ≡ room_reasons x row (start c)
  unfolding room_reasons
  reasons_off e p = p ∙ sym (if_false c.settings.evictions _ [] e)

  -- each step's orders are as many as it gave
  pub reasons_on : {alone exceeded : Bool} (before first given : ℕ) → c.settings.evictions ≡ true → alone ≡ is_alone c.mode → exceeded ≡ overfull x c
      → first ≡ before + length (evict_in alone x row (noticed x (start c)).cache).orders → given ≡ before + length (make_room x row (start c)).orders
      → two_runs exceeded (first - before) (given - first) ≡ room_reasons x row (start c)
  unfolding room_reasons
  reasons_on {alone} {exceeded} before first given e a o p q =
      let u = first_pass x row (start c) in
      let i : first ≡ before + length u.orders =
      p ∙ ap (λ (w : Work). before + length w.orders) (ap (λ (b : Bool). evict_in b x row (noticed x (start c)).cache) a ∙ turn_is c.mode x row (noticed x (start c))) in
      let j : first - before ≡ length u.orders - 0 = omega arith in
      let k : given - first ≡ length (make_room x row (start c)).orders - length u.orders = omega arith in
      rw (o, j, k) (sym (if_true c.settings.evictions _ [] e))
