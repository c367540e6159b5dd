-- The room-making loop: from what is left to do it comes to what the rule gives.
use Prim.Native.Nat.{ℕ, ◌+◌, ◌-◌, ◌<◌, ◌≤◌}
use mathlib.Core.Bool.{Bool, true, false, true≢false}
use mathlib.Core.List.{List, [], ◌∷◌, ◌++◌}
use mathlib.Core.Path.{◌≡◌, refl, sym, subst, ◌∙◌}
use native.Mathlib.Omega.{arith}
use lib.ListN.{length, get_or, drop}
use Rattle.rules.proofs.Found.{length_remove, length_amend}
use Rattle.rules.proofs.Moved.{left}
use Rattle.rules.specs.Allowed.{Sound}
use Rattle.rules.specs.Cache.{Cache, Work, give}
use Rattle.rules.specs.Entries.{cleaned}
use Rattle.rules.specs.Room.{lacking}
use Rattle.rules.specs.Rows.{dirty_at, size_at}
use Rattle.rules.specs.declared.order.Kind.{Kind}
use Rattle.rules.specs.declared.order.Order.{Order}
use Rattle.layout.proofs.Held.{holds_cache}
use Rattle.layout.specs.Picture.{cache_in, rest_in}
use Rattle.table.specs.Asked.{GoodRows}
use Rattle.table.specs.Told.{dropped, turned}
use Rattle.room.proofs.Kept.{Gave, work, Kept, kept_start, kept_gives, kept_told, left_evict, left_write, held_evict, Figures, figures_evict, figures_write}
use Rattle.room.proofs.Tail.{length_turned}
use Rattle.room.proofs.ToDo.{ToDo, to_do_start, to_do_enough, to_do_nothing, to_do_skip, to_do_turn, to_do_evict}
use Rattle.room.specs.Did.{Fits, stop_of, Stopped}
use Rattle.room.specs.First.{evict_in}
use Rattle.room.specs.declared.pass.Stop.{Stop}
use Rattle.room.specs.declared.pass.Stop.TheVariants.{Enough, NothingLeft}

pub record Making (alone : Bool) (x : ℕ) (row : Bool) (c₀ : Cache) (rows before : ℕ) (rest lent : List ℕ) (maximum : ℕ) (table words : List ℕ) (held : ℕ) (free : Bool) (listed pos given : ℕ) (c : Cache) : Type 0 where
  pub orders : List Order
  pub kept : Kept rows before rest lent table words given c orders
  pub figures : Figures maximum held free listed c
  pub low : pos ≤ listed
  pub tail : alone ≡ true → pos ≡ 0
  pub to_do : ToDo alone x row pos (work c orders) (evict_in alone x row c₀)

pub making_start : {rows before : ℕ} {table lent : List ℕ} {maximum held : ℕ} {free : Bool} {listed : ℕ} (alone : Bool) (x : ℕ) (row : Bool)
    → GoodRows table rows → Fits (cache_in table) before lent → Figures maximum held free listed (cache_in table)
    → Making alone x row (cache_in table) rows before (rest_in table) lent maximum table lent held free listed 0 before (cache_in table)
making_start {table = table} alone x row g f s = record {
  orders = [];
  kept = kept_start g f;
  figures = s;
  low = omega arith;
  tail = λ a. refl;
  to_do = to_do_start x row (cache_in table) alone g.good.steady.sound;
}

module _ {alone : Bool} {x : ℕ} {row : Bool} {c₀ : Cache} {rows before : ℕ} {rest lent : List ℕ} {maximum : ℕ} {table words : List ℕ} {held : ℕ} {free : Bool} {listed pos given : ℕ} {c : Cache}
    (k : Making alone x row c₀ rows before rest lent maximum table words held free listed pos given c) where
  making_sound : Sound c
  making_sound = k.kept.did.holds.steady.sound

  pub within : pos < listed → pos < length c.recency
  within p = let e = k.figures.listed_is in omega arith

  -- what an eviction takes off the held bytes is among them
  pub size_held : pos < listed → size_at c.rows (get_or c.recency pos 0) ≤ held
  size_held p = let e = k.figures.held_is in let h = held_evict c making_sound pos (within p) in omega arith

  at_tail : alone ≡ true → dirty_at c.rows (get_or c.recency pos 0) ≡ true → dirty_at c.rows (get_or c.recency 0 0) ≡ true
  at_tail a d = rw (k.tail a) at d

  -- an order given is one fewer to come
  pub evicts_one : pos < listed → dirty_at c.rows (get_or c.recency pos 0) ≡ false → left (dropped (get_or c.recency pos 0) c) + 1 ≡ left c
  evicts_one p = left_evict c making_sound pos (within p)

  pub turns_one : alone ≡ true → pos < listed → dirty_at c.rows (get_or c.recency pos 0) ≡ true → left (turned c) + 1 ≡ left c
  turns_one a p d = let q = within p in left_write c making_sound 0 (omega arith) (drop 1 c.recency ++ get_or c.recency 0 0 ∷ []) (at_tail a d)

  pub making_skip : alone ≡ false → pos < listed → dirty_at c.rows (get_or c.recency pos 0) ≡ true
      → Making alone x row c₀ rows before rest lent maximum table words held free listed (pos + 1) given c
  making_skip a p d = record {
    orders = k.orders;
    kept = k.kept;
    figures = k.figures;
    low = omega arith;
    tail = λ b. absurd (true≢false (sym b ∙ a));
    to_do = to_do_skip x row c k.orders pos (evict_in alone x row c₀) (within p) alone d k.to_do;
  }

  module _ (p : pos < listed) (l : lacking x row c ≡ true) {table' words' : List ℕ} {answer : ℕ} where
    pub making_turn : alone ≡ true → dirty_at c.rows (get_or c.recency pos 0) ≡ true
        → Gave Kind.Write (get_or c.recency 0 0) c (turned c) (rest_in table) table' given words words' answer
        → Making alone x row c₀ rows before rest lent maximum table' words' held free listed pos (given + 1) (turned c)
    making_turn a d g =
        let q = within p in
        let t = get_or c.recency 0 0 in
        record {
          orders = give Kind.Write t (size_at c.rows t) k.orders;
          kept = kept_gives k.kept (kept_told k.kept g) (length_amend t cleaned c.rows) (turns_one a p d);
          figures = figures_write k.figures t (drop 1 c.recency ++ t ∷ []) (length_turned c.recency (omega arith));
          low = k.low;
          tail = k.tail;
          to_do = to_do_turn x row c k.orders pos (evict_in alone x row c₀) q alone a (k.tail a) l (at_tail a d) k.to_do;
        }

    pub making_evict : dirty_at c.rows (get_or c.recency pos 0) ≡ false
        → Gave Kind.Evict (get_or c.recency pos 0) c (dropped (get_or c.recency pos 0) c) (rest_in table) table' given words words' answer
        → Making alone x row c₀ rows before rest lent maximum table' words' (held - answer) true (listed - 1) pos (given + 1) (dropped (get_or c.recency pos 0) c)
    making_evict d g =
        let q = within p in
        let a = get_or c.recency pos 0 in
        record {
          orders = give Kind.Evict a (size_at c.rows a) k.orders;
          kept = kept_gives k.kept (kept_told k.kept g) (length_remove a c.rows) (evicts_one p d);
          figures = rw g.size (figures_evict k.figures making_sound pos q);
          low = omega arith;
          tail = k.tail;
          to_do = to_do_evict x row c k.orders pos (evict_in alone x row c₀) q alone making_sound k.tail l d k.to_do;
        }

  ends : (stop : Stop) → stop ≡ stop_of x row (work c k.orders) → work c k.orders ≡ evict_in alone x row c₀
      → Stopped x row (evict_in alone x row c₀) rest table before lent words (record { stop = stop; held = held; given = given })
  ends stop s e =
      subst (λ (w : Work). Stopped x row w rest table before lent words (record { stop = stop; held = held; given = given })) e
      (record { did = k.kept.did; stop = s; held = k.figures.held_is })

  pub making_enough : lacking x row c ≡ false → Stopped x row (evict_in alone x row c₀) rest table before lent words (record { stop = Enough; held = held; given = given })
  making_enough l = ends Enough (rw l) (to_do_enough x row c k.orders pos (evict_in alone x row c₀) alone l k.to_do)

  pub making_nothing : lacking x row c ≡ true → listed ≤ pos → Stopped x row (evict_in alone x row c₀) rest table before lent words (record { stop = NothingLeft; held = held; given = given })
  making_nothing l h =
      let e = k.figures.listed_is in
      ends NothingLeft (rw l) (to_do_nothing x row c k.orders pos (evict_in alone x row c₀) alone k.tail (omega arith) k.to_do)

-- a cache that a table holds is the one in it
pub making_in : {alone : Bool} {x : ℕ} {row : Bool} {c₀ : Cache} {rows before : ℕ} {rest lent : List ℕ} {maximum : ℕ} {table words : List ℕ} {held : ℕ} {free : Bool} {listed pos given : ℕ} {c : Cache}
    → Making alone x row c₀ rows before rest lent maximum table words held free listed pos given c
    → Making alone x row c₀ rows before rest lent maximum table words held free listed pos given (cache_in table)
making_in {alone} {x} {row} {c₀} {rows} {before} {rest} {lent} {maximum} {table} {words} {held} {free} {listed} {pos} {given} {c} k =
    subst (λ (d : Cache). Making alone x row c₀ rows before rest lent maximum table words held free listed pos given d) (sym (holds_cache k.kept.did.holds)) k
