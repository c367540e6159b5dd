-- Room for a new entry: the flash keeps the rows, so the orders that can come still fit, and the room is the rules'.
use Prim.Native.Nat.{ℕ, ◌+◌}
use mathlib.Core.Bool.{true, false}
use mathlib.Core.List.{List}
use Rattle.std.specs.Prelude.{None}
use mathlib.Core.Path.{◌≡◌, refl, sym, ap, ◌∙◌}
use lib.ListN.{length}
use native.Mathlib.Omega.{arith}
use Rattle.rules.proofs.Effects.{flash_elim, Ready, ready}
use Rattle.rules.proofs.Moved.{left, moved}
use Rattle.rules.specs.Allowed.{Sound}
use Rattle.rules.specs.Refusals.{no_row}
use Rattle.rules.specs.Rows.{get, passes, has_free}
use Rattle.rules.specs.Cache.{Cache, start}
use Rattle.rules.specs.Resizing.{flashed}
use Rattle.rules.specs.Room.{make_room}
use Rattle.reason_rules.specs.declared.Reason.{Reason}
use Rattle.reason_rules.specs.Reasons.{room_reasons}
use Rattle.layout.proofs.Held.{holds_cache, holds_rest}
use Rattle.layout.specs.Holds.{Holds}
use Rattle.layout.specs.Picture.{cache_in, rest_in}
use Rattle.table.proofs.Told.{good_rows}
use Rattle.table.specs.Asked.{GoodRows}
use Rattle.room.specs.Did.{Did, Fits}

module _ (x : ℕ) (c : Cache) {table₁ rest : List ℕ} (h : Holds table₁ (flashed x c) rest) where
  flashed_rows : (flashed x c).rows ≡ c.rows
  flashed_rows = flash_elim (λ (d : Cache). d.rows ≡ c.rows) x c (λ n i j b. refl)

  pub flash_good : {rows : ℕ} → rows ≡ length c.rows → GoodRows table₁ rows
  flash_good e = good_rows h (e ∙ sym (ap length flashed_rows))

  pub flash_fits : (lent : List ℕ) → Fits c 0 lent → Fits (cache_in table₁) 0 lent
  flash_fits lent f = rw (holds_cache h, flashed_rows) f

  pub room_made_whole : {table lent words : List ℕ} {given : ℕ} → Did (make_room x true (start (cache_in table₁))) (rest_in table₁) table 0 lent words given
      → Did (make_room x true (start (flashed x c))) rest table 0 lent words given
  room_made_whole d = rw (holds_cache h, holds_rest h) at d

  pub room_reasons_told : {l : List Reason} → l ≡ room_reasons x true (start (cache_in table₁)) → l ≡ room_reasons x true (start (flashed x c))
  room_reasons_told i = i ∙ ap (λ (d : Cache). room_reasons x true (start d)) (holds_cache h)

-- ---- what the table then has: a free row, no entry at the address, and the orders that can still come

module _ (c : Cache) (a s : ℕ) (k : Sound c) (n : get c.rows a ≡ None) (f : no_row c ≡ false) {table rest lent words : List ℕ} {given : ℕ}
    (d : Did (make_room s true (start (flashed s c))) rest table 0 lent words given) where
  ready_for : Ready a s c
  ready_for = ready a s c k (ap (passes (λ e. true)) n) f

  pub admitted_good : {rows : ℕ} → rows ≡ length c.rows → GoodRows table rows
  admitted_good e = good_rows d.holds (e ∙ sym (moved ready_for.moves k).kept.rows)

  pub admitted_free : has_free (cache_in table).rows ≡ true
  admitted_free = rw (holds_cache d.holds) ready_for.free

  pub admitted_absent : get (cache_in table).rows a ≡ None
  admitted_absent = rw (holds_cache d.holds) ready_for.absent

  pub admitted_left : given + left (cache_in table) ≡ left c
  admitted_left = rw (holds_cache d.holds) (let e = d.number in let o = (moved ready_for.moves k).orders in omega arith)
