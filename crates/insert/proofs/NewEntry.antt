-- A new entry: what adding it asks, and that it is dirty at the head with its size in the byte count.
use Prim.Native.Nat.{ℕ, ◌+◌, min}
use mathlib.Core.Bool.{true, false}
use mathlib.Core.List.{List}
use Rattle.std.specs.Prelude.{None}
use mathlib.Core.Path.{◌≡◌, sym, ap, subst, ◌∙◌}
use Rattle.rules.proofs.Effects.{new_allowed}
use Rattle.rules.specs.Cache.{Cache, with_count}
use Rattle.rules.specs.Entries.{new_entry}
use Rattle.rules.specs.Limits.{count_stop}
use Rattle.rules.specs.Refusals.{bad_address, bad_size}
use Rattle.rules.specs.Rows.{get, has_free}
use Rattle.rules.specs.declared.entry.Entry.{Entry}
use Rattle.rules.specs.declared.entry.Hold.TheVariants.{Unheld}
use Rattle.layout.proofs.Held.{holds_cache, onward}
use Rattle.layout.specs.Holds.{Holds}
use Rattle.layout.specs.Picture.{cache_in, rest_in}
use Rattle.table.specs.Asked.{GoodRows, Addable}
use Rattle.table.specs.Told.{added}
use Rattle.insert.specs.Inserted.{inserted_in}

module _ (a s : ℕ) where
  -- an address and a size that are not refused
  module _ (ok : bad_address a ≡ false) (sized : bad_size s ≡ false) where
    -- what adding the entry asks
    pub new_asks : {ws : List ℕ} {rows : ℕ} {e : Entry} → GoodRows ws rows → has_free (cache_in ws).rows ≡ true → get (cache_in ws).rows a ≡ None → e ≡ new_entry a s true Unheld
        → GoodRows ws rows × Addable (cache_in ws) e
    new_asks {ws} g f n p = (g, subst (Addable (cache_in ws)) (sym p) (record { free = f; absent = n; allowed = new_allowed a s ok sized true Unheld tt }))

  -- the entry is added, and the count that is read then adds its size
  pub new_added : (c : Cache) {vs ws rest : List ℕ} {e : Entry} {m n : ℕ} → e ≡ new_entry a s true Unheld → Holds vs (added e c) rest → m ≡ (cache_in vs).count → n ≡ min (m + s) count_stop
      → Holds ws (with_count n (cache_in vs)) (rest_in vs) → Holds ws (inserted_in a s c) rest
  new_added c {vs} {ws} {rest} {n = n} p h q r k =
      let i : Holds vs (added (new_entry a s true Unheld) c) rest = subst (λ (x : Entry). Holds vs (added x c) rest) p h in
      subst (λ (j : ℕ). Holds ws (with_count j (added (new_entry a s true Unheld) c)) rest)
      (r ∙ ap (λ (j : ℕ). min (j + s) count_stop) (q ∙ ap (λ (d : Cache). d.count) (holds_cache i)))
      (onward (with_count n) i k)
