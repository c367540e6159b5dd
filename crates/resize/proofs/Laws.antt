-- A size named for an entry: a flash keeps the rows and the byte count, and the count adds the size of a clean entry.
use Prim.Native.Nat.{ℕ, ◌+◌, ◌-◌, min}
use mathlib.Core.Bool.{Bool, true, false}
use mathlib.Core.List.{List}
use Rattle.std.specs.Prelude.{Some, Option}
use mathlib.Core.Path.{◌≡◌, refl, sym, ap, ap₂, subst, ◌∙◌}
use lib.Dec.{ltb}
use Rattle.rules.proofs.Tests.{choose}
use Rattle.rules.specs.Cache.{Cache, with_count}
use Rattle.rules.specs.Limits.{count_stop}
use Rattle.rules.specs.Requests.{adds, growth, named}
use Rattle.rules.specs.Resizing.{flashed, flashed_to}
use Rattle.rules.specs.Rows.{get}
use Rattle.rules.specs.declared.entry.Entry.{Entry}
use Rattle.reason_rules.specs.declared.Change.{Change}
use Rattle.reason_rules.specs.Reasons.{flash_change}
use Rattle.reasons.specs.Changes.{change_of}
use Rattle.layout.proofs.Held.{holds_cache, onward}
use Rattle.layout.specs.Holds.{Holds}
use Rattle.layout.specs.Picture.{cache_in, rest_in}
use Rattle.table.proofs.Told.{told_size, told_dirty}

-- ---- what a flash keeps

pub flashed_rows : (x : ℕ) (c : Cache) → (flashed x c).rows ≡ c.rows
unfolding flashed
flashed_rows x c = choose (λ (d : Cache). d.rows ≡ c.rows) (ltb c.maximum (flashed_to x c)) (λ p. refl) (λ p. refl)

pub flashed_count : (x : ℕ) (c : Cache) → (flashed x c).count ≡ c.count
unfolding flashed
flashed_count x c = choose (λ (d : Cache). d.count ≡ c.count) (ltb c.maximum (flashed_to x c)) (λ p. refl) (λ p. refl)

-- ---- a named size

module _ (c : Cache) (a s : ℕ) (e : Entry) (g : get c.rows a ≡ Some e) (x : ℕ) (p : x ≡ s - e.size) where
  grows : x ≡ growth a s c
  grows = p ∙ ap (λ (n : ℕ). s - n) (told_size c.rows a e g)

  -- the change of the flash by x
  pub named_change : {y : Option Change} → y ≡ change_of (flash_change x c) → y ≡ change_of (flash_change (growth a s c) c)
  named_change i = i ∙ ap (λ (n : ℕ). change_of (flash_change n c)) grows

  -- the entry is dirty, so the count stays
  pub named_dirty : {ws rest : List ℕ} → e.dirty ≡ true → Holds ws (flashed x c) rest → Holds ws (named a s c) rest
  named_dirty {ws} {rest} d h =
      subst (λ (k : Cache). Holds ws k rest)
      (ap (λ (y : ℕ). flashed y c) grows
      ∙ ap (λ (m : ℕ). with_count m (flashed (growth a s c) c))
      (flashed_count (growth a s c) c ∙ ap (λ (t : Bool). adds t s c.count) (sym d ∙ told_dirty c.rows a e g)))
      h

  -- the entry is clean, and the count that was read adds the size
  pub named_clean : {vs ws rest : List ℕ} (m n : ℕ) → e.dirty ≡ false → Holds vs (flashed x c) rest → m ≡ (cache_in vs).count → n ≡ min (m + s) count_stop
      → Holds ws (with_count n (cache_in vs)) (rest_in vs) → Holds ws (named a s c) rest
  named_clean {vs} {ws} {rest} m n d h q r k =
      let same : m ≡ c.count = q ∙ ap (λ (b : Cache). b.count) (holds_cache h) ∙ flashed_count x c in
      subst (λ (b : Cache). Holds ws b rest)
      (ap₂ (λ (i y : ℕ). with_count i (flashed y c))
      (r ∙ ap (λ (i : ℕ). min (i + s) count_stop) same ∙ ap (λ (t : Bool). adds t s c.count) (sym d ∙ told_dirty c.rows a e g))
      grows)
      (onward (with_count n) h k)
