-- A flush names each of its writes flush, a sync each of its own sync.
use Prim.Native.Nat.{ℕ, ◌+◌, ◌-◌}
use mathlib.Core.List.{List, [], ◌∷◌, map}
use mathlib.Core.Path.{◌≡◌, refl, ap, ◌∙◌}
use native.Mathlib.Omega.{arith}
use lib.ListN.{length, replicate, length-map}
use Rattle.rules.specs.Cache.{Cache, start}
use Rattle.rules.specs.Rows.{dirty_rising}
use Rattle.rules.specs.Room.{write_dirty}
use Rattle.rules.specs.declared.request.Request.TheVariants.{Flush, Sync}
use Rattle.reason_rules.specs.declared.Reason.{Reason}
use Rattle.reason_rules.specs.declared.Reason.TheVariants as reason
use Rattle.reason_rules.specs.Reasons.{reasons_of}
use Rattle.lists.specs.Flushed.{all_written}
use Rattle.lists.proofs.Flushing.{write_of}

named_each : (r : Reason) (l : List ℕ) → replicate (length l) r ≡ map (λ a. r) l
named_each r [] = refl
named_each r (a ∷ l) = ap (λ (m : List Reason). r ∷ m) (named_each r l)

module _ (c : Cache) {given : ℕ} {l : List Reason} where
  pub flush_named : given ≡ 0 + length (all_written c).orders → l ≡ replicate given reason.Flush → l ≡ reasons_of c Flush
  unfolding reasons_of
  flush_named e i =
      let m = length-map (dirty_rising c.rows) (write_of c.rows) in
      let n : given ≡ length (dirty_rising c.rows) = omega arith in
      i ∙ ap (λ (k : ℕ). replicate k reason.Flush) n ∙ named_each reason.Flush (dirty_rising c.rows)

  pub sync_named : given ≡ 0 + length (write_dirty 0 c.recency (start c)).orders → l ≡ replicate given reason.Sync → l ≡ reasons_of c Sync
  unfolding reasons_of
  sync_named e i = i ∙ ap (λ (k : ℕ). replicate k reason.Sync) (let n : given ≡ length (write_dirty 0 c.recency (start c)).orders - 0 = omega arith in n)
