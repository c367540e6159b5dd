-- A hit: the entry takes one more hold that its own hold does not forbid, so it stays within its limits.
use Rattle.std.specs.Prelude.{Option}
use Prim.Native.Nat.{ℕ}
use mathlib.Core.Bool.{true, false}
use mathlib.Core.List.{List}
use mathlib.Core.Path.{◌≡◌, refl, sym, ap, ◌∙◌}
use lib.ListN.{length}
use Rattle.rules.proofs.Allowed.{figures_allowed}
use Rattle.rules.proofs.Effects.{protected_allowed}
use Rattle.rules.proofs.Found.{length_amend}
use Rattle.rules.specs.Allowed.{Allowed}
use Rattle.rules.specs.Cache.{Cache, start, touch}
use Rattle.rules.specs.Entries.{forbids, protected_for}
use Rattle.rules.specs.Refusals.{too_few_words}
use Rattle.rules.specs.Requests.{hit}
use Rattle.rules.specs.Resizing.{count_access}
use Rattle.rules.specs.declared.entry.Entry.{Entry}
use Rattle.rules.specs.declared.request.Access.{Access}
use Rattle.rules.specs.declared.request.Request.TheVariants.{Protect}
use Rattle.rules.specs.Rows.{is_here}
use Rattle.reason_rules.specs.declared.Change.{Change}
use Rattle.reason_rules.specs.declared.Reason.{Reason}
use Rattle.reason_rules.proofs.Choices.{if_true, if_false}
use Rattle.reason_rules.specs.Reasons.{count_reasons, count_change, reasons_of, changes_of}
use Rattle.reasons.specs.Changes.{change_of}
use Rattle.reasons.specs.Explains.{Explains}
use Rattle.reasons.specs.Runs.{all_runs}
use Rattle.reasons.specs.declared.runs.Done.{Done}
use Rattle.layout.proofs.Held.{holds_cache}
use Rattle.layout.specs.Holds.{Holds}
use Rattle.layout.specs.Picture.{cache_in, rest_in}
use Rattle.room.proofs.Orders.{did_holds}
use Rattle.room.proofs.Orders.{words_fit}
use Rattle.room.specs.Did.{Did}
use Rattle.table.proofs.Amended.{Keeps}
use Rattle.protect.proofs.Counted.{Countable, count_asks, count_joins}
use Rattle.protect.specs.Told.{hit_reasons, hit_changes, miss_reasons, miss_changes}

pub protect_keeps : (x : Access) (e : Entry) → forbids e.hold x ≡ false → Keeps (protected_for x) e
protect_keeps x e f = record { address = λ y. refl; allowed = protected_allowed x e f }

module _ (x : Access) (a : ℕ) (c : Cache) {table₁ rest : List ℕ} (h : Holds table₁ (touch a (protected_for x) c) rest) where
  pub hit_asks : {rows : ℕ} (lent : List ℕ) → Allowed c → rows ≡ length c.rows → too_few_words c (length lent) ≡ false
      → Countable table₁ rows 0 lent
  hit_asks lent k m t =
      let l = length_amend a (protected_for x) c.rows in
      count_asks (did_holds {lent = lent} {before = 0} h) (m ∙ sym l) (figures_allowed c k)
      (words_fit c (touch a (protected_for x) c) lent t l)

  pub hit_did : {table lent words : List ℕ} {r : ℕ} → Did (count_access true (start (cache_in table₁))) (rest_in table₁) table 0 lent words r
      → Did (hit x a c) rest table 0 lent words r
  hit_did = count_joins (did_holds h) true

  pub hit_named : {l : List Reason} {r : Option Change} → l ≡ count_reasons true (start (cache_in table₁)) → r ≡ change_of (count_change true (start (cache_in table₁)))
      → (l ≡ hit_reasons x a c) × (r ≡ change_of (hit_changes x a c))
  hit_named p q =
      (p ∙ ap (λ (d : Cache). count_reasons true (start d)) (holds_cache h), q ∙ ap (λ (d : Cache). change_of (count_change true (start d))) (holds_cache h))

-- an address that is here is a hit, and else it is a miss
module _ (x : Access) (a s : ℕ) (c : Cache) {r : Done} where
  pub explains_hit : is_here c.rows a ≡ true → (all_runs r.runs ≡ hit_reasons x a c) × (r.change ≡ change_of (hit_changes x a c)) → Explains c (Protect x a s) r
  unfolding reasons_of changes_of
  explains_hit h p = record {
    reasons = p.0 ∙ sym (if_true (is_here c.rows a) _ _ h);
    change = p.1 ∙ ap change_of (sym (if_true (is_here c.rows a) _ _ h));
  }

  pub explains_miss : is_here c.rows a ≡ false → (all_runs r.runs ≡ miss_reasons x a s c) × (r.change ≡ change_of (miss_changes x a s c)) → Explains c (Protect x a s) r
  unfolding reasons_of changes_of
  explains_miss h p = record {
    reasons = p.0 ∙ sym (if_false (is_here c.rows a) _ _ h);
    change = p.1 ∙ ap change_of (sym (if_false (is_here c.rows a) _ _ h));
  }
