-- Entries within their limits: what a change does to one entry decides what it does to the rows.
use Prim.Native.Nat.{ℕ}
use mathlib.Core.Path.{◌≡◌, refl, subst}
use mathlib.Core.Bool.{true}
use Rattle.std.specs.Prelude.{Option, None, Some, option_map}
use mathlib.Core.List.{List, [], ◌∷◌}
use lib.Dec.{eqb}
use borrow.Author.Tests.{eqb-true}
use Rattle.rules.specs.declared.entry.Entry.{Entry}
use Rattle.rules.specs.Types.{Row}
use Rattle.rules.specs.Allowed.{EntryAllowed}
use Rattle.rules.specs.Entries.{cleaned}
use Rattle.rules.specs.Rows.{get, amend, amend_each, amend_all, remove, place, has_free}
use Rattle.rules.proofs.Found.{get_remove, get_amend, get_amend_all, get_place}
use Rattle.rules.proofs.Tests.{choose}

-- what is found is within its limits
abbrev pub FitAt : Option Entry → Type 0
FitAt None = Unit
FitAt (Some e) = EntryAllowed e

pub Fit : List Row → Type 0
Fit rows = (a : ℕ) → FitAt (get rows a)

pub fit_entries : (rows : List Row) → Fit rows → (a : ℕ) (e : Entry) → get rows a ≡ Some e → EntryAllowed e
unfolding Fit
fit_entries rows f a e g = subst FitAt g (f a)

pub entries_fit : (rows : List Row) → ((a : ℕ) (e : Entry) → get rows a ≡ Some e → EntryAllowed e) → Fit rows
unfolding Fit
entries_fit rows f a = go (get rows a) (f a)
  where
    go : (o : Option Entry) → ((e : Entry) → o ≡ Some e → EntryAllowed e) → FitAt o
    go None f = tt
    go (Some e) f = f e refl

pub fit_remove : (a : ℕ) (rows : List Row) → Fit rows → Fit (remove a rows)
unfolding Fit
fit_remove a rows f b = rw (get_remove a b rows) (choose FitAt (eqb a b) (λ q. tt) (λ q. f b))

fit_map : (f : Entry → Entry) (o : Option Entry) → ((e : Entry) → o ≡ Some e → EntryAllowed e → EntryAllowed (f e)) → FitAt o → FitAt (option_map f o)
fit_map f None s k = tt
fit_map f (Some e) s k = s e refl k

module _ (a : ℕ) (f : Entry → Entry) (keeps : (e : Entry) → (f e).address ≡ e.address) where
  pub fit_amend : (rows : List Row) → ((e : Entry) → get rows a ≡ Some e → EntryAllowed e → EntryAllowed (f e)) → Fit rows → Fit (amend a f rows)
  unfolding Fit
  fit_amend rows s k b =
      rw (get_amend a f keeps b rows)
      (choose FitAt (eqb a b)
      (λ q. fit_map f (get rows b) (subst (λ (x : ℕ). (e : Entry) → get rows x ≡ Some e → EntryAllowed e → EntryAllowed (f e)) (eqb-true a b q) s) (k b))
      (λ q. k b))

pub fit_all : (f : Entry → Entry) (keeps : (e : Entry) → (f e).address ≡ e.address) → ((e : Entry) → EntryAllowed e → EntryAllowed (f e))
    → (rows : List Row) → Fit rows → Fit (amend_all f rows)
unfolding Fit
fit_all f keeps s rows k b = rw (get_amend_all f keeps b rows) (fit_map f (get rows b) (λ e g. s e) (k b))

pub fit_place : (e : Entry) (rows : List Row) → has_free rows ≡ true → get rows e.address ≡ None → EntryAllowed e → Fit rows → Fit (place e rows)
unfolding Fit
fit_place e rows h n i k b = rw (get_place e b rows h n) (choose FitAt (eqb e.address b) (λ q. i) (λ q. k b))

-- ---- entries that become clean

pub clean_allowed : (e : Entry) → EntryAllowed e → EntryAllowed (cleaned e)
clean_allowed e k = record { address = k.address; nonempty = k.nonempty; size = k.size; idle = k.idle; hold = k.hold }

pub fit_clean : (l : List ℕ) (rows : List Row) → Fit rows → Fit (amend_each l cleaned rows)
unfolding amend_each
fit_clean [] rows k = k
fit_clean (a ∷ l) rows k = fit_clean l (amend a cleaned rows) (fit_amend a cleaned (λ e. refl) rows (λ e g. clean_allowed e) k)
