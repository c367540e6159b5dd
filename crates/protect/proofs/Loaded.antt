-- A load: its order, and a new entry that is clean, held and within its limits. Since it is held, no list has it and no order can come for it.
use Prim.Native.Nat.{ℕ, ◌+◌}
use mathlib.Core.Bool.{true, false}
use mathlib.Core.List.{List, append-nil}
use Rattle.std.specs.Prelude.{None}
use mathlib.Core.Path.{◌≡◌, refl, ap, subst, ◌∙◌}
use native.Mathlib.Omega.{arith}
use Rattle.rules.proofs.Effects.{joined_new, new_allowed}
use Rattle.rules.proofs.Moved.{orders_left}
use Rattle.rules.specs.Cache.{Cache, with_rows, start}
use Rattle.rules.specs.Entries.{is_listed, joined, new_entry}
use Rattle.rules.specs.Refusals.{bad_address, bad_size}
use Rattle.rules.specs.Requests.{loaded}
use Rattle.rules.specs.Rows.{get, place, has_free}
use Rattle.rules.specs.declared.entry.Entry.{Entry}
use Rattle.rules.specs.declared.entry.Hold.TheVariants.{Unheld}
use Rattle.rules.specs.declared.entry.Hold.{Hold}
use Rattle.rules.specs.declared.order.Kind.TheVariants.{Load}
use Rattle.rules.specs.declared.request.Access.TheVariants.{Reading, Writing}
use Rattle.rules.specs.declared.request.Access.{Access}
use Rattle.layout.specs.Holds.{Holds}
use Rattle.layout.specs.Leaves.{put_order}
use Rattle.room.specs.Did.{put_orders, Did}
use Rattle.table.specs.Asked.{Addable}
use Rattle.table.specs.Told.{added}

-- ---- the entry

abbrev pub entry_for : Access → ℕ → ℕ → Entry
entry_for x a s = new_entry a s false (joined x Unheld)

unlisted : (x : Access) (a s : ℕ) → is_listed (entry_for x a s) ≡ false
unlisted Reading a s = refl
unlisted Writing a s = refl

pub no_orders : (x : Access) (a s : ℕ) → orders_left (entry_for x a s) ≡ 0
no_orders x a s = rw (unlisted x a s)

-- ---- the load

module _ (x : Access) (a s : ℕ) {h : Hold} {e : Entry} (p : h ≡ joined x Unheld) (q : e ≡ new_entry a s false h) where
  entry_is : e ≡ entry_for x a s
  entry_is = q ∙ ap (new_entry a s false) p

  pub load_adds : {c : Cache} → has_free c.rows ≡ true → get c.rows a ≡ None → bad_address a ≡ false → bad_size s ≡ false → Addable c e
  load_adds f n b z = rw entry_is (record { free = f; absent = n; allowed = new_allowed a s b z false (joined x Unheld) (joined_new x) })

  pub load_did : (c : Cache) {rest table lent words : List ℕ} {before : ℕ} → words ≡ put_order before (record { kind = Load; address = a; size = s }) lent
      → Holds table (added e c) rest → Did (loaded x a s (start c)) rest table before lent words (before + 1)
  unfolding put_orders
  load_did c {rest} {table} o k = record {
    holds = subst (λ (l : List ℕ). Holds table (with_rows (place (entry_for x a s) c.rows) l c) rest) (append-nil c.recency) (rw (entry_is, unlisted x a s) at k);
    orders = o;
    number = omega arith;
  }
