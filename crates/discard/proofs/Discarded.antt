-- A discard: an address that is not here changes nothing, and an entry that is here stands in the list.
use Prim.Native.Nat.{ℕ}
use mathlib.Core.Bool.{true}
use mathlib.Core.List.{List, []}
use Rattle.std.specs.Prelude.{None}
use mathlib.Core.Path.{◌≡◌, ap, ◌∙◌}
use Rattle.rules.proofs.Found.{present, remove_absent}
use Rattle.rules.proofs.Lists.{strike_absent}
use Rattle.rules.specs.Addresses.{elem, strike}
use Rattle.rules.specs.Allowed.{Sound}
use Rattle.rules.specs.Cache.{Cache, with_rows}
use Rattle.rules.specs.Entries.{is_listed}
use Rattle.rules.specs.Hosts.{asking}
use Rattle.rules.specs.Refusals.{refusal_of}
use Rattle.rules.specs.Rows.{get, passes, is_here, remove}
use Rattle.rules.specs.declared.request.Request.TheVariants.{Discard}
use Rattle.layout.specs.Holds.{Holds}
use Rattle.refusals.proofs.Unrefused.{discardable}

pub nothing_goes : {ws rest : List ℕ} {c : Cache} (a : ℕ) → Holds ws c rest → get c.rows a ≡ None → Holds ws (with_rows (remove a c.rows) (strike a c.recency) c) rest
nothing_goes {c = c} a h g = rw (remove_absent a c.rows g, strike_absent a c.recency (h.steady.sound.listed a ∙ ap (passes is_listed) g)) h

pub stands_listed : (c : Cache) (a : ℕ) → refusal_of c (asking (Discard a) [] 0) ≡ None → Sound c → is_here c.rows a ≡ true → elem a c.recency ≡ true
stands_listed c a h s i =
    let p = present (λ e. true) (get c.rows a) i in
    let d = discardable c a h p.0 p.1 in
    s.listed a ∙ rw (p.1, d.unheld, d.unpinned)
