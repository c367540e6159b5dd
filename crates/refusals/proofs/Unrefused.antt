-- What is known of a request that is not refused.
use Prim.Native.Nat.{ℕ}
use mathlib.Core.Bool.{true, false}
use mathlib.Core.List.{[]}
use Rattle.std.specs.Prelude.{None, Some}
use mathlib.Core.Path.{◌≡◌}
use borrow.Author.Tests.{not-false, eqb-true}
use Rattle.settings.specs.declared.Settings.{Settings}
use Rattle.settings.specs.Validation.{first_bad}
use Rattle.rules.proofs.Found.{absent}
use Rattle.rules.proofs.Steps.{failed}
use Rattle.rules.specs.Cache.{Cache}
use Rattle.rules.specs.Entries.{is_held, forbids}
use Rattle.rules.specs.Hosts.{asking}
use Rattle.rules.specs.Refusals.{tests, refusal_of, too_few_words, bad_address, bad_size, entry_test, no_row}
use Rattle.rules.specs.Rows.{get, is_here}
use Rattle.rules.specs.declared.entry.Entry.{Entry}
use Rattle.rules.specs.declared.request.Access.{Access}
use Rattle.rules.specs.declared.request.Request.TheVariants.{Insert, Protect, Release, ReleaseChanged, Pin, Unpin, Resize, Discard, Flush, Sync, Configure}

pub record Insertable (c : Cache) (lent a s : ℕ) : Type 0 where
  pub words : too_few_words c lent ≡ false
  pub address : bad_address a ≡ false
  pub size : bad_size s ≡ false
  pub new : get c.rows a ≡ None
  pub row : no_row c ≡ false

pub record Protectable (c : Cache) (lent : ℕ) (x : Access) (a s : ℕ) : Type 0 where
  pub words : too_few_words c lent ≡ false
  pub address : bad_address a ≡ false
  pub size : bad_size s ≡ false
  pub free : entry_test c a (λ e. forbids e.hold x) ≡ false
  pub row : get c.rows a ≡ None → no_row c ≡ false

pub record Changeable (c : Cache) (lent a s : ℕ) : Type 0 where
  pub words : too_few_words c lent ≡ false
  pub size : bad_size s ≡ false
  pub here : is_here c.rows a ≡ true

pub record Pinnable (c : Cache) (a : ℕ) : Type 0 where
  pub here : is_here c.rows a ≡ true
  pub held : (e : Entry) → get c.rows a ≡ Some e → is_held e.hold ≡ true

pub record Discardable (e : Entry) : Type 0 where
  pub unheld : is_held e.hold ≡ false
  pub unpinned : e.pinned ≡ false

module _ (c : Cache) where
  pub insertable : (lent a s : ℕ) → refusal_of c (asking (Insert a s) [] lent) ≡ None → Insertable c lent a s
  unfolding refusal_of tests
  insertable lent a s h =
      let f = failed (tests c lent [] (Insert a s)) h in
      record { words = f.0; address = f.1.0; size = f.1.1.0; new = absent (get c.rows a) f.1.1.1.0; row = f.1.1.1.1.0 }

  pub protectable : (lent : ℕ) (x : Access) (a s : ℕ) → refusal_of c (asking (Protect x a s) [] lent) ≡ None → Protectable c lent x a s
  unfolding refusal_of tests
  protectable lent x a s h =
      let f = failed (tests c lent [] (Protect x a s)) h in
      record { words = f.0; address = f.1.0; size = f.1.1.0; free = f.1.1.1.0; row = λ n. rw n at f.1.1.1.1.0 }

  pub releasable : (lent a : ℕ) → refusal_of c (asking (Release a) [] lent) ≡ None → (too_few_words c lent ≡ false) × (is_here c.rows a ≡ true)
  unfolding refusal_of tests
  releasable lent a h = let f = failed (tests c lent [] (Release a)) h in (f.0, not-false _ f.1.1.0)

  pub changeable : (lent a s : ℕ) → refusal_of c (asking (ReleaseChanged a s) [] lent) ≡ None → Changeable c lent a s
  unfolding refusal_of tests
  changeable lent a s h =
      let f = failed (tests c lent [] (ReleaseChanged a s)) h in
      record { words = f.0; size = f.1.1.0; here = not-false _ f.1.1.1.0 }

  pub pinnable : (a : ℕ) → refusal_of c (asking (Pin a) [] 0) ≡ None → Pinnable c a
  unfolding refusal_of tests
  pinnable a h =
      let f = failed (tests c 0 [] (Pin a)) h in
      record { here = not-false _ f.1.0; held = λ e g. not-false _ (rw g at f.1.1.0) }

  pub unpinnable : (a : ℕ) → refusal_of c (asking (Unpin a) [] 0) ≡ None → is_here c.rows a ≡ true
  unfolding refusal_of tests
  unpinnable a h = not-false _ (failed (tests c 0 [] (Unpin a)) h).1.0

  pub resizable : (a s : ℕ) → refusal_of c (asking (Resize a s) [] 0) ≡ None → (bad_size s ≡ false) × (is_here c.rows a ≡ true)
  unfolding refusal_of tests
  resizable a s h = let f = failed (tests c 0 [] (Resize a s)) h in (f.1.0, not-false _ f.1.1.0)

  pub discardable : (a : ℕ) → refusal_of c (asking (Discard a) [] 0) ≡ None → (e : Entry) → get c.rows a ≡ Some e → Discardable e
  unfolding refusal_of tests
  discardable a h e g =
      let f = failed (tests c 0 [] (Discard a)) h in
      record { unheld = rw g at f.1.0; unpinned = rw g at f.1.1.0 }

  pub flushable : (lent : ℕ) → refusal_of c (asking Flush [] lent) ≡ None → too_few_words c lent ≡ false
  unfolding refusal_of tests
  flushable lent h = (failed (tests c lent [] Flush) h).0

  pub syncable : (lent : ℕ) → refusal_of c (asking Sync [] lent) ≡ None → too_few_words c lent ≡ false
  unfolding refusal_of tests
  syncable lent h = (failed (tests c lent [] Sync) h).0

  pub configurable : (lent : ℕ) (s : Settings) → refusal_of c (asking (Configure s) [] lent) ≡ None → (too_few_words c lent ≡ false) × (first_bad s false ≡ 0)
  unfolding refusal_of tests
  configurable lent s h = let f = failed (tests c lent [] (Configure s)) h in (f.0, eqb-true _ 0 (not-false _ f.1.0))
