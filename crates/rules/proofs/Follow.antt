-- A lead or a standby keeps the ledger: what is evicted there is clean, so each accepted request changes the dirty records and the count
-- as the ledger says, and a local one not at all.
use Rattle.std.specs.Prelude.{if◌then◌else◌, Option, None, Some, option_map}
use Prim.Native.Nat.{ℕ, ◌+◌, min}
use mathlib.Core.Path.{◌≡◌, refl, sym, ap, subst, ◌∙◌}
use mathlib.Core.Bool.{Bool, true, false, ◌||◌, false≢true}
use mathlib.Core.List.{List, [], ◌∷◌}
use lib.Dec.{eqb}
use borrow.Author.Tests.{eqb-true, not-false}
use Rattle.rules.specs.declared.entry.Entry.{Entry}
use Rattle.rules.specs.declared.entry.Hold.{Hold}
use Rattle.rules.specs.declared.entry.Hold.TheVariants.{Unheld}
use Rattle.rules.specs.Types.{Row}
use Rattle.rules.specs.declared.request.Access.{Access}
use Rattle.rules.specs.declared.request.Request.{Request}
use Rattle.rules.specs.declared.request.Request.TheVariants.{Insert, Protect, ReleaseChanged, Resize}
use Rattle.rules.specs.Allowed.{Sound}
use Rattle.rules.specs.Cache.{Cache, Work, start, touch, with_rows}
use Rattle.rules.specs.Entries.{cleaned, changed_to, protected_for, released, with_pin, new_entry, joined}
use Rattle.rules.specs.Ledger.{Ledger, Shared, insert, changed, resize, discard, Local, protect, unchanged, pin, unpin, configure, hear, hear_list, names, noted, is_in, dirty_size, ledger_of}
use Rattle.rules.specs.Limits.{count_stop}
use Rattle.rules.specs.Refusals.{is_alone, tests, first_of}
use Rattle.rules.specs.Requests.{effect, adds, inserted, loaded, named, configured, clean_each}
use Rattle.rules.specs.Resizing.{older}
use Rattle.rules.specs.Rows.{get, passes, amend, amend_each, place, is_here}
use Rattle.rules.proofs.Effects.{Ready, ready, room_for, named_books, named_sound}
use Rattle.rules.proofs.Epochs.{count_moves, released_moves}
use Rattle.rules.proofs.Found.{get_remove, get_amend, get_amend_all, get_place, absent}
use Rattle.rules.proofs.Moves.{Moves, done, evicts, writes, tunes, ages, notes, moves_mode, room_moves, sound_same}
use Rattle.rules.proofs.Sound.{sound_touch, sound_load}
use Rattle.rules.proofs.Steps.{failed}
use Rattle.rules.proofs.Tests.{split, choose, if_same, either}

-- ---- ledgers

pub same_ledger : {l m : Ledger} → ((b : ℕ) → l.sizes b ≡ m.sizes b) → l.count ≡ m.count → l ≡ m
same_ledger p q = λ i. record { sizes = λ b. p b i; count = q i }

pub dirty_in_same : (o : Option Entry) → passes (λ e. e.dirty) o ≡ is_in (dirty_size o)
dirty_in_same None = refl
dirty_in_same (Some e) = choose (λ (x : Option ℕ). e.dirty ≡ is_in x) e.dirty (λ p. p) (λ p. p)

sizes_if : (t : Bool) (x y : Option Entry) → dirty_size (if t then x else y) ≡ (if t then dirty_size x else dirty_size y)
sizes_if true x y = refl
sizes_if false x y = refl

-- what is found at an address is as at another that is the same
at_same : (a b : ℕ) (rows : List Row) → eqb a b ≡ true → get rows a ≡ get rows b
at_same a b rows q = ap (get rows) (eqb-true a b q)

-- ---- a change of one entry

module _ (a : ℕ) (f : Entry → Entry) (keeps : (e : Entry) → (f e).address ≡ e.address) where
  sizes_amend : (g : Option ℕ → Option ℕ) (rows : List Row) → dirty_size (option_map f (get rows a)) ≡ g (dirty_size (get rows a))
      → (b : ℕ) → dirty_size (get (amend a f rows) b) ≡ (if eqb a b then g (dirty_size (get rows b)) else dirty_size (get rows b))
  sizes_amend g rows h b =
      rw (get_amend a f keeps b rows)
      (split (eqb a b)
      (λ q. simp q (subst (λ (x : ℕ). dirty_size (option_map f (get rows x)) ≡ g (dirty_size (get rows x))) (eqb-true a b q) h))
      (λ q. simp q))

  -- its size and its mark stay
  pub ledger_stays : ((e : Entry) → dirty_size (Some (f e)) ≡ dirty_size (Some e)) → (l : List ℕ) (c : Cache)
      → ledger_of (with_rows (amend a f c.rows) l c) ≡ ledger_of c
  ledger_stays stays l c = same_ledger (λ b. sizes_amend (λ o. o) c.rows (go (get c.rows a)) b ∙ if_same (eqb a b) _) refl
    where
      go : (o : Option Entry) → dirty_size (option_map f o) ≡ dirty_size o
      go None = refl
      go (Some e) = stays e

  -- it takes a size and is dirty
  pub ledger_named : (s : ℕ) → ((e : Entry) → dirty_size (Some (f e)) ≡ Some s) → (l : List ℕ) (c : Cache) → is_here c.rows a ≡ true
      → ledger_of (with_rows (amend a f (named a s c).rows) l (named a s c)) ≡ noted a s (ledger_of c)
  ledger_named s sized l c h =
      same_ledger
      (λ b. rw (named_books a s c).rows (sizes_amend (λ o. Some s) c.rows (go (get c.rows a) h) b))
      (ap (λ (t : Bool). adds t s c.count) (dirty_in_same (get c.rows a)))
    where
      go : (o : Option Entry) → passes (λ e. true) o ≡ true → dirty_size (option_map f o) ≡ Some s
      go None p = absurd (false≢true p)
      go (Some e) p = sized e

-- ---- moves

clean_size_same : (e : Entry) → e.dirty ≡ false → dirty_size (Some e) ≡ None
clean_size_same e d = rw d

pub moves_ledger : {may sets : Bool} {w v : Work} → may ≡ false → Moves may sets w v → ledger_of v.cache ≡ ledger_of w.cache
moves_ledger h done = refl
moves_ledger h (evicts {w} a e g l d m) = moves_ledger h m ∙ same_ledger (λ b. rw (get_remove a b w.cache.rows) (go b)) refl
  where
    go : (b : ℕ) → dirty_size (if eqb a b then None else get w.cache.rows b) ≡ dirty_size (get w.cache.rows b)
    go b = split (eqb a b) (λ q. simp q (sym (ap dirty_size (sym (at_same a b w.cache.rows q) ∙ g) ∙ clean_size_same e d))) (λ q. simp q)
moves_ledger {may} h (writes a e r y g l d s m) = either may y h
moves_ledger h (tunes n i k y m) = moves_ledger h m
moves_ledger h (notes b m) = moves_ledger h m
moves_ledger h (ages {w} y m) = moves_ledger h m ∙ same_ledger (λ b. rw (get_amend_all older (λ e. refl) b w.cache.rows) (go (get w.cache.rows b))) refl
  where
    go : (o : Option Entry) → dirty_size (option_map older o) ≡ dirty_size o
    go None = refl
    go (Some e) = refl

-- ---- an entry comes

module _ (a s : ℕ) (c : Cache) (host : is_alone c.mode ≡ false) (gone : get c.rows a ≡ None) (r : Ready a s c) where
  new_sizes : (d : Bool) (h : Hold) (b : ℕ) → dirty_size (get (place (new_entry a s d h) (room_for s c).cache.rows) b)
      ≡ (if eqb a b then (if d then Some s else None) else dirty_size (get c.rows b))
  new_sizes d h b =
      rw (get_place (new_entry a s d h) b (room_for s c).cache.rows r.free r.absent)
      (split (eqb a b) (λ q. simp q) (λ q. simp q (ap (λ l. l.sizes b) (moves_ledger host r.moves))))

  ledger_insert : ledger_of (inserted a s (room_for s c)).cache ≡ noted a s (ledger_of c)
  ledger_insert = same_ledger (new_sizes true Unheld) (rw gone (ap (λ l. min (l.count + s) count_stop) (moves_ledger host r.moves)))

  ledger_load : (x : Access) → ledger_of (loaded x a s (room_for s c)).cache ≡ ledger_of c
  ledger_load x =
      same_ledger
      (λ b. new_sizes false (joined x Unheld) b
      ∙ split (eqb a b) (λ q. simp q (sym (ap dirty_size (sym (at_same a b c.rows q) ∙ gone)))) (λ q. simp q))
      (ap (λ l. l.count) (moves_ledger host r.moves))

-- ---- shared changes and local requests

module _ (c : Cache) (lent : ℕ) (message : List ℕ) (k : Sound c) (host : is_alone c.mode ≡ false) where
  pub shared_follows : {r : Request} (x : Shared r) → first_of (tests c lent message r) ≡ None → ledger_of (effect c message r).cache ≡ hear x (ledger_of c)
  unfolding tests effect hear
  shared_follows (insert a s) e =
      let f = failed (tests c lent message (Insert a s)) e in
      ledger_insert a s c host (absent (get c.rows a) f.1.1.1.0) (ready a s c k f.1.1.1.0 f.1.1.1.1.0)
  shared_follows (changed a s) e =
      let f = failed (tests c lent message (ReleaseChanged a s)) e in
      let g : Entry → Entry = λ e. released (changed_to s e) in
      let d = touch a g (named a s c) in
      moves_ledger (ap is_alone (named_books a s c).mode ∙ host) (released_moves {sets = false} a d (sound_touch a g (λ e. refl) (named a s c) (named_sound a s c k)))
      ∙ ledger_named a g (λ e. refl) s (λ e. refl) d.recency c (not-false _ f.1.1.1.0)
  shared_follows (resize a s) e =
      let f = failed (tests c lent message (Resize a s)) e in
      ledger_named a (changed_to s) (λ e. refl) s (λ e. refl) (named a s c).recency c (not-false _ f.1.1.0)
  shared_follows (discard a) e = same_ledger (λ b. rw (get_remove a b c.rows) (sizes_if (eqb a b) None (get c.rows b))) refl

  pub local_keeps : {r : Request} → Local r → first_of (tests c lent message r) ≡ None → ledger_of (effect c message r).cache ≡ ledger_of c
  unfolding tests effect
  local_keeps (protect x a s) e =
      let f = failed (tests c lent message (Protect x a s)) e in
      choose (λ (w : Work). ledger_of w.cache ≡ ledger_of c) (is_here c.rows a)
      (λ p. let d = touch a (protected_for x) c in
      moves_ledger host (count_moves true (start d) (sound_touch a (protected_for x) (λ e. refl) c k))
      ∙ ledger_stays a (protected_for x) (λ e. refl) (λ e. refl) d.recency c)
      (λ p. let r = ready a s c k p (simp p at f.1.1.1.1.0) in
      let w = loaded x a s (room_for s c) in
      moves_ledger (ap is_alone (moves_mode r.moves) ∙ host) (count_moves false w (sound_load x a s (room_for s c).cache r.free r.absent r.sound))
      ∙ ledger_load a s c host (absent (get c.rows a) p) r x)
  local_keeps (unchanged a) e =
      let d = touch a released c in
      moves_ledger host (released_moves {sets = false} a d (sound_touch a released (λ e. refl) c k))
      ∙ ledger_stays a released (λ e. refl) (λ e. refl) d.recency c
  local_keeps (pin a) e = ledger_stays a (with_pin true) (λ e. refl) (λ e. refl) c.recency c
  local_keeps (unpin a) e = ledger_stays a (with_pin false) (λ e. refl) (λ e. refl) (touch a (with_pin false) c).recency c
  local_keeps (configure s) e =
      moves_ledger host (room_moves {sets = false} 0 false (start (configured s c)) (sound_same c (configured s c) refl refl k))

-- ---- lists

cleaned_size : (o : Option Entry) → dirty_size (option_map cleaned o) ≡ None
cleaned_size None = refl
cleaned_size (Some e) = refl

pub sizes_cleaned : (a : ℕ) (rows : List Row) (b : ℕ) → dirty_size (get (amend a cleaned rows) b) ≡ (if eqb a b then None else dirty_size (get rows b))
sizes_cleaned a rows = sizes_amend a cleaned (λ e. refl) (λ o. None) rows (cleaned_size (get rows a))

sizes_each : (list : List ℕ) (rows : List Row) (b : ℕ) → dirty_size (get (amend_each list cleaned rows) b) ≡ (if names list b then None else dirty_size (get rows b))
unfolding names amend_each
sizes_each [] rows b = refl
sizes_each (a ∷ list) rows b =
    sizes_each list (amend a cleaned rows) b
    ∙ rw (sizes_cleaned a rows b) (go (eqb a b) (names list b) (dirty_size (get rows b)))
  where
    go : (s t : Bool) (o : Option ℕ) → (if t then None else (if s then None else o)) ≡ (if s || t then None else o)
    go true t o = if_same t None
    go false t o = refl

pub takes_list : (list : List ℕ) (c : Cache) → ledger_of (clean_each list c) ≡ hear_list list (ledger_of c)
takes_list list c = same_ledger (sizes_each list c.rows) refl
