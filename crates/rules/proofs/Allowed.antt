-- A state that document 01 allows stays one under every request, and a fresh cache is one: the rows, the entries and the list by what each
-- request does, the figures by their ranges.
use Prim.Native.Nat.{ℕ, zero, suc, ◌-◌, ◌≤◌, ◌<◌}
use mathlib.Core.Path.{◌≡◌, refl, sym, ap, subst, ◌∙◌}
use mathlib.Core.Bool.{true, false, not, ◌&&◌, ◌||◌, false≢true}
use Rattle.std.proofs.lemmas.Option.{none-some}
use Rattle.std.specs.Prelude.{Option, None, Some}
use mathlib.Core.List.{List, [], ◌∷◌, ◌++◌}
use native.Mathlib.Omega.{arith}
use lib.Dec.{eqb, leb, ltb}
use lib.ListN.{length, replicate}
use borrow.Author.Tests.{eqb-true, eqb-false, leb-true, ltb-true, ltb-false, not-false}
use Rattle.fraction.specs.Examples.{every}
use Rattle.settings.specs.declared.Settings.{Settings}
use Rattle.settings.specs.Validation.{first_bad}
use Rattle.rules.specs.declared.answer.Refusal.{Refusal}
use Rattle.settings.specs.declared.Mode.{Mode}
use Rattle.rules.specs.declared.request.Request.{Request}
use Rattle.rules.specs.declared.request.Request.TheVariants.{Insert, Protect, Release, ReleaseChanged, Pin, Unpin, Resize, Discard, Flush, Sync, Take, Configure}
use Rattle.rules.specs.Types.{Row}
use Rattle.rules.specs.Allowed.{Sound, Allowed}
use Rattle.rules.specs.Cache.{Cache, Work, start, fresh, touch, with_counters}
use Rattle.rules.specs.Cases.{Setup, opened, later, counting, after, cache_of, is_none, is_valid, Case, AllowedSetups, cases, further, lone, full}
use Rattle.rules.specs.Entries.{changed_to, protected_for, released}
use Rattle.rules.specs.Limits.{most_rows, most_threshold}
use Rattle.rules.specs.Opening.{refusal_of_opening, opening_tests}
use Rattle.rules.specs.Refusals.{Call, tests, first_of, refusal_of}
use Rattle.rules.specs.Requests.{effect, step, adds, loaded, room_if_released, named, configured}
use Rattle.rules.specs.Resizing.{flashed}
use Rattle.rules.specs.Room.{make_room}
use Rattle.rules.specs.Rows.{is_here, dirty_at, size_at}
use Rattle.rules.proofs.Cases.{valid}
use Rattle.rules.proofs.Effects.{effects, flash_sound, named_sound, ready}
use Rattle.rules.proofs.Epochs.{released_moves}
use Rattle.rules.proofs.Figures.{InRange, figures_of, moves_figures, room_figures, flash_range, count_range, recounted, adds_most, configured_range, passed_opening, passed}
use Rattle.rules.proofs.Fit.{fit_entries, entries_fit}
use Rattle.rules.proofs.Moves.{dirty_moves, sound_listed, sound_same}
use Rattle.rules.proofs.Sound.{none_free, sound_fresh, sound_touch, sound_load}
use Rattle.rules.proofs.Steps.{failed, stepped}
use Rattle.rules.proofs.Tests.{choose, neither, both}

-- ---- the figures, by request

named_range : (a s : ℕ) (c : Cache) → InRange (figures_of c) → InRange (figures_of (named a s c))
named_range a s c r =
    recounted (adds (dirty_at c.rows a) s c.count) (adds_most (dirty_at c.rows a) s c.count r.ranged.count)
    (flash_range (s - size_at c.rows a) c r)

-- room for a new entry
incoming_range : (s : ℕ) (c : Cache) → Sound c → InRange (figures_of c) → InRange (figures_of (make_room s true (start (flashed s c))).cache)
incoming_range s c k r = room_figures InRange s true (start (flashed s c)) (flash_sound s c k) (flash_range s c r)

released_range : (a : ℕ) (c : Cache) → Sound c → InRange (figures_of c) → InRange (figures_of (room_if_released a c).cache)
released_range a c k r = subst InRange (sym (moves_figures (released_moves a c k))) r

figures : (c : Cache) (lent : ℕ) (message : List ℕ) (r : Request) → Sound c → first_of (tests c lent message r) ≡ None → InRange (figures_of c)
    → InRange (figures_of (effect c message r).cache)
unfolding tests effect
figures c lent message (Insert a s) k h r =
    let i = incoming_range s c k r in
    recounted (adds false s (make_room s true (start (flashed s c))).cache.count) (adds_most false s _ i.ranged.count) i
figures c lent message (Protect x a s) k h r =
    let f = failed (tests c lent message (Protect x a s)) h in
    choose (λ (w : Work). InRange (figures_of w.cache)) (is_here c.rows a)
    (λ p. count_range true (start (touch a (protected_for x) c)) (sound_touch a (protected_for x) (λ e. refl) c k) r)
    (λ p. let m = ready a s c k p (simp p at f.1.1.1.1.0) in
    let w = make_room s true (start (flashed s c)) in
    count_range false (loaded x a s w) (sound_load x a s w.cache m.free m.absent m.sound) (incoming_range s c k r))
figures c lent message (Release a) k h r = released_range a (touch a released c) (sound_touch a released (λ e. refl) c k) r
figures c lent message (ReleaseChanged a s) k h r =
    released_range a (touch a (λ e. released (changed_to s e)) (named a s c))
    (sound_touch a (λ e. released (changed_to s e)) (λ e. refl) (named a s c) (named_sound a s c k)) (named_range a s c r)
figures c lent message (Pin a) k h r = r
figures c lent message (Unpin a) k h r = r
figures c lent message (Resize a s) k h r = named_range a s c r
figures c lent message (Discard a) k h r = r
figures c lent message Flush k h r = recounted 0 (omega arith) r
figures c lent message Sync k h r =
    recounted 0 (omega arith) (subst InRange (sym (moves_figures (dirty_moves 0 c.recency (start c) (sound_listed (start c) k)))) r)
figures c lent message Take k h r = recounted _ (omega arith) r
figures c lent message (Configure s) k h r =
    let f = failed (tests c lent message (Configure s)) h in
    room_figures InRange 0 false (start (configured s c)) (sound_same c (configured s c) refl refl k)
    (configured_range s c (eqb-true (first_bad s false) 0 (not-false _ f.1.0)) r.ranged.count)

-- ---- every request

pub figures_allowed : (c : Cache) → Allowed c → InRange (figures_of c)
figures_allowed c k = record {
  ranged = record { settings = k.settings; least = k.least; most = k.most; hits = k.hits; count = k.count };
  early = k.accesses;
}

pub step_allowed : (c : Cache) (call : Call) → Allowed c → Allowed (step c call).cache
unfolding refusal_of
step_allowed c call k =
    stepped c call (λ o. Allowed o.cache)
    (λ e. let d = effects c call.lent call.message call.request k.sound e in
    let f = figures c call.lent call.message call.request k.sound e (figures_allowed c k) in
    let n = d.kept.rows in let m = d.kept.threshold in
    record {
      some_rows = let i = k.some_rows in omega arith;
      rows = let i = k.rows in omega arith;
      entries = fit_entries _ (d.entries (entries_fit c.rows k.entries));
      sound = d.sound;
      some_bytes = let i = k.some_bytes in omega arith;
      threshold = let i = k.threshold in omega arith;
      settings = f.ranged.settings;
      least = f.ranged.least;
      most = f.ranged.most;
      accesses = f.early;
      hits = f.ranged.hits;
      count = f.ranged.count;
    })
    (λ r. k)

-- ---- opening

length_free : (n : ℕ) → length {A = Row} (replicate n None) ≡ n
length_free zero = refl
length_free (suc n) = ap (λ m. ℕ.suc m) (length_free n)

pub fresh_allowed : (n : ℕ) (m : Mode) (t : ℕ) (s : Settings) → refusal_of_opening n true (Some m) t s ≡ None → Allowed (fresh n m t s)
unfolding refusal_of_opening
fresh_allowed n m t s h =
    let f = failed (opening_tests n true (Some m) t s) h in
    let rows = neither (eqb n 0) (ltb most_rows n) (neither (eqb n 0 || ltb most_rows n) (not true) f.0).0 in
    let bytes = neither (eqb t 0) (ltb most_threshold t) f.1.0 in
    let o = passed_opening s (eqb-true (first_bad s true) 0 (not-false _ f.1.1.0)) in
    let p = passed s o.0 in
    let l = length_free n in
    record {
      some_rows = omega (arith, eqb-false n 0 rows.0);
      rows = omega (arith, ltb-false most_rows n rows.1);
      entries = λ a e g. absurd (none-some e (sym (sym g ∙ none_free n a)));
      sound = sound_fresh n m t s;
      some_bytes = omega (arith, eqb-false t 0 bytes.0);
      threshold = ltb-false most_threshold t bytes.1;
      settings = o.0;
      least = (p.initial o.1).0;
      most = (p.initial o.1).1;
      accesses = p.epoch;
      hits = omega arith;
      count = omega arith;
    }

-- ---- the setups of the worked cases

-- counters in their ranges
counters_allowed : (accesses hits : ℕ) (c : Cache) → accesses < c.settings.epoch → hits ≤ accesses → Allowed c
    → Allowed (with_counters accesses hits c)
counters_allowed accesses hits c e h k = record {
  some_rows = k.some_rows;
  rows = k.rows;
  entries = k.entries;
  sound = sound_same c (with_counters accesses hits c) refl refl k.sound;
  some_bytes = k.some_bytes;
  threshold = k.threshold;
  settings = k.settings;
  least = k.least;
  most = k.most;
  accesses = e;
  hits = h;
  count = k.count;
}

after_allowed : (c : Cache) (calls : List Call) → Allowed c → Allowed (after c calls)
unfolding after
after_allowed c [] k = k
after_allowed c (call ∷ rest) k = after_allowed (step c call).cache rest (step_allowed c call k)

none_is : (r : Option Refusal) → is_none r ≡ true → r ≡ None
none_is None h = refl
none_is (Some r) h = absurd (false≢true h)

valid_allowed : (u : Setup) → is_valid u ≡ true → Allowed (cache_of u)
unfolding is_valid cache_of
valid_allowed (opened rows mode threshold s) h = fresh_allowed rows mode threshold s (none_is _ h)
valid_allowed (later calls u) h = after_allowed (cache_of u) calls (valid_allowed u h)
valid_allowed (counting accesses hits u) h =
    let early = ltb accesses (cache_of u).settings.epoch in
    let f = both (is_valid u && early) (leb hits accesses) h in
    let g = both (is_valid u) early f.0 in
    counters_allowed accesses hits (cache_of u) (ltb-true _ _ g.1) (leb-true _ _ f.1) (valid_allowed u g.0)

each_allowed : (xs : List Case) → every (λ x. is_valid x.setup) xs ≡ true → AllowedSetups xs
unfolding every AllowedSetups
each_allowed [] h = tt
each_allowed (x ∷ rest) h =
    let f = both (is_valid x.setup) (every (λ y. is_valid y.setup) rest) h in
    (valid_allowed x.setup f.0, each_allowed rest f.1)

pub cases_allowed : AllowedSetups (cases ++ (further ++ (lone ++ full)))
cases_allowed = each_allowed (cases ++ (further ++ (lone ++ full))) valid
