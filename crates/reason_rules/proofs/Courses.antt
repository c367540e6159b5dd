-- An accepted request takes one course: the step's outcome with the reasons and changes that are named, phase by phase.
use Prim.Native.Nat.{ℕ, ◌+◌, ◌*◌, ◌≤◌}
use mathlib.Core.Path.{◌≡◌, refl, sym, ap, ap₂, subst, ◌∙◌}
use mathlib.Core.Bool.{true, false}
use Rattle.std.proofs.lemmas.Option.{none-some}
use Rattle.std.specs.Prelude.{Option, None, Some}
use mathlib.Core.List.{List, [], ◌∷◌, ◌++◌, map}
use native.Mathlib.Omega.{arith}
use lib.Dec.{ltb, eqb}
use lib.ListN.{length}
use borrow.Author.Tests.{ltb-true, ltb-false, lt-ltb, le-ltb, eqb-true, eqb-false, eq-eqb, ne_eqb, not-false}
use Rattle.settings.specs.Validation.{first_bad}
use Rattle.settings.specs.declared.Settings.{Settings}
use Rattle.rules.specs.declared.answer.Refusal.TheVariants as refusal
use Rattle.rules.specs.declared.answer.Refusal.{Refusal}
use Rattle.rules.specs.declared.order.Kind.{Kind}
use Rattle.rules.specs.declared.order.Order.{Order}
use Rattle.rules.specs.declared.request.Access.{Access}
use Rattle.rules.specs.declared.request.Request.TheVariants.{Insert, Protect, Release, ReleaseChanged, Pin, Unpin, Resize, Discard, Flush, Sync, Take, Configure}
use Rattle.rules.specs.declared.request.Request.{Request}
use Rattle.rules.specs.Allowed.{Sound, Allowed}
use Rattle.rules.specs.Cache.{Cache, Work, start, with_settings, with_maximum, with_count, amend_at, touch, restart}
use Rattle.rules.specs.Entries.{is_held, changed_to, protected_for, released}
use Rattle.rules.specs.Refusals.{Call, tests, first_of, refusal_of}
use Rattle.rules.specs.Requests.{Outcome, judged, adds, inserted, loaded, room_if_released, growth, named, writes_of, clean_each, numbered, brought, configured, effect, step}
use Rattle.rules.specs.Resizing.{flashed}
use Rattle.rules.specs.Room.{make_room}
use Rattle.rules.specs.Rows.{get, passes, is_here, dirty_at, dirty_rising}
use Rattle.rules.proofs.Effects.{flash_sound, named_sound, ready}
use Rattle.rules.proofs.Figures.{passed}
use Rattle.rules.proofs.Kept.{step_orders}
use Rattle.rules.proofs.Loops.{dirty_while}
use Rattle.rules.proofs.Moves.{sound_same}
use Rattle.rules.proofs.Rising.{flush_order, flush_unique}
use Rattle.rules.proofs.Sound.{sound_touch, sound_load}
use Rattle.rules.proofs.Steps.{failed}
use Rattle.rules.proofs.Tests.{split, choose}
use Rattle.reason_rules.specs.declared.Bound.TheVariants as bound
use Rattle.reason_rules.specs.declared.Bound.{Bound}
use Rattle.reason_rules.specs.declared.Cause.TheVariants as cause
use Rattle.reason_rules.specs.declared.Change.{Change}
use Rattle.reason_rules.specs.declared.Reason.TheVariants as reason
use Rattle.reason_rules.specs.declared.Reason.{Reason}
use Rattle.reason_rules.specs.Bounds.{settings_bound}
use Rattle.reason_rules.specs.Courses.{Roomed, Counted, Fixed, sets, sets_same, brings_down, brings_up, in_range, LetGo, still_held, last_gone, Does, insert, hits, misses, release, release_changed, pin, unpin, resize, discard, flush, sync, take, configure, Course, accepted, Paired}
use Rattle.reason_rules.specs.Reasons.{because, changed, release_reasons, reasons_of, settings_change, changes_of, too_few_reasons, refusal_of_explain, granted, explain}
use Rattle.reason_rules.proofs.Choices.{if_true, if_false}
use Rattle.reason_rules.proofs.Resizes.{Leads, flash_takes, flash_only, counted_takes, counted_only, counted_gives}
use Rattle.reason_rules.proofs.Rooms.{paired_length, Gives, gives_append, gives_order, room_gives, roomed, room_only, while_one, second_course, second_while, second_gives, second_because}

-- ---- configuring

module _ (s : Settings) (c : Cache) (range : s.smallest ≤ s.largest) where
  fixed_takes : (m : List Change) × Fixed s c.maximum m (configured s c).maximum
  fixed_takes =
      let n = c.maximum in
      choose (λ (i : ℕ). (m : List Change) × Fixed s n m i) s.preset
      (λ h. split (eqb s.initial n)
      (λ e. let i = eqb-true s.initial n e in ([], subst (Fixed s n []) (sym i) (sets_same h i)))
      (λ e. (changed cause.Settings None, sets h (eqb-false s.initial n e))))
      (λ h. split (ltb s.largest n)
      (λ p. let i = ltb-true s.largest n p in
      (changed cause.Settings (Some bound.Largest), subst (Fixed s n (changed cause.Settings (Some bound.Largest))) (omega arith) (brings_down h i)))
      (λ p. let i = ltb-false s.largest n p in
      split (ltb n s.smallest)
      (λ q. let j = ltb-true n s.smallest q in
      (changed cause.Settings (Some bound.Smallest), subst (Fixed s n (changed cause.Settings (Some bound.Smallest))) (omega arith) (brings_up h j)))
      (λ q. let j = ltb-false n s.smallest q in ([], subst (Fixed s n []) (omega arith) (in_range h j i)))))

  -- a value that is the configured one, with its bound
  named_change : {n : ℕ} {b : Option Bound} → n ≡ (configured s c).maximum → (n ≡ c.maximum → ⊥) → b ≡ settings_bound s c.maximum
      → changed cause.Settings b ≡ settings_change s c
  named_change e d h =
      ap (changed cause.Settings) h ∙ sym (if_false (eqb (configured s c).maximum c.maximum) [] _ (ne_eqb _ c.maximum (λ i. d (e ∙ i))))

  no_change : c.maximum ≡ (configured s c).maximum → [] ≡ settings_change s c
  no_change e = sym (if_true (eqb (configured s c).maximum c.maximum) [] _ (eq-eqb _ c.maximum (sym e)))

  fixed_only : {m : List Change} {n : ℕ} → Fixed s c.maximum m n → (m ≡ settings_change s c) × (n ≡ (configured s c).maximum)
  fixed_only (sets h d) = let e = sym (if_true s.preset s.initial _ h) in (named_change e d (sym (if_true s.preset None _ h)), e)
  fixed_only (sets_same h d) = let e = sym d ∙ sym (if_true s.preset s.initial _ h) in (no_change e, e)
  fixed_only (brings_down h i) =
      let j : s.largest ≡ brought c.maximum s = omega arith in
      let e = j ∙ sym (if_false s.preset _ _ h) in
      (named_change e (λ d. omega arith) (sym (if_false s.preset _ _ h ∙ if_true _ (Some bound.Largest) _ (lt-ltb s.largest c.maximum i))), e)
  fixed_only (brings_up h i) =
      let j : s.smallest ≡ brought c.maximum s = omega arith in
      let e = j ∙ sym (if_false s.preset _ _ h) in (
        named_change e (λ d. omega arith)
            (sym (if_false s.preset _ _ h ∙ if_false _ _ _ (le-ltb s.largest c.maximum (omega arith)) ∙ if_true _ (Some bound.Smallest) _ (lt-ltb c.maximum s.smallest i))),
        e,
      )
  fixed_only (in_range h i k) =
      let j : c.maximum ≡ brought c.maximum s = omega arith in
      let e = j ∙ sym (if_false s.preset _ _ h) in (no_change e, e)

  -- the bound that is named for a change by settings, and no other
  pub settings_by : Fixed s c.maximum (settings_change s c) (configured s c).maximum
  settings_by =
      let t = fixed_takes in subst (λ (m : List Change). Fixed s c.maximum m (configured s c).maximum) (fixed_only t.1).0 t.1

  pub settings_one : {l m : List Change} {i n : ℕ} → Fixed s c.maximum l i → Fixed s c.maximum m n → (l ≡ m) × (i ≡ n)
  settings_one h k = let x = fixed_only h in let y = fixed_only k in (x.0 ∙ sym y.0, x.1 ∙ sym y.1)

-- ---- release

module _ (a : ℕ) (c : Cache) (k : Sound c) where
  release_takes : (l : List Reason) × LetGo a c l (room_if_released a c)
  release_takes =
      choose (λ (w : Work). (l : List Reason) × LetGo a c l w) (passes (λ e. is_held e.hold) (get c.rows a))
      (λ h. ([], still_held h)) (λ h. let q = roomed 0 false (start c) k in (q.0, last_gone h q.1))

  release_only : {l : List Reason} {w : Work} → LetGo a c l w → (l ≡ release_reasons a c) × (w ≡ room_if_released a c)
  release_only (still_held h) = (sym (if_true _ [] _ h), sym (if_true _ (start c) _ h))
  release_only (last_gone h r) = let o = room_only 0 false (start c) k r in (o.0 ∙ sym (if_false _ [] _ h), o.1 ∙ sym (if_false _ (start c) _ h))

-- ---- by request

module _ (c : Cache) (lent : ℕ) (message : List ℕ) (k : Sound c) where
  -- the cache once a miss has loaded its entry
  pub loaded_sound : (x : Access) (a s : ℕ) → first_of (tests c lent message (Protect x a s)) ≡ None → is_here c.rows a ≡ false
      → Sound (loaded x a s (make_room s true (start (flashed s c)))).cache
  unfolding tests
  loaded_sound x a s h p =
      let f = failed (tests c lent message (Protect x a s)) h in
      let m = ready a s c k p (simp p at f.1.1.1.1.0) in
      sound_load x a s (make_room s true (start (flashed s c))).cache m.free m.absent m.sound

  configured_range : (s : Settings) → first_of (tests c lent message (Configure s)) ≡ None → s.smallest ≤ s.largest
  unfolding tests
  configured_range s h =
      let f = failed (tests c lent message (Configure s)) h in
      (passed s (eqb-true (first_bad s false) 0 (not-false _ f.1.0))).range

  takes : (r : Request) → first_of (tests c lent message r) ≡ None → Leads (Does c message r) (effect c message r)
  unfolding effect
  takes (Insert a s) h =
      let f = flash_takes s c in
      let q = roomed s true (start (flashed s c)) (flash_sound s c k) in
      (q.0, f.0, insert f.1 q.1)
  takes (Protect x a s) h =
      choose (Leads (Does c message (Protect x a s))) (is_here c.rows a)
      (λ p. let q = counted_takes true (start (touch a (protected_for x) c)) (sound_touch a (protected_for x) (λ e. refl) c k) in (q.0, q.1, hits p q.2))
      (λ p. let f = flash_takes s c in
      let w = make_room s true (start (flashed s c)) in
      let q = roomed s true (start (flashed s c)) (flash_sound s c k) in
      let n = counted_takes false (loaded x a s w) (loaded_sound x a s h p) in
      (_, f.0 ++ n.1, misses p f.1 q.1 n.2))
  takes (Release a) h = let q = release_takes a (touch a released c) (sound_touch a released (λ e. refl) c k) in (q.0, [], release q.1)
  takes (ReleaseChanged a s) h =
      let f = flash_takes (growth a s c) c in
      let q = release_takes a (touch a (λ e. released (changed_to s e)) (named a s c)) (sound_touch a (λ e. released (changed_to s e)) (λ e. refl) (named a s c) (named_sound a s c k)) in
      (q.0, f.0, release_changed f.1 q.1)
  takes (Pin a) h = ([], [], pin)
  takes (Unpin a) h = ([], [], unpin)
  takes (Resize a s) h = let f = flash_takes (growth a s c) c in ([], f.0, resize f.1)
  takes (Discard a) h = ([], [], discard)
  takes Flush h = (map (λ a. reason.Flush) (dirty_rising c.rows), [], flush (flush_order c.rows k.distinct))
  takes Sync h = let q = second_course _ 0 (dirty_while 0 (start c) k) in (q.0, [], sync q.1)
  takes Take h = ([], [], take)
  takes (Configure s) h =
      let f = fixed_takes s c (configured_range s h) in
      let q = roomed 0 false (start (configured s c)) (sound_same c (configured s c) refl refl k) in
      (q.0, f.0, configure f.1 q.1)

  only : {r : Request} {l : List Reason} {m : List Change} {w : Work} → Does c message r l m w → first_of (tests c lent message r) ≡ None
      → (l ≡ reasons_of c r) × (m ≡ changes_of c r) × (w ≡ effect c message r)
  unfolding effect reasons_of changes_of
  only (insert {a} {s} {d} {v} {l} f q) h =
      let e = flash_only s c f in
      let o = room_only s true (start (flashed s c)) (flash_sound s c k) (subst (λ (i : Cache). Roomed s true (start i) l v) e.1 q) in
      (o.0, e.0, ap (inserted a s) o.1)
  only (hits {x} {a} p n) h =
      let o = counted_only true (start (touch a (protected_for x) c)) (sound_touch a (protected_for x) (λ e. refl) c k) n in
      (o.0 ∙ sym (if_true _ _ _ p), o.1 ∙ sym (if_true _ _ _ p), o.2 ∙ sym (if_true _ _ _ p))
  only (misses {x} {a} {s} {d} {u} {v} {l} {k = i} {m} {n = j} p f q n) h =
      let e = flash_only s c f in
      let w = make_room s true (start (flashed s c)) in
      let o = room_only s true (start (flashed s c)) (flash_sound s c k) (subst (λ (i : Cache). Roomed s true (start i) l u) e.1 q) in
      let z = counted_only false (loaded x a s w) (loaded_sound x a s h p) (subst (λ (y : Work). Counted false (loaded x a s y) i j v) o.1 n) in
      (ap₂ (λ (y t : List Reason). y ++ reason.Load ∷ t) o.0 z.0 ∙ sym (if_false _ _ _ p), ap₂ ◌++◌ e.0 z.1 ∙ sym (if_false _ _ _ p), z.2 ∙ sym (if_false _ _ _ p))
  only (release {a} g) h = let o = release_only a (touch a released c) (sound_touch a released (λ e. refl) c k) g in (o.0, refl, o.1)
  only (release_changed {a} {s} {d} {v} {l} f g) h =
      let e = flash_only (growth a s c) c f in
      let t : Cache → Cache = λ i. touch a (λ e. released (changed_to s e)) (with_count (adds (dirty_at c.rows a) s c.count) i) in
      let o = release_only a (t (flashed (growth a s c) c)) (sound_touch a (λ e. released (changed_to s e)) (λ e. refl) (named a s c) (named_sound a s c k))
      (subst (λ (i : Cache). LetGo a (t i) l v) e.1 g) in
      (o.0, e.0, o.1)
  only pin h = (refl, refl, refl)
  only unpin h = (refl, refl, refl)
  only (resize {a} {s} f) h =
      let e = flash_only (growth a s c) c f in
      (refl, e.0, ap (λ (i : Cache). start (amend_at a (changed_to s) (with_count (adds (dirty_at c.rows a) s c.count) i))) e.1)
  only discard h = (refl, refl, refl)
  only (flush {l} o) h =
      let e = flush_unique c.rows l k.distinct o in
      (ap (map (λ a. reason.Flush)) e, refl, ap (λ (i : List ℕ). record { cache = numbered (clean_each i c); orders = writes_of c.rows i }) e)
  only (sync {w} s) h =
      let e = while_one (second_while _ 0 s) (dirty_while 0 (start c) k) in
      (second_because refl s ∙ ap (because reason.Sync (start c)) e, refl, ap (λ (i : Work). record { cache = numbered (with_count 0 i.cache); orders = i.orders }) e)
  only take h = (refl, refl, refl)
  only (configure {s} {n} {v} {l} f q) h =
      let e = fixed_only s c (configured_range s h) f in
      let o = room_only 0 false (start (configured s c)) (sound_same c (configured s c) refl refl k)
      (subst (λ (i : ℕ). Roomed 0 false (start (restart (with_maximum i (with_settings s c)))) l v) e.1 q) in
      (o.0, e.0, o.1)

-- ---- each order with its reason

from_start : {c : Cache} {l : List Reason} {w : Work} → Gives (start c) l w → Paired w.orders l
from_start {l = l} g = subst (λ (o : List Order). Paired o l) (sym g.orders) g.paired

released_pairs : {a : ℕ} {c : Cache} {l : List Reason} {w : Work} → LetGo a c l w → Paired w.orders l
released_pairs (still_held h) = tt
released_pairs (last_gone h r) = from_start (room_gives r)

pairs : {c : Cache} {message : List ℕ} {r : Request} {l : List Reason} {m : List Change} {w : Work} → Does c message r l m w → Paired w.orders l
pairs (insert f q) = from_start (room_gives q)
pairs (hits p n) = from_start (counted_gives n)
pairs (misses {x} {a} {s} {u = u} {v = v} {l = l} {k = k} p f q n) =
    from_start (gives_append {v = v} {l = l} {k = reason.Load ∷ k} (room_gives q)
    (gives_append {l = reason.Load ∷ []} (gives_order {w = u} {u = loaded x a s u} Kind.Load a s refl refl) (counted_gives n)))
pairs (release g) = released_pairs g
pairs (release_changed f g) = released_pairs g
pairs pin = tt
pairs unpin = tt
pairs (resize f) = tt
pairs discard = tt
pairs {c} (flush {l} o) = go l
  where
    go : (l : List ℕ) → Paired (writes_of c.rows l) (map (λ a. reason.Flush) l)
    go [] = tt
    go (a ∷ l) = (refl, go l)
pairs (sync s) = from_start (second_gives refl s)
pairs take = tt
pairs (configure f q) = from_start (room_gives q)

-- ---- the course

module _ (c : Cache) (call : Call) where
  accepted_step : refusal_of c call ≡ None → judged None c (effect c call.message call.request) ≡ step c call
  unfolding step
  accepted_step e = rw e

  accepted_course : Allowed c → refusal_of c call ≡ None
      → Course c call (judged None c (effect c call.message call.request)) (reasons_of c call.request) (changes_of c call.request)
  unfolding refusal_of
  accepted_course k e =
      let t = takes c call.lent call.message k.sound call.request e in
      let o = only c call.lent call.message k.sound t.2 e in
      rw (← o.0, ← o.1) (accepted e t.2)

  -- the step, with the reasons and changes that are named, takes the request's course
  pub course : Allowed c → refusal_of c call ≡ None → Course c call (step c call) (reasons_of c call.request) (changes_of c call.request)
  course k e = rw (← accepted_step e) (accepted_course k e)

  -- every course is the step's
  pub only_course : {o : Outcome} {l : List Reason} {m : List Change} → Allowed c → Course c call o l m
      → (o ≡ step c call) × (l ≡ reasons_of c call.request) × (m ≡ changes_of c call.request)
  unfolding refusal_of
  only_course k (accepted e d) =
      let o = only c call.lent call.message k.sound d e in
      (ap (judged None c) o.2 ∙ accepted_step e, o.0, o.1)

  -- a request has one course
  pub one_course : {o p : Outcome} {l k : List Reason} {m n : List Change} → Allowed c → Course c call o l m → Course c call p k n
      → (o ≡ p) × (l ≡ k) × (m ≡ n)
  one_course a x y = let i = only_course a x in let j = only_course a y in (i.0 ∙ sym j.0, i.1 ∙ sym j.1, i.2 ∙ sym j.2)

  course_pairs : {o : Outcome} {l : List Reason} {m : List Change} → Course c call o l m → Paired o.orders l
  course_pairs (accepted e d) = pairs d

  step_many : Allowed c → refusal_of c call ≡ None → length (step c call).orders ≡ length (reasons_of c call.request)
  step_many k e = paired_length (step c call).orders (reasons_of c call.request) (course_pairs (course k e))

  -- ---- what is explained

  module _ (lent : ℕ) where
    -- with enough reason words the outcome is the step's
    pub as_ever : too_few_reasons c call.request lent ≡ false → (explain c call lent).outcome ≡ step c call
    unfolding step
    as_ever h = rw h

    pub explained_accepted : refusal_of_explain c call lent ≡ None → refusal_of c call ≡ None
    explained_accepted e =
        split (too_few_reasons c call.request lent)
        (λ h. absurd (none-some refusal.OrderWords (sym (sym (if_true (too_few_reasons c call.request lent) (Some refusal.OrderWords) _ h) ∙ e))))
        (λ h. sym (if_false (too_few_reasons c call.request lent) (Some refusal.OrderWords) _ h) ∙ e)

    -- a request that is not refused is explained by its course
    pub explained_course : Allowed c → refusal_of_explain c call lent ≡ None
        → Course c call (explain c call lent).outcome (explain c call lent).reasons (explain c call lent).changes
    explained_course k e =
        subst
        (λ (r : Option Refusal). Course c call (judged r c (effect c call.message call.request)) (granted r (reasons_of c call.request)) (granted r (changes_of c call.request)))
        (sym e) (accepted_course k (explained_accepted e))

    -- each order has its reason, which may name it
    pub each_named : Allowed c → Paired (explain c call lent).outcome.orders (explain c call lent).reasons
    each_named k = go (refusal_of_explain c call lent) refl
      where
        go : (r : Option Refusal) → refusal_of_explain c call lent ≡ r
            → Paired (judged r c (effect c call.message call.request)).orders (granted r (reasons_of c call.request))
        go None e = course_pairs (accepted_course k (explained_accepted e))
        go (Some r) e = tt

    -- as many reasons as orders
    pub as_many : Allowed c → length (explain c call lent).outcome.orders ≡ length (explain c call lent).reasons
    as_many k = paired_length (explain c call lent).outcome.orders (explain c call lent).reasons (each_named k)

    -- no more than words are asked for
    pub reasons_fit : Allowed c → length (explain c call lent).reasons ≤ 2 * length c.rows + 1
    reasons_fit k = go (refusal_of_explain c call lent) refl
      where
        go : (r : Option Refusal) → refusal_of_explain c call lent ≡ r → length (granted r (reasons_of c call.request)) ≤ 2 * length c.rows + 1
        go None e = let i = step_orders c call k.sound in let j = step_many k (explained_accepted e) in omega arith
        go (Some r) e = omega arith
