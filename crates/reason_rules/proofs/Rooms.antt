-- Making room takes one course, with the reasons that are named: each turn gives one order, and all turns of step 1 have the reason that the
-- cache before them tells, since a write changes neither held bytes nor free rows, and an eviction frees a row.
use Prim.Native.Nat.{ℕ, ◌+◌, ◌-◌, ◌*◌, ◌≤◌}
use mathlib.Core.Path.{◌≡◌, refl, sym, ap, ap₂, subst, ◌∙◌}
use mathlib.Core.Logic.{◌⊎◌, inl, inr}
use mathlib.Core.Bool.{Bool, true, false, not, ◌&&◌, ◌||◌, true≢false}
use Rattle.std.proofs.lemmas.Option.{same_Some, none-some}
use Rattle.std.specs.Prelude.{Option, None, Some, option_map}
use mathlib.Core.List.{List, [], ◌∷◌, ◌++◌, append-nil, append_assoc}
use native.Mathlib.Omega.{arith}
use lib.ListN.{length, replicate, length-append}
use borrow.Author.Tests.{lt-ltb, ltb-true, not-true}
use Rattle.settings.specs.declared.Mode.TheVariants.{Alone, Lead, Standby}
use Rattle.settings.specs.declared.Mode.{Mode}
use Rattle.rules.specs.declared.order.Kind.{Kind}
use Rattle.rules.specs.declared.order.Order.{Order}
use Rattle.rules.specs.Addresses.{elem, nearest}
use Rattle.rules.specs.Allowed.{Sound}
use Rattle.rules.specs.Cache.{Work, held, give}
use Rattle.rules.specs.Entries.{is_listed, cleaned}
use Rattle.rules.specs.Loops as loops
use Rattle.rules.specs.Refusals.{is_alone}
use Rattle.rules.specs.Room.{evict, write_in_place, overfull, lacking, look_at_tail, clean_turn, evict_by, room_in, noticed, make_room}
use Rattle.rules.specs.Rows.{has_free, clean_at, dirty_at, size_at}
use Rattle.rules.specs.ShareTest.{clean_share_met}
use Rattle.rules.proofs.Found.{free_removed}
use Rattle.rules.proofs.Lists.{elem_first}
use Rattle.rules.proofs.Loops.{tail_while, clean_while, dirty_while}
use Rattle.rules.proofs.Moves.{SameList, tail_turns, turns_move, moves_sound, nearest_in, sound_remove, sound_write, sound_same, turned}
use Rattle.rules.proofs.Share.{missing_test}
use Rattle.rules.proofs.Tests.{split, choose, either, both}
use Rattle.rules.proofs.Totals.{total_remove, total_same}
use Rattle.reason_rules.specs.declared.Reason.TheVariants as reason
use Rattle.reason_rules.specs.declared.Reason.{Reason}
use Rattle.reason_rules.specs.Courses.{StepOne, enough, nothing, bytes, rows, StepTwo, met, none_left, writes, Roomed, off, alone, paired, names, Paired}
use Rattle.reason_rules.specs.Reasons.{because, pressing, room_reasons}
use Rattle.reason_rules.proofs.Choices.{if_true, if_false}

-- ---- a loop has one end

pub while_one : {test : Work → Bool} {turn : Work → Option Work} {w v z : Work} → loops.While test turn w v → loops.While test turn w z → v ≡ z
while_one (loops.met h) (loops.met p) = refl
while_one (loops.met h) (loops.none_left p n) = refl
while_one {test} (loops.met {w} h) (loops.again p n k) = either (test w) p h
while_one (loops.none_left h n) (loops.met p) = refl
while_one (loops.none_left h n) (loops.none_left p q) = refl
while_one (loops.none_left h n) (loops.again {u = u} p q k) = absurd (none-some u (sym (sym q ∙ n)))
while_one {test} (loops.again {w} h n k) (loops.met p) = either (test w) h p
while_one (loops.again {u = u} h n k) (loops.none_left p q) = absurd (none-some u (sym (sym n ∙ q)))
while_one {test} {turn} {z = z} (loops.again {u = u} h n k) (loops.again {u = y} p q l) =
    while_one k (subst (λ (i : Work). loops.While test turn i z) (same_Some y u (sym q ∙ n)) l)

-- ---- the steps are document 01's loops, each turn with its reason

module _ (m : Mode) (x : ℕ) (row : Bool) where
  abbrev First : Work → Work → Type 0
  First w v = loops.While (λ u. lacking x row u.cache) (loops.turn_in m) w v

  first_course : {w v : Work} → First w v → (l : List Reason) × StepOne m x row w l v
  first_course (loops.met h) = ([], enough h)
  first_course (loops.none_left h n) = ([], nothing h n)
  first_course (loops.again {w} h n k) =
      let r = first_course k in
      split (overfull x w.cache)
      (λ p. (reason.Bytes ∷ r.0, bytes (rw p) n r.1))
      (λ p. let q = both row (not (has_free w.cache.rows)) (simp p at h) in (reason.Rows ∷ r.0, rows p q.0 (not-true (has_free w.cache.rows) q.1) n r.1))

  first_while : {w v : Work} {l : List Reason} → StepOne m x row w l v → First w v
  first_while (enough h) = loops.met h
  first_while (nothing h n) = loops.none_left h n
  first_while (bytes {w} h n k) = loops.again {w = w} (rw h) n (first_while k)
  first_while (rows {w} h r f n k) = loops.again {w = w} (rw (h, r, f)) n (first_while k)

module _ (r : Reason) (x : ℕ) where
  abbrev Second : Work → Work → Type 0
  Second w v = loops.While (λ u. not (clean_share_met x u.cache)) loops.dirty_turn w v

  pub second_course : {w v : Work} → Second w v → (l : List Reason) × StepTwo r x w l v
  second_course (loops.met {w} h) = ([], met (missing_test x w.cache ∙ h))
  second_course (loops.none_left {w} h n) = ([], none_left (missing_test x w.cache ∙ h) n)
  second_course (loops.again {w} h n k) = let q = second_course k in (r ∷ q.0, writes (missing_test x w.cache ∙ h) n q.1)

  pub second_while : {w v : Work} {l : List Reason} → StepTwo r x w l v → Second w v
  second_while (met {w} h) = loops.met {w = w} (sym (missing_test x w.cache) ∙ h)
  second_while (none_left {w} h n) = loops.none_left {w = w} (sym (missing_test x w.cache) ∙ h) n
  second_while (writes {w} h n k) = loops.again {w = w} (sym (missing_test x w.cache) ∙ h) n (second_while k)

-- ---- a reason for each order

-- v has the orders of w and then one for each reason
pub record Gives (w : Work) (l : List Reason) (v : Work) : Type 0 where
  pub given : List Order
  pub orders : v.orders ≡ w.orders ++ given
  pub paired : Paired given l

paired_append : (o p : List Order) (l k : List Reason) → Paired o l → Paired p k → Paired (o ++ p) (l ++ k)
paired_append [] p [] k h i = i
paired_append [] p (r ∷ l) k h i = absurd h
paired_append (x ∷ o) p [] k h i = absurd h
paired_append (x ∷ o) p (r ∷ l) k h i = (h.0, paired_append o p l k h.1 i)

pub paired_length : (o : List Order) (l : List Reason) → Paired o l → length o ≡ length l
paired_length [] [] h = refl
paired_length [] (r ∷ l) h = absurd h
paired_length (x ∷ o) [] h = absurd h
paired_length (x ∷ o) (r ∷ l) h = ap (λ n. ℕ.suc n) (paired_length o l h.1)

pub gives_none : (w : Work) → Gives w [] w
gives_none w = record { given = []; orders = sym (append-nil w.orders); paired = tt }

pub gives_append : {w u v : Work} {l k : List Reason} → Gives w l u → Gives u k v → Gives w (l ++ k) v
gives_append {w} {l = l} {k = k} g h = record {
  given = g.given ++ h.given;
  orders = h.orders ∙ ap (λ (o : List Order). o ++ h.given) g.orders ∙ append_assoc w.orders g.given h.given;
  paired = paired_append g.given h.given l k g.paired h.paired;
}

-- the orders alone count
pub gives_same : {w u v z : Work} {l : List Reason} → u.orders ≡ w.orders → z.orders ≡ v.orders → Gives w l v → Gives u l z
gives_same p q g = record { given = g.given; orders = q ∙ g.orders ∙ ap (λ (o : List Order). o ++ g.given) (sym p); paired = g.paired }

pub gives_order : {w u : Work} {r : Reason} (k : Kind) (a s : ℕ) → names r k ≡ true → u.orders ≡ give k a s w.orders → Gives w (r ∷ []) u
gives_order k a s h e = record { given = record { kind = k; address = a; size = s } ∷ []; orders = e; paired = (h, tt) }

pub gives_because : {w v : Work} {l : List Reason} (r : Reason) → Gives w l v → l ≡ replicate (length l) r → l ≡ because r w v
gives_because {w} {v} {l} r g h =
    let p = paired_length g.given l g.paired in
    let q = ap length g.orders ∙ length-append w.orders g.given in
    let e : length l ≡ length v.orders - length w.orders = omega arith in
    h ∙ ap (λ (n : ℕ). replicate n r) e

because_none : (r : Reason) (w : Work) → because r w w ≡ []
because_none r w = let e : length w.orders - length w.orders ≡ 0 = omega arith in ap (λ (n : ℕ). replicate n r) e

module _ {w u : Work} {r : Reason} where
  near_gives : (k : Kind) (size : ℕ → ℕ) (act : ℕ → Work) → names r k ≡ true → ((a : ℕ) → (act a).orders ≡ give k a (size a) w.orders)
      → (o : Option ℕ) → option_map act o ≡ Some u → Gives w (r ∷ []) u
  near_gives k size act n g None h = absurd (none-some u h)
  near_gives k size act n g (Some a) h = subst (Gives w (r ∷ [])) (same_Some (act a) u h) (gives_order k a (size a) n (g a))

  dirty_gives : names r Kind.Write ≡ true → loops.dirty_turn w ≡ Some u → Gives w (r ∷ []) u
  dirty_gives n h =
      near_gives Kind.Write (size_at w.cache.rows) (λ a. write_in_place a w) n (λ a. refl) (nearest (dirty_at w.cache.rows) w.cache.recency) h

  module _ (p : names r Kind.Write ≡ true) (q : names r Kind.Evict ≡ true) where
    tail_gives : (l : List ℕ) → look_at_tail l w ≡ Some u → Gives w (r ∷ []) u
    tail_gives [] h = absurd (none-some u h)
    tail_gives (a ∷ l) h =
        subst (Gives w (r ∷ [])) (same_Some _ u h)
        (choose (Gives w (r ∷ [])) (dirty_at w.cache.rows a)
        (λ d. gives_order Kind.Write a (size_at w.cache.rows a) p refl) (λ d. gives_order Kind.Evict a (size_at w.cache.rows a) q refl))

    clean_gives : clean_turn w ≡ Some u → Gives w (r ∷ []) u
    clean_gives h =
        near_gives Kind.Evict (size_at w.cache.rows) (λ a. evict a w) q (λ a. refl) (nearest (clean_at w.cache.rows) w.cache.recency) h

    turn_gives : (m : Mode) → loops.turn_in m w ≡ Some u → Gives w (r ∷ []) u
    turn_gives Alone h = tail_gives w.cache.recency h
    turn_gives Lead h = clean_gives h
    turn_gives Standby h = clean_gives h

first_gives : {m : Mode} {x : ℕ} {row : Bool} {w v : Work} {l : List Reason} → StepOne m x row w l v → Gives w l v
first_gives (enough {w} h) = gives_none w
first_gives (nothing {w} h n) = gives_none w
first_gives {m} (bytes h n k) = gives_append (turn_gives {r = reason.Bytes} refl refl m n) (first_gives k)
first_gives {m} (rows h r f n k) = gives_append (turn_gives {r = reason.Rows} refl refl m n) (first_gives k)

module _ {r : Reason} (p : names r Kind.Write ≡ true) where
  pub second_gives : {x : ℕ} {w v : Work} {l : List Reason} → StepTwo r x w l v → Gives w l v
  second_gives (met {w} h) = gives_none w
  second_gives (none_left {w} h n) = gives_none w
  second_gives (writes h n k) = gives_append (dirty_gives {r = r} p n) (second_gives k)

  second_same : {x : ℕ} {w v : Work} {l : List Reason} → StepTwo r x w l v → l ≡ replicate (length l) r
  second_same (met h) = refl
  second_same (none_left h n) = refl
  second_same (writes h n k) = ap (λ (i : List Reason). r ∷ i) (second_same k)

  pub second_because : {x : ℕ} {w v : Work} {l : List Reason} → StepTwo r x w l v → l ≡ because r w v
  second_because s = gives_because r (second_gives s) (second_same s)

pub room_gives : {x : ℕ} {row : Bool} {w v : Work} {l : List Reason} → Roomed x row w l v → Gives w l v
room_gives (off {w} h) = gives_none w
room_gives (alone {w} h e s t) = gives_append (gives_same {u = w} refl refl (first_gives s)) (second_gives refl t)
room_gives (paired {w} h e s) = gives_same {u = w} refl refl (first_gives s)

-- ---- step 1 has one reason

-- a turn writes, which changes neither held bytes nor free rows, or evicts, which frees a row
record Stays (w u : Work) : Type 0 where
  maximum : u.cache.maximum ≡ w.cache.maximum
  held : held u.cache ≡ held w.cache

record Frees (w u : Work) : Type 0 where
  maximum : u.cache.maximum ≡ w.cache.maximum
  held : held u.cache ≤ held w.cache
  free : has_free u.cache.rows ≡ true

-- what a turn of step 1 does
record Turned (w u : Work) : Type 0 where
  sound : Sound u.cache
  does : Stays w u ⊎ Frees w u

module _ (w : Work) (k : Sound w.cache) where
  turned_evict : (a : ℕ) → elem a w.cache.recency ≡ true → Turned w (evict a w)
  turned_evict a h = record {
    sound = sound_remove a w.cache k;
    does = inr (record {
      maximum = refl;
      held = let e = total_remove (λ e. e.size) a w.cache.rows k.distinct in omega arith;
      free = free_removed is_listed a w.cache.rows (sym (k.listed a) ∙ h);
    });
  }

  turned_tail : (l : List ℕ) (u : Work) → w.cache.recency ≡ l → look_at_tail l w ≡ Some u → Turned w u
  turned_tail [] u e h = absurd (none-some u h)
  turned_tail (a ∷ l) u e h =
      subst (Turned w) (same_Some _ u h)
      (choose (Turned w) (dirty_at w.cache.rows a)
      (λ d. record {
        sound = sound_write a (l ++ a ∷ []) w.cache (subst (SameList (l ++ a ∷ [])) (sym e) (turned a l)) k;
        does = inl (record { maximum = refl; held = total_same (λ e. e.size) a cleaned (λ e. refl) w.cache.rows });
      })
      (λ d. turned_evict a (ap (elem a) e ∙ elem_first a l)))

  turned_clean : (u : Work) → clean_turn w ≡ Some u → Turned w u
  turned_clean u h = go (nearest (clean_at w.cache.rows) w.cache.recency) refl h
    where
      go : (o : Option ℕ) → nearest (clean_at w.cache.rows) w.cache.recency ≡ o → option_map (λ a. evict a w) o ≡ Some u → Turned w u
      go None q e = absurd (none-some u e)
      go (Some a) q e =
          subst (Turned w) (same_Some (evict a w) u e) (turned_evict a (nearest_in (clean_at w.cache.rows) a w.cache.recency q).0)

  turned_first : (m : Mode) (u : Work) → loops.turn_in m w ≡ Some u → Turned w u
  turned_first Alone u h = turned_tail w.cache.recency u refl h
  turned_first Lead u h = turned_clean u h
  turned_first Standby u h = turned_clean u h

module _ (m : Mode) (x : ℕ) (row : Bool) where
  -- after an eviction only bytes can press, and only if they did before
  pressing_frees : (w u : Work) → Frees w u → lacking x row u.cache ≡ true → pressing x u.cache ≡ pressing x w.cache
  pressing_frees w u f h = rw (over_u, over_w)
    where
      or_not : (o r : Bool) → o || r && false ≡ true → o ≡ true
      or_not true r p = refl
      or_not false true p = p
      or_not false false p = p

      over_u : overfull x u.cache ≡ true
      over_u = or_not (overfull x u.cache) row (rw f.free at h)

      over_w : overfull x w.cache ≡ true
      over_w =
          let p = ltb-true u.cache.maximum (held u.cache + x) over_u in let m = f.maximum in let g = f.held in
          lt-ltb w.cache.maximum (held w.cache + x) (omega arith)

  rested : {w v : Work} {l : List Reason} → lacking x row w.cache ≡ false → StepOne m x row w l v → l ≡ []
  rested p (enough h) = refl
  rested p (nothing h n) = refl
  rested p (bytes {w} h n k) = absurd (true≢false (sym (rw h) ∙ p))
  rested p (rows {w} h r f n k) = absurd (true≢false (sym (rw (h, r, f)) ∙ p))

  -- a turn's reason is that of the turns after it
  onward : (w u v : Work) (l : List Reason) (r : Reason) → Turned w u → pressing x w.cache ≡ r → StepOne m x row u l v
      → l ≡ replicate (length l) (pressing x u.cache) → r ∷ l ≡ replicate (length (r ∷ l)) (pressing x w.cache)
  onward w u v l r d e t ih =
      let same : l ≡ replicate (length l) (pressing x w.cache) = elim d.does [
        | inl s ↦ ih ∙ ap (λ (q : Reason). replicate (length l) q) (rw (s.maximum, s.held))
        | inr f ↦ split (lacking x row u.cache)
            (λ p. ih ∙ ap (λ (q : Reason). replicate (length l) q) (pressing_frees w u f p))
            (λ p. rw (rested p t))
      ] in
      λ i. sym e i ∷ same i

  one_reason : {w v : Work} {l : List Reason} → Sound w.cache → StepOne m x row w l v → l ≡ replicate (length l) (pressing x w.cache)
  one_reason k (enough h) = refl
  one_reason k (nothing h n) = refl
  one_reason k (bytes {w} {u} {v} {l} h n t) = let d = turned_first w k m u n in onward w u v l reason.Bytes d (rw h) t (one_reason d.sound t)
  one_reason k (rows {w} {u} {v} {l} h r f n t) = let d = turned_first w k m u n in onward w u v l reason.Rows d (rw h) t (one_reason d.sound t)

  pub first_because : {w v : Work} {l : List Reason} → Sound w.cache → StepOne m x row w l v → l ≡ because (pressing x w.cache) w v
  first_because {w} k s = gives_because (pressing x w.cache) (first_gives s) (one_reason k s)

-- ---- both steps

module _ (x : ℕ) (row : Bool) (w : Work) (k : Sound w.cache) where
  -- when making room begins, and after step 1
  abbrev begun : Work
  begun = noticed x w

  begun_sound : Sound begun.cache
  begun_sound = sound_same w.cache begun.cache refl refl k

  abbrev after : Mode → Work
  after m = evict_by (loops.turn_in m) x row begun

  first_ends : (m : Mode) → First m x row begun (after m)
  first_ends Alone = tail_while x row begun begun_sound
  first_ends Lead = clean_while x row begun begun_sound
  first_ends Standby = clean_while x row begun begun_sound

  second_ends : Second reason.Share x (after Alone) (room_in Alone x row begun)
  unfolding room_in
  second_ends = dirty_while x (after Alone) (moves_sound (turns_move {sets = false} tail_turns (2 * length w.cache.rows) x row begun begun_sound) begun_sound)

  pub roomed : (l : List Reason) × Roomed x row w l (make_room x row w)
  unfolding make_room room_in
  roomed =
      choose (λ (v : Work). (l : List Reason) × Roomed x row w l v) w.cache.settings.evictions (λ h. go w.cache.mode refl h) (λ h. ([], off h))
    where
      two : (m : Mode) → w.cache.mode ≡ m → is_alone m ≡ false → w.cache.settings.evictions ≡ true → (l : List Reason) × Roomed x row w l (after m)
      two m e i h =
          let q = first_course m x row (first_ends m) in
          (q.0, paired h (ap is_alone e ∙ i) (subst (λ (n : Mode). StepOne n x row begun q.0 (after m)) (sym e) q.1))

      go : (m : Mode) → w.cache.mode ≡ m → w.cache.settings.evictions ≡ true → (l : List Reason) × Roomed x row w l (room_in m x row begun)
      go Alone e h =
          let p = first_course Alone x row (first_ends Alone) in
          let q = second_course reason.Share x second_ends in
          (p.0 ++ q.0, alone h e p.1 q.1)
      go Lead e h = two Lead e refl h
      go Standby e h = two Standby e refl h

  -- room in a mode
  record Only (m : Mode) (l : List Reason) (v : Work) : Type 0 where
    reasons : l ≡ because (pressing x w.cache) w (after m) ++ because reason.Share (after m) (room_in m x row begun)
    work : v ≡ room_in m x row begun

  only_first : {m : Mode} {u : Work} {l : List Reason} → StepOne m x row begun l u → (l ≡ because (pressing x w.cache) w (after m)) × (u ≡ after m)
  only_first {m} s =
      let e = while_one (first_while m x row s) (first_ends m) in
      (first_because m x row begun_sound s ∙ ap (because (pressing x w.cache) w) e, e)

  only_alone : {u v : Work} {l n : List Reason} → StepOne Alone x row begun l u → StepTwo reason.Share x u n v → Only Alone (l ++ n) v
  only_alone {u} {v} {l} {n} s t =
      let o = only_first s in
      let t' : StepTwo reason.Share x (after Alone) n v = subst (λ (y : Work). StepTwo reason.Share x y n v) o.1 t in
      let d = while_one (second_while reason.Share x t') second_ends in
      record { reasons = ap₂ ◌++◌ o.0 (second_because refl t' ∙ ap (because reason.Share (after Alone)) d); work = d }

  -- there is no step 2
  only_clean : {m : Mode} {v : Work} {l : List Reason} → after m ≡ room_in m x row begun → StepOne m x row begun l v → Only m l v
  only_clean {m} e s =
      let o = only_first s in
      let q : because reason.Share (after m) (room_in m x row begun) ≡ [] = ap (because reason.Share (after m)) (sym e) ∙ because_none reason.Share (after m) in
      record { reasons = o.0 ∙ rw q (sym (append-nil (because (pressing x w.cache) w (after m)))); work = o.1 ∙ e }

  only_paired : (m : Mode) {v : Work} {l : List Reason} → is_alone m ≡ false → StepOne m x row begun l v → Only m l v
  unfolding room_in
  only_paired Alone i s = absurd (true≢false i)
  only_paired Lead i s = only_clean refl s
  only_paired Standby i s = only_clean refl s

  only_on : w.cache.settings.evictions ≡ true → {v : Work} {l : List Reason} → Only w.cache.mode l v
      → (l ≡ room_reasons x row w) × (v ≡ make_room x row w)
  unfolding room_reasons make_room
  only_on h o =
      let f = after w.cache.mode in
      let e : make_room x row w ≡ room_in w.cache.mode x row begun = if_true w.cache.settings.evictions _ w h in
      (o.reasons ∙ ap (λ (u : Work). because (pressing x w.cache) w f ++ because reason.Share f u) (sym e) ∙ sym (if_true w.cache.settings.evictions _ [] h), o.work ∙ sym e)

  pub room_only : {v : Work} {l : List Reason} → Roomed x row w l v → (l ≡ room_reasons x row w) × (v ≡ make_room x row w)
  unfolding room_reasons make_room
  room_only (off h) = (sym (if_false w.cache.settings.evictions _ [] h), sym (if_false w.cache.settings.evictions _ w h))
  room_only (alone {v = v} {l = l} {m = m} h e s t) = only_on h (subst (λ (i : Mode). Only i (l ++ m) v) (sym e) (only_alone s t))
  room_only (paired h e s) = only_on h (only_paired w.cache.mode e s)
