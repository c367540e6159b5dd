-- What is written was dirty, what is evicted was clean and listed, and the orders account for all that a request did to the entries before
-- its last step: each move gives its own order, and a load another.
use Rattle.std.specs.Prelude.{if◌then◌else◌, Option, None, Some, option_map, unwrap_or}
use Prim.Native.Nat.{ℕ}
use mathlib.Core.Path.{◌≡◌, refl, sym, ap, ap₂, subst, fun_ext, ◌∙◌}
use mathlib.Core.Bool.{Bool, true, false, false≢true, true≢false}
use mathlib.Core.List.{List, [], ◌∷◌, ◌++◌, append_assoc, append-nil}
use lib.Dec.{eqb}
use borrow.Author.Tests.{eqb-true}
use Rattle.rules.specs.declared.entry.Entry.{Entry}
use Rattle.rules.specs.declared.entry.Hold.TheVariants.{Unheld}
use Rattle.rules.specs.Types.{Row}
use Rattle.rules.specs.declared.order.Kind.{Kind}
use Rattle.rules.specs.declared.order.Order.{Order}
use Rattle.rules.specs.declared.request.Access.{Access}
use Rattle.rules.specs.declared.request.Access.TheVariants.{Reading, Writing}
use Rattle.rules.specs.declared.request.Request.{Request}
use Rattle.rules.specs.declared.request.Request.TheVariants.{Insert, Protect, Release, ReleaseChanged, Pin, Unpin, Resize, Discard, Flush, Sync, Take, Configure}
use Rattle.rules.specs.Addresses.{elem, twice}
use Rattle.rules.specs.Allowed.{Sound}
use Rattle.rules.specs.Cache.{Cache, Work, start, touch}
use Rattle.rules.specs.Entries.{is_listed, cleaned, new_entry, joined, protected_for, released, changed_to}
use Rattle.rules.specs.Given.{standing, View, view_of, at, Given, nothing, write, evict, load, can_order, OrdersGiven}
use Rattle.rules.specs.Hosts.{accepted}
use Rattle.rules.specs.Refusals.{Call, tests, first_of, refusal_of}
use Rattle.rules.specs.Requests.{judged, effect, step, writes_of, loaded, inserted, named, configured}
use Rattle.rules.specs.Resizing.{older}
use Rattle.rules.specs.Rows.{get, amend, amend_each, remove, place, has_free, is_here, dirty_at, dirty_rising, size_at}
use Rattle.rules.proofs.Effects.{ready, room_for, named_sound}
use Rattle.rules.proofs.Epochs.{count_moves, released_moves}
use Rattle.rules.proofs.Found.{get_remove, get_amend, get_amend_all, get_place, present}
use Rattle.rules.proofs.Lists.{elem_first, elem_rest}
use Rattle.rules.proofs.Moves.{Moves, done, evicts, writes, tunes, ages, notes, tuned, noted, idled, room_moves, dirty_moves, sound_listed, sound_same}
use Rattle.rules.proofs.Rising.{flush_order, rising_once}
use Rattle.rules.proofs.Sound.{sound_touch, sound_load}
use Rattle.rules.proofs.Steps.{failed, stepped}
use Rattle.rules.proofs.Tests.{split, neither}

-- ---- views

-- the entries of rows by address
abbrev view : List Row → View
view rows = λ a. option_map standing (get rows a)

stands_if : (t : Bool) (x y : Option Entry) → option_map standing (if t then x else y) ≡ (if t then option_map standing x else option_map standing y)
stands_if true x y = refl
stands_if false x y = refl

view_remove : (a : ℕ) (rows : List Row) → at a None (view rows) ≡ view (remove a rows)
view_remove a rows = fun_ext (λ b. rw (get_remove a b rows) (sym (stands_if (eqb a b) None (get rows b))))

view_place : (e : Entry) (rows : List Row) → has_free rows ≡ true → get rows e.address ≡ None → at e.address (Some (standing e)) (view rows) ≡ view (place e rows)
view_place e rows h n = fun_ext (λ b. rw (get_place e b rows h n) (sym (stands_if (eqb e.address b) (Some e) (get rows b))))

-- an entry that was written
view_clean : (a : ℕ) (e : Entry) (rows : List Row) → get rows a ≡ Some e
    → at a (Some (record { size = size_at rows a; dirty = false; listed = is_listed e })) (view rows) ≡ view (amend a cleaned rows)
view_clean a e rows g =
    fun_ext (λ b. rw (get_amend a cleaned (λ e. refl) b rows)
    (split (eqb a b) (λ q. simp (q, ← ap (get rows) (eqb-true a b q), g)) (λ q. simp q)))

-- ---- orders that lead from one cache to another

given_append : {u v w : View} {l m : List Order} → Given u l v → Given v m w → Given u (l ++ m) w
given_append nothing n = n
given_append (write a s i h k) n = write a s i h (given_append k n)
given_append (evict a s h k) n = evict a s h (given_append k n)
given_append (load a s h k) n = load a s h (given_append k n)

record Leads (w v : Work) : Type 0 where
  new : List Order
  orders : v.orders ≡ w.orders ++ new
  given : Given (view_of w.cache) new (view_of v.cache)

leads_trans : {u v w : Work} → Leads u v → Leads v w → Leads u w
leads_trans {u} p q = record {
  new = p.new ++ q.new;
  orders = q.orders ∙ ap (λ (l : List Order). l ++ q.new) p.orders ∙ append_assoc u.orders p.new q.new;
  given = given_append p.given q.given;
}

-- no order, and the same view
leads_same : (w v : Work) → v.orders ≡ w.orders → view_of w.cache ≡ view_of v.cache → Leads w v
leads_same w v p q = record { new = []; orders = p ∙ sym (append-nil w.orders); given = subst (Given (view_of w.cache) []) q nothing }

-- one order
leads_one : {w v : Work} {u : View} (o : Order) → v.orders ≡ w.orders ++ o ∷ [] → u ≡ view_of v.cache
    → (Given u [] u → Given (view_of w.cache) (o ∷ []) u) → Leads w v
leads_one {w} o p q g = record { new = o ∷ []; orders = p; given = subst (Given (view_of w.cache) (o ∷ [])) q (g nothing) }

moves_lead : {may sets : Bool} {w v : Work} → Moves may sets w v → Leads w v
moves_lead (done {w}) = leads_same w w refl refl
moves_lead (evicts {w} a e g l d m) =
    leads_trans
    (leads_one (record { kind = Kind.Evict; address = a; size = size_at w.cache.rows a }) refl (view_remove a w.cache.rows)
    (λ k. evict a (size_at w.cache.rows a) (rw (g, l, d)) k))
    (moves_lead m)
moves_lead (writes {w} a e r y g l d s m) =
    leads_trans
    (leads_one (record { kind = Kind.Write; address = a; size = size_at w.cache.rows a }) refl (view_clean a e w.cache.rows g)
    (λ k. write a (size_at w.cache.rows a) (is_listed e) (rw (g, d)) k))
    (moves_lead m)
moves_lead (tunes {w} n h k y m) = leads_trans (leads_same w (tuned n h k w) refl refl) (moves_lead m)
moves_lead (notes {w} b m) = leads_trans (leads_same w (noted b w) refl refl) (moves_lead m)
moves_lead (ages {w} y m) = leads_trans (leads_same w (idled w) refl (fun_ext (λ b. rw (get_amend_all older (λ e. refl) b w.cache.rows) (go (get w.cache.rows b))))) (moves_lead m)
  where
    go : (o : Option Entry) → option_map standing o ≡ option_map standing (option_map older o)
    go None = refl
    go (Some e) = refl

-- ---- a load

load_leads : (x : Access) (a s : ℕ) (w : Work) → has_free w.cache.rows ≡ true → get w.cache.rows a ≡ None → Leads w (loaded x a s w)
load_leads x a s w h n =
    leads_one (record { kind = Kind.Load; address = a; size = s }) refl (view_place (new_entry a s false (joined x Unheld)) w.cache.rows h n)
    (λ k. load a s (rw n) (subst (λ (l : Bool). Given (at a (Some (record { size = s; dirty = false; listed = l })) (view_of w.cache)) []
    (at a (Some (standing (new_entry a s false (joined x Unheld)))) (view_of w.cache))) (unlisted x) k))
  where
    unlisted : (x : Access) → is_listed (new_entry a s false (joined x Unheld)) ≡ false
    unlisted Reading = refl
    unlisted Writing = refl

-- ---- a flush

-- cleaning changes no size
size_cleaned : (a b : ℕ) (rows : List Row) → size_at (amend a cleaned rows) b ≡ size_at rows b
size_cleaned a b rows = rw (get_amend a cleaned (λ e. refl) b rows) (split (eqb a b) (λ q. simp q (go (get rows b))) (λ q. simp q))
  where
    go : (o : Option Entry) → unwrap_or (option_map (λ e. e.size) (option_map cleaned o)) 0 ≡ unwrap_or (option_map (λ e. e.size) o) 0
    go None = refl
    go (Some e) = refl

writes_cleaned : (a : ℕ) (rows : List Row) (l : List ℕ) → writes_of (amend a cleaned rows) l ≡ writes_of rows l
writes_cleaned a rows [] = refl
writes_cleaned a rows (b ∷ l) =
    ap₂ (λ (n : ℕ) (r : List Order). record { kind = Kind.Write; address = b; size = n } ∷ r) (size_cleaned a b rows) (writes_cleaned a rows l)

write_first : (a : ℕ) (e : Entry) (rows : List Row) → get rows a ≡ Some e → e.dirty ≡ true → {m : List Order} {u : View} → Given (view (amend a cleaned rows)) m u
    → Given (view rows) (record { kind = Kind.Write; address = a; size = size_at rows a } ∷ m) u
write_first a e rows g d {m} {u} k =
    write {v = view rows} a (size_at rows a) (is_listed e) (rw (g, d)) (subst (λ (v : View). Given v m u) (sym (view_clean a e rows g)) k)

flush_given : (l : List ℕ) (rows : List Row) → twice l ≡ false → ((b : ℕ) → elem b l ≡ true → dirty_at rows b ≡ true)
    → Given (view rows) (writes_of rows l) (view (amend_each l cleaned rows))
unfolding amend_each twice
flush_given [] rows t h = nothing
flush_given (a ∷ l) rows t h =
    let o = neither (elem a l) (twice l) t in
    let p = present (λ e. e.dirty) (get rows a) (h a (elem_first a l)) in
    let u = amend a cleaned rows in
    let k = flush_given l u o.1 (λ b i. go b o.0 i) in
    write_first a p.0 rows p.1 p.2 (subst (λ (m : List Order). Given (view u) m (view (amend_each l cleaned u))) (writes_cleaned a rows l) k)
  where
    -- a later address is another, and dirty as before
    go : (b : ℕ) → elem a l ≡ false → elem b l ≡ true → dirty_at (amend a cleaned rows) b ≡ true
    go b n i =
        rw (get_amend a cleaned (λ e. refl) b rows)
        (split (eqb a b) (λ q. absurd (true≢false (sym i ∙ ap (λ (x : ℕ). elem x l) (sym (eqb-true a b q)) ∙ n))) (λ q. simp q (h b (elem_rest a b l i))))

-- ---- by request

-- the orders of a work that began with none
started : {c : Cache} {w : Work} → Leads (start c) w → Given (view_of c) w.orders (view_of w.cache)
started {c} {w} l = subst (λ (m : List Order). Given (view_of c) m (view_of w.cache)) (sym l.orders) l.given

-- the view before the new entry is placed
before_insert : (a s : ℕ) (w : Work) → has_free w.cache.rows ≡ true → get w.cache.rows a ≡ None → view_of w.cache ≡ at a None (view_of (inserted a s w).cache)
before_insert a s w h n =
    fun_ext (λ b. rw (get_place (new_entry a s true Unheld) b w.cache.rows h n)
    (split (eqb a b) (λ q. simp (q, ← ap (get w.cache.rows) (eqb-true a b q), n)) (λ q. simp q)))

module _ (c : Cache) (lent : ℕ) (message : List ℕ) (k : Sound c) where
  orders_given : (r : Request) → first_of (tests c lent message r) ≡ None → OrdersGiven (can_order r) c r (judged None c (effect c message r))
  unfolding tests effect
  orders_given (Insert a s) e =
      let f = failed (tests c lent message (Insert a s)) e in
      let r = ready a s c k f.1.1.1.0 f.1.1.1.1.0 in
      let w = room_for s c in
      subst (Given (view_of c) w.orders) (before_insert a s w r.free r.absent) (started (moves_lead r.moves))
  orders_given (Protect x a s) e =
      let f = failed (tests c lent message (Protect x a s)) e in
      split (is_here c.rows a)
      (λ p. rw p (started (moves_lead (count_moves true (start (touch a (protected_for x) c)) (sound_touch a (protected_for x) (λ e. refl) c k)))))
      (λ p. let r = ready a s c k p (simp p at f.1.1.1.1.0) in
      let w = room_for s c in
      rw p (started (leads_trans (moves_lead r.moves) (leads_trans (load_leads x a s w r.free r.absent)
      (moves_lead (count_moves false (loaded x a s w) (sound_load x a s w.cache r.free r.absent r.sound)))))))
  orders_given (Release a) e = started (moves_lead (released_moves {sets = false} a (touch a released c) (sound_touch a released (λ e. refl) c k)))
  orders_given (ReleaseChanged a s) e =
      let g : Entry → Entry = λ e. released (changed_to s e) in
      started (moves_lead (released_moves {sets = false} a (touch a g (named a s c)) (sound_touch a g (λ e. refl) (named a s c) (named_sound a s c k))))
  orders_given (Pin a) e = refl
  orders_given (Unpin a) e = refl
  orders_given (Resize a s) e = refl
  orders_given (Discard a) e = refl
  orders_given Flush e =
      let o = flush_order c.rows k.distinct in
      flush_given (dirty_rising c.rows) c.rows (rising_once _ o.rising) (λ b i. sym (o.dirty b) ∙ i)
  orders_given Sync e = started (moves_lead (dirty_moves {sets = false} 0 c.recency (start c) (sound_listed (start c) k)))
  orders_given Take e = refl
  orders_given (Configure s) e =
      started (moves_lead (room_moves {sets = false} 0 false (start (configured s c)) (sound_same c (configured s c) refl refl k)))

pub given : (c : Cache) (call : Call) → Sound c → accepted (step c call) ≡ true → OrdersGiven (can_order call.request) c call.request (step c call)
unfolding refusal_of
given c call k =
    stepped c call (λ o. accepted o ≡ true → OrdersGiven (can_order call.request) c call.request o)
    (λ e t. orders_given c call.lent call.message k call.request e) (λ r t. absurd (false≢true t))
