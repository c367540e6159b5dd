-- The tests of a cache come out true exactly where it is allowed.
use Rattle.std.specs.Prelude.{None, Some}
use Prim.Native.Nat.{ℕ, zero, suc}
use mathlib.Core.Path.{◌≡◌, refl, sym, ap, ◌∙◌}
use mathlib.Core.Bool.{Bool, true, false, not, ◌||◌}
use mathlib.Core.List.{List, [], ◌∷◌}
use borrow.Author.Tests.{eq-eqb, eqb-true, le-leb, leb-true, lt-ltb, ltb-true, not-true}
use lib.Dec.{eqb}
use lib.ListN.{get_or}
use Rattle.rules.specs.declared.entry.Entry.{Entry}
use Rattle.rules.specs.declared.entry.Hold.{Hold}
use Rattle.rules.specs.declared.entry.Hold.TheVariants.{Unheld, Readers, Writer}
use Rattle.rules.specs.Types.{Row}
use Rattle.rules.specs.Addresses.{elem, twice}
use Rattle.rules.specs.Allowed.{HoldAllowed, EntryAllowed, Distinct, Allowed}
use Rattle.rules.specs.Cache.{Cache}
use Rattle.rules.specs.Entries.{is_listed}
use Rattle.rules.specs.Rows.{get, passes}
use Rattle.rules.proofs.Found.{absent}
use Rattle.rules.proofs.Lists.{elem_first}
use Rattle.rules.proofs.Tests.{split}
use Rattle.layout.specs.Picture.{row_number}
use Rattle.layout.proofs.Numbers.{stands}
use Rattle.layout.proofs.Rows.{not_used, get_row}
use Rattle.judge.specs.Verdict.{◌and◌, hold_allowed, entry_allowed, every_entry, every_address, distinct, recency_allowed, is_allowed}
use Rattle.judge.proofs.Says.{no}
use Rattle.judge.proofs.Marking.{or_right}
use Rattle.judge.proofs.Names.{both, found}

-- ---- conjunctions

pub left : (a b : Bool) → a and b ≡ true → a ≡ true
unfolding ◌and◌
left true b h = refl
left false b h = h

pub right : (a b : Bool) → a and b ≡ true → b ≡ true
unfolding ◌and◌
right true b h = h
right false b h = no _ refl h

pub also : {a b : Bool} → a ≡ true → b ≡ true → a and b ≡ true
unfolding ◌and◌
also p q = rw (p, q)

implied : (a b : Bool) → not a || b ≡ true → a ≡ true → b ≡ true
implied true b h e = h
implied false b h e = no _ refl e

implies : (a b : Bool) → (a ≡ true → b ≡ true) → not a || b ≡ true
implies true b f = f refl
implies false b f = refl

-- ---- entries

hold_out : (h : Hold) → hold_allowed h ≡ true → HoldAllowed h
hold_out Unheld e = tt
hold_out (Readers n) e = (leb-true _ _ (left _ _ e), leb-true _ _ (right _ _ e))
hold_out Writer e = tt

hold_in : (h : Hold) → HoldAllowed h → hold_allowed h ≡ true
hold_in Unheld e = refl
hold_in (Readers n) e = also (le-leb _ _ e.0) (le-leb _ _ e.1)
hold_in Writer e = refl

entry_out : (e : Entry) → entry_allowed e ≡ true → EntryAllowed e
entry_out e h =
    let h1 = right _ _ h in let h2 = right _ _ h1 in let h3 = right _ _ h2 in
    record {
      address = not-true _ (left _ _ h);
      nonempty = leb-true _ _ (left _ _ h1);
      size = leb-true _ _ (left _ _ h2);
      idle = leb-true _ _ (left _ _ h3);
      hold = hold_out e.hold (right _ _ h3);
    }

entry_in : (e : Entry) → EntryAllowed e → entry_allowed e ≡ true
entry_in e a =
    also (ap not a.address) (also (le-leb _ _ a.nonempty) (also (le-leb _ _ a.size) (also (le-leb _ _ a.idle) (hold_in e.hold a.hold))))

-- ---- every entry, by row

every_out : (test : Entry → Bool) (rows : List Row) → every_entry test rows ≡ true → (r : ℕ) (e : Entry) → get_or rows r None ≡ Some e → test e ≡ true
unfolding every_entry
every_out test [] h r e q = not_used q
every_out test (None ∷ rows) h zero e q = not_used q
every_out test (None ∷ rows) h (suc r) e q = every_out test rows h r e q
every_out test (Some x ∷ rows) h zero e q = let p : x ≡ e = cc in rw p at (left _ _ h)
every_out test (Some x ∷ rows) h (suc r) e q = every_out test rows (right _ _ h) r e q

every_in : (test : Entry → Bool) (rows : List Row) → ((r : ℕ) (e : Entry) → get_or rows r None ≡ Some e → test e ≡ true) → every_entry test rows ≡ true
unfolding every_entry
every_in test [] f = refl
every_in test (None ∷ rows) f = every_in test rows (λ r e q. f (suc r) e q)
every_in test (Some x ∷ rows) f = also (f 0 x refl) (every_in test rows (λ r e q. f (suc r) e q))

-- ---- every address

each_out : (test : ℕ → Bool) (l : List ℕ) → every_address test l ≡ true → (a : ℕ) → elem a l ≡ true → test a ≡ true
unfolding every_address elem
each_out test [] h a e = no _ refl e
each_out test (b ∷ l) h a e = split (eqb b a) (λ p. rw (eqb-true b a p) at (left _ _ h)) (λ p. each_out test l (right _ _ h) a (rw p at e))

each_in : (test : ℕ → Bool) (l : List ℕ) → ((a : ℕ) → elem a l ≡ true → test a ≡ true) → every_address test l ≡ true
unfolding every_address elem
each_in test [] f = refl
each_in test (b ∷ l) f = also (f b (elem_first b l)) (each_in test l (λ a e. f a (or_right (eqb b a) (elem a l) e)))

-- ---- the rows and the list

distinct_out : (rows : List Row) → distinct rows ≡ true → Distinct rows
unfolding distinct
distinct_out [] h = tt
distinct_out (None ∷ rows) h = distinct_out rows h
distinct_out (Some e ∷ rows) h = (absent (get rows e.address) (not-true _ (left _ _ h)), distinct_out rows (right _ _ h))

distinct_in : (rows : List Row) → Distinct rows → distinct rows ≡ true
unfolding distinct
distinct_in [] d = refl
distinct_in (None ∷ rows) d = distinct_in rows d
distinct_in (Some e ∷ rows) d = also (rw d.0) (distinct_in rows d.1)

module _ (rows : List Row) (recency : List ℕ) where
  -- every listed entry stands in the list
  abbrev stood : Entry → Bool
  stood e = not (is_listed e) || elem e.address recency

  -- only those stand there
  abbrev fair : ℕ → Bool
  fair a = passes is_listed (get rows a)

  listed_out : recency_allowed rows recency ≡ true → (a : ℕ) → elem a recency ≡ passes is_listed (get rows a)
  listed_out h a =
      both _ _
      (λ e. each_out fair recency (left _ _ (right _ _ h)) a e)
      (λ e. let f = found is_listed rows a e in
      rw f.at at (implied (is_listed f.entry) (elem f.entry.address recency) (every_out stood rows (left _ _ h) (row_number rows a) f.entry f.is) f.passes))

  listed_in : Distinct rows → ((a : ℕ) → elem a recency ≡ passes is_listed (get rows a)) → twice recency ≡ false → recency_allowed rows recency ≡ true
  listed_in d f t =
      also
      (every_in stood rows (λ r e q. implies (is_listed e) (elem e.address recency) (λ s. f e.address ∙ ap (passes is_listed) (get_row rows r e d q) ∙ s)))
      (also (each_in fair recency (λ a e. sym (f a) ∙ e)) (ap not t))

-- ---- the cache

pub allowed_out : (c : Cache) → is_allowed c ≡ true → Allowed c
unfolding is_allowed
allowed_out c h =
    let h1 = right _ _ h in let h2 = right _ _ h1 in let h3 = right _ _ h2 in let h4 = right _ _ h3 in let h5 = right _ _ h4 in
    let h6 = right _ _ h5 in let h7 = right _ _ h6 in let h8 = right _ _ h7 in let h9 = right _ _ h8 in let h10 = right _ _ h9 in let h11 = right _ _ h10 in
    record {
      some_rows = leb-true _ _ (left _ _ h);
      rows = leb-true _ _ (left _ _ h1);
      entries = λ a e q. entry_out e (every_out entry_allowed c.rows (left _ _ h2) (row_number c.rows a) e (stands c.rows a e q).row);
      sound = record {
        distinct = distinct_out c.rows (left _ _ h3);
        listed = listed_out c.rows c.recency (left _ _ h4);
        once = not-true _ (right _ _ (right _ _ (left _ _ h4)));
      };
      some_bytes = leb-true _ _ (left _ _ h5);
      threshold = leb-true _ _ (left _ _ h6);
      settings = eqb-true _ _ (left _ _ h7);
      least = leb-true _ _ (left _ _ h8);
      most = leb-true _ _ (left _ _ h9);
      accesses = ltb-true _ _ (left _ _ h10);
      hits = leb-true _ _ (left _ _ h11);
      count = leb-true _ _ (right _ _ h11);
    }

pub allowed_in : (c : Cache) → Allowed c → is_allowed c ≡ true
unfolding is_allowed
allowed_in c a =
    let s = a.sound in
    also (le-leb _ _ a.some_rows) (also (le-leb _ _ a.rows)
    (also (every_in entry_allowed c.rows (λ r e q. entry_in e (a.entries e.address e (get_row c.rows r e s.distinct q))))
    (also (distinct_in c.rows s.distinct) (also (listed_in c.rows c.recency s.distinct s.listed s.once)
    (also (le-leb _ _ a.some_bytes) (also (le-leb _ _ a.threshold) (also (eq-eqb _ _ a.settings)
    (also (le-leb _ _ a.least) (also (le-leb _ _ a.most) (also (lt-ltb _ _ a.accesses) (also (le-leb _ _ a.hits) (le-leb _ _ a.count))))))))))))
