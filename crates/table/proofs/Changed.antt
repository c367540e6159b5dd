-- What each change leaves of a table that holds a cache: the words of the changed cache, which is steady again.
use Rattle.std.specs.Prelude.{if◌then◌else◌, Option, None, Some}
use Prim.Native.Nat.{ℕ, ◌+◌, ◌<◌}
use mathlib.Core.Bool.{Bool, true, false, false≢true}
use mathlib.Core.List.{List, [], ◌∷◌, ◌++◌, append-nil}
use mathlib.Core.Path.{◌≡◌, refl, sym, ap, ap₂, ◌∙◌}
use native.Mathlib.Omega.{arith}
use lib.Dec.{eqb}
use lib.ListN.{length, get_or}
use borrow.Author.Tests.{eqb-true, eq-eqb}
use Rattle.rules.specs.declared.entry.Entry.{Entry}
use Rattle.rules.specs.Types.{Row}
use Rattle.rules.specs.Addresses.{elem, strike, twice}
use Rattle.rules.specs.Allowed.{EntryAllowed, Sound}
use Rattle.rules.specs.Cache.{Cache, with_rows, amend_at, touch}
use Rattle.rules.specs.Entries.{is_listed}
use Rattle.rules.specs.Rows.{get, passes, amend, remove, is_here}
use Rattle.rules.proofs.Fit.{Fit, entries_fit, fit_entries, fit_remove, fit_amend}
use Rattle.rules.proofs.Found.{present, length_remove, length_amend}
use Rattle.rules.proofs.Lists.{elem_strike, twice_strike, strike_absent}
use Rattle.rules.proofs.Moves.{same_list, sound_remove, sound_amend}
use Rattle.rules.proofs.Sound.{sound_touch}
use Rattle.rules.proofs.Tests.{split}
use Rattle.layout.specs.Holds.{Steady, Holds}
use Rattle.layout.specs.Layout.{recency_at, addresses_at}
use Rattle.layout.specs.Leaves.{put_row, run_cut}
use Rattle.layout.specs.Picture.{row_number, addresses, encode}
use Rattle.layout.proofs.Cuts.{length_cut, cut_strike, elem_at}
use Rattle.layout.proofs.Encoded.{amend_encode, off_encode, on_encode, remove_encode}
use Rattle.layout.proofs.Held.{holds}
use Rattle.layout.proofs.Numbers.{stands, here_of, used_most, pigeon}
use Rattle.layout.proofs.Rows.{number_amend}
use Rattle.layout.proofs.Shorter.{shorter_recency, shorter_addresses}
use Rattle.table.specs.Asked.{PlaceIn}
use Rattle.table.specs.Told.{dropped, become, unlisted, put_on}

-- ---- steady again

pub steady_with : (c : Cache) (rows : List Row) (l : List ℕ) → Steady c → length rows ≡ length c.rows → Fit rows → Sound (with_rows rows l c) → Steady (with_rows rows l c)
steady_with c rows l s e f k = record {
  some_rows = let i = s.some_rows in omega arith;
  rows = let i = s.rows in omega arith;
  entries = fit_entries rows f;
  sound = k;
  settings = s.settings;
  floats = s.floats;
  least = s.least;
  most = s.most;
  count = s.count;
}

pub fit_of : (c : Cache) → Steady c → Fit c.rows
fit_of c s = entries_fit c.rows s.entries

-- ---- a list with one row more

-- a row put at the head, if it is to be there
pub on_or_not : (t : Bool) (d : Cache) (rest : List ℕ) (a k n r : ℕ) → k ≡ length d.rows → n ≡ length d.recency → r ≡ row_number d.rows a → length d.recency < length d.rows
    → put_on t k n r (encode d rest) ≡ encode (with_rows d.rows (d.recency ++ (if t then a ∷ [] else [])) d) rest
on_or_not true d rest a k n r p q s h = rw (p, q, s) (on_encode d rest a h)
on_or_not false d rest a k n r p q s h = ap (λ (l : List ℕ). encode (with_rows d.rows l d) rest) (sym (append-nil d.recency))

module _ {ws : List ℕ} {c : Cache} {rest : List ℕ} (h : Holds ws c rest) where
  -- ---- an address off the list

  module _ (a pos : ℕ) (p : PlaceIn c.recency a pos) where
    pub off_words : run_cut (recency_at (length c.rows)) (length c.rows) pos ws ≡ encode (unlisted a c) rest
    off_words =
        ap (run_cut (recency_at (length c.rows)) (length c.rows) pos) h.words
        ∙ off_encode c rest pos h.listed h.steady.sound.once p.low
        ∙ ap (λ (x : ℕ). encode (unlisted x c) rest) p.same

    pub off_length : length (strike a c.recency) + 1 ≡ length c.recency
    off_length =
        rw (← p.same)
        (let k = ap length (cut_strike pos c.recency h.steady.sound.once p.low) in let m = length_cut pos c.recency p.low in omega arith)

    -- the entry goes
    pub drop_holds : (place row : ℕ) → PlaceIn (addresses c.rows) a place → row ≡ row_number c.rows a
        → Holds (put_row row None (run_cut (addresses_at (length c.rows)) (length c.rows) place (run_cut (recency_at (length c.rows)) (length c.rows) pos ws))) (dropped a c) rest
    drop_holds place row q r =
        let s = h.steady in
        let g = present is_listed (get c.rows a) (sym (s.sound.listed a) ∙ ap (λ (x : ℕ). elem x c.recency) (sym p.same) ∙ elem_at pos c.recency p.low) in
        let k = off_length in
        let l = h.listed in
        holds
        (ap₂ (λ (i : ℕ) (x : List ℕ). put_row i None (run_cut (addresses_at (length c.rows)) (length c.rows) place x)) r off_words
        ∙ remove_encode (unlisted a c) rest a g.0 s.sound.distinct g.1 (elem_strike a a c.recency ∙ rw (eq-eqb a a refl)) (omega arith) place q.low q.same)
        (steady_with c (remove a c.rows) (strike a c.recency) s (length_remove a c.rows) (fit_remove a c.rows (fit_of c s)) (sound_remove a c s.sound))

  -- an address that is not in the list
  pub off_none : (a : ℕ) → elem a c.recency ≡ false → ws ≡ encode (unlisted a c) rest
  off_none a n = h.words ∙ ap (λ (l : List ℕ). encode (with_rows c.rows l c) rest) (sym (strike_absent a c.recency n))

  -- ---- a word out of a run's row numbers is a word out of the run

  pub cut_listed : (pos : ℕ) → pos < length c.recency
      → run_cut (recency_at (length c.rows)) (length c.recency) pos ws ≡ run_cut (recency_at (length c.rows)) (length c.rows) pos ws
  cut_listed pos l = rw h.words (shorter_recency c rest pos h.listed l)

  pub cut_both : (pos place : ℕ) → pos < length c.recency → place < length (addresses c.rows)
      → run_cut (addresses_at (length c.rows)) (length (addresses c.rows)) place (run_cut (recency_at (length c.rows)) (length c.recency) pos ws)
      ≡ run_cut (addresses_at (length c.rows)) (length c.rows) place (run_cut (recency_at (length c.rows)) (length c.rows) pos ws)
  cut_both pos place l q =
      let a = get_or c.recency pos 0 in
      let p : PlaceIn c.recency a pos = record { low = l; same = refl } in
      let short = h.listed in
      let less = off_length a pos p in
      rw (cut_listed pos l, off_words a pos p) (shorter_addresses (unlisted a c) rest place (omega arith) q)

  -- ---- an entry takes new particulars

  module _ (e : Entry) (here : is_here c.rows e.address ≡ true) (ok : EntryAllowed e) where
    become_allowed : (x : Entry) → EntryAllowed x → EntryAllowed (become e x)
    become_allowed x k = record { address = k.address; nonempty = ok.nonempty; size = ok.size; idle = ok.idle; hold = ok.hold }

    become_fit : Fit (amend e.address (become e) c.rows)
    become_fit = fit_amend e.address (become e) (λ x. refl) c.rows (λ x g. become_allowed x) (fit_of c h.steady)

    -- the entry's words in its row, whatever the list is
    become_encode : (l : List ℕ) → put_row (row_number c.rows e.address) (Some e) (encode (with_rows c.rows l c) rest) ≡ encode (amend_at e.address (become e) (with_rows c.rows l c)) rest
    become_encode l =
        let p = present (λ x. true) (get c.rows e.address) here in
        let b = (stands c.rows e.address p.0 p.1).address in
        let same : e ≡ become e p.0 = λ i. record { address = sym b i; size = e.size; dirty = e.dirty; idle = e.idle; pinned = e.pinned; hold = e.hold } in
        ap (λ (x : Entry). put_row (row_number c.rows e.address) (Some x) (encode (with_rows c.rows l c) rest)) same
        ∙ amend_encode (with_rows c.rows l c) rest e.address (become e) (λ x. refl) p.0 h.steady.sound.distinct p.1

    listed_as : (o : Option Entry) → passes (λ x. true) o ≡ true → passes (λ x. is_listed (become e x)) o ≡ is_listed e
    listed_as None k = absurd (false≢true k)
    listed_as (Some x) k = refl

    pub set_holds : is_listed e ≡ passes is_listed (get c.rows e.address) → Holds (put_row (row_number c.rows e.address) (Some e) ws) (amend_at e.address (become e) c) rest
    set_holds stays =
        holds
        (ap (put_row (row_number c.rows e.address) (Some e)) h.words ∙ become_encode c.recency)
        (steady_with c (amend e.address (become e) c.rows) c.recency h.steady (length_amend e.address (become e) c.rows) become_fit
        (sound_amend e.address (become e) (λ x. refl) c.recency c (same_list c.recency) (listed_as (get c.rows e.address) here ∙ stays) h.steady.sound))

    -- a list without the address leaves room for it
    pub shorter : length (strike e.address c.recency) < length c.rows
    unfolding elem twice
    shorter =
        let l = pigeon c.rows (e.address ∷ strike e.address c.recency) once there in
        let u = used_most c.rows in
        omega arith
      where
        once : twice (e.address ∷ strike e.address c.recency) ≡ false
        once = rw (elem_strike e.address e.address c.recency, eq-eqb e.address e.address refl) (twice_strike e.address c.recency h.steady.sound.once)

        there : (b : ℕ) → elem b (e.address ∷ strike e.address c.recency) ≡ true → is_here c.rows b ≡ true
        there b m =
            split (eqb e.address b)
            (λ p. ap (is_here c.rows) (sym (eqb-true e.address b p)) ∙ here)
            (λ p. here_of is_listed (get c.rows b) (sym (h.steady.sound.listed b) ∙ sym (elem_strike e.address b c.recency ∙ simp p) ∙ simp p at m))

    pub touch_holds : (n : ℕ) → n ≡ length (strike e.address c.recency)
        → Holds (put_on (is_listed e) (length c.rows) n (row_number c.rows e.address) (put_row (row_number c.rows e.address) (Some e) (encode (unlisted e.address c) rest))) (touch e.address (become e) c) rest
    touch_holds n q =
        let rows : List Row = amend e.address (become e) c.rows in
        let d : Cache = with_rows rows (strike e.address c.recency) c in
        let k = length_amend e.address (become e) c.rows in
        let s = shorter in
        holds
        (ap (put_on (is_listed e) (length c.rows) n (row_number c.rows e.address)) (become_encode (strike e.address c.recency))
        ∙ on_or_not (is_listed e) d rest e.address _ n _ (sym k) q (sym (number_amend e.address (become e) (λ x. refl) c.rows e.address)) (omega arith)
        ∙ ap (λ (t : Bool). encode (with_rows rows (strike e.address c.recency ++ (if t then e.address ∷ [] else [])) c) rest) (sym (listed_as (get c.rows e.address) here)))
        (steady_with c rows _ h.steady k become_fit (sound_touch e.address (become e) (λ x. refl) c h.steady.sound))
