-- An entry is written: it stays where it stands, or the tail goes to the head.
use Rattle.std.specs.Prelude.{if◌then◌else◌, Some}
use Prim.Native.Nat.{ℕ, ◌+◌, ◌-◌, ◌<◌}
use mathlib.Core.Bool.{Bool, true, false}
use mathlib.Core.List.{List, [], ◌∷◌, ◌++◌}
use mathlib.Core.Path.{◌≡◌, refl, sym, ap, ap₂, ◌∙◌}
use native.Mathlib.Omega.{arith}
use lib.ListN.{length, get_or, set, drop, length-drop}
use Rattle.rules.specs.declared.entry.Entry.{Entry}
use Rattle.rules.specs.Types.{Row}
use Rattle.rules.specs.Addresses.{strike, twice}
use Rattle.rules.specs.Allowed.{Distinct}
use Rattle.rules.specs.Cache.{Cache, with_rows, amend_at, touch}
use Rattle.rules.specs.Entries.{is_listed, cleaned}
use Rattle.rules.specs.Rows.{get, passes, amend, is_here}
use Rattle.rules.proofs.Fit.{fit_amend, clean_allowed}
use Rattle.rules.proofs.Found.{present, length_amend}
use Rattle.rules.proofs.Moves as moves
use Rattle.rules.proofs.Moves.{SameList, same_list, sound_write}
use Rattle.layout.specs.Holds.{Holds}
use Rattle.layout.specs.Layout.{row_at, recency_at}
use Rattle.layout.specs.Leaves.{put_row, run_cut}
use Rattle.layout.specs.Picture.{row_number, encode}
use Rattle.layout.proofs.Cuts.{cut, cut_strike}
use Rattle.layout.proofs.Encoded.{amend_encode, word_encode, off_encode, on_encode}
use Rattle.layout.proofs.Held.{holds}
use Rattle.layout.proofs.Numbers.{stands}
use Rattle.layout.proofs.Rows.{amend_row, number_amend}
use Rattle.layout.proofs.Shorter.{shorter_recency}
use Rattle.table.specs.Told.{become, turned}
use Rattle.table.proofs.Changed.{steady_with, fit_of}

-- an entry changed by two functions that agree on it
pub amend_as : (f g : Entry → Entry) (rows : List Row) (a : ℕ) (e : Entry) → Distinct rows → get rows a ≡ Some e → f e ≡ g e → amend a f rows ≡ amend a g rows
amend_as f g rows a e d r q =
    let s = stands rows a e r in
    ap (λ (x : ℕ). amend x f rows) (sym s.address)
    ∙ amend_row f rows (row_number rows a) e d s.row
    ∙ ap (λ (x : Entry). set rows (row_number rows a) (Some x)) q
    ∙ sym (amend_row g rows (row_number rows a) e d s.row)
    ∙ ap (λ (x : ℕ). amend x g rows) s.address

-- taking the particulars of the changed entry is the change
pub become_as : (f : Entry → Entry) → ((e : Entry) → (f e).address ≡ e.address) → (rows : List Row) (a : ℕ) (e : Entry) → Distinct rows → get rows a ≡ Some e
    → amend a (become (f e)) rows ≡ amend a f rows
become_as f keeps rows a e d r =
    amend_as (become (f e)) f rows a e d r (λ i. record { address = sym (keeps e) i; size = (f e).size; dirty = (f e).dirty; idle = (f e).idle; pinned = (f e).pinned; hold = (f e).hold })

-- the same where the list changes too
pub touch_as : (f : Entry → Entry) → ((e : Entry) → (f e).address ≡ e.address) → (c : Cache) (a : ℕ) (e : Entry) → Distinct c.rows → get c.rows a ≡ Some e
    → touch a (become (f e)) c ≡ touch a f c
touch_as f keeps c a e d r =
    let listed : passes (λ x. is_listed (become (f e) x)) (get c.rows a) ≡ passes (λ x. is_listed (f x)) (get c.rows a) = rw r in
    ap₂ (λ (rows : List Row) (t : Bool). with_rows rows (strike a c.recency ++ (if t then a ∷ [] else [])) c) (become_as f keeps c.rows a e d r) listed

tail_cut : (l : List ℕ) → twice l ≡ false → 0 < length l → strike (get_or l 0 0) l ≡ drop 1 l
unfolding cut
tail_cut [] t h = absurd (omega arith)
tail_cut (a ∷ l) t h = cut_strike 0 (a ∷ l) t h

tail_same : (l : List ℕ) → 0 < length l → SameList (drop 1 l ++ get_or l 0 0 ∷ []) l
tail_same [] h = absurd (omega arith)
tail_same (a ∷ l) h = moves.turned a l

-- the mark in an entry's row written
pub clean_holds : {ws : List ℕ} {c : Cache} {rest : List ℕ} (a : ℕ) → Holds ws c rest → is_here c.rows a ≡ true
    → Holds (set ws (row_at (row_number c.rows a) + 2) 0) (amend_at a cleaned c) rest
clean_holds {ws} {c} {rest} a h here =
    let p = present (λ e. true) (get c.rows a) here in
    let s = stands c.rows a p.0 p.1 in
    holds
    (ap (λ (x : List ℕ). set x (row_at (row_number c.rows a) + 2) 0) h.words
    ∙ word_encode c rest (row_number c.rows a) 2 0 cleaned (λ x. refl) p.0 h.steady.sound.distinct s.low (omega arith) s.row refl
    ∙ ap (λ (x : ℕ). encode (amend_at x cleaned c) rest) s.address)
    (steady_with c (amend a cleaned c.rows) c.recency h.steady (length_amend a cleaned c.rows)
    (fit_amend a cleaned (λ x. refl) c.rows (λ x k. clean_allowed x) (fit_of c h.steady))
    (sound_write a c.recency c (same_list c.recency) h.steady.sound))

module _ {ws : List ℕ} {c : Cache} {rest : List ℕ} (h : Holds ws c rest) (some-listed : 0 < length c.recency) where
  pub turn_holds : (e : Entry) (n : ℕ) → get c.rows (get_or c.recency 0 0) ≡ Some e → n ≡ length c.recency
      → Holds (set (run_cut (recency_at (length c.rows)) n 0 (put_row (row_number c.rows (get_or c.recency 0 0)) (Some (cleaned e)) ws)) (recency_at (length c.rows) + (n - 1)) (row_number c.rows (get_or c.recency 0 0)))
      (turned c) rest
  turn_holds e n g q =
      let a = get_or c.recency 0 0 in
      let k = length c.rows in
      let r = row_number c.rows a in
      let rows : List Row = amend a cleaned c.rows in
      let d : Cache = with_rows rows c.recency c in
      let b : Cache = with_rows rows (drop 1 c.recency) c in
      let la = length_amend a cleaned c.rows in
      let ld = length-drop 1 c.recency in
      let short = h.listed in
      let once = h.steady.sound.once in
      let m : n - 1 ≡ length (drop 1 c.recency) = omega arith in
      holds
      (ap (λ (x : List ℕ). set (run_cut (recency_at k) n 0 (put_row r (Some (cleaned e)) x)) (recency_at k + (n - 1)) r) h.words
      ∙ ap (λ (x : List ℕ). set (run_cut (recency_at k) n 0 x) (recency_at k + (n - 1)) r) (amend_encode c rest a cleaned (λ x. refl) e h.steady.sound.distinct g)
      ∙ ap₂ (λ (i j : ℕ). set (run_cut (recency_at i) j 0 (encode d rest)) (recency_at k + (n - 1)) r) (sym la) q
      ∙ ap (λ (x : List ℕ). set x (recency_at k + (n - 1)) r) (shorter_recency d rest 0 (omega arith) some-listed ∙ off_encode d rest 0 (omega arith) once some-listed ∙ ap (λ (l : List ℕ). encode (with_rows rows l c) rest) (tail_cut c.recency once some-listed))
      ∙ ap₂ (λ (i j : ℕ). set (encode b rest) (recency_at i + j) r) (sym la) m
      ∙ ap (λ (j : ℕ). set (encode b rest) (recency_at (length b.rows) + length b.recency) j) (sym (number_amend a cleaned (λ x. refl) c.rows a))
      ∙ on_encode b rest a (omega arith))
      (steady_with c rows _ h.steady la (fit_amend a cleaned (λ x. refl) c.rows (λ x s. clean_allowed x) (fit_of c h.steady))
      (sound_write a (drop 1 c.recency ++ a ∷ []) c (tail_same c.recency some-listed) h.steady.sound))
