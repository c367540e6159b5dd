-- An entry that loses a hold: it is touched in its row, and room is made for nothing unless it is still held.
use Rattle.std.specs.Prelude.{if◌then◌else◌, Some, None}
use Prim.Native.Nat.{ℕ}
use mathlib.Core.Bool.{Bool, true, false}
use mathlib.Core.List.{List, []}
use mathlib.Core.Path.{◌≡◌, refl, sym, ap, subst, ◌∙◌}
use lib.ListN.{length}
use borrow.Author.Tests.{eq-eqb}
use Rattle.rules.proofs.Effects.{released_allowed}
use Rattle.rules.proofs.Found.{get_amend, length_amend}
use Rattle.rules.proofs.Totals.{total_same}
use Rattle.rules.specs.Allowed.{EntryAllowed}
use Rattle.rules.specs.Cache.{Cache, start, touch}
use Rattle.rules.specs.Entries.{is_held, less_one, changed_to, released}
use Rattle.rules.specs.Refusals.{bad_size, too_few_words}
use Rattle.rules.specs.Requests.{named, room_if_released}
use Rattle.rules.specs.Room.{make_room}
use Rattle.rules.specs.Rows.{get, passes, amend, held_bytes}
use Rattle.rules.specs.declared.entry.Entry.{Entry}
use Rattle.rules.specs.declared.entry.Hold.{Hold}
use Rattle.reason_rules.specs.declared.Reason.{Reason}
use Rattle.reason_rules.specs.Reasons.{room_reasons, release_reasons}
use Rattle.reason_rules.proofs.Choices.{if_true, if_false}
use Rattle.layout.proofs.Held.{holds_cache, holds_rest, onward}
use Rattle.layout.specs.Holds.{Holds, Good}
use Rattle.layout.specs.Picture.{cache_in, rest_in}
use Rattle.table.proofs.Told.{good_rows, told_address}
use Rattle.table.specs.Asked.{GoodRows, RowOf}
use Rattle.table.specs.Told.{become}
use Rattle.room.proofs.Kept.{did_start}
use Rattle.room.proofs.Orders.{words_fit}
use Rattle.room.specs.Did.{Did, Fits}
use Rattle.room.specs.Held.{HeldIs}
use Rattle.room.specs.Types.{Held}
use Rattle.table.proofs.Amended.{Keeps, asks_touch, told_touch}
use Rattle.resize.proofs.Resized.{changed_keeps}
use Rattle.release.specs.Unheld.{room_unless_held, reasons_unless_held}

-- ---- the entry

-- what becomes of it is within its limits, and has a hold less
pub record Releases (f : Entry → Entry) (e : Entry) : Type 0 where
  pub keeps : Keeps f e
  pub hold : (f e).hold ≡ less_one e.hold

pub unchanged : (e : Entry) → Releases released e
unchanged e = record { keeps = record { address = λ x. refl; allowed = released_allowed e }; hold = refl }

abbrev pub changed_released : ℕ → Entry → Entry
changed_released s e = released (changed_to s e)

pub changed : (s : ℕ) (e : Entry) → bad_size s ≡ false → Releases (changed_released s) e
changed s e z = record {
  keeps = record { address = λ x. refl; allowed = λ k. released_allowed (changed_to s e) ((changed_keeps s e z).allowed k) };
  hold = refl;
}

-- a size named at the entry's own address
pub named_here : (c : Cache) (a s : ℕ) (e : Entry) {ws rest : List ℕ} → get c.rows a ≡ Some e → Holds ws (named e.address s c) rest → Holds ws (named a s c) rest
named_here c a s e {ws} {rest} g h = subst (λ (b : ℕ). Holds ws (named b s c) rest) (told_address c.rows a e g) h

-- ---- room unless held

module _ (hold : Hold) where
  pub room_held : {table lent : List ℕ} → is_held hold ≡ true → Good table → Did (room_unless_held hold (cache_in table)) (rest_in table) table 0 lent lent 0
  room_held u g = rw u (did_start g)

  pub room_made_whole : (c : Cache) {rest table lent words : List ℕ} {given : ℕ} → is_held hold ≡ false → Did (make_room 0 false (start c)) rest table 0 lent words given
      → Did (room_unless_held hold c) rest table 0 lent words given
  room_made_whole c u d = rw u d

  -- and the reasons
  pub reasons_held : (c : Cache) {l : List Reason} → is_held hold ≡ true → l ≡ [] → l ≡ reasons_unless_held hold c
  reasons_held c u i = i ∙ sym (if_true (is_held hold) [] (room_reasons 0 false (start c)) u)

  pub reasons_made : (c : Cache) {l : List Reason} → is_held hold ≡ false → l ≡ room_reasons 0 false (start c) → l ≡ reasons_unless_held hold c
  reasons_made c u i = i ∙ sym (if_false (is_held hold) [] (room_reasons 0 false (start c)) u)

-- ---- the entry touched, and room made

-- the table holds a cache d with the rows of c, where the entry is
module _ (f : Entry → Entry) {a rows row : ℕ} {e x : Entry} (k : Releases f e) (p : x ≡ f e) {ws rest : List ℕ} (c : Cache) {d : Cache} (same : d.rows ≡ c.rows) (h : Holds ws d rest)
    (q : rows ≡ length c.rows) (r : RowOf c.rows a row) (g : get c.rows a ≡ Some e) where
  rows_told : (cache_in ws).rows ≡ c.rows
  rows_told = ap (λ (b : Cache). b.rows) (holds_cache h) ∙ same

  good : GoodRows ws rows
  good = good_rows h (q ∙ sym (ap length same))

  there : RowOf (cache_in ws).rows a row
  there = rw rows_told r

  found : get (cache_in ws).rows a ≡ Some e
  found = rw rows_told g

  -- what touching the entry asks
  pub touch_asked : GoodRows ws rows × RowOf (cache_in ws).rows x.address row × EntryAllowed x
  touch_asked = asks_touch f k.keeps p good there found

  module _ {vs : List ℕ} (m : Holds vs (touch x.address (become x) (cache_in ws)) (rest_in ws)) where
    touched : Holds vs (touch a f d) rest
    touched = onward (touch a f) h (told_touch f k.keeps p good there found m)

    -- what making room asks
    pub room_asked : (lent : List ℕ) → too_few_words c (length lent) ≡ false → GoodRows vs rows × Fits (cache_in vs) 0 lent
    room_asked lent t =
        let l = length_amend a f d.rows ∙ ap length same in
        (good_rows touched (q ∙ sym l), rw (holds_cache touched) (words_fit c (touch a f d) lent t l))

    -- sizes stay, and so do the held bytes that are known
    pub held_stays : ((y : Entry) → (f y).size ≡ y.size) → (known : Held) → HeldIs known (cache_in ws) → HeldIs known (cache_in vs)
    held_stays z (Some n) i =
        i ∙ ap held_bytes (rows_told ∙ sym same) ∙ sym (total_same (λ y. y.size) a f z d.rows) ∙ ap (λ (b : Cache). held_bytes b.rows) (sym (holds_cache touched))
    held_stays z None i = tt

    -- the rules test the hold that is left
    hold_left : passes (λ y. is_held y.hold) (get (amend a f d.rows) a) ≡ is_held (less_one e.hold)
    hold_left = rw (get_amend a f k.keeps.address a d.rows, eq-eqb a a refl, same, g) (ap is_held k.hold)

    pub room_told : {out lent words : List ℕ} {given : ℕ} {l : List Reason} (hold : Hold) → hold ≡ less_one e.hold
        → Did (room_unless_held hold (cache_in vs)) (rest_in vs) out 0 lent words given × (l ≡ reasons_unless_held hold (cache_in vs))
        → Did (room_if_released a (touch a f d)) rest out 0 lent words given × (l ≡ release_reasons a (touch a f d))
    room_told {out} {lent} {words} {given} hold u w =
        let left : is_held hold ≡ passes (λ y. is_held y.hold) (get (amend a f d.rows) a) = ap is_held u ∙ sym hold_left in
        let did = w.0 in (
          subst (λ (t : Bool). Did (if t then start (touch a f d) else make_room 0 false (start (touch a f d))) rest out 0 lent words given) left
              (rw (holds_cache touched, holds_rest touched) at did),
          w.1 ∙ ap (reasons_unless_held hold) (holds_cache touched) ∙ ap (λ (t : Bool). if t then [] else room_reasons 0 false (start (touch a f d))) left,
        )
