-- Rows and their words, both ways: words that fit are those of the row read from them, and the words of an allowed row fit.
use Rattle.std.specs.Prelude.{None, Some}
use Prim.Native.Nat.{ℕ, zero, suc, ◌+◌, ◌*◌, ◌≤◌, ◌<◌}
use mathlib.Core.Path.{◌≡◌, refl, sym, ap, ◌∙◌}
use mathlib.Core.Bool.{Bool, true, false, not}
use mathlib.Core.List.{List, [], ◌∷◌, ◌++◌}
use native.Mathlib.Omega.{arith}
use native.Mathlib.Nat.{add-zero, le_of_suc-le-suc}
use borrow.Author.Tests.{eq-eqb, ne_eqb, eqb-true, eqb-false}
use lib.Dec.{eqb}
use lib.ListN.{length, get_or, take, drop}
use lib.Seq.{take-add, drop-cons, drop-drop}
use Rattle.settings_words.specs.Words.{flag_word, flag_of}
use Rattle.rules.specs.declared.entry.Entry.{Entry}
use Rattle.rules.specs.declared.entry.Hold.{Hold}
use Rattle.rules.specs.declared.entry.Hold.TheVariants.{Unheld, Readers, Writer}
use Rattle.rules.specs.Types.{Row}
use Rattle.rules.specs.Allowed.{HoldAllowed}
use Rattle.rules.specs.Entries.{is_held, is_listed}
use Rattle.rules.proofs.Tests.{choose}
use Rattle.layout.specs.Layout.{ones, width, row_at, hold_word, hold_of}
use Rattle.layout.specs.Picture.{address_of, row_words, rows_words, entry_of, row_of, rows_of}
use Rattle.layout.proofs.ReadBack.{RowAllowed}
use Rattle.judge.specs.declared.row.RowWords.{RowWords}
use Rattle.judge.specs.Fits.{EntryFits, RowFits, free, entry, words_at}

-- a test of a row; it fails where the row is free
abbrev pub test_row : (Entry → Bool) → Row → Bool
test_row test None = false
test_row test (Some e) = test e

-- ---- from words to a row

-- what holds of a hold, by its word
hold_cases : (P : Hold → Type 0) (h : ℕ) → (h ≡ 0 → P Unheld) → (h ≡ 65_536 → P Writer) → ((h ≡ 0 → ⊥) → (h ≡ 65_536 → ⊥) → P (Readers h)) → P (hold_of h)
hold_cases P h f g k =
    choose P (eqb h 0) (λ e. f (eqb-true h 0 e))
    (λ e. choose P (eqb h 65_536) (λ d. g (eqb-true h 65_536 d)) (λ d. k (eqb-false h 0 e) (eqb-false h 65_536 d)))

hold_forth : (h : ℕ) → hold_word (hold_of h) ≡ h
hold_forth h = hold_cases (λ x. hold_word x ≡ h) h (λ e. sym e) (λ e. sym e) (λ n m. refl)

hold_allowed_same : (h : ℕ) → h ≤ 65_536 → HoldAllowed (hold_of h)
hold_allowed_same h k = hold_cases HoldAllowed h (λ e. tt) (λ e. tt) (λ n m. (omega arith, omega arith))

held_word : (h : ℕ) → not (is_held (hold_of h)) ≡ eqb h 0
held_word h =
    hold_cases (λ x. not (is_held x) ≡ eqb h 0) h
    (λ e. sym (eq-eqb h 0 e))
    (λ e. sym (ne_eqb h 0 (λ (q : h ≡ 0). omega arith)))
    (λ n m. sym (ne_eqb h 0 n))

pub flag_forth : (d : ℕ) → d ≤ 1 → flag_word (flag_of d) ≡ d
flag_forth zero h = refl
flag_forth (suc zero) h = refl
flag_forth (suc (suc d)) h = absurd (omega arith)

not_not : (b : Bool) → not (not b) ≡ b
not_not true = refl
not_not false = refl

-- the entry of a row's words
abbrev pub entry_by : RowWords → Entry
entry_by w = record { address = w.address; size = w.size; dirty = flag_of w.dirty; idle = w.idle; pinned = flag_of w.pinned; hold = hold_of w.hold }

-- the words in their order
abbrev pub list_by : RowWords → List ℕ
list_by w = w.address ∷ w.size ∷ w.dirty ∷ w.idle ∷ w.pinned ∷ w.hold ∷ []

pub row_used : (w : RowWords) → test_row (λ e. true) (row_of (entry_by w)) ≡ flag_of w.size
row_used w = choose (λ x. test_row (λ e. true) x ≡ flag_of w.size) (eqb w.size 0) (λ e. rw e) (λ e. rw e)

module _ {w : RowWords} {m : Bool} where
  sized : EntryFits w m → eqb w.size 0 ≡ false
  sized f = ne_eqb w.size 0 f.size.some

  pub row_listed : RowFits w m → test_row is_listed (row_of (entry_by w)) ≡ m
  row_listed (free f) = rw (f.size, f.listing)
  row_listed (entry f) = rw (sized f, held_word w.hold, not_not, f.listing)

  pub row_forth : RowFits w m → row_words (row_of (entry_by w)) ≡ list_by w
  row_forth (free f) = rw (f.address, f.size, f.dirty, f.idle, f.pinned, f.hold)
  row_forth (entry f) = rw (sized f, flag_forth w.dirty f.dirty, flag_forth w.pinned f.pinned, hold_forth w.hold)

  pub row_allowed : RowFits w m → (w.address ≡ ones → ⊥) → RowAllowed (row_of (entry_by w))
  row_allowed (free f) h = rw f.size tt
  row_allowed (entry f) h = rw (sized f) (record {
    address = ne_eqb w.address ones h;
    nonempty = let s = f.size.some in omega arith;
    size = f.size.most;
    idle = f.idle;
    hold = hold_allowed_same w.hold f.hold;
  })

  pub row_address : RowFits w m → address_of (row_of (entry_by w)) ≡ w.address
  row_address (free f) = rw (f.size, f.address)
  row_address (entry f) = rw (sized f)

  -- a row with an address above 0 is not free
  pub fits_used : RowFits w m → (w.address ≡ 0 → ⊥) → flag_of w.size ≡ true
  fits_used (free f) h = absurd (h f.address)
  fits_used (entry f) h = rw (sized f)

-- ---- from a row to words

-- the words of a row, by name
abbrev pub words_of : Row → RowWords
words_of x =
    let ws = row_words x in
    record { address = get_or ws 0 0; size = get_or ws 1 0; dirty = get_or ws 2 0; idle = get_or ws 3 0; pinned = get_or ws 4 0; hold = get_or ws 5 0 }

pub flag_low : (b : Bool) → flag_word b ≤ 1
flag_low true = omega arith
flag_low false = omega arith

flag_free : (b : Bool) → eqb (flag_word b) 0 ≡ not b
flag_free true = refl
flag_free false = refl

hold_low : (h : Hold) → HoldAllowed h → hold_word h ≤ 65_536
hold_low Unheld f = omega arith
hold_low (Readers n) f = omega arith
hold_low Writer f = omega arith

hold_free : (h : Hold) → HoldAllowed h → eqb (hold_word h) 0 ≡ not (is_held h)
hold_free Unheld f = refl
hold_free (Readers n) f = ne_eqb n 0 (λ (e : n ≡ 0). omega arith)
hold_free Writer f = refl

pub own_fits : (x : Row) → RowAllowed x → RowFits (words_of x) (test_row is_listed x)
own_fits None f = free (record { listing = refl; address = refl; size = refl; dirty = refl; idle = refl; pinned = refl; hold = refl })
own_fits (Some e) f = entry (record {
  size = record { some = λ (q : e.size ≡ 0). let h = f.nonempty in omega arith; most = f.size };
  dirty = flag_low e.dirty;
  idle = f.idle;
  pinned = flag_low e.pinned;
  hold = hold_low e.hold f.hold;
  listing = rw (hold_free e.hold f.hold, flag_free e.pinned);
})

pub own_used : (x : Row) → RowAllowed x → flag_of (words_of x).size ≡ test_row (λ e. true) x
own_used None f = refl
own_used (Some e) f = rw (ne_eqb e.size 0 (λ (q : e.size ≡ 0). let h = f.nonempty in omega arith))

pub own_address : (x : Row) → (words_of x).address ≡ address_of x
own_address None = refl
own_address (Some e) = refl

pub own_not_ones : (x : Row) → RowAllowed x → (words_of x).address ≡ ones → ⊥
own_not_ones None f h = absurd (omega arith)
own_not_ones (Some e) f h = eqb-false e.address ones f.address h

-- ---- all rows

pub length_rows_of : (n k : ℕ) (ws : List ℕ) → length (rows_of n k ws) ≡ n
unfolding rows_of
length_rows_of zero k ws = refl
length_rows_of (suc n) k ws = ap suc (length_rows_of n (suc k) ws)

pub get_d_rows_of : (n k : ℕ) (ws : List ℕ) (r : ℕ) → r < n → get_or (rows_of n k ws) r None ≡ row_of (entry_of ws (k + r))
unfolding rows_of
get_d_rows_of zero k ws r h = absurd (omega arith)
get_d_rows_of (suc n) k ws zero h = rw (add-zero k)
get_d_rows_of (suc n) k ws (suc r) h =
    let e : suc k + r ≡ k + suc r = omega arith in
    get_d_rows_of n (suc k) ws r (le_of_suc-le-suc h) ∙ ap (λ (m : ℕ). row_of (entry_of ws m)) e

-- k words from place at + i on, one by one
abbrev pub firsts : ℕ → ℕ → ℕ → List ℕ → List ℕ
firsts zero i at ws = []
firsts (suc k) i at ws = get_or ws (at + i) 0 ∷ firsts k (suc i) at ws

pub take_firsts : (k i at : ℕ) (ws : List ℕ) → at + i + k ≤ length ws → take k (drop (at + i) ws) ≡ firsts k i at ws
take_firsts zero i at ws h = refl
take_firsts (suc k) i at ws h =
    let e : suc (at + i) ≡ at + suc i = omega arith in
    rw (drop-cons ws (at + i) 0 (omega arith), e) (ap (λ (l : List ℕ). get_or ws (at + i) 0 ∷ l) (take_firsts k (suc i) at ws (omega arith)))

-- the words of row k
list_at : (ws : List ℕ) (k : ℕ) → row_at (suc k) ≤ length ws → take width (drop (row_at k) ws) ≡ list_by (words_at ws k)
list_at ws k h = rw (add-zero (row_at k)) at (take_firsts width 0 (row_at k) ws (omega arith))

pub rows_forth : (n k : ℕ) (ws : List ℕ) → row_at (k + n) ≤ length ws → ((r : ℕ) → k ≤ r → r < k + n → row_words (row_of (entry_of ws r)) ≡ list_by (words_at ws r))
    → take (n * width) (drop (row_at k) ws) ≡ rows_words (rows_of n k ws)
unfolding rows_of rows_words
rows_forth zero k ws h f = refl
rows_forth (suc n) k ws h f =
    let e : suc n * width ≡ width + n * width = omega arith in
    let d : row_at k + width ≡ row_at (suc k) = omega arith in
    rw (e, take-add width (n * width) (drop (row_at k) ws), drop-drop width (row_at k) ws, d, list_at ws k (omega arith), f k (omega arith) (omega arith))
    (ap (λ (l : List ℕ). list_by (words_at ws k) ++ l) (rows_forth n (suc k) ws (omega arith) (λ r a b. f r (omega arith) (omega arith))))
