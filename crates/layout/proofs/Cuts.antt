-- A list less the element at a place, and with one put in there: in a run's words, and by address.
use Prim.Native.Nat.{ℕ, zero, suc, ◌+◌, ◌-◌, ◌<◌, ◌≤◌}
use mathlib.Core.Bool.{true, false, true≢false}
use mathlib.Core.List.{List, [], ◌∷◌, ◌++◌, map, append_assoc}
use mathlib.Core.Path.{◌≡◌, refl, sym, ap, ap₂, ◌∙◌}
use native.Mathlib.Nat.{le_of_suc-le-suc}
use native.Mathlib.Omega.{arith}
use lib.Dec.{eqb, leb, ltb}
use lib.ListN.{length, get_or, set, take, drop, replicate, length-append, get_or-append}
use lib.Seq.{take_at, set-append_seam}
use borrow.Author.Tests.{eq-eqb, ne_eqb, leb-true, leb-false, lt-ltb, le-ltb}
use Rattle.words.specs.Runs.{removed, inserted}
use Rattle.rules.specs.Addresses.{elem, strike, twice, insert_rising}
use Rattle.rules.proofs.Lists.{strike_absent}
use Rattle.rules.proofs.Tests.{split, choose, or_true, neither, swap}
use Rattle.layout.specs.Layout.{ones}
use Rattle.layout.specs.Picture.{run}
use Rattle.layout.specs.Places.{place_of}
use Rattle.layout.proofs.Seams.{length_run}

unfoldable pub cut : ℕ → List ℕ → List ℕ
cut pos [] = []
cut zero (x ∷ l) = l
cut (suc pos) (x ∷ l) = x ∷ cut pos l

unfoldable pub ins : ℕ → ℕ → List ℕ → List ℕ
ins zero v l = v ∷ l
ins (suc pos) v [] = v ∷ []
ins (suc pos) v (x ∷ l) = x ∷ ins pos v l

pub length_cut : (pos : ℕ) (l : List ℕ) → pos < length l → length (cut pos l) + 1 ≡ length l
unfolding cut
length_cut pos [] h = absurd (omega arith)
length_cut zero (x ∷ l) h = omega arith
length_cut (suc pos) (x ∷ l) h = let ih = length_cut pos l (le_of_suc-le-suc h) in omega arith

pub drop_cut : (pos : ℕ) (l : List ℕ) → drop pos (cut pos l) ≡ drop (suc pos) l
unfolding cut
drop_cut zero [] = refl
drop_cut (suc pos) [] = refl
drop_cut zero (x ∷ l) = refl
drop_cut (suc pos) (x ∷ l) = drop_cut pos l

-- ---- in a run's words

run_cons : (n x : ℕ) (l : List ℕ) → run (suc n) (x ∷ l) ≡ x ∷ run n l
unfolding run
run_cons n x l = let e : suc n - suc (length l) ≡ n - length l = omega arith in rw e

pub snoc_ones : (m : ℕ) → replicate m ones ++ ones ∷ [] ≡ replicate (suc m) ones
snoc_ones zero = refl
snoc_ones (suc m) = ap (λ (x : List ℕ). ones ∷ x) (snoc_ones m)

run_longer : (n : ℕ) (l : List ℕ) → length l ≤ n → run n l ++ ones ∷ [] ≡ run (suc n) l
unfolding run
run_longer n l k =
    let e : suc n - length l ≡ suc (n - length l) = omega arith in
    rw (append_assoc, e, snoc_ones)

pub cut_run : (n pos : ℕ) (l : List ℕ) → pos < length l → length l ≤ n → removed pos (run n l) ≡ run n (cut pos l)
unfolding removed cut
cut_run n pos [] h k = absurd (omega arith)
cut_run zero pos (x ∷ l) h k = absurd (omega arith)
cut_run (suc n) zero (x ∷ l) h k = rw run_cons (run_longer n l (le_of_suc-le-suc k))
cut_run (suc n) (suc pos) (x ∷ l) h k =
    rw (run_cons n x l, run_cons n x (cut pos l)) (ap (λ (y : List ℕ). x ∷ y) (cut_run n pos l (le_of_suc-le-suc h) (le_of_suc-le-suc k)))

pub put_run : (n pos v : ℕ) (l : List ℕ) → pos ≤ length l → length l < n → inserted pos v (run n l) ≡ run n (ins pos v l)
unfolding inserted ins
put_run zero pos v l h k = absurd (omega arith)
put_run (suc n) zero v l h k =
    let short = length_run n l (le_of_suc-le-suc k) in
    let long = length_run (suc n) l (omega arith) in
    rw (long, run_cons) (ap (λ (y : List ℕ). v ∷ take n y) (sym (run_longer n l (le_of_suc-le-suc k))) ∙ ap (λ (y : List ℕ). v ∷ y) (take_at (run n l) (ones ∷ []) n short))
put_run (suc n) (suc pos) v [] h k = absurd (omega arith)
put_run (suc n) (suc pos) v (x ∷ l) h k =
    rw (run_cons n x l, run_cons n x (ins pos v l)) (ap (λ (y : List ℕ). x ∷ y) (put_run n pos v l (le_of_suc-le-suc h) (le_of_suc-le-suc k)))

-- the word after the list's last
pub end_run : (n v : ℕ) (l : List ℕ) → length l < n → set (run n l) (length l) v ≡ run n (l ++ v ∷ [])
unfolding run
end_run n v l h =
    let k = length-append l (v ∷ []) in
    let e : n - length l ≡ suc (n - length (l ++ v ∷ [])) = omega arith in
    rw e (set-append_seam l ones (replicate (n - length (l ++ v ∷ [])) ones) v ∙ sym (append_assoc l (v ∷ []) (replicate (n - length (l ++ v ∷ [])) ones)))

pub get_d_run : (n pos : ℕ) (l : List ℕ) → pos < length l → get_or (run n l) pos 0 ≡ get_or l pos 0
unfolding run
get_d_run n pos l h = get_or-append l _ 0 pos h

-- ---- through a map

pub map_cut : (f : ℕ → ℕ) (pos : ℕ) (l : List ℕ) → map f (cut pos l) ≡ cut pos (map f l)
unfolding cut
map_cut f pos [] = refl
map_cut f zero (x ∷ l) = refl
map_cut f (suc pos) (x ∷ l) = ap (λ (y : List ℕ). f x ∷ y) (map_cut f pos l)

pub map_ins : (f : ℕ → ℕ) (pos v : ℕ) (l : List ℕ) → map f (ins pos v l) ≡ ins pos (f v) (map f l)
unfolding ins
map_ins f zero v l = refl
map_ins f (suc pos) v [] = refl
map_ins f (suc pos) v (x ∷ l) = ap (λ (m : List ℕ). f x ∷ m) (map_ins f pos v l)

pub map_end : (f : ℕ → ℕ) (l : List ℕ) (v : ℕ) → map f (l ++ v ∷ []) ≡ map f l ++ f v ∷ []
map_end f [] v = refl
map_end f (x ∷ l) v = ap (λ (m : List ℕ). f x ∷ m) (map_end f l v)

pub map_at : (f : ℕ → ℕ) (pos : ℕ) (l : List ℕ) → pos < length l → get_or (map f l) pos 0 ≡ f (get_or l pos 0)
map_at f pos [] h = absurd (omega arith)
map_at f zero (x ∷ l) h = refl
map_at f (suc pos) (x ∷ l) h = map_at f pos l (le_of_suc-le-suc h)

pub map_absent : (f g : ℕ → ℕ) (a : ℕ) (l : List ℕ) → elem a l ≡ false → ((b : ℕ) → eqb a b ≡ false → f b ≡ g b) → map f l ≡ map g l
unfolding elem
map_absent f g a [] h s = refl
map_absent f g a (x ∷ l) h s =
    let k = neither (eqb x a) (elem a l) h in
    ap₂ (λ (y : ℕ) (ys : List ℕ). y ∷ ys) (s x (swap x a k.0)) (map_absent f g a l k.1 s)

pub map_same : (f g : ℕ → ℕ) (l : List ℕ) → ((b : ℕ) → f b ≡ g b) → map f l ≡ map g l
map_same f g [] h = refl
map_same f g (x ∷ l) h = ap₂ (λ (y : ℕ) (ys : List ℕ). y ∷ ys) (h x) (map_same f g l h)

-- ---- by address

pub elem_at : (pos : ℕ) (l : List ℕ) → pos < length l → elem (get_or l pos 0) l ≡ true
unfolding elem
elem_at pos [] h = absurd (omega arith)
elem_at zero (x ∷ l) h = rw (eq-eqb x x refl)
elem_at (suc pos) (x ∷ l) h = rw (elem_at pos l (le_of_suc-le-suc h)) (or_true (eqb x (get_or l pos 0)))

-- in a list of distinct addresses, the one at a place is struck by cutting there
pub cut_strike : (pos : ℕ) (l : List ℕ) → twice l ≡ false → pos < length l → strike (get_or l pos 0) l ≡ cut pos l
unfolding twice strike cut
cut_strike pos [] t h = absurd (omega arith)
cut_strike zero (x ∷ l) t h =
    let k = neither (elem x l) (twice l) t in
    rw (eq-eqb x x refl) (strike_absent x l k.0)
cut_strike (suc pos) (x ∷ l) t h =
    let k = neither (elem x l) (twice l) t in
    let n : eqb x (get_or l pos 0) ≡ false =
    ne_eqb x (get_or l pos 0) (λ q. true≢false (sym (elem_at pos l (le_of_suc-le-suc h)) ∙ ap (λ (y : ℕ). elem y l) (sym q) ∙ k.0)) in
    rw n (ap (λ (y : List ℕ). x ∷ y) (cut_strike pos l k.1 (le_of_suc-le-suc h)))

-- an address is put into a rising list at its place
pub insert_ins : (a : ℕ) (l : List ℕ) → insert_rising a l ≡ ins (place_of a l) a l
unfolding insert_rising ins place_of
insert_ins a [] = refl
insert_ins a (b ∷ l) =
    split (leb a b)
    (λ p. rw (p, le-ltb b a (leb-true a b p)))
    (λ p. rw (p, lt-ltb b a (leb-false a b p)) (ap (λ (m : List ℕ). b ∷ m) (insert_ins a l)))

pub place_low : (a : ℕ) (l : List ℕ) → place_of a l ≤ length l
unfolding place_of
place_low a [] = omega arith
place_low a (b ∷ l) = choose (λ (n : ℕ). n ≤ suc (length l)) (ltb b a) (λ p. let k = place_low a l in omega arith) (λ p. omega arith)
