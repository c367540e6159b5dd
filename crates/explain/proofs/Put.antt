-- One run after another is put behind the reasons that stand in the words already.
use Prim.Native.Nat.{ℕ, zero, suc, ◌+◌, ◌*◌, ◌≤◌}
use mathlib.Core.List.{List, [], ◌∷◌, ◌++◌, map, append_assoc}
use mathlib.Core.Path.{◌≡◌, refl, sym, ap, ap₂, ◌∙◌}
use native.Mathlib.Omega.{arith}
use lib.ListN.{length, drop, replicate, length-append}
use Rattle.reason_rules.specs.declared.Reason.{Reason}
use Rattle.reason_rules.specs.declared.Reason.TheVariants as reason
use Rattle.reason_rules.specs.Reasons.{reason_number}
use Rattle.reasons.specs.Runs.{room_runs, all_runs}
use Rattle.reasons.specs.declared.runs.RoomRuns.{RoomRuns}
use Rattle.reasons.specs.declared.runs.Runs.{Runs}
use Rattle.layout.proofs.Leaves.{over_next}
use Rattle.layout.specs.Leaves.{over, fill_part}
use Rattle.explain.specs.Explanation.{reason_words}
use Rattle.explain.specs.Putting.{orders_in, room_put}

length-map : (l : List Reason) → length (map reason_number l) ≡ length l
length-map [] = refl
length-map (r ∷ l) = ap suc (length-map l)

pub length_run : (n : ℕ) (r : Reason) → length (replicate n r) ≡ n
length_run zero r = refl
length_run (suc n) r = ap suc (length_run n r)

map_run : (n : ℕ) (r : Reason) → map reason_number (replicate n r) ≡ replicate n (reason_number r)
map_run zero r = refl
map_run (suc n) r = ap (λ (l : List ℕ). reason_number r ∷ l) (map_run n r)

map_append : (l m : List Reason) → map reason_number (l ++ m) ≡ map reason_number l ++ map reason_number m
map_append [] m = refl
map_append (r ∷ l) m = ap (λ (x : List ℕ). reason_number r ∷ x) (map_append l m)

-- no reasons leave the words
pub put_none : (ws : List ℕ) → reason_words [] ws ≡ ws
unfolding reason_words
put_none ws = refl

-- a run behind the reasons l
pub put_run : (l : List Reason) (n : ℕ) (r : Reason) (ws : List ℕ) → fill_part (length l) n (reason_number r) (reason_words l ws) ≡ reason_words (l ++ replicate n r) ws
unfolding fill_part reason_words
put_run l n r ws =
    over_next (map reason_number l) (replicate n (reason_number r)) ws (length l) n (length-map l)
    ∙ (let e : length l + n ≡ length (l ++ replicate n r) = let i = length-append l (replicate n r) in let j = length_run n r in omega arith in
    ap₂ (λ (x : List ℕ) (k : ℕ). x ++ drop k ws) (ap (λ (x : List ℕ). map reason_number l ++ x) (sym (map_run n r)) ∙ sym (map_append l (replicate n r))) e)

pub length_room : (r : RoomRuns) → length (room_runs r) ≡ r.first + r.share
length_room r =
    let i = length-append (replicate r.first r.reason) (replicate r.share reason.Share) in
    let j = length_run r.first r.reason in
    let k = length_run r.share reason.Share in
    omega arith

-- both runs of a room behind the reasons l
pub put_room : (l : List Reason) (r : RoomRuns) (ws : List ℕ) → room_put (length l) r (reason_words l ws) ≡ reason_words (l ++ room_runs r) ws
put_room l r ws =
    let f = replicate r.first r.reason in
    let e : length l + r.first ≡ length (l ++ f) = let i = length-append l f in let j = length_run r.first r.reason in omega arith in
    ap₂ (λ (n : ℕ) (x : List ℕ). fill_part n r.share (reason_number reason.Share) x) e (put_run l r.first r.reason ws)
    ∙ put_run (l ++ f) r.share reason.Share ws
    ∙ ap (λ (x : List Reason). reason_words x ws) (append_assoc l f (replicate r.share reason.Share))

-- how many reasons a request's runs have
pub length_all : (r : Runs) → length (all_runs r) ≡ orders_in r
length_all r =
    let loads = replicate r.load reason.Load in
    let ages = replicate r.aged reason.Aged in
    let a = length-append (room_runs r.room) (loads ++ (ages ++ room_runs r.again)) in
    let b = length-append loads (ages ++ room_runs r.again) in
    let c = length-append ages (room_runs r.again) in
    let d = length_room r.room in
    let e = length_room r.again in
    let f = length_run r.load reason.Load in
    let g = length_run r.aged reason.Aged in
    omega arith

-- all of them, from the first word on
pub put_all : (r : Runs) (ws : List ℕ) {loads ages then : ℕ} → loads ≡ r.room.first + r.room.share → ages ≡ loads + r.load → then ≡ ages + r.aged
    → room_put then r.again (fill_part ages r.aged (reason_number reason.Aged) (fill_part loads r.load (reason_number reason.Load) (room_put 0 r.room ws)))
    ≡ reason_words (all_runs r) ws
put_all r ws {loads} {ages} {then} p q t =
    let room = room_runs r.room in
    let l = replicate r.load reason.Load in
    let a = replicate r.aged reason.Aged in
    let i : loads ≡ length room = let x = length_room r.room in omega arith in
    let j : ages ≡ length (room ++ l) = let x = length-append room l in let y = length_run r.load reason.Load in omega arith in
    let k : then ≡ length ((room ++ l) ++ a) = let x = length-append (room ++ l) a in let y = length_run r.aged reason.Aged in omega arith in
    let s₁ : room_put 0 r.room ws ≡ reason_words room ws = ap (room_put 0 r.room) (sym (put_none ws)) ∙ put_room [] r.room ws in
    let s₂ : fill_part loads r.load (reason_number reason.Load) (room_put 0 r.room ws) ≡ reason_words (room ++ l) ws =
    ap₂ (λ (n : ℕ) (x : List ℕ). fill_part n r.load (reason_number reason.Load) x) i s₁ ∙ put_run room r.load reason.Load ws in
    let s₃ : fill_part ages r.aged (reason_number reason.Aged) (fill_part loads r.load (reason_number reason.Load) (room_put 0 r.room ws)) ≡ reason_words ((room ++ l) ++ a) ws =
    ap₂ (λ (n : ℕ) (x : List ℕ). fill_part n r.aged (reason_number reason.Aged) x) j s₂ ∙ put_run (room ++ l) r.aged reason.Aged ws in
    ap₂ (λ (n : ℕ) (x : List ℕ). room_put n r.again x) k s₃ ∙ put_room ((room ++ l) ++ a) r.again ws
    ∙ ap (λ (x : List Reason). reason_words x ws) (append_assoc (room ++ l) a (room_runs r.again) ∙ append_assoc room l (a ++ room_runs r.again))
