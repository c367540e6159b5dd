-- The parts of a table, from what each walk says.
use Prim.Native.Nat.{ℕ, zero, suc, ◌+◌, ◌-◌, ◌≤◌, ◌<◌}
use mathlib.Core.Path.{◌≡◌, refl, sym, ap, subst, ◌∙◌}
use mathlib.Core.Bool.{Bool, true, false}
use mathlib.Core.List.{List}
use native.Mathlib.Omega.{arith}
use lib.ListN.{length, get_or, take, drop, replicate, length-drop}
use lib.Seq.{take_all}
use Rattle.rules.specs.Addresses.{elem, twice}
use Rattle.rules.specs.Limits.{most_rows}
use Rattle.layout.specs.Layout.{ones, settings_at}
use Rattle.layout.proofs.Cuts.{elem_at}
use Rattle.judge.specs.declared.header.Figures.{Figures}
use Rattle.judge.specs.Fits.{Says, SettingsFit, Named, Below, CountedRows, OrderFits, PartsFit, words_at, used_at, mark_at}
use Rattle.judge.proofs.Says.{says_by}
use Rattle.judge.proofs.RowWords.{fits_used}
use Rattle.judge.proofs.RunWords.{numbers_are, run_fits, below_of, named_is}
use Rattle.judge.proofs.Numbered.{rising_once, at}
use Rattle.judge.proofs.Tally.{tally_same, tally_all, tally_full, tally_once}

pub none_seen : (k x : ℕ) → get_or (replicate k false) x false ≡ false
none_seen zero zero = refl
none_seen zero (suc x) = refl
none_seen (suc k) zero = refl
none_seen (suc k) (suc x) = none_seen k x

-- the settings' words, in a table from their place on
pub from_settings : {r : Bool} {f : Figures} (ws : List ℕ) → Says r (SettingsFit (take (length ws - settings_at) (drop settings_at ws)) f)
    → Says r (SettingsFit (drop settings_at ws) f)
from_settings {r} {f} ws s =
    subst (λ (l : List ℕ). Says r (SettingsFit l f)) (take_all (length ws - settings_at) (drop settings_at ws) (omega (arith, length-drop settings_at ws))) s

module _ {ws recency order recent ordered : List ℕ} {n : ℕ} (few : n ≤ most_rows) (a : Named recency recent) (b : Named order ordered) where
  -- ---- from parts that fit

  module _ (f : PartsFit ws recency order n) where
    in_order : (r : ℕ) → r < n → elem r ordered ≡ used_at ws r
    in_order = rw (named_is few b f.order_run) at f.in_order

    pub order_of : OrderFits ws ordered n
    order_of = record {
      below = below_of few b f.order_run;
      first = λ h. sym (in_order (get_or ordered 0 0) (below_of few b f.order_run 0 h)) ∙ elem_at 0 ordered h;
      rises = rw (named_is few b f.order_run) at f.rises;
      not_ones = λ i h. f.not_ones (get_or ordered i 0) (below_of few b f.order_run i h);
    }

    pub counted_of : {listed : List Bool} → ((x : ℕ) → mark_at listed x ≡ elem x recent) → CountedRows ws n listed (length ordered) (length recent)
    counted_of {listed} p = record {
      rows = λ r h. rw (p r, ← named_is few a f.recency_run) (f.rows r h);
      used =
          tally_same (used_at ws) (λ r. elem r ordered) n (λ r h. sym (in_order r h))
          ∙ tally_full n ordered (below_of few b f.order_run) (rw (named_is few b f.order_run) at f.order_run.once);
      marked =
          tally_same (mark_at listed) (λ r. elem r recent) n (λ r h. p r)
          ∙ tally_full n recent (below_of few a f.recency_run) (rw (named_is few a f.recency_run) at f.recency_run.once);
    }

  -- ---- to parts that fit

  module _ {listed : List Bool} (p : (x : ℕ) → mark_at listed x ≡ elem x recent) (u : Below recent (length recent) n)
      (m : CountedRows ws n listed (length ordered) (length recent)) where
    -- as many rows are marked as there are words
    recent_once : twice recent ≡ false
    recent_once =
        tally_once n recent u (tally_same (λ r. elem r recent) (mark_at listed) n (λ r h. sym (p r)) ∙ m.marked)

    module _ (v : OrderFits ws ordered n) where
      abbrev key : ℕ → ℕ
      key r = (words_at ws r).address

      ordered_once : twice ordered ≡ false
      ordered_once = rising_once key ordered v.rises

      -- a row with an address above another's is not free
      place_used : (i : ℕ) → i < length ordered → used_at ws (get_or ordered i 0) ≡ true
      place_used zero h = v.first h
      place_used (suc i) h =
          let r = get_or ordered (suc i) 0 in
          let e : i + 1 ≡ suc i = omega arith in
          let g : key (get_or ordered i 0) < key r = rw e at (v.rises i (omega arith)) in
          fits_used (m.rows r (v.below (suc i) h)) (λ (q : key r ≡ 0). omega arith)

      -- a row that is named stands at a place
      ordered_used : (r : ℕ) → elem r ordered ≡ true → used_at ws r ≡ true
      ordered_used r q = let t = at ordered r q in rw (← t.is) (place_used t.place t.low)

      -- as many rows are used as are named
      order_names : (r : ℕ) → r < n → elem r ordered ≡ used_at ws r
      order_names =
          tally_all (λ r. elem r ordered) (used_at ws) n (λ r h. ordered_used r)
          (tally_full n ordered v.below ordered_once ∙ sym m.used)

      not_ones_same : (r : ℕ) → r < n → key r ≡ ones → ⊥
      not_ones_same r h q =
          let t = at ordered r (order_names r h ∙ fits_used (m.rows r h) (λ (z : key r ≡ 0). omega arith)) in
          v.not_ones t.place t.low (rw t.is q)

      pub parts_fit : PartsFit ws recency order n
      parts_fit = record {
        recency_run = run_fits few a u recent_once;
        order_run = run_fits few b v.below ordered_once;
        rows = λ r h. rw (numbers_are few a u, ← p r) (m.rows r h);
        not_ones = not_ones_same;
        in_order = λ r h. ap (elem r) (numbers_are few b v.below) ∙ order_names r h;
        rises = rw (numbers_are few b v.below) v.rises;
      }

    pub says_parts : {r : Bool} → Says r (OrderFits ws ordered n) → Says r (PartsFit ws recency order n)
    says_parts s = says_by parts_fit order_of s
