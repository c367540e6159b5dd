-- The row of a listed address is cut out of the run; of another there is nothing to cut.
use mathlib.Core.Path.{sym, ap, ◌∙◌}
use native.Mathlib.Omega.{arith}
use lib.ListN.{length}
use Rattle.rules.proofs.Lists.{strike_absent}
use Rattle.table.proofs.Changed.{off_words, off_length, off_none, cut_listed}
use Rattle.table.proofs.listing.list_off.Goals as goal

pub recency_place-pos-requires : goal.recency_place-pos-requires
recency_place-pos-requires c = let p = c.requires in (p.0, p.1, sym p.2 ∙ c.if-was.true)

pub returns-then-was : goal.returns-then-was
returns-then-was c =
    let g = c.requires.0 in
    let n = c.listed_len-n.ensures in
    let p = c.recency_place-pos.ensures in
    record {
      words = rw (c.run_cut.ensures, c.recency_at.ensures, n, g.size) (cut_listed g.good _ p.low ∙ off_words g.good _ _ p);
      listed = omega (arith, off_length g.good _ _ p);
    }

pub returns : goal.returns
returns c =
    let p = c.requires in
    let n = sym p.2 ∙ c.if-was.false in
    record { words = off_none p.0.good _ n; listed = c.listed_len-n.ensures ∙ ap length (sym (strike_absent _ _ n)) }
