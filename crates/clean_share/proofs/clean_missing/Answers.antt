use native.Mathlib.Omega.{arith}
use borrow.Author.Rules.{rules}
use Rattle.layout.specs.Picture.{cache_in}
use Rattle.table.proofs.Passes.{clean_next, clean_end}
use Rattle.clean_share.proofs.clean_missing.Goals as goal

pub loop-pos-init : goal.loop-pos-init
loop-pos-init c = (c.listed_len-pos-end.ensures, omega arith)

pub returns-then-left-size : goal.returns-then-left-size
returns-then-left-size c =
    let t = c.args.table.now in
    omega (arith, clean_next (cache_in t).recency c.loop-pos.pos (cache_in t).rows (omega arith), c.clean_size-size.ensures)

pub loop-pos-preserved : goal.loop-pos-preserved
loop-pos-preserved c =
    let t = c.args.table.now in
    (search rules, omega (arith, clean_next (cache_in t).recency c.loop-pos.pos (cache_in t).rows (omega arith), c.clean_size-size.ensures))

pub returns : goal.returns
returns c =
    let t = c.args.table.now in
    omega (arith, clean_end (cache_in t).recency c.loop-pos.pos (cache_in t).rows (omega arith))
