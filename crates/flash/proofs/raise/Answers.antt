-- Above the maximum both words are written, one after the other; else the table stays.
use native.Mathlib.Omega.{arith}
use Rattle.layout.proofs.Held.{holds_good}
use Rattle.layout.specs.Picture.{cache_in}
use Rattle.flash.proofs.Laws.{raise_up, raise_not}
use Rattle.flash.proofs.raise.Goals as goal

pub restart-requires : goal.restart-requires
restart-requires c = holds_good c.set_maximum.ensures

pub returns-then-before-n-clause-holds : goal.returns-then-before-n-clause-holds
returns-then-before-n-clause-holds c =
    raise_up (cache_in c.args.table.now) c.args.n (omega (arith, c.requires.1, c.if-before-n.true)) c.set_maximum.ensures c.restart.ensures

pub returns-else-before-n-clause-holds : goal.returns-else-before-n-clause-holds
returns-else-before-n-clause-holds c = raise_not c.args.n (omega (arith, c.requires.1, c.if-before-n.false)) c.requires.0
