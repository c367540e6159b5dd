-- It exceeds the maximum exactly if the sum is above it.
use Rattle.layout.specs.Picture.{cache_in}
use Rattle.clean_share.proofs.Finding.{held_fits}
use Rattle.room.proofs.Joined.{good_here, noted_above, noted_within}
use Prim.Native.Nat.{◌+◌}
use mathlib.Core.Path.{sym}
use native.Mathlib.Omega.{arith}
use borrow.Author.Tests.{lt-ltb, le-ltb}
use Rattle.rules.specs.Rows.{held_bytes}
use Rattle.room.proofs.room.note_exceeded.Goals as goal

pub overflow_add-held : goal.overflow_add-held
overflow_add-held c = omega (arith, held_fits (good_here c.requires.0), c.requires.1, c.requires.2)

pub returns-then-maximum-held : goal.returns-then-maximum-held
returns-then-maximum-held c =
    let d = cache_in c.args.table.now in
    record { holds = noted_above c.args.size d c.maximum.ensures c.requires.2 c.if-maximum-held.true c.set_exceeded.ensures; overfull = sym (lt-ltb d.maximum (held_bytes d.rows + c.args.size) (omega (arith, c.if-maximum-held.true, c.maximum.ensures, c.requires.2))) }

pub returns : goal.returns
returns c =
    let d = cache_in c.args.table.now in
    record { holds = noted_within c.args.size d c.maximum.ensures c.requires.2 (omega arith) c.requires.0; overfull = sym (le-ltb d.maximum (held_bytes d.rows + c.args.size) (omega (arith, c.if-maximum-held.false, c.maximum.ensures, c.requires.2))) }
