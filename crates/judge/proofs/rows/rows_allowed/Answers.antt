use Rattle.std.proofs.Common.{◌≡◌, false, get_or, take, arith}
use lib.Seq.{get_or-take}
use Rattle.std.specs.Int.{from_bool}
use Rattle.judge.specs.Fits.{mark_at}
use Rattle.judge.proofs.Says.{says_no, denies}
use Rattle.judge.proofs.Counting.{counted_none, few_used, few_marked, counted_entry, counted_free, mark_low, entry_of, free_of}
use Rattle.judge.proofs.rows.rows_allowed.Goals.{then-size_allowed+else-not-entry_allowed, else-size_allowed+else-not-free_allowed}
use Rattle.judge.proofs.rows.rows_allowed.Goals as goal

pub loop-i-init : goal.loop-i-init
loop-i-init c = counted_none

pub returns-then-not-entry_allowed : goal.returns-then-not-entry_allowed
returns-then-not-entry_allowed c =
    let m = get_or-take c.args.rows.now.count c.args.listed.now c.loop-i.i false (omega arith) in
    says_no (λ p. denies c.entry_allowed.ensures c.if-not-entry_allowed.true
    (entry_of (rw (c.words_at-row.ensures, m) (p.rows c.loop-i.i (omega arith))) (c.size_allowed.ensures.sound c.if-size_allowed.true)))

pub overflow_add-entries : goal.overflow_add-entries
overflow_add-entries c = omega (arith, few_used c.loop-i.invariant)

pub returns-then-not-free_allowed : goal.returns-then-not-free_allowed
returns-then-not-free_allowed c =
    let m = get_or-take c.args.rows.now.count c.args.listed.now c.loop-i.i false (omega arith) in
    says_no (λ p. denies c.free_allowed.ensures c.if-not-free_allowed.true
    (free_of (rw (c.words_at-row.ensures, m) (p.rows c.loop-i.i (omega arith))) (denies c.size_allowed.ensures c.if-size_allowed.false)))

pub overflow_add-marks : goal.overflow_add-marks
overflow_add-marks c = omega (arith, c.from-marks.ensures, mark_low (get_or (take c.args.rows.now.count c.args.listed.now) c.loop-i.i false), few_marked c.loop-i.invariant)

pub loop-i-preserved : goal.loop-i-preserved
loop-i-preserved c =
    let m = get_or-take c.args.rows.now.count c.args.listed.now c.loop-i.i false (omega arith) in
    let f : c.from-marks.result ≡ from_bool (mark_at c.args.listed.now c.loop-i.i) = rw m at c.from-marks.ensures in
    elim c.if-size_allowed.branch [
      | then-size_allowed+else-not-entry_allowed w ↦ counted_entry c.loop-i.invariant f (rw (← c.words_at-row.ensures, ← m) (w.entry_allowed.ensures.sound w.if-not-entry_allowed.false)) w.entries-is
      | else-size_allowed+else-not-free_allowed w ↦ counted_free c.loop-i.invariant f (rw (← c.words_at-row.ensures, ← m) (w.free_allowed.ensures.sound w.if-not-free_allowed.false)) w.entries-is
    ]
