use mathlib.Core.Path.{sym, ◌∙◌}
use native.Mathlib.Omega.{arith}
use Rattle.table.proofs.Told.{found_place}
use Rattle.taken_list.proofs.Marked.{marked_start, marked_on, bad_absent, bad_again, good_list, row_low, place_low, told_found}
use Rattle.taken_list.proofs.bad_list.Goals as goal

pub loop-i-init : goal.loop-i-init
loop-i-init c = marked_start _ _ _ c.requires.1

pub find_dirty-requires : goal.find_dirty-requires
find_dirty-requires c = (c.requires.0, c.used_len-n.ensures)

pub returns-in_default : goal.returns-in_default
returns-in_default c = bad_absent c.loop-i.invariant (omega arith) (sym c.find_dirty.ensures ∙ c.in_default.is)

pub bounds-seen-row : goal.bounds-seen-row
bounds-seen-row c = row_low c.loop-i.invariant (omega arith) (sym c.find_dirty.ensures ∙ c.in-Some.is) c.requires.0.good.steady.rows

pub returns-then-seen-row : goal.returns-then-seen-row
returns-then-seen-row c = bad_again c.loop-i.invariant (omega arith) (sym c.find_dirty.ensures ∙ c.in-Some.is) c.requires.0.good.steady.rows c.if-seen-row.true

pub bounds-seen-row-in-loop-i : goal.bounds-seen-row-in-loop-i
bounds-seen-row-in-loop-i c = row_low c.loop-i.invariant (omega arith) (sym c.find_dirty.ensures ∙ c.in-Some.is) c.requires.0.good.steady.rows

pub overflow_cast-named : goal.overflow_cast-named
overflow_cast-named c = omega (arith, row_low c.loop-i.invariant (omega arith) (sym c.find_dirty.ensures ∙ c.in-Some.is) c.requires.0.good.steady.rows)

pub offset_bounds-named-i : goal.offset_bounds-named-i
offset_bounds-named-i c = omega (arith, place_low c.loop-i.invariant (omega arith) (sym c.find_dirty.ensures ∙ c.in-Some.is) c.requires.0.good.steady.rows c.if-seen-row.false)

pub bounds-named-i : goal.bounds-named-i
bounds-named-i c = place_low c.loop-i.invariant (omega arith) (sym c.find_dirty.ensures ∙ c.in-Some.is) c.requires.0.good.steady.rows c.if-seen-row.false

pub overflow_add-near : goal.overflow_add-near
overflow_add-near c = omega (arith, (found_place c.requires.0 _ _ (told_found _ _ (sym c.find_dirty.ensures ∙ c.in-Some.is))).low, c.requires.0.good.used, c.requires.0.good.steady.rows)

pub loop-i-preserved : goal.loop-i-preserved
loop-i-preserved c = marked_on c.loop-i.invariant (omega arith) (sym c.find_dirty.ensures ∙ c.in-Some.is) c.requires.0.good.steady.rows c.if-seen-row.false

pub returns : goal.returns
returns c = good_list c.loop-i.invariant c.requires.0.good.steady.rows (omega arith)
