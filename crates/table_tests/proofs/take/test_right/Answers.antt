-- Each test that is made tells; after the last the list is good.
use Rattle.table_tests.proofs.Taking.{turn_is, right_number, right_ones, right_long, right_bad, right_good}
use Rattle.layout.specs.Picture.{cache_in}
use mathlib.Core.Path.{refl}
use Rattle.table_tests.proofs.take.test_right.Goals as goal

pub returns-then-out_of_turn : goal.returns-then-out_of_turn
returns-then-out_of_turn c = λ l k. right_number (cache_in c.args.table.now) c.args.number l _ _ _ k (turn_is (cache_in c.args.table.now) c.args.number c.next_number.ensures c.out_of_turn.ensures) refl c.if-out_of_turn.true

pub returns-then-ones : goal.returns-then-ones
returns-then-ones c = λ l k. right_ones (cache_in c.args.table.now) c.args.number l _ _ _ k (turn_is (cache_in c.args.table.now) c.args.number c.next_number.ensures c.out_of_turn.ensures) c.if-out_of_turn.false refl c.if-ones.true

pub returns-then-count : goal.returns-then-count
returns-then-count c = λ l k. right_long (cache_in c.args.table.now) c.args.number l _ _ _ k (turn_is (cache_in c.args.table.now) c.args.number c.next_number.ensures c.out_of_turn.ensures) c.if-out_of_turn.false c.if-ones.false refl c.requires.0.good.steady.rows c.if-count.true

pub returns-then-bad_list : goal.returns-then-bad_list
returns-then-bad_list c = λ l k. right_bad (cache_in c.args.table.now) c.args.number l _ _ _ k (turn_is (cache_in c.args.table.now) c.args.number c.next_number.ensures c.out_of_turn.ensures) c.if-out_of_turn.false c.if-ones.false c.if-count.false c.bad_list.ensures refl c.if-bad_list.true

pub returns : goal.returns
returns c = λ l k. right_good (cache_in c.args.table.now) c.args.number l _ _ _ k (turn_is (cache_in c.args.table.now) c.args.number c.next_number.ensures c.out_of_turn.ensures) c.if-out_of_turn.false c.if-ones.false c.if-count.false c.bad_list.ensures refl c.if-bad_list.false
