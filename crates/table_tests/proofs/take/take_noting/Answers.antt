-- The mode, then what the message is.
use Rattle.table_tests.proofs.Taking.{kept_long, not_standby, is_cut, is_malformed_same, is_right}
use Rattle.layout.specs.Picture.{cache_in}
use Rattle.rules.specs.Messages.{read_message}
use mathlib.Core.Path.{refl, sym, ap}
use mathlib.Core.Bool.{not}
use Rattle.table_tests.proofs.take.take_noting.Goals as goal

pub returns-then-not-is_standby : goal.returns-then-not-is_standby
returns-then-not-is_standby c = not_standby (cache_in c.args.table.now) c.args.message.now _ _ (rw c.mode.ensures at c.is_standby.ensures) refl (ap not c.if-not-is_standby.true)

pub slice_bounds-test_right-end : goal.slice_bounds-test_right-end
slice_bounds-test_right-end c = sym (kept_long (read_message c.args.message.now) _ c.read_message.ensures.0 c.in-Ok.is c.read_message.ensures.1)

pub test_right-requires : goal.test_right-requires
test_right-requires c = (c.requires.0, kept_long (read_message c.args.message.now) _ c.read_message.ensures.0 c.in-Ok.is c.read_message.ensures.1, c.requires.1)

pub returns-in-Ok : goal.returns-in-Ok
returns-in-Ok c = is_right (cache_in c.args.table.now) c.args.message.now _ _ (rw c.mode.ensures at c.is_standby.ensures) (ap not c.if-not-is_standby.false) c.read_message.ensures.0 _ c.in-Ok.is c.read_message.ensures.1 c.test_right.ensures

pub returns-in-Err-Cut : goal.returns-in-Err-Cut
returns-in-Err-Cut c = is_cut (cache_in c.args.table.now) c.args.message.now _ _ (rw c.mode.ensures at c.is_standby.ensures) (ap not c.if-not-is_standby.false) c.read_message.ensures.0 refl (rw c.in-Err-Cut.field-0-is at c.in-Err-Cut.is)

pub returns-in-Err-Malformed : goal.returns-in-Err-Malformed
returns-in-Err-Malformed c = is_malformed_same (cache_in c.args.table.now) c.args.message.now _ _ (rw c.mode.ensures at c.is_standby.ensures) (ap not c.if-not-is_standby.false) c.read_message.ensures.0 refl (rw c.in-Err-Malformed.field-0-is at c.in-Err-Malformed.is)
