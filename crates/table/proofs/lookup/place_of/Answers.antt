use mathlib.Core.Path.{sym, ◌∙◌}
use native.Mathlib.Omega.{arith}
use Rattle.layout.proofs.Numbers.{rising_addresses}
use Rattle.table.proofs.Between.{between_start, between_up, between_down, between_end, place_at}
use Rattle.table.proofs.lookup.place_of.Goals as goal

pub loop-low-init : goal.loop-low-init
loop-low-init c = between_start _ _ _ c.requires.1

pub key_at-key-requires : goal.key_at-key-requires
key_at-key-requires c = (c.requires.0, omega (arith, c.loop-low.invariant.within, c.next_look-at.ensures.1))

pub returns-then-key-address : goal.returns-then-key-address
returns-then-key-address c = place_at _ _ _ (rising_addresses _ c.requires.0.good.steady.sound.distinct) (omega (arith, c.loop-low.invariant.within, c.next_look-at.ensures.1)) (sym c.key_at-key.ensures ∙ c.if-key-address.true)

pub overflow_add-low : goal.overflow_add-low
overflow_add-low c = omega (arith, c.loop-low.invariant.within, c.next_look-at.ensures.1, c.requires.0.good.long)

pub loop-low-smaller-then-key-address-2 : goal.loop-low-smaller-then-key-address-2
loop-low-smaller-then-key-address-2 c = omega (arith, c.next_look-at.ensures)

pub loop-low-preserved-then-key-address-2 : goal.loop-low-preserved-then-key-address-2
loop-low-preserved-then-key-address-2 c =
    between_up (rising_addresses _ c.requires.0.good.steady.sound.distinct) c.loop-low.invariant c.next_look-at.result c.next_look-at.ensures.0 c.next_look-at.ensures.1 (omega (arith, c.key_at-key.ensures))

pub loop-low-smaller : goal.loop-low-smaller
loop-low-smaller c = omega (arith, c.next_look-at.ensures)

pub loop-low-preserved : goal.loop-low-preserved
loop-low-preserved c =
    between_down (rising_addresses _ c.requires.0.good.steady.sound.distinct) c.loop-low.invariant c.next_look-at.result c.next_look-at.ensures.0 c.next_look-at.ensures.1 (omega (arith, c.key_at-key.ensures))

pub returns : goal.returns
returns c = between_end c.loop-low.invariant (omega arith)
