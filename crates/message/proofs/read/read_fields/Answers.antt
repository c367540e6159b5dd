use Rattle.std.proofs.Common.{refl, sym, ◌∙◌, arith}
use Rattle.message.proofs.Whole.{reads_sound, reads_field}
use Rattle.message.proofs.read.read_fields.Goals as goal

pub fields_end-end-requires : goal.fields_end-end-requires
fields_end-end-requires c = reads_sound c.requires.1

pub loop-taken-init : goal.loop-taken-init
loop-taken-init c = record { at = omega arith; taken = refl; place = refl; count = refl; reads = c.requires.1 }

pub address_head-requires : goal.address_head-requires
address_head-requires c = omega (arith, c.fields_end-end.ensures.fit)

pub returns-then-not-address_head : goal.returns-then-not-address_head
returns-then-not-address_head c = (omega (arith, c.fields_end-end.ensures.fit), c.loop-taken.invariant.reads)

pub number_at-address-requires : goal.number_at-address-requires
number_at-address-requires c = omega (arith, c.fields_end-end.ensures.fit)

pub loop-taken-preserved : goal.loop-taken-preserved
loop-taken-preserved c =
    let k = c.loop-taken.invariant in
    let e = c.fields_end-end.ensures in
    record {
      at = omega arith;
      taken = refl;
      place = k.place;
      count = k.count;
      reads = reads_field c.args.bytes.now c.loop-taken.at k.reads (k.place ∙ e.tagged (omega arith)) (omega (arith, e.wanting (omega arith))) (omega (arith, e.fit)) (sym c.address_head.ensures ∙ c.if-not-address_head.false) c.number_at-address.ensures (omega arith) c.loop-taken.taken k.taken refl;
    }

pub returns : goal.returns
returns c = (omega (arith, c.fields_end-end.ensures.fit), c.loop-taken.invariant.reads)
