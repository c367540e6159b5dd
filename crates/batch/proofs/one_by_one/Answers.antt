use Prim.Native.Nat.{◌+◌, ◌*◌, ◌-◌}
use mathlib.Core.Path.{refl, sym, ◌∙◌}
use native.Mathlib.Omega.{arith}
use lib.ListN.{length, drop, set, length-drop, length-set}
use lib.Seq.{length-take-le}
use borrow.Rule.Slice.PartMut.{same_len_mid}
use Rattle.batch.proofs.Batching.{doing_start, doing_end, no_request, no_answer, one_lacks, one_done, held_next}
use Rattle.batch.proofs.one_by_one.Goals as goal

pub loop-held-init : goal.loop-held-init
loop-held-init c = (doing_start c.args.requests.now c.args.table.now c.args.orders.now c.args.answers.now c.requires, refl, refl, refl, tt)

pub known_before-known-requires : goal.known_before-known-requires
known_before-known-requires c = (c.loop-held.invariant.0.passes, c.loop-held.invariant.4)

pub one-answer-requires : goal.one-answer-requires
one-answer-requires c = let d = c.loop-held.invariant.0 in (d.passes, (let l = length-take-le (length c.args.requests.now - c.loop-held.done * 3) (drop (c.loop-held.done * 3) c.args.requests.now) (let m = length-drop (c.loop-held.done * 3) c.args.requests.now in omega arith) in omega arith), c.known_before-known.ensures)

pub bounds-answers-to-in-loop-held : goal.bounds-answers-to-in-loop-held
bounds-answers-to-in-loop-held c = omega (arith, length-set c.loop-held.answers (c.loop-held.done * 2) c.from-told.result.number)

pub overflow_add-given : goal.overflow_add-given
overflow_add-given c = omega (arith, (one_done c.loop-held.invariant.0 (omega arith) (omega arith) c.one-answer.ensures c.one-answer.auto.orders c.from-told.ensures (sym c.lacks_words.ensures ∙ c.if-lacks_words.false)).ordered)

pub loop-held-preserved : goal.loop-held-preserved
loop-held-preserved c =
    let w = c.from-told.result in (
      one_done c.loop-held.invariant.0 (omega arith) (omega arith) c.one-answer.ensures c.one-answer.auto.orders c.from-told.ensures (sym c.lacks_words.ensures ∙ c.if-lacks_words.false),
      omega (arith, c.one-answer.auto.table, c.loop-held.invariant.1),
      same_len_mid (c.loop-held.given * 3) (length c.loop-held.orders - c.loop-held.given * 3) c.loop-held.orders c.one-answer.new.orders c.one-answer.auto.orders ∙ c.loop-held.invariant.2,
      length-set (set c.loop-held.answers (c.loop-held.done * 2) w.number) (c.loop-held.done * 2 + 1) w.orders ∙ length-set c.loop-held.answers (c.loop-held.done * 2) w.number ∙ c.loop-held.invariant.3,
      held_next c.loop-held.invariant.0 (omega arith) (omega arith) c.one-answer.ensures c.one-answer.auto.orders c.from-told.ensures _ refl c.known_before-known.result c.known_before-known.ensures _ c.known_after-held.ensures,
    )

pub returns-then-requests-from : goal.returns-then-requests-from
returns-then-requests-from c = let k = c.loop-held.invariant.0 in doing_end k _ (no_request _ _ _ _ (let l = length-drop (c.loop-held.done * 3) c.args.requests.now in omega arith))

pub returns-then-answers-to : goal.returns-then-answers-to
returns-then-answers-to c = let k = c.loop-held.invariant.0 in doing_end k _ (no_answer _ _ _ _ (let l = length-drop (c.loop-held.done * 3) c.args.requests.now in omega arith) (let l = length-drop (c.loop-held.done * 2) c.loop-held.answers in omega arith))

pub returns-then-lacks_words : goal.returns-then-lacks_words
returns-then-lacks_words c = one_lacks c.loop-held.invariant.0 (omega arith) (omega arith) c.one-answer.ensures c.one-answer.auto.orders (sym c.lacks_words.ensures ∙ c.if-lacks_words.true)
