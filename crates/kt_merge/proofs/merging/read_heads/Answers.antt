use Rattle.std.proofs.Common.{◌<◌, ◌+◌, [], ◌∷◌, ◌++◌, length, set, refl, sym, subst, arith}
use Rattle.std.proofs.lemmas.Option.{slice_get_read}
use Rattle.std.proofs.lemmas.Result.{err_from_is_err_and}
use Rattle.kt_merge.specs.declared.fault.MergeFault.{MergeFault}
use Rattle.kt_merge.specs.Merging.{IsMergeFaultAfter}
use Rattle.kt_merge.proofs.AheadFacts.{ahead_first, ahead_same}
use Rattle.kt_merge.proofs.MetFacts.{met_at_part}
use Rattle.kt_merge.proofs.StopFacts.{first_fault, first_more}
use Rattle.kt_merge.proofs.merging.read_heads.Goals as goal

pub returns-in_err-head-clause-fault : goal.returns-in_err-head-clause-fault
returns-in_err-head-clause-fault g c =
    let start = c.args.parts.now.items in
    let parts = c.loop-part.parts.items in
    let within : c.loop-part.part < length parts = omega (arith, c.loop-part.invariant.0.many.0, c.loop-part.invariant.1, c.loop-part-test.true) in
    let there = slice_get_read parts (length parts) c.loop-part.part c.index_mut.result.now refl within c.index_mut.ensures.value in
    let p = err_from_is_err_and c.from_residual.result c.from_residual.ensures.1 in
    let f = c.in_err-head.ensures.fault in
    rw (p.1, p.2)
    (subst (λ (e : MergeFault). IsMergeFaultAfter start [] [] e) (sym f.1)
    (first_fault start parts c.loop-part.heads.items c.loop-part.part c.index_mut.result.now c.next_head.new.reader f.0 c.requires.unread c.loop-part.invariant.0 there f.2))

pub returns-in_err-head-clause-unread : goal.returns-in_err-head-clause-unread
returns-in_err-head-clause-unread g c =
    let start = c.args.parts.now.items in
    let parts = c.loop-part.parts.items in
    let within : c.loop-part.part < length parts = omega (arith, c.loop-part.invariant.0.many.0, c.loop-part.invariant.1, c.loop-part-test.true) in
    let there = slice_get_read parts (length parts) c.loop-part.part c.index_mut.result.now refl within c.index_mut.ensures.value in
    let p = err_from_is_err_and c.from_residual.result c.from_residual.ensures.1 in
    rw p.1
    (ahead_same parts [] c.loop-part.part c.index_mut.result.now c.next_head.new.reader (ahead_first start parts c.loop-part.heads.items c.loop-part.part c.requires.unread c.loop-part.invariant.0) there c.in_err-head.ensures.fault.2.still.0)

pub returns-in_err-push_item-clause-unread : goal.returns-in_err-push_item-clause-unread
returns-in_err-push_item-clause-unread g c =
    let start = c.args.parts.now.items in
    let parts = c.loop-part.parts.items in
    let within : c.loop-part.part < length parts = omega (arith, c.loop-part.invariant.0.many.0, c.loop-part.invariant.1, c.loop-part-test.true) in
    let there = slice_get_read parts (length parts) c.loop-part.part c.index_mut.result.now refl within c.index_mut.ensures.value in
    let p = err_from_is_err_and c.from_residual-in_err-push_item.result c.from_residual-in_err-push_item.ensures.1 in
    let held = first_more start parts c.loop-part.heads.items c.loop-part.part c.index_mut.result.now c.next_head.new.reader c.in_ok-head.head c.loop-part.invariant.0 there c.in_ok-head.ensures.found in
    rw p.1 (ahead_first start (set parts c.loop-part.part c.next_head.new.reader) (c.loop-part.heads.items ++ c.in_ok-head.head ∷ []) (c.loop-part.part + 1) c.requires.unread held)

pub loop-part-preserved : goal.loop-part-preserved
loop-part-preserved g c =
    let start = c.args.parts.now.items in
    let parts = c.loop-part.parts.items in
    let within : c.loop-part.part < length parts = omega (arith, c.loop-part.invariant.0.many.0, c.loop-part.invariant.1, c.loop-part-test.true) in
    let there = slice_get_read parts (length parts) c.loop-part.part c.index_mut.result.now refl within c.index_mut.ensures.value in
    (rw c.in_ok-push_item.ensures (first_more start parts c.loop-part.heads.items c.loop-part.part c.index_mut.result.now c.next_head.new.reader c.in_ok-head.head c.loop-part.invariant.0 there c.in_ok-head.ensures.found), c.loop-part.invariant.1)

pub returns-in_err-head-clause-met : goal.returns-in_err-head-clause-met
returns-in_err-head-clause-met g c =
    let parts = c.loop-part.parts.items in
    let within : c.loop-part.part < length parts = omega (arith, c.loop-part.invariant.0.many.0, c.loop-part.invariant.1, c.loop-part-test.true) in
    let there = slice_get_read parts (length parts) c.loop-part.part c.index_mut.result.now refl within c.index_mut.ensures.value in
    let p = err_from_is_err_and c.from_residual.result c.from_residual.ensures.1 in
    let f = c.in_err-head.ensures.fault in
    rw (p.1, p.2) (met_at_part parts c.loop-part.part c.index_mut.result.now c.next_head.new.reader f.0 c.in_err-head.field-0.0 there f.2 f.1)

pub returns-in_err-push_item-clause-met : goal.returns-in_err-push_item-clause-met
returns-in_err-push_item-clause-met g c =
    let p = err_from_is_err_and c.from_residual-in_err-push_item.result c.from_residual-in_err-push_item.ensures.1 in
    rw (p.1, p.2) tt
