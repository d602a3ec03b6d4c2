use Rattle.std.proofs.Common.{◌∙◌, List, refl, sym, subst}
use Rattle.std.proofs.lemmas.List.{length-map}
use Rattle.kt_object.specs.Holdings.{content}
use Rattle.kt_run.proofs.Casting.{answered, of_objects, of_none_told, of_object}
use Rattle.kt_run.proofs.Holding.{hold_first, as_many_given}
use Rattle.kt_run.specs.Rejections.{objects_held, RejectNoMore}
use Rattle.kt_run.proofs.Rejecting.{all_given}
use Rattle.kt_run.proofs.Spares.{left_given}
use Rattle.kt_run.proofs.run_state.first_objects.Goals as goal

pub returns-in-Err-clause-fault : goal.returns-in-Err-clause-fault
returns-in-Err-clause-fault g c =
    rw c.from.ensures
    (answered c.args.plan.now _ c.in-Err.fault (λ e. c.in-Err.ensures.size (rw e refl)) c.in-Err.ensures.fit c.in-Err.ensures.kind c.in-Err.ensures.least c.in-Err.ensures.later)

pub returns-in-Ok-clause-due : goal.returns-in-Ok-clause-due
returns-in-Ok-clause-due g c = hold_first (λ row. row.items) (λ b. content ((goal.Recoverable-dyn g (b.vtable, b.value)).kind_of b.value) ((goal.Recoverable-dyn g (b.vtable, b.value)).value_of b.value)) c.args.cast.items c.in-Ok.objects.items c.in-Ok.ensures.objects c.in-Ok.ensures.holds

pub returns-in-Ok-clause-count : goal.returns-in-Ok-clause-count
returns-in-Ok-clause-count g c =
    sym (as_many_given (λ row. row.items) (λ b. content ((goal.Recoverable-dyn g (b.vtable, b.value)).kind_of b.value) ((goal.Recoverable-dyn g (b.vtable, b.value)).value_of b.value)) c.args.cast.items c.in-Ok.objects.items c.in-Ok.ensures.objects)
    ∙ (sym (length-map c.args.cast.items _) ∙ (c.in-Ok.ensures.sizes.processes ∙ c.size-size.ensures.plan.one_kind_each))

pub returns-in-Err-clause-early : goal.returns-in-Err-clause-early
returns-in-Err-clause-early g c = rw c.from.ensures (λ done why. of_objects c.in-Err.fault done why)

pub returns-in-Err-clause-untold : goal.returns-in-Err-clause-untold
returns-in-Err-clause-untold g c = rw c.from.ensures (λ p. of_none_told c.in-Err.fault p)

pub returns-in-Ok-clause-spares : goal.returns-in-Ok-clause-spares
returns-in-Ok-clause-spares g c = left_given (λ h. h.spares.items) (λ row. row.items) (λ h. h.present) c.args.cast.items c.in-Ok.objects.items c.in-Ok.ensures.objects (λ p h l. (c.in-Ok.ensures.holds p h l).0)

pub returns-in-Err-clause-object : goal.returns-in-Err-clause-object
returns-in-Err-clause-object g c = rw c.from.ensures (λ p e. c.in-Err.ensures.object p (of_object c.in-Err.fault p e))

pub returns-in-Ok-clause-rejects : goal.returns-in-Ok-clause-rejects
returns-in-Ok-clause-rejects g c =
    let held = c.in-Ok.objects.items in
    subst (λ (rows : List (List _)). RejectNoMore (λ b saved. (goal.Recoverable-dyn g (b.vtable, b.value)).may_reject b.value saved) rows (objects_held held))
    (all_given (λ row. row.items) c.args.cast.items held c.in-Ok.ensures.objects (λ p h l. (c.in-Ok.ensures.holds p h l).0)) (λ p saved any. any)
