use Rattle.std.proofs.Common.{refl}
use Rattle.kt_object.specs.Holdings.{content}
use Rattle.kt_run.proofs.Casting.{answered}
use Rattle.kt_run.proofs.Holding.{hold_first}
use Rattle.kt_run.proofs.Rejecting.{all_given, kinds_of}
use Rattle.kt_run.proofs.Spares.{left_given}
use Rattle.kt_threads.proofs.Casting.{cast_object, of_run}
use Rattle.kt_threads.proofs.outcome.first_objects.Goals as goal

pub returns-in-Err-clause-fault : goal.returns-in-Err-clause-fault
returns-in-Err-clause-fault g c =
    rw c.from.ensures
    (of_run c.args.plan.now _ c.in-Err.fault
    (answered c.args.plan.now _ c.in-Err.fault (λ e. c.in-Err.ensures.size (rw e refl)) c.in-Err.ensures.fit c.in-Err.ensures.kind c.in-Err.ensures.least c.in-Err.ensures.later))

pub returns-in-Ok-clause-kinds : goal.returns-in-Ok-clause-kinds
returns-in-Ok-clause-kinds g c = kinds_of (λ row. row.items) (λ b. (goal.Recoverable-dyn g (b.vtable, b.value)).kind_of b.value) (λ b. content ((goal.Recoverable-dyn g (b.vtable, b.value)).kind_of b.value) ((goal.Recoverable-dyn g (b.vtable, b.value)).value_of b.value)) (λ b. refl) c.args.plan.now c.args.cast.items (record { sizes = c.in-Ok.ensures.sizes; kinds = c.in-Ok.ensures.kinds })

pub returns-in-Ok-clause-due : goal.returns-in-Ok-clause-due
returns-in-Ok-clause-due g c = hold_first (λ row. row.items) (λ b. content ((goal.Recoverable-dyn g (b.vtable, b.value)).kind_of b.value) ((goal.Recoverable-dyn g (b.vtable, b.value)).value_of b.value)) c.args.cast.items c.in-Ok.objects.items c.in-Ok.ensures.objects c.in-Ok.ensures.holds

pub returns-in-Ok-clause-spares : goal.returns-in-Ok-clause-spares
returns-in-Ok-clause-spares g c = left_given (λ h. h.spares.items) (λ row. row.items) (λ h. h.present) c.args.cast.items c.in-Ok.objects.items c.in-Ok.ensures.objects (λ p h l. (c.in-Ok.ensures.holds p h l).0)

pub returns-in-Ok-clause-given : goal.returns-in-Ok-clause-given
returns-in-Ok-clause-given g c = all_given (λ row. row.items) c.args.cast.items c.in-Ok.objects.items c.in-Ok.ensures.objects (λ p h l. (c.in-Ok.ensures.holds p h l).0)

pub returns-in-Err-clause-object : goal.returns-in-Err-clause-object
returns-in-Err-clause-object g c = rw c.from.ensures (λ p e. c.in-Err.ensures.object p (cast_object c.in-Err.fault p e))
