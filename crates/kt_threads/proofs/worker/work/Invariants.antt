use Rattle.kt_object.specs.Holdings.{content}
use Rattle.kt_threads.specs.Workers.{KeepsServing}
use Rattle.kt_threads.proofs.worker.work.Given as goal

abbrev pub invariant-loop : goal.invariant-loop
invariant-loop g l = KeepsServing l.fn.worker l.worker (λ b. content ((goal.Recoverable-dyn g (b.vtable, b.value)).kind_of b.value) ((goal.Recoverable-dyn g (b.vtable, b.value)).value_of b.value)) (λ b saved. (goal.Recoverable-dyn g (b.vtable, b.value)).may_reject b.value saved)
