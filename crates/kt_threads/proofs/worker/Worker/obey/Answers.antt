use Rattle.std.proofs.Common.{ap}
use Rattle.kt_object.specs.Holdings.{content}
use Rattle.kt_threads.specs.declared.faults.LiveFault.TheVariants as live
use Rattle.kt_threads.proofs.Rejecting.{ended_keeps, of_other}
use Rattle.kt_threads.proofs.worker.Worker.obey.Goals as goal

pub returns : goal.returns
returns g c =
    let now = c.args.self.now in
    let held = ap (λ s. s.held) c.end.ensures in
    let fault = ap (λ s. s.fault) c.end.ensures in
    ended_keeps (λ b. content ((goal.Recoverable-dyn g (b.vtable, b.value)).kind_of b.value) ((goal.Recoverable-dyn g (b.vtable, b.value)).value_of b.value)) (λ b saved. (goal.Recoverable-dyn g (b.vtable, b.value)).may_reject b.value saved) now c.end.new.self live.Differ fault
    (λ kind objects has. of_other (λ b. content ((goal.Recoverable-dyn g (b.vtable, b.value)).kind_of b.value) ((goal.Recoverable-dyn g (b.vtable, b.value)).value_of b.value)) (λ b saved. (goal.Recoverable-dyn g (b.vtable, b.value)).may_reject b.value saved) kind objects now c.end.new.self held fault has)
