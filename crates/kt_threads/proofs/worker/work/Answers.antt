use Rattle.kt_object.specs.Holdings.{content}
use Rattle.kt_threads.proofs.Working.{keeps_then}
use Rattle.kt_threads.proofs.worker.work.Goals as goal
use Rattle.kt_threads.proofs.worker.work.Goals.{in-None, in-Some+then-not-turn}

pub loop-preserved : goal.loop-preserved
loop-preserved g c =
    keeps_then (λ b. content ((goal.Recoverable-dyn g (b.vtable, b.value)).kind_of b.value) ((goal.Recoverable-dyn g (b.vtable, b.value)).value_of b.value)) (λ b saved. (goal.Recoverable-dyn g (b.vtable, b.value)).may_reject b.value saved)
    c.args.worker c.loop.worker c.turn.new.self c.loop.invariant c.turn.ensures

pub returns : goal.returns
returns g c = elim c.match-next.branch [
  | in-None w ↦ rw w.worker-is c.loop.invariant
  | in-Some+then-not-turn w ↦ rw w.worker-is
      (keeps_then (λ b. content ((goal.Recoverable-dyn g (b.vtable, b.value)).kind_of b.value) ((goal.Recoverable-dyn g (b.vtable, b.value)).value_of b.value)) (λ b saved. (goal.Recoverable-dyn g (b.vtable, b.value)).may_reject b.value saved)
      c.args.worker c.loop.worker w.turn.new.self c.loop.invariant w.turn.ensures)
]
