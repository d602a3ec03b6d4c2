use Rattle.std.proofs.Common.{◌≡◌, List, [], take, length}
use Rattle.kt_object.specs.Holdings.{Content, content}
use Rattle.std.specs.List.{AllZip}
use Rattle.kt_run.specs.Objects.{has_of, HoldDue, AreLeft}
use Rattle.kt_run.specs.Rejections.{objects_held, RejectNoMore}
use Rattle.kt_run.specs.Runs.{told_and_held, BeginsRun}
use Rattle.kt_run.proofs.run_state.RunState.make_given.Given as goal

abbrev pub invariant-loop-step : goal.invariant-loop-step
invariant-loop-step g l = record {
  plan : l.self.world.agenda.plan ≡ l.fn.self.world.agenda.plan;
  hindrance : l.self.hindrance ≡ l.fn.self.hindrance;
  count : length l.self.journals ≡ length l.fn.self.journals;
  spares : AllZip (λ g h. AreLeft g.spares.items h.spares.items) l.fn.self.objects.items l.self.objects.items;
  rejects : RejectNoMore (λ b saved. (goal.Recoverable-dyn g (b.vtable, b.value)).may_reject b.value saved) (objects_held l.fn.self.objects.items) (objects_held l.self.objects.items);
  done : l.self.done ≡ l.step-index;
  per_process : length l.self.objects.items ≡ l.self.world.system.size;
  begun : (cast : List (List Content)) → HoldDue cast [] (has_of l.fn.self.objects.items (λ b. content ((goal.Recoverable-dyn g (b.vtable, b.value)).kind_of b.value) ((goal.Recoverable-dyn g (b.vtable, b.value)).value_of b.value)))
      → BeginsRun l.fn.self.world.agenda.plan cast (take l.step-index l.steps) l.self.world (told_and_held l.self.journals l.self.objects.items (λ b. content ((goal.Recoverable-dyn g (b.vtable, b.value)).kind_of b.value) ((goal.Recoverable-dyn g (b.vtable, b.value)).value_of b.value)));
}
