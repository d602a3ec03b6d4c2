use Rattle.std.proofs.Common.{◌≡◌, ◌++◌, None, map, All}
use Rattle.std.specs.Vec.Iter.{into_iter_items}
use Rattle.kt_threads.proofs.outcome.leave.Given as goal

abbrev pub invariant-loop-worker : goal.invariant-loop-worker
invariant-loop-worker g l = record {
  can : (goal.iterator-loop-worker g).can_next l.worker-iterator;
  ends : (goal.iterator-loop-worker g).is_finite l.worker-iterator;
  split : l.yielded ++ into_iter_items l.worker-iterator ≡ l.fn.workers.items;
  whole : All (λ worker. worker.fault ≡ None) l.yielded;
  done : l.all_done.items ≡ map (λ worker. worker.done) l.yielded;
  held : l.objects.items ≡ map (λ worker. worker.held) l.yielded;
}
