use Rattle.std.proofs.Common.{◌≡◌, [], ◌++◌, None, map, All}
use Rattle.std.specs.Vec.Iter.{into_iter_items}
use Rattle.kt_threads.proofs.outcome.workers_of.Given as goal

abbrev pub invariant-loop-held : goal.invariant-loop-held
invariant-loop-held g l = record {
  can : (goal.iterator-loop-held g).can_next l.held-iterator;
  ends : (goal.iterator-loop-held g).is_finite l.held-iterator;
  split : l.yielded ++ into_iter_items l.held-iterator ≡ l.fn.objects.items;
  held : map (λ worker. worker.held) l.workers.items ≡ l.yielded;
  fresh : All (λ worker. worker.done.errands ≡ []) l.workers.items;
  going : All (λ worker. worker.fault ≡ None) l.workers.items;
}
