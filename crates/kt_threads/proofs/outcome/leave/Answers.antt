use Rattle.std.proofs.Common.{rules, ◌≡◌, None, [], ◌∷◌, ◌++◌, arith, refl}
use Rattle.std.proofs.lemmas.Grind.{common_steps}
use Rattle.std.proofs.lemmas.List.Elements.{All-push}
use Rattle.kt_threads.proofs.Zips.{mapped_last}
use Rattle.kt_threads.proofs.outcome.leave.Goals as goal

pub loop-worker-preserved : goal.loop-worker-preserved
loop-worker-preserved g c =
    let worker = c.in-Some.worker in
    let whole : worker.fault ≡ None = search rules in
    let all_done : c.push.new.self.items ≡ c.loop-worker.all_done.items ++ worker.done ∷ [] = search rules in
    let objects : c.push-else-is_err.new.self.items ≡ c.loop-worker.objects.items ++ worker.held ∷ [] = search rules in
    record {
      can = tt;
      ends = tt;
      split = grind (arith, common_steps);
      whole = All-push (λ worker. worker.fault ≡ None) c.loop-worker.yielded worker c.loop-worker.invariant.whole whole;
      done = rw all_done (mapped_last (λ worker. worker.done) c.loop-worker.all_done.items c.loop-worker.yielded worker.done worker c.loop-worker.invariant.done refl);
      held = rw objects (mapped_last (λ worker. worker.held) c.loop-worker.objects.items c.loop-worker.yielded worker.held worker c.loop-worker.invariant.held refl);
    }
