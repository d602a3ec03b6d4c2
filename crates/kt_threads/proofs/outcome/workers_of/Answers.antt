use Rattle.std.proofs.Common.{rules, ◌≡◌, [], ◌∷◌, ◌++◌, None, arith}
use Rattle.std.proofs.lemmas.Grind.{common_steps}
use Rattle.std.proofs.lemmas.List.Elements.{All-push}
use Rattle.kt_threads.proofs.Zips.{mapped_more}
use Rattle.kt_threads.proofs.outcome.workers_of.Goals as goal

pub loop-held-preserved : goal.loop-held-preserved
loop-held-preserved g c =
    let worker = c.new-in-loop-held.result in
    let pushed : c.push.new.self.items ≡ c.loop-held.workers.items ++ worker ∷ [] = search rules in
    record {
      can = tt;
      ends = tt;
      split = grind (arith, common_steps);
      held = rw pushed (mapped_more (λ worker. worker.held) c.loop-held.workers.items c.loop-held.yielded worker c.in-Some.held c.loop-held.invariant.held c.new-in-loop-held.ensures.held);
      fresh = rw pushed (All-push (λ worker. worker.done.errands ≡ []) c.loop-held.workers.items worker c.loop-held.invariant.fresh c.new-in-loop-held.ensures.done);
      going = rw pushed (All-push (λ worker. worker.fault ≡ None) c.loop-held.workers.items worker c.loop-held.invariant.going c.new-in-loop-held.ensures.going);
    }
