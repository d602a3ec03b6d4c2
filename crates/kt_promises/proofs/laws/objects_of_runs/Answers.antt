use Rattle.std.proofs.Common.{length, ap, ◌∙◌}
use Rattle.kt_meaning.specs.Legal.{IsLegal}
use Rattle.kt_protocol.proofs.LawfulSteps.{lawful_after_run}
use Rattle.kt_machine.specs.Done.{done_start}
use Rattle.kt_machine.specs.Values.{acts_along}
use Rattle.kt_machine.specs.Things.{things_for}
use Rattle.kt_machine.proofs.RunActs.{whole_log}
use Rattle.kt_machine.proofs.ThingsAlong.{things_after}
use Rattle.kt_promises.proofs.ReachedRuns.{log_of}
use Rattle.kt_promises.proofs.laws.objects_of_runs.Goals as goal

pub returns : goal.returns
returns g c = record {
  things = λ r s plan first w p y i t a l. things_after r s a (acts_along p done_start w.now.log) y l
      ∙ ap (things_for s) (whole_log r w.now.log p (log_of plan first w IsLegal i t (λ x. (lawful_after_run (length plan.names) x).legal)));
}
