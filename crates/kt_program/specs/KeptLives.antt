-- Runs in threads of which the steps are kept.
use Rattle.std.specs.Prelude.{List}
use Rattle.kt_spacetime.specs.declared.event.Event.{Event}
use Rattle.kt_object.specs.Holdings.{Content}
use Rattle.kt_plan.specs.declared.steps.Step.{Step}
use Rattle.kt_plan.specs.Limits.{Planned}
use Rattle.kt_meaning.specs.Promised.{IsCertified}
use Rattle.kt_run.specs.Orders.{IsRunBy}
use Rattle.kt_program.specs.Recorded.{AreReadBack, IsPlayedAgain}

-- these are the rows of a run by just these steps, in whatever order threads made them; played again by these steps, which are
-- read back as they are written, it is the same; and to its certificates the checker says yes
pub record IsKeptLive (plan : Planned) (cast : List (List Content)) (steps : List Step) (rows : List Event) : Type 0 where
  pub run : IsRunBy plan cast steps rows
  pub again : IsPlayedAgain plan cast steps rows
  pub read : AreReadBack plan steps
  pub certified : IsCertified rows
