use Rattle.std.specs.Prelude.{slice_get}
use Rattle.std.proofs.Common.{List, ap, ◌∙◌}
use Rattle.kt_plan.specs.declared.steps.Step.{Step}
use Rattle.kt_core.proofs.Choices.{listed_in_run}
use Rattle.kt_core.proofs.Counted.{some_made}
use Rattle.kt_core.proofs.world.World.enabled_at.Goals as goal

pub returns-in-None : goal.returns-in-None
returns-in-None c =
    let w = c.args.self.now in
    let is = c.take_at.ensures in
    record {
      choices = is;
      enabled = some_made w c.take_at.result c.args.place is;
      in_runs = λ first v r. is ∙ ap (λ (l : List Step). slice_get l c.args.place) (listed_in_run c.laws_of_runs.ensures w first v r);
    }

pub returns-in-Some : goal.returns-in-Some
returns-in-Some c =
    let w = c.args.self.now in
    let is = c.step_of_movers.ensures in
    record {
      choices = is;
      enabled = some_made w c.step_of_movers.result c.args.place is;
      in_runs = λ first v r. is ∙ ap (λ (l : List Step). slice_get l c.args.place) (listed_in_run c.laws_of_runs.ensures w first v r);
    }
