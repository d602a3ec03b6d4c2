use Rattle.std.proofs.Common.{◌≡◌, ◌∙◌, map, sym}
use Rattle.kt_threads.specs.Moves.{move_of}
use Rattle.kt_threads.specs.Noted.{made_steps}
use Rattle.kt_threads.proofs.Noting.{steps_of_moves}
use Rattle.kt_threads.proofs.recorded.kept_live_run_of.Goals as goal

pub returns-clause-run : goal.returns-clause-run
returns-clause-run g c = λ keeps.
    let made = map (λ step. step.value) c.in_ok-lived.lived.steps.items in
    let ends = c.in_ok-lived.ensures in
    let listed : c.in-Some.steps.items ≡ made_steps made = rw (c.in-Some.ensures keeps) at ends.listed in
    record {
      moves = map move_of made;
      made = steps_of_moves made ∙ sym listed;
      run = ends.run;
    }

pub returns-clause-lived : goal.returns-clause-lived
returns-clause-lived g c = (map move_of (map (λ step. step.value) c.in_ok-lived.lived.steps.items), c.in_ok-lived.ensures.run)
