use Rattle.std.proofs.Common.{[], refl}
use Rattle.kt_promises.specs.Progress.{progress_at_start}
use Rattle.kt_run.specs.Objects.{rules_by}
use Rattle.kt_run.proofs.OneRun.{same_end, same_rows}
use Rattle.kt_run.proofs.laws.one_run.Goals as goal

pub returns-clause-rows : goal.returns-clause-rows
returns-clause-rows c = same_rows c.laws_of_runs.ensures

pub returns-clause-ends : goal.returns-clause-ends
returns-clause-ends c = λ plan cast xs ys w v i a b e o p s t.
    same_end c.laws_of_runs.ensures (rules_by cast) plan 0 i xs ys (progress_at_start plan 0) w v (record { moves = []; leads = refl }) e (a, o, s) (b, p, t)
