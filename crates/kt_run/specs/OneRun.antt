-- Runs by the same steps.
use Rattle.std.specs.Prelude.{◌≡◌, true, List, [], ◌∷◌}
use Rattle.kt_plan.specs.Limits.{Planned}
use Rattle.kt_plan.specs.declared.steps.Look.TheVariants.{NeedsSave}
use Rattle.kt_promises.specs.Looks.{look}
use Rattle.kt_promises.specs.Progress.{Progress}
use Rattle.kt_promises.specs.Runs.{Move}
use Rattle.kt_promises.specs.Steps.{progress_after}

-- at each of these moves that asks whether the object can be saved, it can
abbrev pub SavesAll : Planned → Progress → List Move → Type 0
SavesAll plan w [] = Unit {0}
SavesAll plan w (x ∷ xs) =
    (look plan w x.step ≡ NeedsSave → x.give.able ≡ true) × SavesAll plan (progress_after plan w x.step x.give) xs
