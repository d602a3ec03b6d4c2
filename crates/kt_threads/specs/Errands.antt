-- What steps ask of their process's object.
use Rattle.std.specs.Prelude.{ℤ, Bool, true, false, ◌&&◌, is_none, List, [], ◌∷◌, ◌++◌, Option, Some, None, if◌then◌else◌}
use Rattle.kt_plan.specs.declared.steps.Act.{Act}
use Rattle.kt_plan.specs.declared.steps.Act.TheVariants.{Nothing, Apply, Keep, Promote, Discard, Restore, Drop}
use Rattle.kt_plan.specs.declared.steps.Look.{Look}
use Rattle.kt_plan.specs.declared.steps.Look.TheVariants.{Idle, NeedsSave, NeedsBody, Plain}
use Rattle.kt_threads.specs.declared.asked.Errand.{Errand}
use Rattle.kt_threads.specs.declared.state.Made.{Made}

-- whether acts are nothing
abbrev pub are_no_acts : List Act → Bool
are_no_acts [] = true
are_no_acts (Nothing ∷ acts) = are_no_acts acts
are_no_acts (Apply from body ∷ acts) = false
are_no_acts (Keep ∷ acts) = false
are_no_acts (Promote ∷ acts) = false
are_no_acts (Discard ∷ acts) = false
are_no_acts (Restore ∷ acts) = false
are_no_acts (Drop ∷ acts) = false

-- the body that a step was given, where it asked for one
abbrev pub body_for : Look → ℤ → Option ℤ
body_for Idle body = None
body_for NeedsSave body = None
body_for NeedsBody body = Some body
body_for Plain body = None

-- what a step asked of its process's object
abbrev pub errand_of : Made → Errand
errand_of made = record { offered = body_for made.look made.give.body; acts = made.told.acts }

-- whether that was nothing
abbrev pub is_no_errand : Errand → Bool
is_no_errand errand = is_none errand.offered && are_no_acts errand.acts

-- what a step asked, but for nothing
abbrev pub errands_at : Made → List Errand
errands_at made = if is_no_errand (errand_of made) then [] else errand_of made ∷ []

-- what steps asked, in order
abbrev pub errands_of : List Made → List Errand
errands_of [] = []
errands_of (made ∷ steps) = errands_at made ++ errands_of steps
