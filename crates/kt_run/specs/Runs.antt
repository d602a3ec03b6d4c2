-- Runs of a plan that begin with given steps and go on by default steps.
use Rattle.std.specs.Prelude.{◌≡◌, ◌<◌, ◌≤◌, ◌+◌, ◌^◌, [], ◌++◌, ℕ, true, Some, List, map, length, slice_get}
use Rattle.std.specs.declared.alloc.Global.{Global}
use Rattle.std.specs.declared.dyn_box.DynBox.{DynBox}
use Rattle.kt_spacetime.specs.declared.event.Event.{Event}
use Rattle.kt_object.specs.Holdings.{Content}
use Rattle.kt_object.specs.declared.held.Held.{Held}
use Rattle.kt_plan.specs.Limits.{Planned}
use Rattle.kt_plan.specs.declared.steps.Step.{Step}
use Rattle.kt_plan.specs.declared.steps.Give.{Give}
use Rattle.kt_plan.specs.declared.steps.Act.{Act}
use Rattle.kt_plan.specs.declared.steps.Told.{Told}
use Rattle.kt_promises.specs.Runs.{Move, AreDefaultMoves, GoesOn, after_moves}
use Rattle.kt_promises.specs.Progress.{Progress, progress_at_start}
use Rattle.kt_promises.specs.Steps.{enabled, progress_after, is_at_rest}
use Rattle.kt_promises.specs.Offers.{GivesOffer, GivesOffers, SendsWhatIsOffered}
use Rattle.kt_promises.specs.Told.{told_at}
use Rattle.kt_core.specs.Making.{MakesStep}
use Rattle.kt_core.specs.Worlds.{World, numbered_row}
use Rattle.kt_core.specs.Shown.{Mirrors}
use Rattle.kt_system.specs.Systems.{LogGrows}
use Rattle.kt_run.specs.Objects.{Belongings, has_of, rules_by, HoldDue}
use Rattle.kt_run.specs.Telling.{IsToldAs, AreToldInRun, AreToldTheirRows, TellsItsRows, IsNoted}

-- what the processes were told, and what they have
pub record ToldAndHeld : Type 0 where
  pub told : List (List Told)
  pub has : List Belongings

-- the same, of what code keeps
abbrev pub told_and_held : {X : Type 0} {D : X → Type 0} → List (List Told) → List (Held X D) → (DynBox X Global D → Content) → ToldAndHeld
told_and_held told helds content_of = record { told = told; has = has_of helds content_of }

-- with what its object gives, a step leads each run that leads to the old world on to the new one: there it is enabled;
-- what it tells, as these runs tell it and with the numbers of its rows, is noted of its process, and asks these acts
abbrev pub Tells : World → List (List Told) → Step → Give → World → List (List Told) → List Act → Type 0
Tells old before step give new after acts = (told : Told) × IsNoted told before after × (acts ≡ told.acts) × (new.limit ≡ old.limit)
    × (length new.system.rows.rows ≤ new.limit)
    × ((first : ℕ) (v : Progress) → Mirrors old.agenda old.system first v →
    (enabled old.agenda.plan v step ≡ true)
    × Mirrors new.agenda new.system first (progress_after old.agenda.plan v step give)
    × IsToldAs told (told_at old.agenda.plan v (record { step = step; give = give }))
    × TellsItsRows told v.now.log (progress_after old.agenda.plan v step give).now.log)

-- with something that its object gives, a step does so; and where each process holds what is due to it, what is given is
-- what the object offers, if the step asks for that, and then again each process holds what is due to it
abbrev pub StepsTo : World → ToldAndHeld → Step → World → ToldAndHeld → Type 0
StepsTo old before step new after = (told : Told) × (give : Give) × IsNoted told before.told after.told × (new.limit ≡ old.limit)
    × (length new.system.rows.rows ≤ new.limit)
    × ((first : ℕ) (v : Progress) → Mirrors old.agenda old.system first v →
    (enabled old.agenda.plan v step ≡ true)
    × Mirrors new.agenda new.system first (progress_after old.agenda.plan v step give)
    × IsToldAs told (told_at old.agenda.plan v (record { step = step; give = give }))
    × TellsItsRows told v.now.log (progress_after old.agenda.plan v step give).now.log
    × ((cast : List (List Content)) → HoldDue cast v.now.log before.has →
    GivesOffer (rules_by cast) old.agenda.plan v step give
    × HoldDue cast (progress_after old.agenda.plan v step give).now.log after.has))

-- a step leads from one world to another, and tells its rows with their numbers, and its acts
pub record IsToldStep (old : World) (told : Told) (give : Give) (new : World) : Type 0 where
  pub grows : LogGrows 4 old.system new.system
  pub makes : MakesStep old told.step give told.acts new
  pub four : length told.rows ≡ 4
  pub rows : (i : ℕ) → i < 4 → slice_get told.rows i
      ≡ Some (numbered_row new.system.rows.rows (length old.system.rows.rows + i))

-- nothing is done in a world, whose log may have 2^24 rows and has none
pub record Starts (plan : Planned) (world : World) : Type 0 where
  pub shown : Mirrors world.agenda world.system 0 (progress_at_start plan 0)
  pub limit : world.limit ≡ 2 ^ 24
  pub rows : world.system.rows.rows ≡ []

-- a run by these steps alone leads to a world, and tells this, with the numbers of its rows; each process, given these
-- objects, holds what is due to it, and what was given at each step that asks for it is what its object offers
pub record BeginsRun (plan : Planned) (cast : List (List Content)) (steps : List Step) (world : World) (at : ToldAndHeld) : Type 0 where
  pub moves : List Move
  pub now : Progress
  pub made : map (λ (m : Move). m.step) moves ≡ steps
  pub leads : after_moves plan (progress_at_start plan 0) moves ≡ Some now
  pub shown : Mirrors world.agenda world.system 0 now
  pub limit : world.limit ≡ 2 ^ 24
  pub few : length world.system.rows.rows ≤ world.limit
  pub tells : AreToldInRun plan moves at.told
  pub rows : AreToldTheirRows now.now.log at.told
  pub offers : GivesOffers (rules_by cast) plan (progress_at_start plan 0) moves
  pub due : HoldDue cast now.now.log at.has

-- so does a run that begins with these steps, and goes on by default steps
pub record Goes (plan : Planned) (cast : List (List Content)) (steps : List Step) (world : World) (at : ToldAndHeld) : Type 0 where
  pub given : List Move
  pub more : List Move
  pub now : Progress
  pub begins : map (λ (m : Move). m.step) given ≡ steps
  pub goes_on : GoesOn plan 0 given more now
  pub shown : Mirrors world.agenda world.system 0 now
  pub limit : world.limit ≡ 2 ^ 24
  pub few : length world.system.rows.rows ≤ world.limit
  pub tells : AreToldInRun plan (given ++ more) at.told
  pub rows : AreToldTheirRows now.now.log at.told
  pub offers : GivesOffers (rules_by cast) plan (progress_at_start plan 0) (given ++ more)
  pub due : HoldDue cast now.now.log at.has

-- these moves, each enabled in its turn, are a run of the plan: they lead from its start to a world at rest, whose log has
-- these rows; each body that a command leaves to the object, of those that each process is given, is what that offers at
-- its row
pub record IsRun (plan : Planned) (cast : List (List Content)) (moves : List Move) (rows : List Event) : Type 0 where
  pub end : Progress
  pub leads : after_moves plan (progress_at_start plan 0) moves ≡ Some end
  pub rest : is_at_rest plan end ≡ true
  pub log : rows ≡ end.now.log
  pub offers : SendsWhatIsOffered (rules_by cast) plan rows

-- these are the rows of a run of the plan, in whatever order its steps are made
abbrev pub IsLogOfRun : Planned → List (List Content) → List Event → Type 0
IsLogOfRun plan cast rows = (moves : List Move) × IsRun plan cast moves rows

-- these are the rows of a run that begins with these steps, and in which each further one is the default where it is made
pub record IsPlayed (plan : Planned) (cast : List (List Content)) (steps : List Step) (rows : List Event) : Type 0 where
  pub given : List Move
  pub more : List Move
  pub begins : map (λ (m : Move). m.step) given ≡ steps
  pub run : IsRun plan cast (given ++ more) rows
  pub begun : Progress
  pub leads : after_moves plan (progress_at_start plan 0) given ≡ Some begun
  pub default : AreDefaultMoves plan begun more

-- these are the rows of such a run, and each process is told, step for step, what the run tells it
pub record IsToldPlay (plan : Planned) (cast : List (List Content)) (steps : List Step) (rows : List Event) (told : List (List Told)) : Type 0 where
  pub play : IsPlayed plan cast steps rows
  pub count : length told ≡ length plan.names
  pub tells : AreToldInRun plan (play.given ++ play.more) told
