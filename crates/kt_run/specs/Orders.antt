-- Runs whose steps are made in an order: default ones, or steps that a generator draws.
use Rattle.std.specs.Prelude.{◌≡◌, ◌⊎◌, ◌-◌, ◌%◌, ◌^◌, ◌==◌, ◌++◌, ℕ, zero, suc, true, List, [], ◌∷◌, Option, Some, None, length, map, count_by, nat_lt, slice_get, if◌then◌else◌}
use Rattle.std.specs.List.{range_with_len}
use Rattle.rand_xoshiro.specs.Xoshiro256.{of_seed, plus_plus}
use Rattle.rand_xoshiro.specs.SplitMix64.{splitmix_seed}
use Rattle.kt_spacetime.specs.declared.event.Event.{Event}
use Rattle.kt_object.specs.Holdings.{Content}
use Rattle.kt_plan.specs.Limits.{Planned}
use Rattle.kt_plan.specs.declared.steps.Step.{Step}
use Rattle.kt_promises.specs.Runs.{Move, after_moves}
use Rattle.kt_promises.specs.Progress.{Progress, progress_at_start}
use Rattle.kt_promises.specs.Steps.{is_at_rest, process_of_step, progress_after}
use Rattle.kt_promises.specs.Defaults.{default_step}
use Rattle.kt_core.specs.Choices.{enabled_steps}
use Rattle.kt_core.specs.Worlds.{World, step_refusal}
use Rattle.kt_core.specs.declared.faults.StepFault.{StepFault}
use Rattle.kt_run.specs.declared.orders.Order.{Order}
use Rattle.kt_run.specs.declared.orders.Order.TheVariants.{Default, Drawn}
use Rattle.kt_run.specs.declared.recorded.Keep.{Keep}
use Rattle.kt_run.specs.declared.recorded.Keep.TheVariants.{Log, Steps}
use Rattle.kt_run.specs.Refused.{IsGivenNext}
use Rattle.kt_run.specs.Runs.{ToldAndHeld, BeginsRun, IsRun}

-- the state of a generator, four words of 64 bits
abbrev pub Generator : Type 0
Generator = List ℕ

-- xoshiro256++ from the words that `SplitMix64` makes of a seed
abbrev pub seeded : ℕ → Generator
seeded seed = of_seed (splitmix_seed 32 seed)

-- the greatest multiple of n within 64 bits
abbrev pub even_part : ℕ → ℕ
even_part n = (2 ^ 64 - 1) - ((2 ^ 64 - 1) % n)

-- how many of the words below a bound have this remainder by n
abbrev pub words_with : ℕ → ℕ → ℕ → ℕ
words_with bound n rest = count_by (λ word. word % n == rest) (range_with_len 0 bound)

-- a number below n, and the generator after it: the remainder of the first word below the even part, of so many; 0 if none is
abbrev pub drawn : ℕ → ℕ → Generator → ℕ × Generator
drawn zero n g = (0, g)
drawn (suc tries) n g =
    if nat_lt (plus_plus g).0 (even_part n) then ((plus_plus g).0 % n, (plus_plus g).1) else drawn tries n (plus_plus g).1

-- which of n things is drawn, by at most 64 words
abbrev pub draw_below : ℕ → Generator → ℕ × Generator
draw_below n g = drawn 64 n g

-- the step that comes next: the default one, or that which the generator draws of all that are enabled
abbrev pub step_in_order : Planned → Progress → Option Generator → Option Step
step_in_order plan w None = default_step plan w
step_in_order plan w (Some g) = slice_get (enabled_steps plan w) (draw_below (length (enabled_steps plan w)) g).0

-- the generator after it
abbrev pub generator_next : Planned → Progress → Option Generator → Option Generator
generator_next plan w None = None
generator_next plan w (Some g) = Some (draw_below (length (enabled_steps plan w)) g).1

-- each of these moves is the step that comes next where it is made
abbrev pub AreInOrder : Planned → Progress → Option Generator → List Move → Type 0
AreInOrder plan w g [] = Unit {0}
AreInOrder plan w g (x ∷ xs) =
    (step_in_order plan w g ≡ Some x.step) × AreInOrder plan (progress_after plan w x.step x.give) (generator_next plan w g) xs

-- the generator after some moves
abbrev pub generator_after : Planned → Progress → Option Generator → List Move → Option Generator
generator_after plan w g [] = g
generator_after plan w g (x ∷ xs) = generator_after plan (progress_after plan w x.step x.give) (generator_next plan w g) xs

-- the generator that an order begins with
abbrev pub generator_of : Order → Option Generator
generator_of Default = None
generator_of (Drawn seed) = Some (seeded seed)

-- which steps are listed of those that were made: all, or none where they are not to be kept
abbrev pub kept_steps : Keep → List Step → List Step
kept_steps Log steps = []
kept_steps Steps steps = steps

-- a run by just these steps leads to a world; they are those given and then those that come next, by a generator that was
-- one and now is the other
pub record GoesInOrder (plan : Planned) (cast : List (List Content)) (given steps : List Step) (was now : Option Generator) (world : World) (at : ToldAndHeld) : Type 0 where
  pub run : BeginsRun plan cast steps world at
  pub first : List Move
  pub more : List Move
  pub are : run.moves ≡ first ++ more
  pub begins : map (λ (m : Move). m.step) first ≡ given
  pub begun : Progress
  pub starts : after_moves plan (progress_at_start plan 0) first ≡ Some begun
  pub leads : after_moves plan begun more ≡ Some run.now
  pub ordered : AreInOrder plan begun was more
  pub generator : now ≡ generator_after plan begun was more

-- and has come to rest there; these are listed of its steps
pub record RestsInOrder (plan : Planned) (cast : List (List Content)) (given : List Step) (was : Option Generator) (keep : Keep) (listed : List Step) (world : World) (at : ToldAndHeld) : Type 0 where
  pub steps : List Step
  pub kept : listed ≡ kept_steps keep steps
  pub now : Option Generator
  pub goes : GoesInOrder plan cast given steps was now world at
  pub rest : is_at_rest plan goes.run.now ≡ true

-- a run by so many steps, those given and then those that come next, leads to this world, where this one comes next
pub record IsNextInOrder (plan : Planned) (cast : List (List Content)) (given : List Step) (was : Option Generator) (done : ℕ) (world : World) (step : Step) : Type 0 where
  pub steps : List Step
  pub now : Option Generator
  pub at : ToldAndHeld
  pub goes : GoesInOrder plan cast given steps was now world at
  pub count : length steps ≡ done
  pub next : step_in_order plan goes.run.now now ≡ Some step

-- it is the next one of those given, or comes next after them
abbrev pub IsNext : Planned → List (List Content) → List Step → Option Generator → ℕ → World → Step → Type 0
IsNext plan cast given was done world step =
    IsGivenNext plan cast given done world step ⊎ IsNextInOrder plan cast given was done world step

-- it is refused
pub record IsRefusedInOrder (plan : Planned) (cast : List (List Content)) (given : List Step) (was : Option Generator) (done : ℕ) (fault : StepFault) : Type 0 where
  pub world : World
  pub step : Step
  pub next : IsNext plan cast given was done world step
  pub refused : step_refusal world step ≡ Some fault

-- it is not refused, and is one of this process
pub record IsStoppedInOrder (plan : Planned) (cast : List (List Content)) (given : List Step) (was : Option Generator) (p : ℕ) : Type 0 where
  pub done : ℕ
  pub world : World
  pub step : Step
  pub next : IsNext plan cast given was done world step
  pub own : process_of_step step ≡ p
  pub made : step_refusal world step ≡ None

-- these are the rows of a run by just these steps
pub record IsRunBy (plan : Planned) (cast : List (List Content)) (steps : List Step) (rows : List Event) : Type 0 where
  pub moves : List Move
  pub made : map (λ (m : Move). m.step) moves ≡ steps
  pub run : IsRun plan cast moves rows

-- so they are, and the steps are those given and then those that come next in an order
pub record IsOrderedRun (plan : Planned) (cast : List (List Content)) (given : List Step) (order : Order) (steps : List Step) (rows : List Event) : Type 0 where
  pub by : IsRunBy plan cast steps rows
  pub first : List Move
  pub more : List Move
  pub are : by.moves ≡ first ++ more
  pub begins : map (λ (m : Move). m.step) first ≡ given
  pub begun : Progress
  pub leads : after_moves plan (progress_at_start plan 0) first ≡ Some begun
  pub ordered : AreInOrder plan begun (generator_of order) more

-- these are the rows of one such run, and these are listed of its steps
pub record IsOneOrderedRun (plan : Planned) (cast : List (List Content)) (given : List Step) (order : Order) (keep : Keep) (listed : List Step) (rows : List Event) : Type 0 where
  pub steps : List Step
  pub kept : listed ≡ kept_steps keep steps
  pub run : IsOrderedRun plan cast given order steps rows

-- a run by some steps, as many as are done, leads to a world that refuses a next one
pub record IsOneRefused (plan : Planned) (cast : List (List Content)) (done : ℕ) (fault : StepFault) : Type 0 where
  pub steps : List Step
  pub world : World
  pub at : ToldAndHeld
  pub run : BeginsRun plan cast steps world at
  pub count : done ≡ length steps
  pub step : Step
  pub refused : step_refusal world step ≡ Some fault

-- a run by some steps leads to a world that does not refuse a next one, which is one of this process
pub record IsOneStopped (plan : Planned) (cast : List (List Content)) (p : ℕ) : Type 0 where
  pub steps : List Step
  pub world : World
  pub at : ToldAndHeld
  pub run : BeginsRun plan cast steps world at
  pub step : Step
  pub own : process_of_step step ≡ p
  pub made : step_refusal world step ≡ None
