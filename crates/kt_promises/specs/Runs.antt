-- Runs of a plan, by what code has: steps one after another, each enabled when it is made.
use Rattle.std.specs.Prelude.{length, ◌≡◌, ℕ, zero, suc, if◌then◌else◌, Option, Some, None, List, [], ◌∷◌, ◌≢◌}
use Rattle.kt_protocol.specs.States as machine
use Rattle.kt_machine.specs.Transition.{run_seen, opening_seen}
use Rattle.kt_plan.specs.Limits.{Planned}
use Rattle.kt_plan.specs.declared.commands.Command.{Command}
use Rattle.kt_plan.specs.declared.steps.Step.{Step}
use Rattle.kt_plan.specs.declared.steps.Step.TheVariants.{Do, Take}
use Rattle.kt_plan.specs.declared.steps.Give.{Give}
use Rattle.kt_promises.specs.Steps.{protocol_step, enabled, progress_after, process_of_step}
use Rattle.kt_promises.specs.Progress.{Progress, progress_at_start, next_command}
use Rattle.kt_promises.specs.Defaults.{default_step}
use Rattle.kt_promises.specs.Order.{IsFirstEnabled}

-- a step, and what the object gives
pub record Move : Type 0 where
  pub step : Step
  pub give : Give

-- where some moves lead, if each step is enabled in its turn
abbrev pub after_moves : Planned → Progress → List Move → Option Progress
after_moves plan w [] = Some w
after_moves plan w (x ∷ xs) =
    if enabled plan w x.step then after_moves plan (progress_after plan w x.step x.give) xs else None

-- a run of the plan leads here
pub record RunReaches (plan : Planned) (first : ℕ) (w : Progress) : Type 0 where
  pub moves : List Move
  pub leads : after_moves plan (progress_at_start plan first) moves ≡ Some w

-- where the default step leads, if there is one
abbrev pub next_default : (Step → Progress) → Progress → Option Step → Progress
next_default next w None = w
next_default next w (Some x) = next x

-- at most n default steps, with what objects give at each
abbrev pub after_defaults : ℕ → Planned → (Progress → Step → Give) → Progress → Progress
after_defaults zero plan give w = w
after_defaults (suc n) plan give w =
    next_default (λ x. after_defaults n plan give (progress_after plan w x (give w x))) w (default_step plan w)

-- each of these moves is the default step where it is made: the first one that is enabled
abbrev pub AreDefaultMoves : Planned → Progress → List Move → Type 0
AreDefaultMoves plan w [] = Unit {0}
AreDefaultMoves plan w (x ∷ xs) =
    IsFirstEnabled plan w x.step × AreDefaultMoves plan (progress_after plan w x.step x.give) xs

-- a run begins with the given moves and goes on by default steps, which lead to w
pub record GoesOn (plan : Planned) (first : ℕ) (given more : List Move) (w : Progress) : Type 0 where
  pub begun : Progress
  pub begins : after_moves plan (progress_at_start plan first) given ≡ Some begun
  pub default : AreDefaultMoves plan begun more
  pub leads : after_moves plan begun more ≡ Some w

-- default steps, one with each give as far as there are any
abbrev pub after_gives : Planned → Progress → List Give → Progress
after_gives plan w [] = w
after_gives plan w (x ∷ xs) = next_default (λ s. after_gives plan (progress_after plan w s x) xs) w (default_step plan w)

-- all but the open phase is the same
pub record IsSameButPhase (w w' : Progress) : Type 0 where
  pub now : w'.now ≡ w.now
  pub done : w'.done ≡ w.done

-- the protocol's step for p's command, if there is one
abbrev pub steps_of_command : ℕ → Give → Option Command → List machine.ProtocolStep
steps_of_command p give None = []
steps_of_command p give (Some c) = protocol_step p c.job give ∷ []

-- the protocol's step for a step of the plan: one, where it is enabled
abbrev pub protocol_steps : Planned → Progress → Step → Give → List machine.ProtocolStep
protocol_steps plan w (Do p) give = steps_of_command p give (next_command plan w p)
protocol_steps plan w (Take p q) give = machine.Take p q give.able ∷ []

-- what is seen is where these steps of the protocol lead
abbrev pub IsAfterSteps : Planned → ℕ → List machine.ProtocolStep → Progress → Type 0
IsAfterSteps plan first steps w = w.now ≡ run_seen (opening_seen (length plan.names) first) steps

-- none of these moves is p's
abbrev pub AreOfOthers : ℕ → List Move → Type 0
AreOfOthers p [] = Unit {0}
AreOfOthers p (x ∷ xs) = (p ≢ process_of_step x.step) × AreOfOthers p xs
