-- What is read of a text, and what is made of it.
use Rattle.std.proofs.Common.{◌≡◌, ◌<◌, ◌∙◌, ℕ, List, ◌++◌, Some, None, length, sym, ap, subst, arith, inl, inr, append-nil, length-append}
use Rattle.std.specs.Prelude.{IfSome}
use Rattle.std.specs.Io.KnownBytes.{Consumes, IsAtEnd}
use Rattle.kt_plan.specs.declared.steps.Step.{Step}
use Rattle.kt_plan.specs.Limits.{Planned}
use Rattle.kt_scenario.specs.Scenario.{IsScenario, IsFirstScenarioFault, most_bytes}
use Rattle.kt_scenario.specs.Steps.{AreSteps, IsFirstStepFault, most_step_bytes}
use Rattle.kt_scenario.specs.declared.fault.ScenarioFault.{ScenarioFault}
use Rattle.kt_scenario.specs.declared.fault.StepsFault.{StepsFault}
use Rattle.kt_program.specs.Inputs.{AreStepsOf, IsRead, IsScenarioOf}
use Rattle.kt_program.specs.Stored.{BytesTold}

-- a text that was read to its end
pub read_whole : (most : ℕ) (old new : BytesTold) (text : List ℕ) → Consumes old new text → IsAtEnd new → IsRead most old text
read_whole most None new text c e = tt
read_whole most (Some all) None text c e = absurd c
read_whole most (Some all) (Some left) text c e = inl (sym (c ∙ ap (λ (l : List ℕ). text ++ l) e ∙ append-nil text))

-- a text that was read until it was too long
pub read_long : (most : ℕ) (old new : BytesTold) (text : List ℕ) → Consumes old new text → most < length text → IsRead most old text
read_long most None new text c l = tt
read_long most (Some all) None text c l = absurd c
read_long most (Some all) (Some left) text c l = inr (l, left, c)

longer : (most : ℕ) (text rest whole : List ℕ) → whole ≡ text ++ rest → most < length text → most < length whole
longer most text rest whole e l = let h = ap length e ∙ length-append text rest in omega (arith, h, l)

fault_in_whole : (text rest whole : List ℕ) (fault : ScenarioFault) → most_bytes < length text → whole ≡ text ++ rest → IsFirstScenarioFault text fault → IsFirstScenarioFault whole fault
fault_in_whole text rest whole fault l e (inl first) = inl (first.0, longer most_bytes text rest whole e l)
fault_in_whole text rest whole fault l e (inr first) = let few = first.3 in absurd (omega (arith, few, l))

-- and so is its first fault
pub fault_of_whole : (told : BytesTold) (text : List ℕ) (fault : ScenarioFault) → IsRead most_bytes told text → IsFirstScenarioFault text fault → IfSome told (λ t. IsFirstScenarioFault t fault)
fault_of_whole None text fault read is = tt
fault_of_whole (Some whole) text fault (inl e) is = subst (λ (t : List ℕ). IsFirstScenarioFault t fault) e is
fault_of_whole (Some whole) text fault (inr (l, rest, e)) is = fault_in_whole text rest whole fault l e is

step_fault_in_whole : (names : List (List ℕ)) (text rest whole : List ℕ) (fault : StepsFault) → most_step_bytes < length text → whole ≡ text ++ rest
    → IsFirstStepFault names text fault → IsFirstStepFault names whole fault
step_fault_in_whole names text rest whole fault l e (inl first) = inl (first.0, longer most_step_bytes text rest whole e l)
step_fault_in_whole names text rest whole fault l e (inr first) = let few = first.3 in absurd (omega (arith, few, l))

pub step_fault_of_whole : (told : BytesTold) (names : List (List ℕ)) (text : List ℕ) (fault : StepsFault) → IsRead most_step_bytes told text → IsFirstStepFault names text fault
    → IfSome told (λ t. IsFirstStepFault names t fault)
step_fault_of_whole None names text fault read is = tt
step_fault_of_whole (Some whole) names text fault (inl e) is = subst (λ (t : List ℕ). IsFirstStepFault names t fault) e is
step_fault_of_whole (Some whole) names text fault (inr (l, rest, e)) is = step_fault_in_whole names text rest whole fault l e is
