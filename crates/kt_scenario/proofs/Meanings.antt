-- A text has one meaning, or a fault.
use Rattle.std.proofs.Common.{◌≡◌, ◌∙◌, ℕ, List, [], ap, sym, subst, arith, inl, inr}
use Rattle.kt_plan.specs.declared.steps.Step.{Step}
use Rattle.kt_plan.specs.Limits.{Planned, IsPlan}
use Rattle.kt_scenario.specs.declared.fault.ScenarioFault.{ScenarioFault}
use Rattle.kt_scenario.specs.declared.fault.StepsFault.{StepsFault}
use Rattle.kt_scenario.specs.declared.fault.LineFault.{LineFault}
use Rattle.kt_scenario.specs.declared.fault.StepLineFault.{StepLineFault}
use Rattle.kt_scenario.specs.Faults.{fault_at, step_fault_at}
use Rattle.kt_scenario.specs.Lines.{lines_of}
use Rattle.kt_scenario.specs.Said.{nothing_said, plan_of}
use Rattle.kt_scenario.specs.Scenario.{Says, IsWordsFault, IsScenario, IsFirstScenarioFault}
use Rattle.kt_scenario.specs.Steps.{StepSays, IsWrongStep, AreSteps, IsFirstStepFault}
use Rattle.kt_scenario.proofs.LineLaws.{one_reading, no_reading, one_wrong}
use Rattle.kt_scenario.proofs.PlanFacts.{nothing, kept}
use Rattle.kt_scenario.proofs.SayingFacts.{clear}
use Rattle.kt_scenario.proofs.StepFacts.{clear_steps}

pub one_plan : (text : List ℕ) (plan other : Planned) → IsScenario text plan → IsScenario text other → plan ≡ other
one_plan text plan other a b = a.is ∙ (ap plan_of (one_reading Says IsWordsFault clear (lines_of text) nothing_said a.said b.said a.read b.read) ∙ sym b.is)

pub no_plan : (text : List ℕ) (plan : Planned) (fault : ScenarioFault) → IsFirstScenarioFault text fault → IsScenario text plan → ⊥
no_plan text plan fault (inl long) a = omega (arith, long.1, a.few)
no_plan text plan fault (inr wrong) a = no_reading Says IsWordsFault clear (lines_of text) nothing_said a.said wrong.0 wrong.1 wrong.4 a.read

pub limits : (text : List ℕ) (plan : Planned) → IsScenario text plan → IsPlan plan
limits text plan a = subst IsPlan (sym a.is) (kept nothing_said a.said (lines_of text) nothing a.read).plan

pub one_list : (names : List (List ℕ)) (text : List ℕ) (list other : List Step) → AreSteps names text list → AreSteps names text other → list ≡ other
one_list names text list other a b = one_reading (StepSays names) (IsWrongStep names) (clear_steps names) (lines_of text) [] list other a.read b.read

pub no_list : (names : List (List ℕ)) (text : List ℕ) (list : List Step) (fault : StepsFault) → IsFirstStepFault names text fault → AreSteps names text list → ⊥
no_list names text list fault (inl long) a = omega (arith, long.1, a.few)
no_list names text list fault (inr wrong) a = no_reading (StepSays names) (IsWrongStep names) (clear_steps names) (lines_of text) [] list wrong.0 wrong.1 wrong.4 a.read

pub one_fault : (text : List ℕ) (fault other : ScenarioFault) → IsFirstScenarioFault text fault → IsFirstScenarioFault text other → fault ≡ other
one_fault text fault other (inl a) (inl b) = a.0 ∙ sym b.0
one_fault text fault other (inl a) (inr b) = absurd (omega (arith, a.1, b.3))
one_fault text fault other (inr a) (inl b) = absurd (omega (arith, b.1, a.3))
one_fault text fault other (inr a) (inr b) =
    let same = one_wrong Says IsWordsFault clear (lines_of text) nothing_said a.0 b.0 a.1 b.1 a.4 b.4 in
    a.2 ∙ (ap (λ (n : ℕ). fault_at a.1 n) same.0 ∙ (ap (λ (f : LineFault). fault_at f b.0) same.1 ∙ sym b.2))

pub one_step_fault : (names : List (List ℕ)) (text : List ℕ) (fault other : StepsFault) → IsFirstStepFault names text fault → IsFirstStepFault names text other → fault ≡ other
one_step_fault names text fault other (inl a) (inl b) = a.0 ∙ sym b.0
one_step_fault names text fault other (inl a) (inr b) = absurd (omega (arith, a.1, b.3))
one_step_fault names text fault other (inr a) (inl b) = absurd (omega (arith, b.1, a.3))
one_step_fault names text fault other (inr a) (inr b) =
    let same = one_wrong (StepSays names) (IsWrongStep names) (clear_steps names) (lines_of text) [] a.0 b.0 a.1 b.1 a.4 b.4 in
    a.2 ∙ (ap (λ (n : ℕ). step_fault_at a.1 n) same.0 ∙ (ap (λ (f : StepLineFault). step_fault_at f b.0) same.1 ∙ sym b.2))
