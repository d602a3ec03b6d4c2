-- The phases that open after a step.
use Rattle.std.specs.List.{list_any}
use Rattle.std.proofs.Common.{length, ◌≡◌, ℕ, zero, suc, ◌+◌, ◌-◌, ◌≤◌, ◌<◌, Bool, true, false, List, [], refl, arith, sym, ap, subst, ◌∙◌, inl, inr}
use Rattle.std.specs.Prelude.{◌==◌, ◌&&◌, nat_lt}
use Rattle.std.proofs.lemmas.Bool.{cases_lt}
use Rattle.std.proofs.lemmas.Bool.Decides.{nat_tests}
use Rattle.kt_protocol.proofs.Choices.{at_if}
use Rattle.kt_protocol.proofs.StepFacts.{none_is}
use Rattle.kt_plan.specs.declared.commands.Command.{Command}
use Rattle.kt_plan.specs.Limits.{Planned}
use Rattle.kt_promises.specs.Plans.{last_phase}
use Rattle.kt_promises.proofs.MachineProgress.{MachineProgress, machine_after_opening, machine_commands_left, machine_is_phase_done, machine_is_quiet, machine_opens_next, machine_with_phases_open}
use Rattle.kt_promises.proofs.PhaseOrder.{Ordered, past, beyond}

-- no command that is left stands before the open phase
abbrev pub IsAhead : Planned → MachineProgress → Type 0
IsAhead plan g = (p : ℕ) → Ordered (length plan.names) p g.phase (machine_commands_left plan g p)

-- g, with the phases open that may be
pub record Opened (plan : Planned) (g g' : MachineProgress) : Type 0 where
  pub state : g'.state ≡ g.state
  pub done : g'.done ≡ g.done
  pub phase : g.phase ≤ g'.phase
  pub quiet : g.phase < g'.phase → machine_is_quiet (length plan.names) g'.state ≡ true
  pub ahead : IsAhead plan g'
  pub shut : machine_opens_next plan g' ≡ false

one_on : (plan : Planned) (g : MachineProgress) → machine_opens_next plan g ≡ true → IsAhead plan g → IsAhead plan (record g { phase = g.phase + 1 })
one_on plan g o a p = let e : g.phase + 1 ≡ suc g.phase = omega arith in subst (λ (k : ℕ). Ordered (length plan.names) p k (machine_commands_left plan g p)) (sym e) (elim (cases_lt p (length plan.names)) [
  | inl l ↦ past (length plan.names) p g.phase (machine_commands_left plan g p) (a p) (none_is (length plan.names) (λ p. list_any (λ (x : Command). x.phase == g.phase) (machine_commands_left plan g p)) (first (machine_is_phase_done plan g) _ o) p l)
  | inr l ↦ past (length plan.names) p g.phase (machine_commands_left plan g p) (a p) (none (machine_commands_left plan g p) (beyond (length plan.names) p g.phase (machine_commands_left plan g p) l (a p)))
])
  where
    first : (a b : Bool) → (a && b) ≡ true → a ≡ true
    first true b e = refl
    first false b e = absurd (cc)

    none : (l : List Command) → l ≡ [] → list_any (λ (x : Command). x.phase == g.phase) l ≡ false
    none l e = rw e refl

opened_are : (k : ℕ) (plan : Planned) (g : MachineProgress) → last_phase plan.commands ≤ g.phase + k → IsAhead plan g → Opened plan g (machine_after_opening k plan g)
opened_are zero plan g h a = record { state = refl; done = refl; phase = omega arith; quiet = λ l. absurd (omega (arith, l)); ahead = a; shut = late (machine_is_phase_done plan g) (machine_is_quiet (length plan.names) g.state) g.phase (last_phase plan.commands) h }
  where
    late : (a b : Bool) (x y : ℕ) → y ≤ x + 0 → (a && (b && nat_lt x y)) ≡ false
    late a b x y h = grind (arith, nat_tests, h)
opened_are (suc k) plan g h a = at_if (Opened plan g) (machine_opens_next plan g) (machine_after_opening k plan (record g { phase = g.phase + 1 })) g
    (λ e. let x = opened_are k plan (record g { phase = g.phase + 1 }) (omega (arith, h)) (one_on plan g e a) in
    record { state = x.state; done = x.done; phase = (let y = x.phase in omega (arith, y)); quiet = λ _. ap (machine_is_quiet (length plan.names)) x.state ∙ middle (machine_is_phase_done plan g) (machine_is_quiet (length plan.names) g.state) _ e; ahead = x.ahead; shut = x.shut })
    (λ e. record { state = refl; done = refl; phase = omega arith; quiet = λ l. absurd (omega (arith, l)); ahead = a; shut = e })
  where
    middle : (a b c : Bool) → (a && (b && c)) ≡ true → b ≡ true
    middle true true c e = refl
    middle true false c e = absurd (cc (e))
    middle false b c e = absurd (cc (e))

pub opened_is : (plan : Planned) (g : MachineProgress) → IsAhead plan g → Opened plan g (machine_with_phases_open plan g)
opened_is plan g a = opened_are (last_phase plan.commands - g.phase) plan g (omega arith) a
