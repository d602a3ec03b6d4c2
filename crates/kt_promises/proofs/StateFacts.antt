-- What is known of the state of a run of a plan.
use Rattle.std.proofs.Common.{length, ◌≡◌, ℕ, Bool, true, false, List, refl, sym, ap, subst, ◌∙◌}
use Rattle.std.specs.Prelude.{◌==◌, ◌&&◌, ◌||◌, not}
use Rattle.kt_protocol.proofs.KeptLists.{KeptLists}
use Rattle.kt_protocol.proofs.LateWholeSteps.{AllQuiet, all_quiet, agrees_after_run}
use Rattle.kt_protocol.specs.LateClosing.{is_within_label}
use Rattle.kt_protocol.specs.LateSteps.{late_run}
use Rattle.kt_protocol.specs.OnceClosed.{once_closed, held_once_closed}
use Rattle.kt_protocol.proofs.Bounds.{same_processes}
use Rattle.kt_protocol.proofs.Invariant.{Invariant}
use Rattle.kt_protocol.proofs.Walk.{invariant_after_run}
use Rattle.kt_protocol.proofs.WholeSteps.{AfterStep, all_after_run}
use Rattle.kt_protocol.specs.Parcels.{has_parcel}
use Rattle.kt_protocol.specs.States.{State, opening, is_ready, can_take}
use Rattle.kt_protocol.specs.States as machine
use Rattle.kt_plan.specs.Limits.{Planned}
use Rattle.kt_promises.proofs.MachineProgress.{MachineProgress}
use Rattle.kt_promises.proofs.RunFacts.{RunFacts}

pub record StateFacts (n : ℕ) (s : State) : Type 0 where
  pub processes : s.processes ≡ n
  pub invariant : Invariant (once_closed s)
  pub after_step : AfterStep (once_closed s)
  pub quiet : AllQuiet (once_closed s)
  pub lists : KeptLists s

state_facts_by : (n : ℕ) (steps : List machine.ProtocolStep) → StateFacts n (late_run (opening n) steps)
state_facts_by n steps = let i = agrees_after_run n steps in record {
  processes = ap (λ (s : State). s.processes) i.same ∙ same_processes n steps;
  invariant = subst Invariant (sym i.same) (invariant_after_run n steps);
  after_step = subst AfterStep (sym i.same) (all_after_run n steps);
  quiet = subst AllQuiet (sym i.same) (all_quiet n steps);
  lists = i.kept;
}

pub state_facts : (plan : Planned) (g : MachineProgress) → RunFacts plan g → StateFacts (length plan.names) g.state
state_facts plan g k = subst (StateFacts (length plan.names)) (sym k.state_is) (state_facts_by (length plan.names) k.steps)

-- what can be taken is so once each instance is closed too: who has a rollback to close is in it
pub can_take_same : (c : State) (p q : ℕ) → can_take (once_closed c) p q ≡ can_take c p q
can_take_same c p q = go (not (c.so_far.open_in p == 0)) (c.so_far.is_decided (c.so_far.open_in p) && c.so_far.is_committed (c.so_far.open_in p)) (c.so_far.is_rollback (c.so_far.open_in p))
  where
    go : (o d r : Bool) → (has_parcel (c.channel q p) || not (o && r) && has_parcel (held_once_closed ((o && d) && r) (is_within_label c (c.so_far.open_in p) p q) (c.kept q p) (c.held q p))) ≡ (has_parcel (c.channel q p) || not (o && r) && has_parcel (c.held q p))
    go true true true = refl
    go true true false = refl
    go true false true = refl
    go true false false = refl
    go false d r = refl
