-- Each unwilling row that a step adds is justified just before it.
use Rattle.std.proofs.Common.{◌≡◌, inl, inr, ℕ, zero, suc, ◌≤◌, Bool, true, false, List, [], ◌∷◌, length, refl, arith, sym, ap, subst, ◌∙◌, Some, None}
use Rattle.std.specs.Prelude.{Option, slice_get, nat_lt, ◌&&◌}
use Rattle.kt_spacetime.specs.declared.event.Event.{Event}
use Rattle.kt_spacetime.specs.declared.event.Event.TheVariants.{Unwilling}
use Rattle.kt_base.specs.declared.words.Cause.{Cause}
use Rattle.kt_base.specs.declared.words.Cause.TheVariants.{Busy, Down, NoSave}
use Rattle.kt_protocol.proofs.LateWholeSteps.{agrees_step}
use Rattle.kt_protocol.specs.LateSteps.{late_step}
use Rattle.kt_protocol.specs.OnceClosed.{once_closed}
use Rattle.kt_protocol.specs.Refusals.{MayBeUnwilling}
use Rattle.kt_protocol.specs.States.{State}
use Rattle.kt_protocol.specs.States as machine
use Rattle.kt_protocol.proofs.AddedRows.{adds_step}
use Rattle.kt_plan.specs.declared.commands.Command.{Command}
use Rattle.kt_plan.specs.declared.commands.Job.{Job}
use Rattle.kt_plan.specs.Limits.{Planned}
use Rattle.kt_promises.proofs.MachineProgress.{MachineProgress, machine_next_command}
use Rattle.kt_promises.proofs.MachineRows.{IsUnwillingMachineStep}
use Rattle.kt_plan.specs.declared.steps.Step.TheVariants.{Do, Take}
use Rattle.kt_plan.specs.declared.steps.Give.{Give}
use Rattle.kt_plan.specs.declared.steps.Step.{Step}
use Rattle.kt_promises.proofs.MachineSteps.{machine_after_command, after_machine_step, machine_enabled, machine_may_do}
use Rattle.kt_promises.specs.Steps.{protocol_step}
use Rattle.kt_plan.specs.declared.commands.Job.TheVariants as job
use Rattle.kt_promises.proofs.RunFacts.{RunFacts, opened_command, opened_take}
use Rattle.kt_promises.proofs.StateFacts.{StateFacts, state_facts}
use Rattle.kt_promises.proofs.PhaseOrder.{never_both}

-- a late state says the same of it as that state once each instance is closed
by_late_state : (s : State) (p q k : ℕ) (able : Bool) (c : Cause) → MayBeUnwilling (once_closed s) p q k able c → MayBeUnwilling s p q k able c
by_late_state s p q k able (Busy j) m = record { member = m.member; undecided = m.undecided; cause = (let b = m.cause in record { positive = b.positive; open_in = b.open_in; other = b.other; received = b.received; sent = b.sent }) }
by_late_state s p q k able Down m = record { member = m.member; undecided = m.undecided; cause = (let f = m.cause.0 in record { checkpoint = f.checkpoint; closed = f.closed; has_to = f.has_to }, m.cause.1) }
by_late_state s p q k able NoSave m = record { member = m.member; undecided = m.undecided; cause = (let f = m.cause.0 in record { checkpoint = f.checkpoint; closed = f.closed; has_to = f.has_to }, m.cause.1, m.cause.2) }

-- an unwilling row of one step
record IsOfStep (s : State) (y : machine.ProtocolStep) (t p k : ℕ) (c : Cause) : Type 0 where
  from : ℕ
  able : Bool
  is : y ≡ machine.Take p from able
  row : t ≡ length s.log
  justified : MayBeUnwilling s p from k able c

past : (l : List Event) (t : ℕ) (x : Event) → slice_get l t ≡ Some x → length l ≤ t → ⊥
past [] t x a h = cc (a)
past (y ∷ l) zero x a h = omega (arith, h)
past (y ∷ l) (suc t) x a h = past l t x a (omega (arith, h))

-- a late step
step_refuses : (n : ℕ) (s : State) (y : machine.ProtocolStep) (t p k : ℕ) (c : Cause) → StateFacts n s → slice_get (late_step s y).log t ≡ Some (Unwilling p k c) → length s.log ≤ t → IsOfStep (once_closed s) y t p k c
step_refuses n s y t p k c r e l = elim (adds_step (once_closed s) y r.invariant r.after_step.always.tables t (Unwilling p k c) refl (ap (λ (u : State). slice_get u.log t) (sym (agrees_step s y r.invariant r.quiet r.lists).same) ∙ e)) [
  | inl a ↦ absurd (past s.log t (Unwilling p k c) a l)
  | inr a ↦ record { from = a.1.0; able = a.1.1; is = a.1.2; row = a.0; justified = a.1.3 }
]

pub unwilling : (plan : Planned) (g : MachineProgress) (x : Step) (give : Give) (t p k : ℕ) (c : Cause) → RunFacts plan g → machine_enabled plan g x ≡ true → slice_get (after_machine_step plan g x give).state.log t ≡ Some (Unwilling p k c) → length g.state.log ≤ t → IsUnwillingMachineStep g x give t p k c
unwilling plan g (Do u) give t p k c h b e l = go (machine_next_command plan g u) refl b e
  where
    never : (j : Job) (q : ℕ) (able : Bool) → protocol_step u j give ≡ machine.Take p q able → ⊥
    never (job.Send q' body) q able e = cc (e)
    never job.Checkpoint q able e = cc (e)
    never job.Rollback q able e = cc (e)
    never job.Fail q able e = cc (e)

    go : (o : Option Command) → machine_next_command plan g u ≡ o → (nat_lt u (length plan.names) && machine_may_do g u o) ≡ true → slice_get (machine_after_command plan g u give o).state.log t ≡ Some (Unwilling p k c) → IsUnwillingMachineStep g (Do u) give t p k c
    go None n f e = absurd (never_both (nat_lt u (length plan.names)) f)
    go (Some d) n f e = absurd (let o = step_refuses (length plan.names) g.state (protocol_step u d.job give) t p k c (state_facts plan g h) (ap (λ (s : State). slice_get s.log t) (sym (opened_command plan g u give d h n).state) ∙ e) l in never d.job o.from o.able o.is)
unwilling plan g (Take u q) give t p k c h b e l = go (step_refuses (length plan.names) g.state (machine.Take u q give.able) t p k c (state_facts plan g h) (ap (λ (s : State). slice_get s.log t) (sym (opened_take plan g u q give h).state) ∙ e) l)
  where
    go : IsOfStep (once_closed g.state) (machine.Take u q give.able) t p k c → IsUnwillingMachineStep g (Take u q) give t p k c
    go o = let i : u ≡ p = cc (is) in let j : q ≡ o.from = cc (is) in let a : give.able ≡ o.able = cc (is) in
        record { from = o.from; step = rw (i, j) refl; row = o.row; justified = subst (λ (b : Bool). MayBeUnwilling g.state p o.from k b c) (sym a) (by_late_state g.state p o.from k o.able c o.justified) }
      where
        is : machine.Take u q give.able ≡ machine.Take p o.from o.able
        is = o.is
