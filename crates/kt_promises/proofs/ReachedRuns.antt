-- Behind each run by what code has stands the machine's state.
use Rattle.std.proofs.Common.{length, ◌≡◌, ℕ, List, [], ◌∷◌, sym, ap, subst, ◌∙◌, Some, None, suc, arith, ◌+◌}
use Rattle.std.specs.Prelude.{Option, unwrap_or}
use Rattle.kt_spacetime.specs.declared.event.Event.{Event}
use Rattle.kt_protocol.specs.States.{State, opening}
use Rattle.kt_protocol.specs.Steps.{run}
use Rattle.kt_protocol.specs.States as machine
use Rattle.kt_protocol.specs.LateSteps.{late_run}
use Rattle.kt_protocol.proofs.LateWholeSteps.{same_log}
use Rattle.kt_machine.specs.Seen.{Seen, seen}
use Rattle.kt_plan.specs.Limits.{Planned, IsPlan}
use Rattle.kt_promises.proofs.MachineProgress.{MachineProgress, machine_start, world_of}
use Rattle.kt_promises.specs.Runs.{Move, after_moves, RunReaches}
use Rattle.kt_promises.proofs.MachineSteps.{after_machine_step}
use Rattle.kt_promises.proofs.InstancesBegun.{run_facts, Behind, IsReachedByMachine, behind_start, behind_after}
use Rattle.kt_promises.specs.Progress.{Progress, progress_at_start}
use Rattle.kt_promises.specs.Steps.{enabled, progress_after}
use Rattle.kt_promises.proofs.SameSteps.{enabled_same, after_same, start_same}
use Rattle.kt_protocol.proofs.Choices.{at_if}

-- the machine's state behind where so many steps of a run lead
pub record Shown (plan : Planned) (first : ℕ) (w : Progress) (m : ℕ) : Type 0 where
  pub progress : MachineProgress
  pub behind : Behind plan m progress
  pub is : w ≡ world_of first progress

shown_from : (plan : Planned) (first : ℕ) (moves : List Move) (m : ℕ) (g : MachineProgress) (w : Progress) → Behind plan m g → after_moves plan (world_of first g) moves ≡ Some w → Shown plan first w (m + length moves)
shown_from plan first [] m g w b e = record { progress = g; behind = subst (λ (n : ℕ). Behind plan n g) (omega arith) b; is = sym (ap (λ (o : Option Progress). unwrap_or o w) e) }
shown_from plan first (x ∷ xs) m g w b e = at_if (λ (o : Option Progress). o ≡ Some w → Shown plan first w (m + suc (length xs))) (enabled plan (world_of first g) x.step) (after_moves plan (progress_after plan (world_of first g) x.step x.give) xs) None
    (λ on z. let f = sym (enabled_same plan first g x.step) ∙ on in
    let y : suc m + length xs ≡ m + suc (length xs) = omega arith in
    subst (λ (n : ℕ). Shown plan first w n) y (shown_from plan first xs (suc m) (after_machine_step plan g x.step x.give) w (behind_after plan m g x.step x.give b f)
    (ap (λ (v : Progress). after_moves plan v xs) (after_same plan first g x.step x.give b.few.run_facts) ∙ z)))
    (λ on z. absurd (cc (z))) e

pub shown_by : (plan : Planned) (first : ℕ) (w : Progress) (moves : List Move) → IsPlan plan → after_moves plan (progress_at_start plan first) moves ≡ Some w → Shown plan first w (length moves)
shown_by plan first w moves i e =
    let y : 0 + length moves ≡ length moves = omega arith in
    subst (λ (n : ℕ). Shown plan first w n) y (shown_from plan first moves 0 (machine_start plan) w (behind_start plan i) (ap (λ (v : Progress). after_moves plan v moves) (start_same plan first) ∙ e))

-- what is so of what code has wherever a run of the plan leads
pub carry : (plan : Planned) (first : ℕ) (w : Progress) (P : Progress → Type 0) → IsPlan plan → RunReaches plan first w → ((g : MachineProgress) → IsReachedByMachine plan g → P (world_of first g)) → P w
carry plan first w P i r f = let s = shown_by plan first w r.moves i r.leads in subst P (sym s.is) (f s.progress (record { count = length r.moves; behind = s.behind }))

-- its log is that of a run of the protocol
pub log_of : (plan : Planned) (first : ℕ) (w : Progress) (P : List Event → Type 0) → IsPlan plan → RunReaches plan first w → ((steps : List machine.ProtocolStep) → P (run (opening (length plan.names)) steps).log) → P w.now.log
log_of plan first w P i r f = carry plan first w (λ v. P v.now.log) i r
    (λ g s. let k = run_facts plan g s in subst P (sym (ap (λ (s : State). s.log) k.state_is ∙ same_log (length plan.names) k.steps)) (f k.steps))

-- what is seen is what is seen of a run in which a commit takes effect late
pub seen_of : (plan : Planned) (first : ℕ) (w : Progress) (P : Seen → Type 0) → IsPlan plan → RunReaches plan first w → ((steps : List machine.ProtocolStep) → P (seen first (late_run (opening (length plan.names)) steps))) → P w.now
seen_of plan first w P i r f = carry plan first w (λ v. P v.now) i r
    (λ g s. let k = run_facts plan g s in subst (λ (x : State). P (seen first x)) (sym k.state_is) (f k.steps))
