-- What the instances of a run have put is what those of the machine's state behind it have put.
use Rattle.std.proofs.Common.{length, ◌≡◌, ℕ, suc, List, [], ◌∷◌, ◌++◌, refl, sym, ap, subst, ◌∙◌, Some, None, true}
use Rattle.std.specs.Prelude.{Option, unwrap_or}
use Rattle.kt_protocol.specs.States.{State}
use Rattle.kt_protocol.proofs.Choices.{at_if}
use Rattle.kt_machine.specs.Seen.{seen}
use Rattle.kt_plan.specs.Limits.{Planned, IsPlan}
use Rattle.kt_plan.specs.declared.steps.Step.{Step}
use Rattle.kt_plan.specs.declared.steps.Give.{Give}
use Rattle.kt_promises.specs.Progress.{Progress, progress_at_start}
use Rattle.kt_promises.specs.Steps.{enabled, progress_after}
use Rattle.kt_promises.specs.Runs.{Move, after_moves, RunReaches}
use Rattle.kt_promises.specs.Tallies.{Tallies, no_tallies, raised_tally, tallies_after, tallies_along, RunPuts}
use Rattle.kt_promises.proofs.MachineProgress.{MachineProgress, machine_start, world_of}
use Rattle.kt_promises.proofs.MachineSteps.{after_machine_step, machine_enabled}
use Rattle.kt_promises.proofs.RunFacts.{RunFacts}
use Rattle.kt_promises.proofs.StepBounds.{opened_start}
use Rattle.kt_promises.proofs.InstancesBegun.{Behind, IsReachedByMachine, behind_start, behind_after}
use Rattle.kt_promises.proofs.TalliedSteps.{tallied}
use Rattle.kt_promises.proofs.SameTallies.{tallies_of, raised_same}
use Rattle.kt_promises.proofs.SameSteps.{enabled_same, after_same, start_same}
use Rattle.kt_promises.proofs.RunSteps.{moves_more}

-- a run that has put so much leads where it leads
pub run_of : (plan : Planned) (first : ℕ) (w : Progress) (put : Tallies) → RunPuts plan first w put → RunReaches plan first w
run_of plan first w put r = record { moves = r.moves; leads = r.leads }

-- at first, after one more step, and after one more move
pub put_at_start : (plan : Planned) (first : ℕ) → RunPuts plan first (progress_at_start plan first) no_tallies
put_at_start plan first = record { moves = []; leads = refl; counted = refl }

put_more : (plan : Planned) (moves : List Move) (u w : Progress) (x : Step) (give : Give) (old put : Tallies) → after_moves plan u moves ≡ Some w → tallies_along plan u moves old ≡ put →
    tallies_along plan u (moves ++ record { step = x; give = give } ∷ []) old ≡ tallies_after plan w x give put
put_more plan [] u w x give old put e c = let d : u ≡ w = ap (λ (o : Option Progress). unwrap_or o u) e in λ i. tallies_after plan (d i) x give (c i)
put_more plan (m ∷ ms) u w x give old put e c = at_if (λ (o : Option Progress). o ≡ Some w → tallies_along plan u (m ∷ ms ++ record { step = x; give = give } ∷ []) old ≡ tallies_after plan w x give put) (enabled plan u m.step) (after_moves plan (progress_after plan u m.step m.give) ms) None
    (λ i z. put_more plan ms (progress_after plan u m.step m.give) w x give (tallies_after plan u m.step m.give old) put z c)
    (λ i z. absurd (cc (z))) e

pub put_next : (plan : Planned) (first : ℕ) (w : Progress) (put : Tallies) (x : Step) (give : Give) → RunPuts plan first w put → enabled plan w x ≡ true → RunPuts plan first (progress_after plan w x give) (tallies_after plan w x give put)
put_next plan first w put x give r e = record {
  moves = r.moves ++ record { step = x; give = give } ∷ [];
  leads = moves_more plan r.moves (progress_at_start plan first) w x give r.leads e;
  counted = put_more plan r.moves (progress_at_start plan first) w x give no_tallies put r.leads r.counted;
}

-- the machine's tallies are raised so
pub put_same : (plan : Planned) (first : ℕ) (g : MachineProgress) (x : Step) (give : Give) → RunFacts plan g → machine_enabled plan g x ≡ true →
    tallies_of (after_machine_step plan g x give).state ≡ tallies_after plan (world_of first g) x give (tallies_of g.state)
put_same plan first g x give k e = raised_same (length plan.names) first g.state (after_machine_step plan g x give).state x (tallied plan g x give k e)
    ∙ ap (λ (v : Progress). raised_tally (length plan.names) (seen first g.state) x v.now (tallies_of g.state)) (after_same plan first g x give k)

put_from : (plan : Planned) (first : ℕ) (moves : List Move) (m : ℕ) (g : MachineProgress) (w : Progress) (P : Progress → Tallies → Type 0) → Behind plan m g → after_moves plan (world_of first g) moves ≡ Some w →
    ((h : MachineProgress) → IsReachedByMachine plan h → P (world_of first h) (tallies_of h.state)) → P w (tallies_along plan (world_of first g) moves (tallies_of g.state))
put_from plan first [] m g w P b e f = subst (λ (v : Progress). P v (tallies_of g.state)) (ap (λ (o : Option Progress). unwrap_or o w) e) (f g (record { count = m; behind = b }))
put_from plan first (x ∷ xs) m g w P b e f = at_if (λ (o : Option Progress). o ≡ Some w → P w (tallies_along plan (world_of first g) (x ∷ xs) (tallies_of g.state))) (enabled plan (world_of first g) x.step) (after_moves plan (progress_after plan (world_of first g) x.step x.give) xs) None
    (λ on z.
    let h = after_machine_step plan g x.step x.give in
    let there = sym (enabled_same plan first g x.step) ∙ on in
    let same = after_same plan first g x.step x.give b.few.run_facts in
    subst (λ (v : Progress). P w (tallies_along plan v xs (tallies_after plan (world_of first g) x.step x.give (tallies_of g.state)))) same
    (subst (λ (t : Tallies). P w (tallies_along plan (world_of first h) xs t)) (put_same plan first g x.step x.give b.few.run_facts there)
    (put_from plan first xs (suc m) h w P (behind_after plan m g x.step x.give b there) (ap (λ (v : Progress). after_moves plan v xs) same ∙ z) f)))
    (λ on z. absurd (cc (z))) e

-- nothing was put at first
pub none_at_start : (plan : Planned) → IsPlan plan → tallies_of (machine_start plan).state ≡ no_tallies
none_at_start plan i = ap tallies_of (opened_start plan i).state

-- what is so of where a run leads and of what its instances have put, wherever the machine leads
pub carry_put : (plan : Planned) (first : ℕ) (w : Progress) (put : Tallies) (P : Progress → Tallies → Type 0) → IsPlan plan → RunPuts plan first w put →
    ((g : MachineProgress) → IsReachedByMachine plan g → P (world_of first g) (tallies_of g.state)) → P w put
carry_put plan first w put P i r f =
    subst (P w) r.counted
    (subst (λ (v : Progress). P w (tallies_along plan v r.moves no_tallies)) (start_same plan first)
    (subst (λ (t : Tallies). P w (tallies_along plan (world_of first (machine_start plan)) r.moves t)) (none_at_start plan i)
    (put_from plan first r.moves 0 (machine_start plan) w P (behind_start plan i) (ap (λ (v : Progress). after_moves plan v r.moves) (start_same plan first) ∙ r.leads) f)))
