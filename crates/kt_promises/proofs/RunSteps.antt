-- What is so of each run, by what code has.
use Rattle.std.proofs.Common.{◌≡◌, ◌≢◌, ℕ, ◌≤◌, true, false, List, [], ◌∷◌, length, refl, sym, ap, subst, ◌∙◌, Some, None}
use Rattle.std.specs.Prelude.{Option, unwrap_or, ◌++◌, if◌then◌else◌}
use Rattle.kt_protocol.proofs.Choices.{at_if}
use Rattle.kt_plan.specs.Limits.{Planned, IsPlan}
use Rattle.kt_promises.proofs.MachineProgress.{MachineProgress, world_of}
use Rattle.kt_plan.specs.declared.steps.Step.{Step}
use Rattle.kt_plan.specs.declared.steps.Give.{Give}
use Rattle.kt_promises.specs.Steps.{process_of_step, enabled, progress_after, is_at_rest}
use Rattle.kt_promises.specs.Runs.{Move, after_moves, RunReaches}
use Rattle.kt_promises.specs.Work.{most_steps_of_run}
use Rattle.kt_promises.proofs.MachineSteps.{after_machine_step, machine_enabled}
use Rattle.kt_promises.proofs.InstancesBegun.{run_facts}
use Rattle.kt_promises.proofs.AtRest.{rests}
use Rattle.kt_promises.proofs.LooksStay.{stays}
use Rattle.kt_promises.proofs.StepBounds.{few_steps}
use Rattle.kt_promises.specs.Progress.{Progress, progress_at_start}
use Rattle.kt_promises.specs.Looks.{look}
use Rattle.kt_promises.proofs.SameSteps.{enabled_same, rest_same, after_same}
use Rattle.kt_promises.proofs.SameLooks.{look_same}
use Rattle.kt_promises.proofs.ReachedRuns.{shown_by, carry}
use Rattle.kt_promises.proofs.RunFacts.{facts_after}

pub start_reached_seen : (plan : Planned) (first : ℕ) → RunReaches plan first (progress_at_start plan first)
start_reached_seen plan first = record { moves = []; leads = refl }

pub moves_more : (plan : Planned) (moves : List Move) (u w : Progress) (x : Step) (give : Give) → after_moves plan u moves ≡ Some w → enabled plan w x ≡ true → after_moves plan u (moves ++ record { step = x; give = give } ∷ []) ≡ Some (progress_after plan w x give)
moves_more plan [] u w x give e b = let i : u ≡ w = ap (λ (o : Option Progress). unwrap_or o u) e in rw i (rw b refl)
moves_more plan (m ∷ ms) u w x give e b = at_if (λ (o : Option Progress). o ≡ Some w → (if enabled plan u m.step then after_moves plan (progress_after plan u m.step m.give) (ms ++ record { step = x; give = give } ∷ []) else None) ≡ Some (progress_after plan w x give)) (enabled plan u m.step) (after_moves plan (progress_after plan u m.step m.give) ms) None
    (λ i z. rw i (moves_more plan ms (progress_after plan u m.step m.give) w x give z b))
    (λ i z. absurd (cc (z))) e

pub next_reached_seen : (plan : Planned) (first : ℕ) (w : Progress) (x : Step) (give : Give) → IsPlan plan → RunReaches plan first w → enabled plan w x ≡ true → RunReaches plan first (progress_after plan w x give)
next_reached_seen plan first w x give i r e = record { moves = r.moves ++ record { step = x; give = give } ∷ []; leads = moves_more plan r.moves (progress_at_start plan first) w x give r.leads e }

-- where nothing is enabled
pub nothing_on : (plan : Planned) (first : ℕ) (g : MachineProgress) → ((x : Step) → enabled plan (world_of first g) x ≡ false) → (x : Step) → machine_enabled plan g x ≡ false
nothing_on plan first g n x = sym (enabled_same plan first g x) ∙ n x

pub rest_seen : (plan : Planned) (first : ℕ) (w : Progress) → IsPlan plan → RunReaches plan first w → ((x : Step) → enabled plan w x ≡ false) → is_at_rest plan w ≡ true
rest_seen plan first w i r = carry plan first w (λ v. ((x : Step) → enabled plan v x ≡ false) → is_at_rest plan v ≡ true) i r
    (λ g s n. rest_same plan first g ∙ (rests plan g (run_facts plan g s) (nothing_on plan first g n)).flag)

pub few_steps_seen : (plan : Planned) (first : ℕ) (moves : List Move) (w : Progress) → IsPlan plan → after_moves plan (progress_at_start plan first) moves ≡ Some w → length moves ≤ most_steps_of_run plan (length w.now.log)
few_steps_seen plan first moves w i e = let s = shown_by plan first w moves i e in subst (λ (v : Progress). length moves ≤ most_steps_of_run plan (length v.now.log)) (sym s.is) (few_steps plan (length moves) s.progress s.behind.few)

pub stays_on : (plan : Planned) (first : ℕ) (w : Progress) (x y : Step) (give : Give) → IsPlan plan → RunReaches plan first w → enabled plan w x ≡ true → enabled plan w y ≡ true → process_of_step x ≢ process_of_step y → enabled plan (progress_after plan w y give) x ≡ true
stays_on plan first w x y give i r = carry plan first w (λ v. enabled plan v x ≡ true → enabled plan v y ≡ true → process_of_step x ≢ process_of_step y → enabled plan (progress_after plan v y give) x ≡ true) i r
    (λ g s a b n. let k = run_facts plan g s in
    ap (λ (v : Progress). enabled plan v x) (sym (after_same plan first g y give k)) ∙ (enabled_same plan first (after_machine_step plan g y give) x
    ∙ (stays plan g x y give k (sym (enabled_same plan first g x) ∙ a) (sym (enabled_same plan first g y) ∙ b) n).on))

pub stays_seen : (plan : Planned) (first : ℕ) (w : Progress) (x y : Step) (give : Give) → IsPlan plan → RunReaches plan first w → enabled plan w x ≡ true → enabled plan w y ≡ true → process_of_step x ≢ process_of_step y → look plan (progress_after plan w y give) x ≡ look plan w x
stays_seen plan first w x y give i r = carry plan first w (λ v. enabled plan v x ≡ true → enabled plan v y ≡ true → process_of_step x ≢ process_of_step y → look plan (progress_after plan v y give) x ≡ look plan v x) i r
    (λ g s a b n. let k = run_facts plan g s in let k' = facts_after plan g y give k in
    ap (λ (v : Progress). look plan v x) (sym (after_same plan first g y give k)) ∙ (look_same plan first (after_machine_step plan g y give) x k'
    ∙ ((stays plan g x y give k (sym (enabled_same plan first g x) ∙ a) (sym (enabled_same plan first g y) ∙ b) n).seen ∙ sym (look_same plan first g x k))))

-- what holds at first, and after each enabled step of a run where it held before, holds in every run
keeps_along : (plan : Planned) (first : ℕ) (I : Progress → Type 0) → IsPlan plan → ((w : Progress) (x : Step) (give : Give) → RunReaches plan first w → enabled plan w x ≡ true → I w → I (progress_after plan w x give)) → (moves : List Move) (u w : Progress) → RunReaches plan first u → I u → after_moves plan u moves ≡ Some w → I w
keeps_along plan first I i step [] u w r a e = subst I (ap (λ (o : Option Progress). unwrap_or o u) e) a
keeps_along plan first I i step (x ∷ xs) u w r a e = at_if (λ (o : Option Progress). o ≡ Some w → I w) (enabled plan u x.step) (after_moves plan (progress_after plan u x.step x.give) xs) None
    (λ b z. keeps_along plan first I i step xs (progress_after plan u x.step x.give) w (next_reached_seen plan first u x.step x.give i r b) (step u x.step x.give r b a) z)
    (λ b z. absurd (cc (z))) e

pub seen_keeps : (plan : Planned) (first : ℕ) (I : Progress → Type 0) → IsPlan plan → I (progress_at_start plan first) → ((w : Progress) (x : Step) (give : Give) → RunReaches plan first w → enabled plan w x ≡ true → I w → I (progress_after plan w x give)) → (w : Progress) → RunReaches plan first w → I w
seen_keeps plan first I i a step w r = keeps_along plan first I i step r.moves (progress_at_start plan first) w (start_reached_seen plan first) a r.leads
