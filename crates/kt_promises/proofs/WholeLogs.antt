-- What is so at rest, and of a whole log.
use Rattle.std.proofs.Common.{length, ◌≡◌, ℕ, true, false, List, [], ◌∷◌, ◌++◌, append_assoc, append-nil, refl, sym, ap, ◌∙◌, Some, None}
use Rattle.std.specs.Prelude.{◌==◌, ◌&&◌, not, is_some, Option, unwrap_or}
use Rattle.kt_spacetime.specs.declared.event.Event.{Event}
use Rattle.kt_meaning.specs.Legal.{IsLegal}
use Rattle.kt_protocol.proofs.LawfulSteps.{lawful_after_run}
use Rattle.kt_protocol.proofs.Choices.{at_if}
use Rattle.kt_machine.specs.Done.{done, done_start}
use Rattle.kt_machine.specs.Values.{Rules, due, first_due, does_all, can_all, acts_along}
use Rattle.kt_machine.proofs.CanBeDone.{along_can}
use Rattle.kt_machine.proofs.RunActs.{whole_log}
use Rattle.kt_plan.specs.Limits.{Planned, IsPlan}
use Rattle.kt_plan.specs.declared.steps.Step.{Step}
use Rattle.kt_promises.specs.Runs.{Move, after_moves, RunReaches}
use Rattle.kt_promises.specs.Progress.{Progress, commands_left, progress_at_start}
use Rattle.kt_promises.specs.Steps.{enabled, progress_after, is_at_rest}
use Rattle.kt_promises.specs.AtRest.{HasNothingInTransit}
use Rattle.kt_promises.specs.StepActs.{rows_added}
use Rattle.kt_promises.specs.Told.{rows_along}
use Rattle.kt_promises.proofs.ReachedRuns.{log_of}
use Rattle.kt_promises.proofs.PhasesOpen.{opening_is}
use Rattle.kt_promises.proofs.RunSteps.{start_reached_seen, next_reached_seen}
use Rattle.kt_promises.proofs.DefaultSteps.{quiet_seen_at_rest, done_seen, rest_default, nothing_default}
use Rattle.kt_promises.proofs.ActsOfSteps.{log_grows, tentative_seen}

idle : (plan : Planned) (first : ℕ) (w : Progress) → IsPlan plan → RunReaches plan first w → is_at_rest plan w ≡ true → (x : Step) → enabled plan w x ≡ false
idle plan first w i r a = nothing_default plan first w i r (rest_default plan first w i r a)

pub rested : (plan : Planned) (first : ℕ) (w : Progress) → IsPlan plan → RunReaches plan first w → is_at_rest plan w ≡ true → HasNothingInTransit w.now × ((p : ℕ) → commands_left plan w p ≡ [])
rested plan first w i r a = (quiet_seen_at_rest plan first w i r (idle plan first w i r a), λ p. done_seen plan first w p i r (idle plan first w i r a))

none_is : {V : Type 0} (o : Option V) → is_some o ≡ false → o ≡ None
none_is None e = refl
none_is (Some v) e = absurd (cc (e))

pub no_tentative : {V : Type 0} (r : Rules V) (plan : Planned) (first : ℕ) (w : Progress) (p : ℕ) → IsPlan plan → RunReaches plan first w → is_at_rest plan w ≡ true → (due r (done w.now.log) p).tentative ≡ None
no_tentative r plan first w p i s a = none_is (due r (done w.now.log) p).tentative
    (tentative_seen r plan first w p i s ∙ ap (λ (n : ℕ). not (n == 0) && not (w.now.states p).part.is_rollback) ((rested plan first w i s a).0.closed p))

-- the acts of the whole log
pub whole_seen : {V : Type 0} (r : Rules V) (plan : Planned) (first : ℕ) (w : Progress) (p : ℕ) → IsPlan plan → RunReaches plan first w →
    (can_all r (first_due r) (acts_along p done_start w.now.log) ≡ true) × (does_all r (first_due r) (acts_along p done_start w.now.log) ≡ due r (done w.now.log) p)
whole_seen r plan first w p i s = let l = log_of plan first w IsLegal i s (λ y. (lawful_after_run (length plan.names) y).legal) in (along_can r [] w.now.log p l, whole_log r w.now.log p l)

-- the log is the rows that the steps add
pub log_from : (plan : Planned) (first : ℕ) → IsPlan plan → (moves : List Move) (u w : Progress) → RunReaches plan first u → after_moves plan u moves ≡ Some w → w.now.log ≡ u.now.log ++ rows_along plan u moves
log_from plan first i [] u w r e = let s : u ≡ w = ap (λ (o : Option Progress). unwrap_or o u) e in ap (λ (v : Progress). v.now.log) (sym s) ∙ sym (append-nil u.now.log)
log_from plan first i (x ∷ xs) u w r e = at_if (λ (o : Option Progress). o ≡ Some w → w.now.log ≡ u.now.log ++ rows_along plan u (x ∷ xs)) (enabled plan u x.step) (after_moves plan (progress_after plan u x.step x.give) xs) None
    (λ b z. log_from plan first i xs (progress_after plan u x.step x.give) w (next_reached_seen plan first u x.step x.give i r b) z
    ∙ (ap (λ (l : List Event). l ++ rows_along plan (progress_after plan u x.step x.give) xs) (log_grows plan first u x.step x.give i r b)
    ∙ append_assoc u.now.log (rows_added plan u x.step x.give) (rows_along plan (progress_after plan u x.step x.give) xs)))
    (λ b z. absurd (cc (z))) e

pub log_along : (plan : Planned) (first : ℕ) (moves : List Move) (w : Progress) → IsPlan plan → after_moves plan (progress_at_start plan first) moves ≡ Some w → w.now.log ≡ rows_along plan (progress_at_start plan first) moves
log_along plan first moves w i e = log_from plan first i moves (progress_at_start plan first) w (start_reached_seen plan first) e ∙ ap (λ (v : _). v.log ++ rows_along plan (progress_at_start plan first) moves) (opening_is plan first).now
