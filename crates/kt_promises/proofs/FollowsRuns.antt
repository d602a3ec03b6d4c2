-- The log of each run follows its plan: by induction over its steps.
use Rattle.std.proofs.Common.{◌≡◌, ◌≢◌, ℕ, zero, suc, ◌+◌, ◌<◌, ◌≤◌, true, List, [], ◌∷◌, ◌++◌, length, drop, append_assoc, refl, arith, sym, ap, subst, ◌∙◌, Some, inl, inr}
use Rattle.std.specs.Prelude.{not, Option, slice_get}
use Rattle.std.proofs.lemmas.Bool.{cases_lt}
use Rattle.std.proofs.Math.Nat.{eq-or-lt_of_le}
use Rattle.kt_spacetime.specs.declared.event.Event.{Event}
use Rattle.kt_meaning.specs.Past.{at_one}
use Rattle.kt_machine.specs.Seen.{Seen}
use Rattle.kt_plan.specs.Limits.{Planned, IsPlan}
use Rattle.kt_plan.specs.declared.commands.Command.{Command}
use Rattle.kt_plan.specs.declared.steps.Step.{Step}
use Rattle.kt_plan.specs.declared.steps.Step.TheVariants.{Do, Take}
use Rattle.kt_plan.specs.declared.steps.Give.{Give}
use Rattle.kt_meaning.specs.Follows.{commands_of, command_rows, phase_at, FollowsPlan, BeginsPlan}
use Rattle.kt_promises.specs.Progress.{Progress, commands_left, next_command, is_quiet, progress_at_start}
use Rattle.kt_promises.specs.Steps.{enabled, progress_after, is_at_rest}
use Rattle.kt_promises.specs.Runs.{RunReaches}
use Rattle.kt_promises.specs.AtRest.{HasNothingInTransit}
use Rattle.kt_promises.specs.StepActs.{rows_added}
use Rattle.kt_promises.specs.Rows.{refusal_cause, list_taken, AreRowsOfDo}
use Rattle.kt_promises.proofs.CommandRows.{phase_stays, answer_all}
use Rattle.kt_promises.proofs.StepAnswers.{Answered, answered, take_none}
use Rattle.kt_promises.proofs.FollowsAlong.{ComesAlong, along_start, along_later, along_idle, along_command, here}
use Rattle.kt_promises.proofs.QuietLogs.{quiet_takes, nothing_quiet, quiet_past}
use Rattle.kt_promises.proofs.ActsOfSteps.{log_grows}
use Rattle.kt_promises.proofs.RowsFit.{fits}
use Rattle.kt_promises.proofs.OpenPhase.{in_phase_seen, quiet_seen}
use Rattle.kt_promises.proofs.PhasesOpen.{opening_is, takes_is, does_is}
use Rattle.kt_promises.proofs.RunSteps.{seen_keeps}
use Rattle.kt_promises.proofs.WholeLogs.{rested}
use Rattle.kt_promises.proofs.ReachedRuns.{carry}
use Rattle.kt_promises.proofs.InstancesBegun.{run_facts}
use Rattle.kt_promises.proofs.PhaseOrder.{Ordered, none_of_if}

-- commands that are left
pub first_left : (n : ℕ) (l : List Command) → slice_get (drop n l) 0 ≡ slice_get l n
first_left zero [] = refl
first_left zero (c ∷ cs) = refl
first_left (suc n) [] = refl
first_left (suc n) (c ∷ cs) = first_left n cs

left_low : (n p low k i : ℕ) (l : List Command) (d : Command) → Ordered n p low (drop k l) → slice_get l i ≡ Some d → k ≤ i → low ≤ d.phase
left_low n p low zero zero [] d o e h = absurd (cc (e))
left_low n p low zero (suc i) [] d o e h = absurd (cc (e))
left_low n p low zero zero (c ∷ cs) d o e h = let s : c ≡ d = cc (e) in subst (λ (x : Command). low ≤ x.phase) s o.2
left_low n p low zero (suc i) (c ∷ cs) d o e h = let x = o.2 in let y = left_low n p c.phase zero i cs d o.3 e (omega arith) in omega (arith, x, y)
left_low n p low (suc k) i [] d o e h = absurd (cc (e))
left_low n p low (suc k) zero (c ∷ cs) d o e h = absurd (omega (arith, h))
left_low n p low (suc k) (suc i) (c ∷ cs) d o e h = left_low n p low k i cs d o e (omega (arith, h))

all_done : (n : ℕ) (l : List Command) → drop n l ≡ [] → length l ≤ n
all_done zero l e = let x = ap length e in omega (arith, x)
all_done (suc n) [] e = omega arith
all_done (suc n) (c ∷ cs) e = let x = all_done n cs e in omega (arith, x)

-- how far a run has come; and all is quiet as long as the open phase has no row
pub record Follows (plan : Planned) (w : Progress) : Type 0 where
  pub along : ComesAlong plan w.now.log w.done w.phase
  pub quiet : ((n : ℕ) → phase_at plan w.now.log n ≢ Some w.phase) → is_quiet (length plan.names) w.now ≡ true

moved : (plan : Planned) (l m : List Event) (d e : ℕ → ℕ) (k : ℕ) → m ≡ l → e ≡ d → ComesAlong plan l d k → ComesAlong plan m e k
moved plan l m d e k f g a = subst (λ (x : List Event). ComesAlong plan x e k) (sym f) (subst (λ (x : ℕ → ℕ). ComesAlong plan l x k) (sym g) a)

module _ (plan : Planned) (first : ℕ) (i : IsPlan plan) where
  starts : Follows plan (progress_at_start plan first)
  starts = record {
    along = moved plan [] (progress_at_start plan first).now.log (λ p. 0) (progress_at_start plan first).done (progress_at_start plan first).phase (ap (λ (v : Seen). v.log) (opening_is plan first).now) (opening_is plan first).done (along_start plan (progress_at_start plan first).phase);
    quiet = λ f. ap (is_quiet (length plan.names)) (opening_is plan first).now ∙ none_of_if (length plan.names) _ (λ p l. ap not (none_of_if (length plan.names) _ (λ q h. refl)));
  }

  module _ (w : Progress) (give : Give) (r : RunReaches plan first w) (f : Follows plan w) where
    -- a step leaves the open phase, or all is quiet
    opened : (x : Step) → enabled plan w x ≡ true → ((progress_after plan w x give).phase ≡ w.phase → ((n : ℕ) → phase_at plan (progress_after plan w x give).now.log n ≢ Some w.phase) → is_quiet (length plan.names) (progress_after plan w x give).now ≡ true) →
        ((n : ℕ) → phase_at plan (progress_after plan w x give).now.log n ≢ Some (progress_after plan w x give).phase) → is_quiet (length plan.names) (progress_after plan w x give).now ≡ true
    opened x e same none = let q = quiet_seen plan first w x give i r e in elim (eq-or-lt_of_le q.0) [
      | inl s ↦ same (sym s) (subst (λ (k : ℕ). (n : ℕ) → phase_at plan (progress_after plan w x give).now.log n ≢ Some k) (sym s) none)
      | inr l ↦ q.1 l
    ]

    takes : (p q : ℕ) → enabled plan w (Take p q) ≡ true → Follows plan (progress_after plan w (Take p q) give)
    takes p q e = record {
      along = along_later plan (progress_after plan w (Take p q) give).now.log (progress_after plan w (Take p q) give).done w.phase (progress_after plan w (Take p q) give).phase (quiet_seen plan first w (Take p q) give i r e).0
          (moved plan (w.now.log ++ rows) (progress_after plan w (Take p q) give).now.log w.done (progress_after plan w (Take p q) give).done w.phase grows (takes_is plan w p q give).done
          (along_idle plan w.now.log rows w.done w.phase f.along (take_none w.now (progress_after plan w (Take p q) give).now p q (list_taken w.now p q) rows (fits plan first w (Take p q) give i r e).fit)));
      quiet = opened (Take p q) e (λ s none. let z = quiet_takes plan w p q (f.quiet (λ n h. none n (ap (λ (l : List Event). phase_at plan l n) grows ∙ phase_stays plan w.now.log rows n w.phase h))) in absurd (cc (e, z)));
    }
      where
        rows : List Event
        rows = rows_added plan w (Take p q) give

        grows : (progress_after plan w (Take p q) give).now.log ≡ w.now.log ++ rows
        grows = log_grows plan first w (Take p q) give i r e

    -- no command of an earlier phase is left
    none_earlier : (j u : ℕ) (d : Command) → slice_get (commands_of u plan.commands) j ≡ Some d → d.phase < w.phase → j < w.done u
    none_earlier j u d e l = elim (cases_lt j (w.done u)) [
      | inl h ↦ h
      | inr h ↦ (let x = left_low (length plan.names) u w.phase (w.done u) j (commands_of u plan.commands) d ahead e h in absurd (omega (arith, l, x)))
    ]
      where
        ahead : Ordered (length plan.names) u w.phase (drop (w.done u) (commands_of u plan.commands))
        ahead = carry plan first w (λ v. Ordered (length plan.names) u v.phase (drop (v.done u) (commands_of u plan.commands))) i r (λ g s. (run_facts plan g s).ahead u)

    does : (p : ℕ) → enabled plan w (Do p) ≡ true → Follows plan (progress_after plan w (Do p) give)
    does p e = record {
      along = along_later plan (progress_after plan w (Do p) give).now.log (progress_after plan w (Do p) give).done w.phase (progress_after plan w (Do p) give).phase (quiet_seen plan first w (Do p) give i r e).0
          (moved plan ((w.now.log ++ a.row ∷ []) ++ a.more) (progress_after plan w (Do p) give).now.log (at_one p (w.done p + 1) w.done) (progress_after plan w (Do p) give).done w.phase grows (does_is plan w p give c.0 c.1).done
          (along_idle plan (w.now.log ++ a.row ∷ []) a.more (at_one p (w.done p + 1) w.done) w.phase
          (along_command plan w.now.log a.row w.done w.phase p c.0 f.along a.kind a.by a.answers c.2 next none_earlier (λ n. quiet_past plan first w i r (f.quiet n))) a.rest));
      quiet = opened (Do p) e (λ s none. absurd (none (length w.now.log) (ap (λ (l : List Event). phase_at plan l (length w.now.log)) grows ∙ phase_stays plan (w.now.log ++ a.row ∷ []) a.more (length w.now.log) w.phase
          (here plan w.now.log a.row w.done w.phase p c.0 f.along a.kind a.by a.answers c.2 next none_earlier (λ n. quiet_past plan first w i r (f.quiet n))))));
    }
      where
        c : (c : Command) × (next_command plan w p ≡ Some c) × (c.phase ≡ w.phase)
        c = in_phase_seen plan first w p i r e

        next : slice_get (commands_of p plan.commands) (w.done p) ≡ Some c.0
        next = sym (first_left (w.done p) (commands_of p plan.commands)) ∙ c.1

        rows : List Event
        rows = rows_added plan w (Do p) give

        a : Answered p c.0.job rows
        a = answered (w.now.begun + 1) p c.0.job give.body (refusal_cause (w.now.states p) give.able c.0.job) rows
            (subst (λ (o : Option Command). AreRowsOfDo w.now p give o rows) c.1 (fits plan first w (Do p) give i r e).fit)

        grows : (progress_after plan w (Do p) give).now.log ≡ (w.now.log ++ a.row ∷ []) ++ a.more
        grows = log_grows plan first w (Do p) give i r e ∙ (ap (λ (l : List Event). w.now.log ++ l) a.are ∙ sym (append_assoc w.now.log (a.row ∷ []) a.more))

    next_follows : (x : Step) → enabled plan w x ≡ true → Follows plan (progress_after plan w x give)
    next_follows (Do p) e = does p e
    next_follows (Take p q) e = takes p q e

  pub run_follows : (w : Progress) → RunReaches plan first w → Follows plan w
  run_follows = seen_keeps plan first (Follows plan) i starts (λ w x give r e f. next_follows w give r f x e)

pub begins_seen : (plan : Planned) (first : ℕ) (w : Progress) → IsPlan plan → RunReaches plan first w → BeginsPlan plan w.now.log
begins_seen plan first w i r = let f = run_follows plan first i w r in record { commands = f.along.commands; phases = f.along.phases }

pub follows_seen : (plan : Planned) (first : ℕ) (w : Progress) → IsPlan plan → RunReaches plan first w → is_at_rest plan w ≡ true → FollowsPlan plan w.now.log
follows_seen plan first w i r e = record {
  commands = λ p. answer_all (commands_of p plan.commands) (command_rows p w.now.log) (a.commands p) (let x = all_done (w.done p) (commands_of p plan.commands) (rests.1 p) in let y = a.counts p in omega (arith, x, y));
  phases = a.phases;
  quiet_end = nothing_quiet plan first w i r rests.0;
}
  where
    a : ComesAlong plan w.now.log w.done w.phase
    a = (run_follows plan first i w r).along

    rests : HasNothingInTransit w.now × ((p : ℕ) → commands_left plan w p ≡ [])
    rests = rested plan first w i r e
