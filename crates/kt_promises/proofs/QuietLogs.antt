-- Where a run is quiet by what code has, its log is.
use Rattle.std.proofs.Common.{length, ◌≡◌, ℕ, ◌<◌, Bool, true, false, refl, arith, sym, ap, ◌∙◌}
use Rattle.std.specs.Prelude.{◌==◌, ◌&&◌, ◌||◌, not, nat_lt}
use Rattle.std.proofs.lemmas.Bool.Decides.{nat_tests}
use Rattle.kt_meaning.specs.Past.{past}
use Rattle.kt_meaning.proofs.RowRules.{neither}
use Rattle.kt_protocol.specs.Deciding.{none_of}
use Rattle.kt_protocol.specs.States.{State, opening}
use Rattle.kt_protocol.proofs.StepFacts.{none_is}
use Rattle.kt_protocol.proofs.LawfulSteps.{lawful_after_run}
use Rattle.kt_protocol.specs.LateSteps.{late_run}
use Rattle.kt_protocol.proofs.LateWholeSteps.{same_log, agrees_after_run}
use Rattle.kt_machine.specs.Seen.{Seen}
use Rattle.kt_machine.specs.Transition.{is_seen_ready}
use Rattle.kt_plan.specs.Limits.{Planned, IsPlan}
use Rattle.kt_plan.specs.declared.steps.Step.TheVariants.{Take}
use Rattle.kt_promises.proofs.InstancesBegun.{run_facts}
use Rattle.kt_promises.proofs.AtRest.{state_rests}
use Rattle.kt_fifo.specs.Queues.{has_parcel}
use Rattle.kt_promises.specs.Progress.{Progress, is_quiet}
use Rattle.kt_promises.proofs.MachineProgress.{world_of}
use Rattle.kt_promises.specs.Steps.{can_take_from, enabled}
use Rattle.kt_promises.specs.Runs.{RunReaches}
use Rattle.kt_promises.specs.AtRest.{HasNothingInTransit}
use Rattle.kt_meaning.specs.Follows.{IsQuietPast}
use Rattle.kt_promises.proofs.ReachedRuns.{carry, seen_of}
use Rattle.kt_promises.proofs.SameSteps.{enabled_same}
use Rattle.kt_promises.proofs.DefaultSteps.{quiet_of_progress}
use Rattle.kt_promises.proofs.ArrivedMessages.{open_none, received_all}

-- nobody may take anything
quiet_can : (n : ℕ) (v : Seen) (p q : ℕ) → is_quiet n v ≡ true → p < n → q < n → can_take_from v p q ≡ false
quiet_can n v p q e a b = none (not (is_seen_ready v p)) (neither (has_parcel (v.channel q p)) (has_parcel (v.held q p)) (none_is n (λ u. has_parcel (v.channel u p) || has_parcel (v.held u p)) all q b))
  where
    all : none_of n (λ u. has_parcel (v.channel u p) || has_parcel (v.held u p)) ≡ true
    all = yes (none_of n (λ u. has_parcel (v.channel u p) || has_parcel (v.held u p))) (neither (not ((v.states p).inst == 0)) (not (none_of n (λ u. has_parcel (v.channel u p) || has_parcel (v.held u p))))
        (none_is n (λ u. not ((v.states u).inst == 0) || not (none_of n (λ x. has_parcel (v.channel x u) || has_parcel (v.held x u)))) e p a)).1
      where
        yes : (b : Bool) → not b ≡ false → b ≡ true
        yes true e = refl
        yes false e = absurd (cc (e))

    none : (r : Bool) → (has_parcel (v.channel q p) ≡ false) × (has_parcel (v.held q p) ≡ false) → (has_parcel (v.channel q p) || r && has_parcel (v.held q p)) ≡ false
    none true h = let x = h.0 in let y = h.1 in rw (x, y) refl
    none false h = let x = h.0 in rw x refl

pub quiet_takes : (plan : Planned) (w : Progress) (p q : ℕ) → is_quiet (length plan.names) w.now ≡ true → enabled plan w (Take p q) ≡ false
quiet_takes plan w p q e = go (nat_lt p (length plan.names)) (nat_lt q (length plan.names)) refl refl
  where
    low : (a b : ℕ) → nat_lt a b ≡ true → a < b
    low a b h = grind (arith, nat_tests, h)

    go : (a b : Bool) → nat_lt p (length plan.names) ≡ a → nat_lt q (length plan.names) ≡ b → ((a && b) && can_take_from w.now p q) ≡ false
    go true true f g = quiet_can (length plan.names) w.now p q e (low p (length plan.names) f) (low q (length plan.names) g)
    go true false f g = refl
    go false b f g = refl

module _ (plan : Planned) (first : ℕ) (w : Progress) (i : IsPlan plan) (r : RunReaches plan first w) where
  nothing : is_quiet (length plan.names) w.now ≡ true → HasNothingInTransit w.now
  nothing = carry plan first w (λ v. is_quiet (length plan.names) v.now ≡ true → HasNothingInTransit v.now) i r
      (λ g s e. let k = run_facts plan g s in quiet_of_progress plan first g k (state_rests plan g k (λ p q. sym (enabled_same plan first g (Take p q)) ∙ quiet_takes plan (world_of first g) p q e)))

  -- how many instances have begun
  counted : w.now.begun ≡ length (past w.now.log).begun
  counted = seen_of plan first w (λ v. v.begun ≡ length (past v.log).begun) i r (λ s. late s)
    where
      late : (s : _) → (late_run (opening (length plan.names)) s).instances ≡ length (past (late_run (opening (length plan.names)) s).log).begun
      late s = ap (λ (x : State). x.instances) (agrees_after_run (length plan.names) s).same ∙ ((lawful_after_run (length plan.names) s).count ∙ ap (λ (l : _). length (past l).begun) (sym (same_log (length plan.names) s)))

  pub nothing_quiet : HasNothingInTransit w.now → IsQuietPast (past w.now.log)
  nothing_quiet h = record {
    decided = λ k pos low. h.decided k pos (let c = counted in omega (arith, low, c));
    closed = λ p. open_none plan first w p i r (h.closed p);
    arrived = received_all plan first w i r h;
  }

  pub quiet_past : is_quiet (length plan.names) w.now ≡ true → IsQuietPast (past w.now.log)
  quiet_past e = nothing_quiet (nothing e)
