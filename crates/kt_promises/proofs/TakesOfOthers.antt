-- In a run no process takes of itself.
use Rattle.std.proofs.Common.{◌≡◌, ◌≢◌, ◌<◌, ◌+◌, ◌∙◌, ℕ, Bool, true, false, not, List, [], ◌∷◌, length, arith, refl, sym, subst}
use Rattle.std.specs.Prelude.{◌&&◌, ◌||◌, nat_lt}
use Rattle.kt_protocol.proofs.Answering.{reply_facts}
use Rattle.kt_protocol.proofs.Invariant.{Invariant, is_message}
use Rattle.kt_protocol.proofs.Ordered.{any_other, weigh_front}
use Rattle.kt_protocol.proofs.Replying.{ask_facts}
use Rattle.kt_protocol.proofs.Updates.{is_same}
use Rattle.kt_protocol.proofs.Waiting.{is_told}
use Rattle.kt_protocol.proofs.Weights.{weigh, weigh_cons}
use Rattle.kt_protocol.proofs.WholeSteps.{AfterStep, in_transit_facts}
use Rattle.kt_protocol.specs.Parcels.{App, Ask, Decide, Parcel, Reply, has_parcel}
use Rattle.kt_protocol.specs.States.{State, can_take, is_ready}
use Rattle.kt_protocol.specs.OnceClosed.{once_closed}
use Rattle.kt_plan.specs.Limits.{Planned, IsPlan}
use Rattle.kt_plan.specs.declared.steps.Step.TheVariants.{Take}
use Rattle.kt_promises.specs.Progress.{Progress}
use Rattle.kt_promises.specs.Runs.{RunReaches}
use Rattle.kt_promises.specs.Steps.{can_take_from, enabled}
use Rattle.kt_promises.proofs.InstancesBegun.{run_facts}
use Rattle.kt_promises.proofs.ReachedRuns.{carry}
use Rattle.kt_promises.proofs.SameSteps.{can_same}
use Rattle.kt_promises.proofs.StateFacts.{can_take_same, state_facts}

-- no parcel stands between a process and itself
module _ (s : State) (g : Invariant s) (h : AfterStep s) where
  not_asked : (k p : ℕ) → s.asked k p p ≡ true → ⊥
  not_asked k p a = (h.always.counted.asked_low k p p a).3 refl

  not_sent : (p m : ℕ) → 0 < weigh (is_message m) (s.channel p p) + weigh (is_message m) (s.held p p) → ⊥
  not_sent p m w = let x = in_transit_facts s g p p m w in h.always.counted.no_self m x.0.0 (x.1 ∙ sym x.2)

  none_in_channel : (p : ℕ) (l : List Parcel) → s.channel p p ≡ l → has_parcel l ≡ false
  none_in_channel p [] e = refl
  none_in_channel p (App m ∷ rest) e = absurd (let w = weigh_front s.channel p p m rest e in not_sent p m (omega (arith, w)))
  none_in_channel p (Ask k l ∷ rest) e = absurd (not_asked k p (h.always.asked.asked_awaits k p p (ask_facts s p p k l rest e g).0))
  none_in_channel p (Reply k w ∷ rest) e = absurd (not_asked k p (h.always.asked.asked_awaits k p p (reply_facts s p p k w rest e g).0))
  none_in_channel p (Decide k c ∷ rest) e = absurd (not_asked k p (h.always.tells.told_is k p p (front (s.channel p p) e)).0)
    where
      front : (l : List Parcel) → l ≡ Decide k c ∷ rest → 0 < weigh (is_told k) l
      front l e = rw e (let w = weigh_cons (is_told k) (Decide k c) rest in rw w (rw (is_same k) (omega arith)))

  none_held : (p : ℕ) (l : List Parcel) → s.held p p ≡ l → has_parcel l ≡ false
  none_held p [] e = refl
  none_held p (App m ∷ rest) e = absurd (let w = weigh_front s.held p p m rest e in not_sent p m (omega (arith, w)))
  none_held p (Ask k l ∷ rest) e = absurd (let w = weigh_cons any_other (Ask k l) rest in let z : weigh any_other (Ask k l ∷ rest) ≡ 0 = rw e at (h.always.tells.held_apps p p) in omega (arith, w, z))
  none_held p (Reply k l ∷ rest) e = absurd (let w = weigh_cons any_other (Reply k l) rest in let z : weigh any_other (Reply k l ∷ rest) ≡ 0 = rw e at (h.always.tells.held_apps p p) in omega (arith, w, z))
  none_held p (Decide k l ∷ rest) e = absurd (let w = weigh_cons any_other (Decide k l) rest in let z : weigh any_other (Decide k l ∷ rest) ≡ 0 = rw e at (h.always.tells.held_apps p p) in omega (arith, w, z))

  takes_none : (p : ℕ) → can_take s p p ≡ false
  takes_none p = neither (has_parcel (s.channel p p)) (not (is_ready s p)) (has_parcel (s.held p p)) (none_in_channel p (s.channel p p) refl) (none_held p (s.held p p) refl)
    where
      neither : (a b c : Bool) → a ≡ false → c ≡ false → (a || b && c) ≡ false
      neither a true c e f = rw (e, f) refl
      neither a false c e f = rw e refl

-- so none is taken
none_of_itself : (plan : Planned) (first : ℕ) (w : Progress) → IsPlan plan → RunReaches plan first w → (p : ℕ) → can_take_from w.now p p ≡ false
none_of_itself plan first w i r p = carry plan first w (λ v. can_take_from v.now p p ≡ false) i r
    (λ g b. let f = state_facts plan g (run_facts plan g b) in
    can_same first g.state p p ∙ (sym (can_take_same g.state p p) ∙ takes_none (once_closed g.state) f.invariant f.after_step p))

last : (a b : Bool) → (a && b) ≡ true → b ≡ true
last true b e = e
last false b e = absurd (cc (e))

-- where a process takes, it takes of another one
pub of_another : (plan : Planned) (first : ℕ) (w : Progress) (p q : ℕ) → IsPlan plan → RunReaches plan first w → enabled plan w (Take p q) ≡ true → p ≢ q
of_another plan first w p q i r on same =
    let taken : can_take_from w.now p p ≡ true = subst (λ (n : ℕ). can_take_from w.now p n ≡ true) (sym same) (last (nat_lt p (length plan.names) && nat_lt q (length plan.names)) (can_take_from w.now p q) on) in
    let none = none_of_itself plan first w i r p in cc (taken, none)
