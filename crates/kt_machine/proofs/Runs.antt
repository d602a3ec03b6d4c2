-- Every run.
use Rattle.std.proofs.Common.{◌≡◌, ℕ, true, List, [], ◌∷◌, ◌++◌, refl, arith, sym, ap, subst, ◌∙◌, inl}
use Rattle.kt_tables.specs.Calls.{Call, sent}
use Rattle.kt_protocol.proofs.Invariant.{Invariant}
use Rattle.kt_protocol.proofs.Lawful.{Law}
use Rattle.kt_protocol.proofs.LawfulSteps.{lawful_after_run}
use Rattle.kt_protocol.proofs.Walk.{invariant_after_run}
use Rattle.kt_protocol.specs.States.{State, ProtocolStep, opening}
use Rattle.kt_protocol.specs.Steps.{run}
use Rattle.kt_protocol.proofs.KeptLists.{KeptLists}
use Rattle.kt_protocol.proofs.LateWholeSteps.{invariant_of, agrees_after_run}
use Rattle.kt_protocol.specs.LateSteps.{late_step, late_run}
use Rattle.kt_protocol.specs.OnceClosed.{once_closed}
use Rattle.kt_machine.specs.Labelling.{Labelling, labelling_start, labelling}
use Rattle.kt_machine.specs.Seen.{Seen, seen_parcels, view, seen}
use Rattle.kt_machine.specs.Transition.{opening_seen, run_seen, transition}
use Rattle.kt_machine.proofs.Parcels.{names_nil, own_nil}
use Rattle.kt_machine.proofs.Named.{Tells, Sees}
use Rattle.kt_machine.proofs.Settling.{sees_then}
use Rattle.kt_machine.proofs.WholeSteps.{sees_step}

-- what is known of each state of a run
pub record Known (c : State) : Type 0 where
  pub invariant : Invariant (once_closed c)
  pub lists : KeptLists c
  pub lawful : Law true (once_closed c)

pub known_run : (n : ℕ) (steps : List ProtocolStep) → Known (late_run (opening n) steps)
known_run n steps = let x = agrees_after_run n steps in record { invariant = invariant_of (late_run (opening n) steps) (run (opening n) steps) x.same (invariant_after_run n steps); lists = x.kept; lawful = subst (Law true) (sym x.same) (lawful_after_run n steps) }

pub tells_opening : (n first : ℕ) → Tells (labelling_start first) (opening n)
tells_opening n first = record {
  numbers = record { zero_is = refl; ordered = λ m k a. absurd (omega (arith, a)); low = λ m a. absurd (omega (arith, a)) };
  rows = refl;
  named = record { first_of = λ p q. inl refl; last_of = λ p q. inl refl; kept_first_of = λ p q. inl refl; kept_last_of = λ p q. inl refl; latest_of = λ p q. inl refl; last_sent_of = λ p q. inl refl };
  flows = record { channel_names = λ p q. names_nil _ _ _ _ p q; held_own = λ p q. own_nil _ _ p; kept_own = λ p q. own_nil _ _ p };
  noting = record { noted_of = λ k p y a. absurd (cc (a)); noted_in = λ k p y a. absurd (cc (a)) };
  open_low = λ p. omega arith;
  joined_low = λ k p j. absurd (cc (j));
  asked_near = λ k p q a. absurd (cc (a));
  parent_near = λ k p to j. absurd (cc (j));
  tables = λ p. record { is_open = refl; first_is = λ q. refl; last_is = λ q. refl; kept_first_is = λ o q. refl; kept_last_is = λ o q. refl; latest_is = λ q. refl; last_sent_is = λ q. refl };
  speaks = λ p. record { sent_rise = λ q. tt; received_rise = λ q. tt; apart = λ front rest q l e. absurd (none front rest (sent q l) e) };
  hears = λ p q r. (0, refl, inl refl);
}
  where
    none : (front rest : List Call) (x : Call) → [] ≡ front ++ x ∷ rest → ⊥
    none [] rest x e = absurd (cc (e))
    none (y ∷ front) rest x e = absurd (cc (e))

pub sees_opening : (n first : ℕ) → Sees first (opening n) (opening_seen n first)
unfolding seen_parcels
sees_opening n first = record { labels = labelling_start first; known = refl; same = refl; tells = tells_opening n first }

sees_run : (first : ℕ) (c : State) (v : Seen) (steps : List ProtocolStep) → Sees first c v → ((xs : List ProtocolStep) → Known (late_run c xs)) → Sees first (late_run c steps) (run_seen v steps)
sees_run first c v [] s k = s
sees_run first c v (x ∷ xs) s k = sees_run first (late_step c x) (transition v x) xs
    (let y = k [] in sees_then first c (late_step c x) v (λ w. transition w x) s (λ t known d. sees_step first c t known d y.invariant y.lists y.lawful x)) (λ ys. k (x ∷ ys))

pub sees_runs : (n first : ℕ) (steps : List ProtocolStep) → Sees first (late_run (opening n) steps) (run_seen (opening_seen n first) steps)
sees_runs n first steps = sees_run first (opening n) (opening_seen n first) steps (sees_opening n first) (known_run n)

-- the labels of a log are those of its rows
pub labelling_is : (first : ℕ) (c : State) (v : Seen) (s : Sees first c v) → s.labels ≡ labelling first c.log
labelling_is first c v s = ap (λ r. r.labels) s.known

pub seen_is : (first : ℕ) (c : State) (v : Seen) → Sees first c v → seen first c ≡ v
seen_is first c v s = ap (λ (t : Labelling). view t c) (sym (labelling_is first c v s)) ∙ s.same

pub seen_after_run : (n first : ℕ) (steps : List ProtocolStep) → seen first (late_run (opening n) steps) ≡ run_seen (opening_seen n first) steps
seen_after_run n first steps = seen_is first (late_run (opening n) steps) (run_seen (opening_seen n first) steps) (sees_runs n first steps)

-- one step
run_push : (c : State) (steps : List ProtocolStep) (x : ProtocolStep) → late_run c (steps ++ x ∷ []) ≡ late_step (late_run c steps) x
run_push c [] x = refl
run_push c (s ∷ steps) x = run_push (late_step c s) steps x

seen_push : (v : Seen) (steps : List ProtocolStep) (x : ProtocolStep) → run_seen v (steps ++ x ∷ []) ≡ transition (run_seen v steps) x
seen_push v [] x = refl
seen_push v (s ∷ steps) x = seen_push (transition v s) steps x

pub seen_next : (n first : ℕ) (steps : List ProtocolStep) (x : ProtocolStep) → seen first (late_run (opening n) (steps ++ x ∷ [])) ≡ transition (seen first (late_run (opening n) steps)) x
seen_next n first steps x = seen_after_run n first (steps ++ x ∷ []) ∙ (seen_push (opening_seen n first) steps x ∙ ap (λ (v : Seen). transition v x) (sym (seen_after_run n first steps)))

pub seen_step : (n first : ℕ) (steps : List ProtocolStep) (x : ProtocolStep) → seen first (late_step (late_run (opening n) steps) x) ≡ transition (seen first (late_run (opening n) steps)) x
seen_step n first steps x = ap (seen first) (sym (run_push (opening n) steps x)) ∙ seen_next n first steps x

-- what holds of labels and calls in each state of a run
pub tells_runs : (n first : ℕ) (steps : List ProtocolStep) → Tells (labelling first (late_run (opening n) steps).log) (late_run (opening n) steps)
tells_runs n first steps = let x = sees_runs n first steps in subst (λ (t : Labelling). Tells t (late_run (opening n) steps)) (labelling_is first (late_run (opening n) steps) (run_seen (opening_seen n first) steps) x) x.tells
