-- What is held or kept is messages to who holds or keeps them.
use Rattle.std.proofs.Common.{length, ◌≡◌, ℕ, ℤ, suc, Bool, List, [], ◌∷◌, arith, sym, ap, ◌∙◌, Some}
use Rattle.kt_spacetime.specs.declared.event.Event.{Event}
use Rattle.kt_spacetime.specs.declared.event.Event.TheVariants.{Sent}
use Rattle.kt_meaning.specs.Messages.{row_at}
use Rattle.kt_protocol.specs.Parcels.{Parcel, App, Ask, Reply, Decide}
use Rattle.kt_protocol.specs.States.{opening}
use Rattle.kt_protocol.specs.LateSteps.{late_run}
use Rattle.kt_machine.specs.Labelling.{labelling}
use Rattle.kt_machine.specs.Seen.{seen_parcels}
use Rattle.kt_machine.specs.Messages.{label_by_rows, AreMessagesBy}
use Rattle.kt_machine.proofs.LogFacts.{labels_of_rows}
use Rattle.kt_machine.proofs.RunFacts.{held_sent, kept_sent}
use Rattle.kt_machine.proofs.RunActs.{invariant_late}
use Rattle.kt_machine.proofs.ListedMessages.{IsRow, AllRows, carried_of}
use Rattle.kt_plan.specs.Limits.{Planned, IsPlan}
use Rattle.kt_promises.specs.Progress.{Progress}
use Rattle.kt_promises.specs.Runs.{RunReaches}
use Rattle.kt_promises.specs.Messages.{AreMessagesTo}
use Rattle.kt_promises.proofs.ReachedRuns.{seen_of}

one_to : (first : ℕ) (log : List Event) (u v m : ℕ) → IsRow log m u v → (row_at log m ≡ Some (Sent u v ((labelling first log).body m))) × ((labelling first log).label m ≡ label_by_rows first log u m)
one_to first log u v m r =
    let n : m ≡ suc r.row = let x = r.number in omega (arith, x) in
    let e : row_at log m ≡ Some (Sent u v r.body) = ap (row_at log) n ∙ r.sent in
    let f = labels_of_rows first log m u v r.body e in
    (e ∙ ap (λ (b : ℤ). Some (Sent u v b)) (sym f.2), f.1)

list_to : (first : ℕ) (log : List Event) (roll : ℕ → Bool) (u v : ℕ) (l : List Parcel) → AllRows log u v l → AreMessagesBy first log u (seen_parcels (labelling first log).label (labelling first log).body roll l) → AreMessagesTo first log u v (seen_parcels (labelling first log).label (labelling first log).body roll l)
unfolding AllRows seen_parcels
list_to first log roll u v [] a b = tt
list_to first log roll u v (App m ∷ l) a b = (one_to first log u v m a.0, list_to first log roll u v l a.1 b.1)
list_to first log roll u v (Ask k n ∷ l) a b = absurd (b.0)
list_to first log roll u v (Reply k w ∷ l) a b = absurd (b.0)
list_to first log roll u v (Decide k c ∷ l) a b = absurd (b.0)

module _ (plan : Planned) (first : ℕ) (w : Progress) (i : IsPlan plan) (r : RunReaches plan first w) where
  pub held_to_holder : (p q : ℕ) → AreMessagesTo first w.now.log q p (w.now.held q p)
  held_to_holder p q = seen_of plan first w (λ v. AreMessagesTo first v.log q p (v.held q p)) i r
      (λ s. let c = late_run (opening (length plan.names)) s in list_to first c.log c.so_far.is_rollback q p (c.held q p) ((carried_of (length plan.names) s (invariant_late (length plan.names))).held q p) (held_sent (length plan.names) first s q p))

  pub kept_by_receiver : (p q : ℕ) → AreMessagesTo first w.now.log q p (w.now.kept q p)
  kept_by_receiver p q = seen_of plan first w (λ v. AreMessagesTo first v.log q p (v.kept q p)) i r
      (λ s. let c = late_run (opening (length plan.names)) s in list_to first c.log c.so_far.is_rollback q p (c.kept q p) ((carried_of (length plan.names) s (invariant_late (length plan.names))).kept q p) (kept_sent (length plan.names) first s q p))
