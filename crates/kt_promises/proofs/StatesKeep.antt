-- What is so of processes, channels and lists in every run.
use Rattle.std.proofs.Common.{length, ◌≡◌, ℕ, ◌<◌, true, subst, Some}
use Rattle.kt_tables.specs.Calls.{Speaks}
use Rattle.kt_protocol.specs.States.{opening}
use Rattle.kt_protocol.specs.States as machine
use Rattle.kt_machine.specs.Seen.{no_part}
use Rattle.kt_machine.specs.Messages.{AreSentTo, AreMessagesBy}
use Rattle.kt_machine.specs.Transition.{transition}
use Rattle.kt_machine.specs.CallTests.{is_asked_in_checkpoint, is_asked_in_rollback}
use Rattle.kt_machine.proofs.Bounds.{processes_are}
use Rattle.kt_machine.proofs.RunFacts.{speaks, speaks_next, channel_sent, held_sent, near_save, near_roll, part_asks, part_answers, part_none}
use Rattle.kt_plan.specs.Limits.{Planned, IsPlan}
use Rattle.kt_promises.specs.Progress.{Progress}
use Rattle.kt_promises.specs.Runs.{RunReaches}
use Rattle.kt_promises.proofs.ReachedRuns.{seen_of}

module _ (plan : Planned) (first : ℕ) (w : Progress) (i : IsPlan plan) (r : RunReaches plan first w) where
  pub processes_seen : w.now.processes ≡ length plan.names
  processes_seen = seen_of plan first w (λ v. v.processes ≡ length plan.names) i r (λ s. processes_are (length plan.names) s)

  pub speaks_seen : (p : ℕ) → Speaks (w.now.states p).calls
  speaks_seen p = seen_of plan first w (λ v. Speaks (v.states p).calls) i r (λ s. speaks (length plan.names) first s p)

  pub speaks_next_seen : (x : machine.ProtocolStep) (p : ℕ) → Speaks ((transition w.now x).states p).calls
  speaks_next_seen x p = seen_of plan first w (λ v. Speaks ((transition v x).states p).calls) i r (λ s. speaks_next (length plan.names) first s x p)

  pub channel_seen : (p q : ℕ) → AreSentTo first w.now.log p q (w.now.channel p q)
  channel_seen p q = seen_of plan first w (λ v. AreSentTo first v.log p q (v.channel p q)) i r (λ s. channel_sent (length plan.names) first s p q)

  pub held_seen : (p q : ℕ) → AreMessagesBy first w.now.log p (w.now.held p q)
  held_seen p q = seen_of plan first w (λ v. AreMessagesBy first v.log p (v.held p q)) i r (λ s. held_sent (length plan.names) first s p q)

  pub would_ask_in_checkpoint_seen : (p q : ℕ) → (w.now.states p).inst ≡ 0 → is_asked_in_checkpoint (w.now.states p).calls q ≡ true → q < length plan.names
  would_ask_in_checkpoint_seen p q = seen_of plan first w (λ v. (v.states p).inst ≡ 0 → is_asked_in_checkpoint (v.states p).calls q ≡ true → q < length plan.names) i r (λ s o e. subst (λ (x : ℕ). q < x) (processes_are (length plan.names) s) (near_save (length plan.names) first s p q o e))

  pub would_ask_in_rollback_seen : (p q : ℕ) → (w.now.states p).inst ≡ 0 → is_asked_in_rollback (w.now.states p).calls q ≡ true → q < length plan.names
  would_ask_in_rollback_seen p q = seen_of plan first w (λ v. (v.states p).inst ≡ 0 → is_asked_in_rollback (v.states p).calls q ≡ true → q < length plan.names) i r (λ s o e. subst (λ (x : ℕ). q < x) (processes_are (length plan.names) s) (near_roll (length plan.names) first s p q o e))

  pub no_part_seen : (p : ℕ) → (w.now.states p).inst ≡ 0 → (w.now.states p).part ≡ no_part
  no_part_seen p = seen_of plan first w (λ v. (v.states p).inst ≡ 0 → (v.states p).part ≡ no_part) i r (λ s. part_none (length plan.names) first s p)

  pub asked_seen : (p q : ℕ) → (w.now.states p).part.asked q ≡ true → q < length plan.names
  asked_seen p q = seen_of plan first w (λ v. (v.states p).part.asked q ≡ true → q < length plan.names) i r (λ s e. subst (λ (x : ℕ). q < x) (processes_are (length plan.names) s) (part_asks (length plan.names) first s p q e))

  pub parent_seen : (p to : ℕ) → (w.now.states p).part.parent ≡ Some to → to < length plan.names
  parent_seen p to = seen_of plan first w (λ v. (v.states p).part.parent ≡ Some to → to < length plan.names) i r (λ s e. subst (λ (x : ℕ). to < x) (processes_are (length plan.names) s) (part_answers (length plan.names) first s p to e))
