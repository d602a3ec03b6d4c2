-- What holds in every run between a state, the labels of its log and the calls on tables that the log tells of.
use Rattle.std.proofs.Common.{Some, None, ◌≡◌, ℕ, ◌≤◌, ◌<◌, Bool, true, false, length, ◌⊎◌}
use Rattle.std.specs.Prelude.{◌==◌, if◌then◌else◌}
use Rattle.kt_tables.specs.Calls.{parts, Speaks}
use Rattle.kt_protocol.specs.Parcels.{Lists}
use Rattle.kt_protocol.specs.States.{State}
use Rattle.kt_protocol.specs.KeptInOrder.{is_in_checkpoint}
use Rattle.kt_protocol.specs.OnceClosed.{has_to_restore}
use Rattle.kt_machine.specs.Labelling.{Labelling, labelled_log}
use Rattle.kt_machine.specs.Seen.{Seen, view}
use Rattle.kt_machine.proofs.LabelNumbers.{Numbers, Of}
use Rattle.kt_machine.proofs.Parcels.{NamesMessages, AreMessagesOf}
use Rattle.kt_machine.proofs.Tables.{Table, heard}
use Rattle.kt_machine.proofs.SameSeen.{read}

-- whose messages the tables of a state name
pub record Named (label from : ℕ → ℕ) (first last kept_first kept_last latest last_sent : ℕ → ℕ → ℕ) : Type 0 where
  pub first_of : (p q : ℕ) → Of label from p (first p q)
  pub last_of : (p q : ℕ) → Of label from q (last p q)
  pub kept_first_of : (p q : ℕ) → Of label from p (kept_first p q)
  pub kept_last_of : (p q : ℕ) → Of label from q (kept_last p q)
  pub latest_of : (p q : ℕ) → Of label from p (latest p q)
  pub last_sent_of : (p q : ℕ) → Of label from p (last_sent p q)

pub record Flows (label from : ℕ → ℕ) (roll : ℕ → Bool) (instances : ℕ) (channel held kept : Lists) : Type 0 where
  pub channel_names : (p q : ℕ) → NamesMessages label from roll instances p q (channel p q)
  pub held_own : (p q : ℕ) → AreMessagesOf label from p (held p q)
  pub kept_own : (p q : ℕ) → AreMessagesOf label from p (kept p q)

pub record Noting (label from : ℕ → ℕ) (roll : ℕ → Bool) (joined : ℕ → ℕ → Bool) (noted : ℕ → ℕ → ℕ → Bool) (noted_label : ℕ → ℕ → ℕ → ℕ) : Type 0 where
  pub noted_of : (k p y : ℕ) → noted k p y ≡ true → roll k ≡ true → Of label from y (noted_label k p y)
  pub noted_in : (k p y : ℕ) → noted k p y ≡ true → joined k p ≡ true

-- the greatest label received is that of a message received and not undone
abbrev pub Heard : (ℕ → ℕ) → (ℕ → Bool) → (ℕ → ℕ) → (ℕ → ℕ) → ℕ → ℕ → ℕ → Type 0
Heard label got from to p q l = (n : ℕ) × (l ≡ label n) × ((n ≡ 0) ⊎ ((got n ≡ true) × (from n ≡ q) × (to n ≡ p) × (0 < label n)))

pub record Tells (t : Labelling) (c : State) : Type 0 where
  pub numbers : Numbers t.label t.used c.so_far.from c.so_far.rows
  pub rows : c.so_far.rows ≡ length c.log
  pub named : Named t.label c.so_far.from c.first_sent c.last_received c.first_sent_aside c.last_received_aside c.latest_sent c.last_sent
  pub flows : Flows t.label c.so_far.from c.so_far.is_rollback c.instances c.channel c.held c.kept
  pub noting : Noting t.label c.so_far.from c.so_far.is_rollback c.so_far.joined c.noted c.noted_label
  pub open_low : (p : ℕ) → c.so_far.open_in p ≤ c.instances
  pub joined_low : (k p : ℕ) → c.so_far.joined k p ≡ true → k ≤ c.instances
  pub asked_near : (k p q : ℕ) → c.asked k p q ≡ true → q < c.processes
  pub parent_near : (k p to : ℕ) → c.so_far.joined k p ≡ true → (if p == c.initiator k then None else Some (c.parent k p)) ≡ Some to → to < c.processes
  pub tables : (p : ℕ) → Table (t.calls p) (parts (t.calls p)) (is_in_checkpoint c.so_far p) (λ q. t.label (c.first_sent p q)) (λ q. t.label (c.last_received p q)) (λ q. t.label (c.first_sent_aside p q)) (λ q. t.label (c.last_received_aside p q)) (λ q. t.label (c.latest_sent p q)) (λ q. t.label (c.last_sent p q))
  pub speaks : (p : ℕ) → Speaks (t.calls p)
  pub hears : (p q : ℕ) → has_to_restore c.so_far p ≡ false → Heard t.label c.so_far.is_received c.so_far.from c.so_far.to p q (heard (t.calls p) q)

-- what is seen of the state, by the labels of its log, is v
pub record Sees (first : ℕ) (c : State) (v : Seen) : Type 0 where
  pub labels : Labelling
  pub known : read c.so_far labels ≡ labelled_log first c.log
  pub same : view labels c ≡ v
  pub tells : Tells labels c
