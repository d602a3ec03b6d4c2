-- The whole invariant is kept by each transition.
use Rattle.kt_base.specs.declared.words.Cause.{Cause}
use Rattle.kt_base.specs.declared.words.Verb.{Verb}
use Rattle.std.proofs.Common.{◌≡◌, ℕ, ◌≤◌, Bool, true, false, List, [], ◌∷◌, ◌++◌, ◌<◌, ◌⊎◌}
use Rattle.std.specs.Prelude.{ℤ}
use Rattle.kt_spacetime.specs.declared.event.Event.TheVariants.{Decided, Failed, Refused}
use Rattle.kt_protocol.proofs.Invariant.{Invariant, is_message, with_row}
use Rattle.kt_protocol.proofs.Weights.{weigh}
use Rattle.kt_protocol.specs.Parcels.{App, Decide, Parcel, Lists, Ask, Reply}
use Rattle.kt_protocol.specs.States.{State, is_ready, opening}
use Rattle.kt_protocol.specs.Messages.{after_refusal, after_failing, after_holding, after_sending, after_dropping, after_receiving}
use Rattle.kt_protocol.specs.Deciding.{after_decision, after_closing_rollback, after_closing_checkpoint, after_deciding_as}
use Rattle.kt_protocol.specs.Joining.{after_began, after_joining_checkpoint, after_joining_rollback}
use Rattle.kt_protocol.specs.Summary.{summary_after}
use Rattle.kt_protocol.specs.Replies.{after_unwilling, after_replying, after_answering, after_reply, after_noting}
use Rattle.kt_protocol.proofs.RowFacts.{checkpoint_cut_of, HoldsBefore}
use Rattle.kt_protocol.proofs.Histories.{histories_opening, histories_sending, histories_receiving, histories_dropping, histories_holding, histories_row, histories_began, histories_joining_checkpoint, histories_joining_rollback, histories_noting, histories_replying, histories_unwilling, histories_reply, histories_answering, histories_aborting, histories_committing_checkpoint, histories_committing_rollback, histories_closing_checkpoint, histories_closing_rollback, histories_decision}
use Rattle.kt_protocol.proofs.Messages.{messages_opening, messages_sending, messages_receiving, messages_dropping, messages_holding, messages_row, messages_began, messages_joining_checkpoint, messages_joining_rollback, messages_noting, messages_replying, messages_unwilling, messages_reply, messages_answering, messages_aborting, messages_committing_checkpoint, messages_committing_rollback, messages_closing_checkpoint, messages_closing_rollback, messages_decision}
use Rattle.kt_protocol.proofs.Positions.{positions_opening, positions_sending, positions_receiving, positions_dropping, positions_holding, positions_row, positions_began, positions_joining_checkpoint, positions_joining_rollback, positions_noting, positions_replying, positions_unwilling, positions_reply, positions_answering, positions_aborting, positions_committing_checkpoint, positions_committing_rollback, positions_closing_checkpoint, positions_closing_rollback, positions_decision}
use Rattle.kt_protocol.proofs.Tables.{tables_opening, tables_sending, tables_receiving, tables_dropping, tables_holding, tables_row, tables_began, tables_joining_checkpoint, tables_joining_rollback, tables_noting, tables_replying, tables_unwilling, tables_reply, tables_answering, tables_aborting, tables_committing_checkpoint, tables_committing_rollback, tables_closing_checkpoint, tables_closing_rollback, tables_decision}
use Rattle.kt_protocol.proofs.Asks.{asks_opening, asks_sending, asks_receiving, asks_dropping, asks_holding, asks_row, asks_began, asks_joining_checkpoint, asks_joining_rollback, asks_noting, asks_replying, asks_unwilling, asks_reply, asks_answering, asks_aborting, asks_committing_checkpoint, asks_committing_rollback, asks_closing_checkpoint, asks_closing_rollback, asks_decision}
use Rattle.kt_protocol.proofs.Willing.{willing_opening, willing_sending, willing_receiving, willing_dropping, willing_holding, willing_row, willing_began, willing_joining_checkpoint, willing_joining_rollback, willing_noting, willing_replying, willing_unwilling, willing_reply, willing_answering, willing_aborting, willing_committing_checkpoint, willing_committing_rollback, willing_closing_checkpoint, willing_closing_rollback, willing_decision}
use Rattle.kt_protocol.proofs.Consistent.{consistent_opening, consistent_sending, consistent_receiving, consistent_dropping, consistent_holding, consistent_row, consistent_began, consistent_joining_checkpoint, consistent_joining_rollback, consistent_noting, consistent_replying, consistent_unwilling, consistent_reply, consistent_answering, consistent_aborting, consistent_committing_checkpoint, consistent_committing_rollback, consistent_closing_checkpoint, consistent_closing_rollback, consistent_decision}
use Rattle.kt_protocol.proofs.Receiving.{Taking}
use Rattle.kt_protocol.proofs.Joining.{Joining, Label, RollbackLabel}
use Rattle.kt_protocol.proofs.Deciding.{below, all_await_none}
use Rattle.std.proofs.Common.{refl}
use Rattle.kt_meaning.specs.Past.{at_one}
use Rattle.kt_spacetime.specs.declared.event.Event.{Event}
use Rattle.kt_protocol.proofs.EachRow.{permanent_has_no_orphan, present_has_no_orphan}
use Rattle.std.specs.Prelude.{◌+◌}

pub invariant_opening : (n : ℕ) → Invariant (opening n)
invariant_opening n = record {
  histories = histories_opening n;
  messages = messages_opening n;
  positions = positions_opening n;
  tables = tables_opening n;
  asks = asks_opening n;
  willing = willing_opening n;
  consistent = consistent_opening n;
}

pub invariant_sending : (s : State) (p q : ℕ) (body : ℤ) → p < s.processes → q < s.processes → s.so_far.open_in p ≡ 0 → Invariant s → Invariant (after_sending s p q body)
invariant_sending s p q body below below_q o g = record {
  histories = histories_sending s p q body below below_q o g;
  messages = messages_sending s p q body below below_q o g;
  positions = positions_sending s p q body below below_q o g;
  tables = tables_sending s p q body below below_q o g;
  asks = asks_sending s p q body below below_q o g;
  willing = willing_sending s p q body below below_q o g;
  consistent = consistent_sending s p q body below below_q o g;
}

pub invariant_receiving : (s : State) (channel held : Lists) (p q m : ℕ) → is_ready s p ≡ false → Taking s channel held p q m → Invariant s → Invariant (after_receiving s channel held p q m)
invariant_receiving s channel held p q m y t g = record {
  histories = histories_receiving s channel held p q m y t g;
  messages = messages_receiving s channel held p q m y t g;
  positions = positions_receiving s channel held p q m y t g;
  tables = tables_receiving s channel held p q m y t g;
  asks = asks_receiving s channel held p q m y t g;
  willing = willing_receiving s channel held p q m y t g;
  consistent = consistent_receiving s channel held p q m y t g;
}

pub invariant_dropping : (s : State) (channel held : Lists) (p q m : ℕ) → is_ready s p ≡ false → Taking s channel held p q m → Invariant s → Invariant (after_dropping s channel held p q m)
invariant_dropping s channel held p q m y t g = record {
  histories = histories_dropping s channel held p q m y t g;
  messages = messages_dropping s channel held p q m y t g;
  positions = positions_dropping s channel held p q m y t g;
  tables = tables_dropping s channel held p q m y t g;
  asks = asks_dropping s channel held p q m y t g;
  willing = willing_dropping s channel held p q m y t g;
  consistent = consistent_dropping s channel held p q m y t g;
}

pub invariant_holding : (s : State) (p q m : ℕ) (rest : List Parcel) → s.channel q p ≡ App m ∷ rest → Invariant s → Invariant (after_holding s p q m rest)
invariant_holding s p q m rest e g = record {
  histories = histories_holding s p q m rest e g;
  messages = messages_holding s p q m rest e g;
  positions = positions_holding s p q m rest e g;
  tables = tables_holding s p q m rest e g;
  asks = asks_holding s p q m rest e g;
  willing = willing_holding s p q m rest e g;
  consistent = consistent_holding s p q m rest e g;
}

-- a row that changes nothing but the number of rows
invariant_row : (s : State) (row : Event) (up : ℕ → Bool) → summary_after s.so_far row ≡ record s.so_far { rows = s.so_far.rows + 1 } → HoldsBefore s.so_far row → Invariant s → Invariant (with_row s row up)
invariant_row s row up e holds g = record {
  histories = histories_row s row up e holds g;
  messages = messages_row s row up e holds g;
  positions = positions_row s row up e holds g;
  tables = tables_row s row up e holds g;
  asks = asks_row s row up e holds g;
  willing = willing_row s row up e holds g;
  consistent = consistent_row s row up e holds g;
}

pub invariant_failing : (s : State) (p : ℕ) → Invariant s → Invariant (after_failing s p)
invariant_failing s p g = invariant_row s (Failed p) (at_one p false s.up) refl (permanent_has_no_orphan s g, present_has_no_orphan s g) g

pub invariant_refusal : (s : State) (p : ℕ) (v : Verb) (cause : Cause) → Invariant s → Invariant (after_refusal s p v cause)
invariant_refusal s p v cause g = invariant_row s (Refused p v cause) s.up refl (permanent_has_no_orphan s g, present_has_no_orphan s g) g

pub invariant_began : (s : State) (p : ℕ) (roll : Bool) → Invariant s → Invariant (after_began s p roll)
invariant_began s p roll g = record {
  histories = histories_began s p roll g;
  messages = messages_began s p roll g;
  positions = positions_began s p roll g;
  tables = tables_began s p roll g;
  asks = asks_began s p roll g;
  willing = willing_began s p roll g;
  consistent = consistent_began s p roll g;
}

pub invariant_joining_checkpoint : (s : State) (channel : Lists) (p k : ℕ) (is_first : Bool) (par lnk lbl : ℕ) → Joining s channel p k is_first par lnk lbl false → Label s p k is_first par lnk → Invariant s → Invariant (after_joining_checkpoint s channel p k is_first par lnk)
invariant_joining_checkpoint s channel p k is_first par lnk lbl j lab g = record {
  histories = histories_joining_checkpoint s channel p k is_first par lnk lbl j lab g;
  messages = messages_joining_checkpoint s channel p k is_first par lnk lbl j lab g;
  positions = positions_joining_checkpoint s channel p k is_first par lnk lbl j lab g;
  tables = tables_joining_checkpoint s channel p k is_first par lnk lbl j lab g;
  asks = asks_joining_checkpoint s channel p k is_first par lnk lbl j lab g;
  willing = willing_joining_checkpoint s channel p k is_first par lnk lbl j lab g;
  consistent = consistent_joining_checkpoint s channel p k is_first par lnk lbl j lab g;
}

pub invariant_joining_rollback : (s : State) (channel : Lists) (p k : ℕ) (is_first : Bool) (par lnk lbl : ℕ) → Joining s channel p k is_first par lnk lbl true → RollbackLabel s p k is_first par lnk → Invariant s → Invariant (after_joining_rollback s channel p k is_first par lnk)
invariant_joining_rollback s channel p k is_first par lnk lbl j lab g = record {
  histories = histories_joining_rollback s channel p k is_first par lnk lbl j lab g;
  messages = messages_joining_rollback s channel p k is_first par lnk lbl j lab g;
  positions = positions_joining_rollback s channel p k is_first par lnk lbl j lab g;
  tables = tables_joining_rollback s channel p k is_first par lnk lbl j lab g;
  asks = asks_joining_rollback s channel p k is_first par lnk lbl j lab g;
  willing = willing_joining_rollback s channel p k is_first par lnk lbl j lab g;
  consistent = consistent_joining_rollback s channel p k is_first par lnk lbl j lab g;
}

pub invariant_noting : (s : State) (p q k l : ℕ) → s.so_far.joined k q ≡ true → (s.so_far.is_rollback k ≡ true → l ≡ s.last_sent q p) → Invariant s → Invariant (after_noting s p q k l)
invariant_noting s p q k l j e g = record {
  histories = histories_noting s p q k l j e g;
  messages = messages_noting s p q k l j e g;
  positions = positions_noting s p q k l j e g;
  tables = tables_noting s p q k l j e g;
  asks = asks_noting s p q k l j e g;
  willing = willing_noting s p q k l j e g;
  consistent = consistent_noting s p q k l j e g;
}

pub invariant_replying : (s : State) (p q k l : ℕ) (rest : List Parcel) → s.channel q p ≡ Ask k l ∷ rest → Invariant s →
    (s.so_far.is_rollback k ≡ false → (m : ℕ) → s.so_far.from m ≡ p → s.so_far.to m ≡ q → s.so_far.is_received m ≡ true → m ≤ l → s.so_far.sent_at m < checkpoint_cut_of s.so_far k p) →
    (s.so_far.is_rollback k ≡ true → (n : ℕ) → s.so_far.from n ≡ q → s.so_far.to n ≡ p → s.so_far.is_sent n ≡ true → s.so_far.permanent q ≤ s.so_far.sent_at n → ((s.so_far.joined k p ≡ true) × (s.noted k p q ≡ true)) ⊎ ((s.so_far.is_received n ≡ false) × (weigh (is_message n) (s.held q p) ≡ 0))) →
    Invariant (after_replying s p q k true rest)
invariant_replying s p q k l rest e g safe safe_rollback = record {
  histories = histories_replying s p q k l rest e g safe safe_rollback;
  messages = messages_replying s p q k l rest e g safe safe_rollback;
  positions = positions_replying s p q k l rest e g safe safe_rollback;
  tables = tables_replying s p q k l rest e g safe safe_rollback;
  asks = asks_replying s p q k l rest e g safe safe_rollback;
  willing = willing_replying s p q k l rest e g safe safe_rollback;
  consistent = consistent_replying s p q k l rest e g safe safe_rollback;
}

pub invariant_unwilling : (s : State) (p q k l : ℕ) (cause : Cause) (rest : List Parcel) → s.channel q p ≡ Ask k l ∷ rest → Invariant s → Invariant (after_unwilling s p q k cause rest)
invariant_unwilling s p q k l cause rest e g = record {
  histories = histories_unwilling s p q k l cause rest e g;
  messages = messages_unwilling s p q k l cause rest e g;
  positions = positions_unwilling s p q k l cause rest e g;
  tables = tables_unwilling s p q k l cause rest e g;
  asks = asks_unwilling s p q k l cause rest e g;
  willing = willing_unwilling s p q k l cause rest e g;
  consistent = consistent_unwilling s p q k l cause rest e g;
}

pub invariant_reply : (s : State) (p q k : ℕ) (w : Bool) (rest : List Parcel) → s.channel q p ≡ Reply k w ∷ rest → Invariant s → Invariant (after_reply s p q k w rest)
invariant_reply s p q k w rest e g = record {
  histories = histories_reply s p q k w rest e g;
  messages = messages_reply s p q k w rest e g;
  positions = positions_reply s p q k w rest e g;
  tables = tables_reply s p q k w rest e g;
  asks = asks_reply s p q k w rest e g;
  willing = willing_reply s p q k w rest e g;
  consistent = consistent_reply s p q k w rest e g;
}

pub invariant_answering : (s : State) (p k : ℕ) → s.so_far.joined k p ≡ true → s.has_answered k p ≡ false → ((v : ℕ) → s.awaits k p v ≡ false) → Invariant s → Invariant (after_answering s p k)
invariant_answering s p k j0 a0 quiet g = record {
  histories = histories_answering s p k j0 a0 quiet g;
  messages = messages_answering s p k j0 a0 quiet g;
  positions = positions_answering s p k j0 a0 quiet g;
  tables = tables_answering s p k j0 a0 quiet g;
  asks = asks_answering s p k j0 a0 quiet g;
  willing = willing_answering s p k j0 a0 quiet g;
  consistent = consistent_answering s p k j0 a0 quiet g;
}

pub invariant_aborting : (s : State) (p k : ℕ) → Invariant s → s.so_far.joined k p ≡ true → p ≡ s.initiator k → s.so_far.is_decided k ≡ false → s.so_far.has_unwilling k ≡ true → ((u v : ℕ) → s.awaits k u v ≡ false) → Invariant (record s { log = s.log ++ Decided p k false ∷ []; so_far = summary_after s.so_far (Decided p k false) })
invariant_aborting s p k g j0 i d w all_await_none = record {
  histories = histories_aborting s p k g j0 i d w all_await_none;
  messages = messages_aborting s p k g j0 i d w all_await_none;
  positions = positions_aborting s p k g j0 i d w all_await_none;
  tables = tables_aborting s p k g j0 i d w all_await_none;
  asks = asks_aborting s p k g j0 i d w all_await_none;
  willing = willing_aborting s p k g j0 i d w all_await_none;
  consistent = consistent_aborting s p k g j0 i d w all_await_none;
}

pub invariant_committing_checkpoint : (s : State) (p k : ℕ) → Invariant s → s.so_far.is_rollback k ≡ false → s.so_far.joined k p ≡ true → p ≡ s.initiator k → s.so_far.is_decided k ≡ false → s.so_far.has_unwilling k ≡ false → ((u v : ℕ) → s.awaits k u v ≡ false) → Invariant (after_deciding_as true false s p k)
invariant_committing_checkpoint s p k g r j0 i d w all_await_none = record {
  histories = histories_committing_checkpoint s p k g r j0 i d w all_await_none;
  messages = messages_committing_checkpoint s p k g r j0 i d w all_await_none;
  positions = positions_committing_checkpoint s p k g r j0 i d w all_await_none;
  tables = tables_committing_checkpoint s p k g r j0 i d w all_await_none;
  asks = asks_committing_checkpoint s p k g r j0 i d w all_await_none;
  willing = willing_committing_checkpoint s p k g r j0 i d w all_await_none;
  consistent = consistent_committing_checkpoint s p k g r j0 i d w all_await_none;
}

pub invariant_committing_rollback : (s : State) (p k : ℕ) → Invariant s → s.so_far.is_rollback k ≡ true → s.so_far.joined k p ≡ true → p ≡ s.initiator k → s.so_far.is_decided k ≡ false → s.so_far.has_unwilling k ≡ false → ((u v : ℕ) → s.awaits k u v ≡ false) → Invariant (after_deciding_as true true s p k)
invariant_committing_rollback s p k g r j0 i d w all_await_none = record {
  histories = histories_committing_rollback s p k g r j0 i d w all_await_none;
  messages = messages_committing_rollback s p k g r j0 i d w all_await_none;
  positions = positions_committing_rollback s p k g r j0 i d w all_await_none;
  tables = tables_committing_rollback s p k g r j0 i d w all_await_none;
  asks = asks_committing_rollback s p k g r j0 i d w all_await_none;
  willing = willing_committing_rollback s p k g r j0 i d w all_await_none;
  consistent = consistent_committing_rollback s p k g r j0 i d w all_await_none;
}

pub invariant_closing_checkpoint : (s : State) (p k : ℕ) (c : Bool) → s.so_far.is_rollback k ≡ false → 0 < k → s.so_far.open_in p ≡ k → s.so_far.is_decided k ≡ true → s.so_far.is_committed k ≡ c → Invariant s → Invariant (after_closing_checkpoint s p k c)
invariant_closing_checkpoint s p k c r pos o d i g = record {
  histories = histories_closing_checkpoint s p k c r pos o d i g;
  messages = messages_closing_checkpoint s p k c r pos o d i g;
  positions = positions_closing_checkpoint s p k c r pos o d i g;
  tables = tables_closing_checkpoint s p k c r pos o d i g;
  asks = asks_closing_checkpoint s p k c r pos o d i g;
  willing = willing_closing_checkpoint s p k c r pos o d i g;
  consistent = consistent_closing_checkpoint s p k c r pos o d i g;
}

pub invariant_closing_rollback : (s : State) (p k : ℕ) (c : Bool) → s.so_far.is_rollback k ≡ true → 0 < k → s.so_far.open_in p ≡ k → s.so_far.is_decided k ≡ true → s.so_far.is_committed k ≡ c → Invariant s → Invariant (after_closing_rollback s p k c)
invariant_closing_rollback s p k c r pos o d i g = record {
  histories = histories_closing_rollback s p k c r pos o d i g;
  messages = messages_closing_rollback s p k c r pos o d i g;
  positions = positions_closing_rollback s p k c r pos o d i g;
  tables = tables_closing_rollback s p k c r pos o d i g;
  asks = asks_closing_rollback s p k c r pos o d i g;
  willing = willing_closing_rollback s p k c r pos o d i g;
  consistent = consistent_closing_rollback s p k c r pos o d i g;
}

pub invariant_decision : (s : State) (p q k : ℕ) (c : Bool) (rest : List Parcel) → s.channel q p ≡ Decide k c ∷ rest → Invariant s → Invariant (after_decision s p q rest)
invariant_decision s p q k c rest e g = record {
  histories = histories_decision s p q k c rest e g;
  messages = messages_decision s p q k c rest e g;
  positions = positions_decision s p q k c rest e g;
  tables = tables_decision s p q k c rest e g;
  asks = asks_decision s p q k c rest e g;
  willing = willing_decision s p q k c rest e g;
  consistent = consistent_decision s p q k c rest e g;
}
