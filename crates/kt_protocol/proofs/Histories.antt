-- The numbers are those of the log, and the places of messages those of their deeds: kept by each transition.
use Rattle.kt_spacetime.specs.declared.deeds.Deed.TheVariants as deed
use Rattle.kt_base.specs.declared.words.Cause.{Cause}
use Rattle.std.proofs.Common.{◌≡◌, ℕ, ◌≤◌, Bool, true, false, List, [], ◌∷◌, ◌++◌, refl, arith, inl, inr, ◌<◌, ◌⊎◌, length-append}
use Rattle.std.specs.Prelude.{ℤ}
use Rattle.std.proofs.lemmas.Bool.Decides.{nat_tests}
use Rattle.kt_spacetime.specs.declared.event.Event.TheVariants.{Sent, Received, Dropped, Unwilling, Closed, Took, Ready, Decided}
use Rattle.kt_protocol.proofs.Askers.{permanent_low}
use Rattle.kt_protocol.proofs.Invariant.{Invariant, is_message, summary_push, Histories, with_row}
use Rattle.kt_protocol.proofs.Updates.{place_cases, place_old}
use Rattle.kt_protocol.proofs.Weights.{weigh}
use Rattle.kt_protocol.specs.Parcels.{App, Decide, Parcel, Lists, Ask, Reply}
use Rattle.kt_protocol.specs.States.{State, is_ready, opening}
use Rattle.kt_protocol.specs.Messages.{after_holding, after_sending, after_dropping, after_receiving}
use Rattle.kt_protocol.specs.Deciding.{after_decision, after_closing_rollback, after_closing_checkpoint, after_deciding_as}
use Rattle.kt_protocol.specs.Joining.{after_began, after_joining_checkpoint, after_joining_rollback}
use Rattle.kt_protocol.specs.Summary.{summary_after}
use Rattle.kt_protocol.specs.Replies.{after_unwilling, after_replying, after_answering, after_reply, after_noting}
use Rattle.kt_protocol.proofs.RowFacts.{checkpoint_cut_of, HoldsBefore}
use Rattle.kt_protocol.proofs.Beginning.{summary_began_row}
use Rattle.kt_protocol.proofs.Sending.{sent_is_push, sent_there_push, received_is_push, received_there_push}
use Rattle.kt_protocol.proofs.Receiving.{Taking, message_facts, received_is_taken, received_there_taken}
use Rattle.kt_protocol.proofs.Joining.{Joining, Label, RollbackLabel}
use Rattle.kt_protocol.proofs.Deciding.{summary_commits, below, all_await_none}
use Rattle.kt_protocol.proofs.RollingBack.{cut_cases, cut_there, cut_length, was_sent, was_got}
use Rattle.kt_spacetime.specs.declared.event.Event.{Event}
use Rattle.std.specs.Prelude.{◌+◌}
use Rattle.std.proofs.Common.{sym, ◌∙◌}

pub histories_opening : (n : ℕ) → Histories (opening n)
histories_opening n = record {
  of_log = refl;
  size_is = λ p. refl;
  sent_is = λ x j m t h. absurd (cc);
  sent_there = λ m h. absurd (cc);
  received_is = λ x j m t h. absurd (cc);
  received_there = λ m h. absurd (cc);
}

pub histories_sending : (s : State) (p q : ℕ) (body : ℤ) → p < s.processes → q < s.processes → s.so_far.open_in p ≡ 0 → Invariant s → Histories (after_sending s p q body)
histories_sending s p q body below below_q o g = record {
  of_log = summary_push s.so_far s.log (Sent p q body) g.histories.of_log;
  size_is = λ u. grind (arith, nat_tests, length-append, g.histories.size_is u);
  sent_is = sent_is_push s p q g;
  sent_there = sent_there_push s p q g;
  received_is = received_is_push s p q g;
  received_there = received_there_push s p q g;
}

pub histories_receiving : (s : State) (channel held : Lists) (p q m : ℕ) → is_ready s p ≡ false → Taking s channel held p q m → Invariant s → Histories (after_receiving s channel held p q m)
histories_receiving s channel held p q m y t g =
    let f = message_facts s channel held p q m t g in
    let f0 = f.0 in let f1 = f.1 in let f2 = f.2 in let f3 = f.3 in let f4 = f.4 in
    record {
      of_log = summary_push s.so_far s.log (Received p q m) g.histories.of_log;
      size_is = λ u. grind (arith, nat_tests, length-append, g.histories.size_is u);
      sent_is = λ x j n t2 h. elim (place_cases s.so_far.live p (deed.Received m q) x j (deed.Sent n t2) h) [ inl a ↦ g.histories.sent_is x j n t2 a | inr b ↦ let c = b.2 in absurd (cc (c)) ];
      sent_there = λ n h. place_old s.so_far.live p (deed.Received m q) (s.so_far.from n) (s.so_far.sent_at n) (deed.Sent n (s.so_far.to n)) (g.histories.sent_there n h);
      received_is = received_is_taken s p q m f1 f4 f3 g;
      received_there = received_there_taken s p q m f4 f3 g;
    }

pub histories_dropping : (s : State) (channel held : Lists) (p q m : ℕ) → is_ready s p ≡ false → Taking s channel held p q m → Invariant s → Histories (after_dropping s channel held p q m)
histories_dropping s channel held p q m y t g = record {
  of_log = summary_push s.so_far s.log (Dropped p q m) g.histories.of_log;
  size_is = g.histories.size_is;
  sent_is = g.histories.sent_is;
  sent_there = g.histories.sent_there;
  received_is = g.histories.received_is;
  received_there = g.histories.received_there;
}

pub histories_holding : (s : State) (p q m : ℕ) (rest : List Parcel) → s.channel q p ≡ App m ∷ rest → Invariant s → Histories (after_holding s p q m rest)
histories_holding s p q m rest e g = record {
  of_log = g.histories.of_log;
  size_is = g.histories.size_is;
  sent_is = g.histories.sent_is;
  sent_there = g.histories.sent_there;
  received_is = g.histories.received_is;
  received_there = g.histories.received_there;
}

pub histories_row : (s : State) (row : Event) (up : ℕ → Bool) → summary_after s.so_far row ≡ record s.so_far { rows = s.so_far.rows + 1 } → HoldsBefore s.so_far row → Invariant s → Histories (with_row s row up)
histories_row s row up e holds g = record {
  of_log = sym e ∙ summary_push s.so_far s.log row g.histories.of_log;
  size_is = g.histories.size_is;
  sent_is = g.histories.sent_is;
  sent_there = g.histories.sent_there;
  received_is = g.histories.received_is;
  received_there = g.histories.received_there;
}

pub histories_began : (s : State) (p : ℕ) (roll : Bool) → Invariant s → Histories (after_began s p roll)
histories_began s p roll g = record {
  of_log = summary_began_row s p roll g;
  size_is = g.histories.size_is;
  sent_is = g.histories.sent_is;
  sent_there = g.histories.sent_there;
  received_is = g.histories.received_is;
  received_there = g.histories.received_there;
}

pub histories_joining_checkpoint : (s : State) (channel : Lists) (p k : ℕ) (is_first : Bool) (par lnk lbl : ℕ) → Joining s channel p k is_first par lnk lbl false → Label s p k is_first par lnk → Invariant s → Histories (after_joining_checkpoint s channel p k is_first par lnk)
histories_joining_checkpoint s channel p k is_first par lnk lbl j lab g = record {
  of_log = summary_push s.so_far s.log (Took p k) g.histories.of_log;
  size_is = g.histories.size_is;
  sent_is = g.histories.sent_is;
  sent_there = g.histories.sent_there;
  received_is = g.histories.received_is;
  received_there = g.histories.received_there;
}

pub histories_joining_rollback : (s : State) (channel : Lists) (p k : ℕ) (is_first : Bool) (par lnk lbl : ℕ) → Joining s channel p k is_first par lnk lbl true → RollbackLabel s p k is_first par lnk → Invariant s → Histories (after_joining_rollback s channel p k is_first par lnk)
histories_joining_rollback s channel p k is_first par lnk lbl j lab g = record {
  of_log = summary_push s.so_far s.log (Ready p k) g.histories.of_log;
  size_is = g.histories.size_is;
  sent_is = g.histories.sent_is;
  sent_there = g.histories.sent_there;
  received_is = g.histories.received_is;
  received_there = g.histories.received_there;
}

pub histories_noting : (s : State) (p q k l : ℕ) → s.so_far.joined k q ≡ true → (s.so_far.is_rollback k ≡ true → l ≡ s.last_sent q p) → Invariant s → Histories (after_noting s p q k l)
histories_noting s p q k l j e g = record {
  of_log = g.histories.of_log;
  size_is = g.histories.size_is;
  sent_is = g.histories.sent_is;
  sent_there = g.histories.sent_there;
  received_is = g.histories.received_is;
  received_there = g.histories.received_there;
}

pub histories_replying : (s : State) (p q k l : ℕ) (rest : List Parcel) → s.channel q p ≡ Ask k l ∷ rest → Invariant s →
    (s.so_far.is_rollback k ≡ false → (m : ℕ) → s.so_far.from m ≡ p → s.so_far.to m ≡ q → s.so_far.is_received m ≡ true → m ≤ l → s.so_far.sent_at m < checkpoint_cut_of s.so_far k p) →
    (s.so_far.is_rollback k ≡ true → (n : ℕ) → s.so_far.from n ≡ q → s.so_far.to n ≡ p → s.so_far.is_sent n ≡ true → s.so_far.permanent q ≤ s.so_far.sent_at n → ((s.so_far.joined k p ≡ true) × (s.noted k p q ≡ true)) ⊎ ((s.so_far.is_received n ≡ false) × (weigh (is_message n) (s.held q p) ≡ 0))) →
    Histories (after_replying s p q k true rest)
histories_replying s p q k l rest e g safe safe_rollback = record {
  of_log = g.histories.of_log;
  size_is = g.histories.size_is;
  sent_is = g.histories.sent_is;
  sent_there = g.histories.sent_there;
  received_is = g.histories.received_is;
  received_there = g.histories.received_there;
}

pub histories_unwilling : (s : State) (p q k l : ℕ) (cause : Cause) (rest : List Parcel) → s.channel q p ≡ Ask k l ∷ rest → Invariant s → Histories (after_unwilling s p q k cause rest)
histories_unwilling s p q k l cause rest e g = record {
  of_log = summary_push s.so_far s.log (Unwilling p k cause) g.histories.of_log;
  size_is = g.histories.size_is;
  sent_is = g.histories.sent_is;
  sent_there = g.histories.sent_there;
  received_is = g.histories.received_is;
  received_there = g.histories.received_there;
}

pub histories_reply : (s : State) (p q k : ℕ) (w : Bool) (rest : List Parcel) → s.channel q p ≡ Reply k w ∷ rest → Invariant s → Histories (after_reply s p q k w rest)
histories_reply s p q k w rest e g = record {
  of_log = g.histories.of_log;
  size_is = g.histories.size_is;
  sent_is = g.histories.sent_is;
  sent_there = g.histories.sent_there;
  received_is = g.histories.received_is;
  received_there = g.histories.received_there;
}

pub histories_answering : (s : State) (p k : ℕ) → s.so_far.joined k p ≡ true → s.has_answered k p ≡ false → ((v : ℕ) → s.awaits k p v ≡ false) → Invariant s → Histories (after_answering s p k)
histories_answering s p k j0 a0 quiet g = record {
  of_log = g.histories.of_log;
  size_is = g.histories.size_is;
  sent_is = g.histories.sent_is;
  sent_there = g.histories.sent_there;
  received_is = g.histories.received_is;
  received_there = g.histories.received_there;
}

pub histories_aborting : (s : State) (p k : ℕ) → Invariant s → s.so_far.joined k p ≡ true → p ≡ s.initiator k → s.so_far.is_decided k ≡ false → s.so_far.has_unwilling k ≡ true → ((u v : ℕ) → s.awaits k u v ≡ false) → Histories (record s { log = s.log ++ Decided p k false ∷ []; so_far = summary_after s.so_far (Decided p k false) })
histories_aborting s p k g j0 i d w all_await_none = record {
  of_log = summary_push s.so_far s.log (Decided p k false) g.histories.of_log;
  size_is = g.histories.size_is;
  sent_is = g.histories.sent_is;
  sent_there = g.histories.sent_there;
  received_is = g.histories.received_is;
  received_there = g.histories.received_there;
}

pub histories_committing_checkpoint : (s : State) (p k : ℕ) → Invariant s → s.so_far.is_rollback k ≡ false → s.so_far.joined k p ≡ true → p ≡ s.initiator k → s.so_far.is_decided k ≡ false → s.so_far.has_unwilling k ≡ false → ((u v : ℕ) → s.awaits k u v ≡ false) → Histories (after_deciding_as true false s p k)
histories_committing_checkpoint s p k g r j0 i d w all_await_none = record {
  of_log = summary_commits s p k false r g;
  size_is = g.histories.size_is;
  sent_is = g.histories.sent_is;
  sent_there = g.histories.sent_there;
  received_is = g.histories.received_is;
  received_there = g.histories.received_there;
}

pub histories_committing_rollback : (s : State) (p k : ℕ) → Invariant s → s.so_far.is_rollback k ≡ true → s.so_far.joined k p ≡ true → p ≡ s.initiator k → s.so_far.is_decided k ≡ false → s.so_far.has_unwilling k ≡ false → ((u v : ℕ) → s.awaits k u v ≡ false) → Histories (after_deciding_as true true s p k)
histories_committing_rollback s p k g r j0 i d w all_await_none = record {
  of_log = summary_commits s p k true r g;
  size_is = λ u. cut_length (s.so_far.joined k u) (s.so_far.permanent u) (s.so_far.size u) (s.so_far.live u) (g.histories.size_is u) (permanent_low s u g);
  sent_is = λ x j m t h. let a = cut_cases (s.so_far.joined k x) (s.so_far.permanent x) (s.so_far.live x) j (deed.Sent m t) h in let b = g.histories.sent_is x j m t a.0 in let b0 = b.0 in let b1 = b.1 in let b2 = b.2 in let a1 = a.1 in (grind (arith, nat_tests, b0, b1, b2, a1), b.1, b.2, b.3);
  sent_there = λ m h. let a = was_sent s k g d r w all_await_none m h in cut_there (s.so_far.joined k (s.so_far.from m)) (s.so_far.permanent (s.so_far.from m)) (s.so_far.live (s.so_far.from m)) (s.so_far.sent_at m) (deed.Sent m (s.so_far.to m)) a.1 (g.histories.sent_there m a.0);
  received_is = λ x j m t h. let a = cut_cases (s.so_far.joined k x) (s.so_far.permanent x) (s.so_far.live x) j (deed.Received m t) h in let b = g.histories.received_is x j m t a.0 in let b0 = b.0 in let b1 = b.1 in let b2 = b.2 in let a1 = a.1 in (grind (arith, nat_tests, b0, b1, b2, a1), b.1, b.2, b.3);
  received_there = λ m h. let a = was_got s k g d r w all_await_none m h in cut_there (s.so_far.joined k (s.so_far.to m)) (s.so_far.permanent (s.so_far.to m)) (s.so_far.live (s.so_far.to m)) (s.so_far.received_at m) (deed.Received m (s.so_far.from m)) a.1 (g.histories.received_there m a.0);
}

pub histories_closing_checkpoint : (s : State) (p k : ℕ) (c : Bool) → s.so_far.is_rollback k ≡ false → 0 < k → s.so_far.open_in p ≡ k → s.so_far.is_decided k ≡ true → s.so_far.is_committed k ≡ c → Invariant s → Histories (after_closing_checkpoint s p k c)
histories_closing_checkpoint s p k true r pos o d i g = record {
  of_log = summary_push s.so_far s.log (Closed p k) g.histories.of_log;
  size_is = g.histories.size_is;
  sent_is = g.histories.sent_is;
  sent_there = g.histories.sent_there;
  received_is = g.histories.received_is;
  received_there = g.histories.received_there;
}
histories_closing_checkpoint s p k false r pos o d i g = record {
  of_log = summary_push s.so_far s.log (Closed p k) g.histories.of_log;
  size_is = g.histories.size_is;
  sent_is = g.histories.sent_is;
  sent_there = g.histories.sent_there;
  received_is = g.histories.received_is;
  received_there = g.histories.received_there;
}

pub histories_closing_rollback : (s : State) (p k : ℕ) (c : Bool) → s.so_far.is_rollback k ≡ true → 0 < k → s.so_far.open_in p ≡ k → s.so_far.is_decided k ≡ true → s.so_far.is_committed k ≡ c → Invariant s → Histories (after_closing_rollback s p k c)
histories_closing_rollback s p k c r pos o d i g = record {
  of_log = summary_push s.so_far s.log (Closed p k) g.histories.of_log;
  size_is = g.histories.size_is;
  sent_is = g.histories.sent_is;
  sent_there = g.histories.sent_there;
  received_is = g.histories.received_is;
  received_there = g.histories.received_there;
}

pub histories_decision : (s : State) (p q k : ℕ) (c : Bool) (rest : List Parcel) → s.channel q p ≡ Decide k c ∷ rest → Invariant s → Histories (after_decision s p q rest)
histories_decision s p q k c rest e g = record {
  of_log = g.histories.of_log;
  size_is = g.histories.size_is;
  sent_is = g.histories.sent_is;
  sent_there = g.histories.sent_there;
  received_is = g.histories.received_is;
  received_there = g.histories.received_there;
}
