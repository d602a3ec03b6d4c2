-- Where messages are, and in which order: kept by each transition.
use Rattle.kt_base.specs.declared.words.Cause.{Cause}
use Rattle.std.proofs.Common.{◌≡◌, ℕ, ◌+◌, ◌≤◌, Bool, true, false, List, [], ◌∷◌, ◌++◌, refl, arith, ◌<◌, ◌⊎◌}
use Rattle.std.specs.Prelude.{ℤ, nat_le}
use Rattle.std.proofs.lemmas.Bool.Decides.{nat_tests}
use Rattle.kt_spacetime.specs.declared.event.Event.TheVariants.{Decided}
use Rattle.kt_protocol.proofs.Askers.{closed_no_ask, permanent_low}
use Rattle.kt_protocol.proofs.Invariant.{Invariant, is_message, Messages, with_row}
use Rattle.kt_protocol.proofs.Weights.{behind_with_rest, weigh, weigh_with_rest, weigh_with_parcel, behind_sending, behind_with_parcel, weigh_swapped, behind_decisions, weigh_decisions, behind_checkpoint_asks, behind_rollback_asks, weigh_kept_where, weigh_emptied, behind_nil, weigh_nil}
use Rattle.kt_protocol.specs.Parcels.{App, Decide, Parcel, Lists, Ask, Reply, with_rest}
use Rattle.kt_protocol.specs.States.{State, is_ready, opening}
use Rattle.kt_protocol.specs.Messages.{after_holding, after_sending, after_dropping, after_receiving}
use Rattle.kt_protocol.specs.Deciding.{after_decision, after_closing_rollback, after_closing_checkpoint, after_deciding_as}
use Rattle.kt_protocol.specs.Joining.{after_began, after_joining_checkpoint, after_joining_rollback}
use Rattle.kt_protocol.specs.Summary.{summary_after}
use Rattle.kt_protocol.specs.Replies.{after_unwilling, after_replying, after_answering, after_reply, after_noting}
use Rattle.kt_protocol.proofs.RowFacts.{checkpoint_cut_of, HoldsBefore}
use Rattle.kt_protocol.proofs.Receiving.{Taking, message_facts, flying_received, flying_dropped}
use Rattle.kt_protocol.proofs.JoiningCheckpoints.{same_weight}
use Rattle.kt_protocol.proofs.Joining.{Joining, Label, RollbackLabel}
use Rattle.kt_protocol.proofs.JoiningRollbacks.{same_weight_rollback}
use Rattle.kt_protocol.proofs.Deciding.{below, all_await_none}
use Rattle.kt_protocol.proofs.RollingBack.{alive, alive_sent, was_sent, flying_after}
use Rattle.kt_spacetime.specs.declared.event.Event.{Event}

pub messages_opening : (n : ℕ) → Messages (opening n)
messages_opening n = record {
  sent_low = λ m h. absurd (cc);
  received_low = λ m h. absurd (cc);
  sends_rise = λ m n a b c d. absurd (cc);
  flying = λ m p q. let a = weigh_nil (is_message m) in omega (arith, a);
  messages_first = λ p q. behind_nil;
  kept_is = λ m p q. weigh_nil (is_message m);
  dropped_low = λ m h. absurd (cc);
  received_sent = λ m h. absurd (cc);
}

pub messages_sending : (s : State) (p q : ℕ) (body : ℤ) → p < s.processes → q < s.processes → s.so_far.open_in p ≡ 0 → Invariant s → Messages (after_sending s p q body)
messages_sending s p q body below below_q o g = record {
  sent_low = λ m h. grind (arith, nat_tests, g.messages.sent_low m);
  received_low = λ m h. grind (arith, nat_tests, g.messages.received_low m, g.messages.sent_low m);
  sends_rise = λ m n a b c d. grind (arith, nat_tests, g.messages.sends_rise m n, g.messages.sent_low m, g.messages.sent_low n);
  flying = λ m u v. grind (arith, nat_tests, weigh_with_parcel (is_message m) s.channel p q (App (s.so_far.rows + 1)) u v, g.messages.flying m u v, g.messages.sent_low m, g.messages.received_low m, g.messages.dropped_low m);
  messages_first = behind_sending s.channel p q (s.so_far.rows + 1) (closed_no_ask s p o g) g.messages.messages_first;
  kept_is = λ m u v. grind (arith, nat_tests, g.messages.kept_is m u v, g.messages.received_low m, g.messages.sent_low m);
  dropped_low = λ m a. grind (arith, g.messages.dropped_low m a);
  received_sent = λ m h. grind (arith, nat_tests, g.messages.received_sent m, g.messages.received_low m, g.messages.sent_low m);
}

pub messages_receiving : (s : State) (channel held : Lists) (p q m : ℕ) → is_ready s p ≡ false → Taking s channel held p q m → Invariant s → Messages (after_receiving s channel held p q m)
messages_receiving s channel held p q m y t g =
    let f = message_facts s channel held p q m t g in
    let f0 = f.0 in let f1 = f.1 in let f2 = f.2 in let f3 = f.3 in let f4 = f.4 in
    record {
      sent_low = λ n h. grind (arith, nat_tests, g.messages.sent_low n);
      received_low = λ n h. grind (arith, nat_tests, g.messages.received_low n, f0, f4);
      sends_rise = g.messages.sends_rise;
      flying = λ n u v. flying_received m n q p u v (s.so_far.from n) (s.so_far.to n) _ _ (s.so_far.is_sent n) (s.so_far.is_received n) (s.so_far.dropped n) (t.messages n u v) (g.messages.flying n u v) (λ e. (rw e f0, rw e f1, rw e f2, rw e f3, rw e f4));
      messages_first = t.front;
      kept_is = λ n u v. grind (arith, nat_tests, weigh_with_parcel (is_message n) s.kept q p (App m) v u, g.messages.kept_is n u v, f1, f3, f4, permanent_low s p g);
      dropped_low = λ n a. grind (arith, nat_tests, g.messages.dropped_low n a, f2);
      received_sent = λ n h. grind (arith, nat_tests, g.messages.received_sent n, g.messages.sent_low n, f0);
    }

pub messages_dropping : (s : State) (channel held : Lists) (p q m : ℕ) → is_ready s p ≡ false → Taking s channel held p q m → Invariant s → Messages (after_dropping s channel held p q m)
messages_dropping s channel held p q m y t g =
    let f = message_facts s channel held p q m t g in
    let f0 = f.0 in let f1 = f.1 in let f2 = f.2 in let f3 = f.3 in let f4 = f.4 in
    record {
      sent_low = λ n h. grind (arith, g.messages.sent_low n h);
      received_low = g.messages.received_low;
      sends_rise = g.messages.sends_rise;
      flying = λ n u v. flying_dropped m n q p u v (s.so_far.from n) (s.so_far.to n) _ _ (s.so_far.is_sent n) (s.so_far.is_received n) (s.so_far.dropped n) (t.messages n u v) (g.messages.flying n u v) (λ e. (rw e f0, rw e f1, rw e f2, rw e f3, rw e f4));
      messages_first = t.front;
      kept_is = g.messages.kept_is;
      dropped_low = λ n a. grind (arith, nat_tests, g.messages.dropped_low n, f1, g.messages.sent_low m);
      received_sent = g.messages.received_sent;
    }

pub messages_holding : (s : State) (p q m : ℕ) (rest : List Parcel) → s.channel q p ≡ App m ∷ rest → Invariant s → Messages (after_holding s p q m rest)
messages_holding s p q m rest e g = record {
  sent_low = g.messages.sent_low;
  received_low = g.messages.received_low;
  sends_rise = g.messages.sends_rise;
  flying = λ n u v. grind (arith, nat_tests, weigh_with_rest (is_message n) s.channel q p (App m) rest e u v, weigh_with_parcel (is_message n) s.held q p (App m) u v, g.messages.flying n u v);
  messages_first = behind_with_rest s.channel q p (App m) rest e g.messages.messages_first;
  kept_is = g.messages.kept_is;
  dropped_low = g.messages.dropped_low;
  received_sent = g.messages.received_sent;
}

pub messages_row : (s : State) (row : Event) (up : ℕ → Bool) → summary_after s.so_far row ≡ record s.so_far { rows = s.so_far.rows + 1 } → HoldsBefore s.so_far row → Invariant s → Messages (with_row s row up)
messages_row s row up e holds g = record {
  sent_low = λ n h. grind (arith, g.messages.sent_low n h);
  received_low = g.messages.received_low;
  sends_rise = g.messages.sends_rise;
  flying = g.messages.flying;
  messages_first = g.messages.messages_first;
  kept_is = g.messages.kept_is;
  dropped_low = λ n a. grind (arith, g.messages.dropped_low n a);
  received_sent = g.messages.received_sent;
}

pub messages_began : (s : State) (p : ℕ) (roll : Bool) → Invariant s → Messages (after_began s p roll)
messages_began s p roll g = record {
  sent_low = λ n h. grind (arith, g.messages.sent_low n h);
  received_low = g.messages.received_low;
  sends_rise = g.messages.sends_rise;
  flying = g.messages.flying;
  messages_first = g.messages.messages_first;
  kept_is = g.messages.kept_is;
  dropped_low = λ n a. grind (arith, g.messages.dropped_low n a);
  received_sent = g.messages.received_sent;
}

pub messages_joining_checkpoint : (s : State) (channel : Lists) (p k : ℕ) (is_first : Bool) (par lnk lbl : ℕ) → Joining s channel p k is_first par lnk lbl false → Label s p k is_first par lnk → Invariant s → Messages (after_joining_checkpoint s channel p k is_first par lnk)
messages_joining_checkpoint s channel p k is_first par lnk lbl j lab g = record {
  sent_low = λ n h. grind (arith, g.messages.sent_low n h);
  received_low = g.messages.received_low;
  sends_rise = g.messages.sends_rise;
  flying = λ n u v. rw (same_weight s channel p k is_first par lnk lbl false j (is_message n) (λ b. refl) u v) (g.messages.flying n u v);
  messages_first = behind_checkpoint_asks channel s.last_received p k j.front;
  kept_is = g.messages.kept_is;
  dropped_low = λ n a. grind (arith, g.messages.dropped_low n a);
  received_sent = g.messages.received_sent;
}

pub messages_joining_rollback : (s : State) (channel : Lists) (p k : ℕ) (is_first : Bool) (par lnk lbl : ℕ) → Joining s channel p k is_first par lnk lbl true → RollbackLabel s p k is_first par lnk → Invariant s → Messages (after_joining_rollback s channel p k is_first par lnk)
messages_joining_rollback s channel p k is_first par lnk lbl j lab g = record {
  sent_low = λ n h. grind (arith, g.messages.sent_low n h);
  received_low = g.messages.received_low;
  sends_rise = g.messages.sends_rise;
  flying = λ n u v. rw (same_weight_rollback s channel p k is_first par lnk lbl true j (is_message n) (λ b. refl) u v) (g.messages.flying n u v);
  messages_first = behind_rollback_asks channel s.first_sent s.last_sent p k j.front;
  kept_is = g.messages.kept_is;
  dropped_low = λ n a. grind (arith, g.messages.dropped_low n a);
  received_sent = g.messages.received_sent;
}

pub messages_noting : (s : State) (p q k l : ℕ) → s.so_far.joined k q ≡ true → (s.so_far.is_rollback k ≡ true → l ≡ s.last_sent q p) → Invariant s → Messages (after_noting s p q k l)
messages_noting s p q k l j e g = record {
  sent_low = g.messages.sent_low;
  received_low = g.messages.received_low;
  sends_rise = g.messages.sends_rise;
  flying = g.messages.flying;
  messages_first = g.messages.messages_first;
  kept_is = g.messages.kept_is;
  dropped_low = g.messages.dropped_low;
  received_sent = g.messages.received_sent;
}

pub messages_replying : (s : State) (p q k l : ℕ) (rest : List Parcel) → s.channel q p ≡ Ask k l ∷ rest → Invariant s →
    (s.so_far.is_rollback k ≡ false → (m : ℕ) → s.so_far.from m ≡ p → s.so_far.to m ≡ q → s.so_far.is_received m ≡ true → m ≤ l → s.so_far.sent_at m < checkpoint_cut_of s.so_far k p) →
    (s.so_far.is_rollback k ≡ true → (n : ℕ) → s.so_far.from n ≡ q → s.so_far.to n ≡ p → s.so_far.is_sent n ≡ true → s.so_far.permanent q ≤ s.so_far.sent_at n → ((s.so_far.joined k p ≡ true) × (s.noted k p q ≡ true)) ⊎ ((s.so_far.is_received n ≡ false) × (weigh (is_message n) (s.held q p) ≡ 0))) →
    Messages (after_replying s p q k true rest)
messages_replying s p q k l rest e g safe safe_rollback = record {
  sent_low = g.messages.sent_low;
  received_low = g.messages.received_low;
  sends_rise = g.messages.sends_rise;
  flying = λ n u v. grind (arith, nat_tests, weigh_swapped (is_message n) s.channel q p (Ask k l) (Reply k true) rest e u v, g.messages.flying n u v);
  messages_first = behind_with_parcel (with_rest s.channel q p rest) p q (Reply k true) refl (behind_with_rest s.channel q p (Ask k l) rest e g.messages.messages_first);
  kept_is = g.messages.kept_is;
  dropped_low = g.messages.dropped_low;
  received_sent = g.messages.received_sent;
}

pub messages_unwilling : (s : State) (p q k l : ℕ) (cause : Cause) (rest : List Parcel) → s.channel q p ≡ Ask k l ∷ rest → Invariant s → Messages (after_unwilling s p q k cause rest)
messages_unwilling s p q k l cause rest e g = record {
  sent_low = λ n h. grind (arith, g.messages.sent_low n h);
  received_low = g.messages.received_low;
  sends_rise = g.messages.sends_rise;
  flying = λ n u v. grind (arith, nat_tests, weigh_swapped (is_message n) s.channel q p (Ask k l) (Reply k false) rest e u v, g.messages.flying n u v);
  messages_first = behind_with_parcel (with_rest s.channel q p rest) p q (Reply k false) refl (behind_with_rest s.channel q p (Ask k l) rest e g.messages.messages_first);
  kept_is = g.messages.kept_is;
  dropped_low = λ n a. grind (arith, g.messages.dropped_low n a);
  received_sent = g.messages.received_sent;
}

pub messages_reply : (s : State) (p q k : ℕ) (w : Bool) (rest : List Parcel) → s.channel q p ≡ Reply k w ∷ rest → Invariant s → Messages (after_reply s p q k w rest)
messages_reply s p q k w rest e g = record {
  sent_low = g.messages.sent_low;
  received_low = g.messages.received_low;
  sends_rise = g.messages.sends_rise;
  flying = λ n u v. grind (arith, nat_tests, weigh_with_rest (is_message n) s.channel q p (Reply k w) rest e u v, g.messages.flying n u v);
  messages_first = behind_with_rest s.channel q p (Reply k w) rest e g.messages.messages_first;
  kept_is = g.messages.kept_is;
  dropped_low = g.messages.dropped_low;
  received_sent = g.messages.received_sent;
}

pub messages_answering : (s : State) (p k : ℕ) → s.so_far.joined k p ≡ true → s.has_answered k p ≡ false → ((v : ℕ) → s.awaits k p v ≡ false) → Invariant s → Messages (after_answering s p k)
messages_answering s p k j0 a0 quiet g = record {
  sent_low = g.messages.sent_low;
  received_low = g.messages.received_low;
  sends_rise = g.messages.sends_rise;
  flying = λ n u v. grind (arith, nat_tests, weigh_with_parcel (is_message n) s.channel p (s.parent k p) (Reply k (s.all_willing k p)) u v, g.messages.flying n u v);
  messages_first = behind_with_parcel s.channel p (s.parent k p) (Reply k (s.all_willing k p)) refl g.messages.messages_first;
  kept_is = g.messages.kept_is;
  dropped_low = g.messages.dropped_low;
  received_sent = g.messages.received_sent;
}

pub messages_aborting : (s : State) (p k : ℕ) → Invariant s → s.so_far.joined k p ≡ true → p ≡ s.initiator k → s.so_far.is_decided k ≡ false → s.so_far.has_unwilling k ≡ true → ((u v : ℕ) → s.awaits k u v ≡ false) → Messages (record s { log = s.log ++ Decided p k false ∷ []; so_far = summary_after s.so_far (Decided p k false) })
messages_aborting s p k g j0 i d w all_await_none = record {
  sent_low = λ n h. grind (arith, g.messages.sent_low n h);
  received_low = g.messages.received_low;
  sends_rise = g.messages.sends_rise;
  flying = g.messages.flying;
  messages_first = g.messages.messages_first;
  kept_is = g.messages.kept_is;
  dropped_low = λ n a. grind (arith, g.messages.dropped_low n a);
  received_sent = g.messages.received_sent;
}

pub messages_committing_checkpoint : (s : State) (p k : ℕ) → Invariant s → s.so_far.is_rollback k ≡ false → s.so_far.joined k p ≡ true → p ≡ s.initiator k → s.so_far.is_decided k ≡ false → s.so_far.has_unwilling k ≡ false → ((u v : ℕ) → s.awaits k u v ≡ false) → Messages (after_deciding_as true false s p k)
messages_committing_checkpoint s p k g r j0 i d w all_await_none = record {
  sent_low = λ n h. grind (arith, g.messages.sent_low n h);
  received_low = g.messages.received_low;
  sends_rise = g.messages.sends_rise;
  flying = g.messages.flying;
  messages_first = g.messages.messages_first;
  kept_is = λ m u v. grind (arith, nat_tests, weigh_kept_where m (λ m. nat_le (s.so_far.new k (s.so_far.to m)) (s.so_far.received_at m)) (s.so_far.joined k) s.kept v u, g.messages.kept_is m u v, g.positions.permanent_new k u);
  dropped_low = λ n a. grind (arith, g.messages.dropped_low n a);
  received_sent = g.messages.received_sent;
}

pub messages_committing_rollback : (s : State) (p k : ℕ) → Invariant s → s.so_far.is_rollback k ≡ true → s.so_far.joined k p ≡ true → p ≡ s.initiator k → s.so_far.is_decided k ≡ false → s.so_far.has_unwilling k ≡ false → ((u v : ℕ) → s.awaits k u v ≡ false) → Messages (after_deciding_as true true s p k)
messages_committing_rollback s p k g r j0 i d w all_await_none = record {
  sent_low = λ m h. let a = was_sent s k g d r w all_await_none m h in let b = g.messages.sent_low m a.0 in let a1 = a.1 in (b.0, omega (arith, b.1), grind (arith, nat_tests, a1, b.2), b.3, b.4);
  received_low = λ m h. let a = alive s k g d r w all_await_none m h in (alive_sent s k g d r w all_await_none m h, a.3);
  sends_rise = λ m n a b c e. g.messages.sends_rise m n (was_sent s k g d r w all_await_none m a).0 (was_sent s k g d r w all_await_none n b).0 c e;
  flying = flying_after s k g d r w all_await_none;
  messages_first = g.messages.messages_first;
  kept_is = λ m u v. grind (arith, nat_tests, weigh_emptied m (s.so_far.joined k) s.kept v u, g.messages.kept_is m u v);
  dropped_low = λ m a. let x = g.messages.dropped_low m a in let x1 = x.1 in (omega (arith, x.0), grind (arith, nat_tests, x1));
  received_sent = λ m h. (alive s k g d r w all_await_none m h).2;
}

pub messages_closing_checkpoint : (s : State) (p k : ℕ) (c : Bool) → s.so_far.is_rollback k ≡ false → 0 < k → s.so_far.open_in p ≡ k → s.so_far.is_decided k ≡ true → s.so_far.is_committed k ≡ c → Invariant s → Messages (after_closing_checkpoint s p k c)
messages_closing_checkpoint s p k true r pos o d i g = record {
  sent_low = λ n h. grind (arith, g.messages.sent_low n h);
  received_low = g.messages.received_low;
  sends_rise = g.messages.sends_rise;
  flying = λ n u v. grind (arith, nat_tests, weigh_decisions (is_message n) s.channel s.asked p k true u v, g.messages.flying n u v);
  messages_first = behind_decisions s.channel s.asked p k true g.messages.messages_first;
  kept_is = g.messages.kept_is;
  dropped_low = λ n a. grind (arith, g.messages.dropped_low n a);
  received_sent = g.messages.received_sent;
}
messages_closing_checkpoint s p k false r pos o d i g = record {
  sent_low = λ n h. grind (arith, g.messages.sent_low n h);
  received_low = g.messages.received_low;
  sends_rise = g.messages.sends_rise;
  flying = λ n u v. grind (arith, nat_tests, weigh_decisions (is_message n) s.channel s.asked p k false u v, g.messages.flying n u v);
  messages_first = behind_decisions s.channel s.asked p k false g.messages.messages_first;
  kept_is = g.messages.kept_is;
  dropped_low = λ n a. grind (arith, g.messages.dropped_low n a);
  received_sent = g.messages.received_sent;
}

pub messages_closing_rollback : (s : State) (p k : ℕ) (c : Bool) → s.so_far.is_rollback k ≡ true → 0 < k → s.so_far.open_in p ≡ k → s.so_far.is_decided k ≡ true → s.so_far.is_committed k ≡ c → Invariant s → Messages (after_closing_rollback s p k c)
messages_closing_rollback s p k c r pos o d i g = record {
  sent_low = λ n h. grind (arith, g.messages.sent_low n h);
  received_low = g.messages.received_low;
  sends_rise = g.messages.sends_rise;
  flying = λ n u v. grind (arith, nat_tests, weigh_decisions (is_message n) s.channel s.asked p k c u v, g.messages.flying n u v);
  messages_first = behind_decisions s.channel s.asked p k c g.messages.messages_first;
  kept_is = g.messages.kept_is;
  dropped_low = λ n a. grind (arith, g.messages.dropped_low n a);
  received_sent = g.messages.received_sent;
}

pub messages_decision : (s : State) (p q k : ℕ) (c : Bool) (rest : List Parcel) → s.channel q p ≡ Decide k c ∷ rest → Invariant s → Messages (after_decision s p q rest)
messages_decision s p q k c rest e g = record {
  sent_low = g.messages.sent_low;
  received_low = g.messages.received_low;
  sends_rise = g.messages.sends_rise;
  flying = λ n u v. grind (arith, nat_tests, weigh_with_rest (is_message n) s.channel q p (Decide k c) rest e u v, g.messages.flying n u v);
  messages_first = behind_with_rest s.channel q p (Decide k c) rest e g.messages.messages_first;
  kept_is = g.messages.kept_is;
  dropped_low = g.messages.dropped_low;
  received_sent = g.messages.received_sent;
}
