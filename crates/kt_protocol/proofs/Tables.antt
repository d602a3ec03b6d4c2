-- What the tables of a process know of messages: kept by each transition.
use Rattle.kt_base.specs.declared.words.Cause.{Cause}
use Rattle.std.proofs.Common.{◌≡◌, ℕ, ◌≤◌, Bool, true, false, List, [], ◌∷◌, ◌++◌, refl, arith, sym, ◌∙◌, ◌<◌, ◌⊎◌, not}
use Rattle.std.specs.Prelude.{◌&&◌, ℤ, if◌then◌else◌}
use Rattle.std.proofs.lemmas.Bool.Decides.{nat_tests}
use Rattle.kt_spacetime.specs.declared.event.Event.TheVariants.{Decided}
use Rattle.kt_protocol.proofs.Askers.{permanent_low}
use Rattle.kt_protocol.proofs.Invariant.{Invariant, is_message, Tables, with_row}
use Rattle.kt_protocol.proofs.Weights.{weigh}
use Rattle.kt_protocol.specs.Parcels.{App, Decide, Parcel, Lists, Ask, Reply}
use Rattle.kt_protocol.specs.States.{State, is_ready, opening}
use Rattle.kt_protocol.specs.Messages.{after_holding, after_sending, after_dropping, after_receiving}
use Rattle.kt_protocol.specs.Deciding.{after_decision, after_closing_rollback, after_closing_checkpoint, after_deciding_as}
use Rattle.kt_protocol.specs.Joining.{after_began, after_joining_checkpoint, after_joining_rollback}
use Rattle.kt_protocol.specs.Summary.{is_undone, summary_after, is_unreceived}
use Rattle.kt_protocol.specs.Replies.{after_unwilling, after_replying, after_answering, after_reply, after_noting}
use Rattle.kt_protocol.proofs.RowFacts.{checkpoint_cut_of, HoldsBefore}
use Rattle.kt_protocol.proofs.Beginning.{old}
use Rattle.kt_protocol.proofs.Sending.{first_all_push}
use Rattle.kt_protocol.proofs.Receiving.{Taking, message_facts}
use Rattle.kt_protocol.proofs.Joining.{Joining, Label, RollbackLabel}
use Rattle.kt_protocol.proofs.Deciding.{below, all_await_none}
use Rattle.kt_protocol.proofs.RollingBack.{was_sent, was_got, still_sent, still_got, member_base, saver}
use Rattle.kt_spacetime.specs.declared.event.Event.{Event}
use Rattle.std.specs.Prelude.{◌+◌}

pub tables_opening : (n : ℕ) → Tables (opening n)
tables_opening n = record {
  first_sent_all = λ m a b. absurd (cc);
  first_sent_is = λ p q a. absurd (omega arith);
  last_received_all = λ m a b. absurd (cc);
  last_received_is = λ p q a. absurd (omega arith);
  aside_first_all = λ k m a b c h. absurd (cc);
  aside_first_is = λ k p q a b c h. absurd (omega arith);
  aside_last_all = λ k m a b c h. absurd (cc);
  aside_last_is = λ k p q a b c h. absurd (omega arith);
  separates = λ m h. absurd (cc);
  latest_all = λ m h. absurd (cc);
  latest_low = λ p q. (omega arith, omega arith);
}

pub tables_sending : (s : State) (p q : ℕ) (body : ℤ) → p < s.processes → q < s.processes → s.so_far.open_in p ≡ 0 → Invariant s → Tables (after_sending s p q body)
tables_sending s p q body below below_q o g = record {
  first_sent_all = λ m a b. first_all_push s p q g m _ _ (λ n. grind (arith, nat_tests, g.tables.first_sent_all m)) (λ e. grind (arith, nat_tests)) (grind (arith, nat_tests, g.messages.sent_low m));
  first_sent_is = λ u v a. grind (arith, nat_tests, g.tables.first_sent_is u v, g.messages.sent_low (s.first_sent u v), g.positions.saved_low u);
  last_received_all = λ m a b. grind (arith, nat_tests, g.tables.last_received_all m, g.messages.received_low m, g.messages.sent_low m);
  last_received_is = λ u v a. grind (arith, nat_tests, g.tables.last_received_is u v, g.messages.received_low (s.last_received u v), g.messages.sent_low (s.last_received u v));
  aside_first_all = λ k m x y r b c. grind (arith, nat_tests, g.tables.aside_first_all k m x);
  aside_first_is = λ k u v x y r a. grind (arith, nat_tests, g.tables.aside_first_is k u v x y r a, g.messages.sent_low (s.first_sent_aside u v));
  aside_last_all = λ k m x y r b c d. grind (arith, nat_tests, g.tables.aside_last_all k m x, g.messages.received_low m, g.messages.sent_low m);
  aside_last_is = λ k u v x y r a. grind (arith, nat_tests, g.tables.aside_last_is k u v x y r a, g.messages.received_low (s.last_received_aside u v), g.messages.sent_low (s.last_received_aside u v));
  separates = λ m a. grind (arith, nat_tests, g.tables.separates m, permanent_low s p g, g.tables.latest_low p q);
  latest_all = λ m a. grind (arith, nat_tests, g.tables.latest_all m, g.messages.sent_low m);
  latest_low = λ u v. grind (arith, nat_tests, g.tables.latest_low u v);
}

pub tables_receiving : (s : State) (channel held : Lists) (p q m : ℕ) → is_ready s p ≡ false → Taking s channel held p q m → Invariant s → Tables (after_receiving s channel held p q m)
tables_receiving s channel held p q m y t g =
    let f = message_facts s channel held p q m t g in
    let f0 = f.0 in let f1 = f.1 in let f2 = f.2 in let f3 = f.3 in let f4 = f.4 in
    record {
      first_sent_all = g.tables.first_sent_all;
      first_sent_is = g.tables.first_sent_is;
      last_received_all = λ n a b. grind (arith, nat_tests, g.tables.last_received_all n, f0, f1, f3, f4);
      last_received_is = λ u v a. grind (arith, nat_tests, g.tables.last_received_is u v, f0, f1, f3, f4);
      aside_first_all = g.tables.aside_first_all;
      aside_first_is = g.tables.aside_first_is;
      aside_last_all = λ k n x z r b c d. grind (arith, nat_tests, g.tables.aside_last_all k n x z r, g.positions.saved_low p, f4);
      aside_last_is = λ k u v x z r a. grind (arith, nat_tests, g.tables.aside_last_is k u v x z r a);
      separates = g.tables.separates;
      latest_all = g.tables.latest_all;
      latest_low = λ u v. grind (arith, g.tables.latest_low u v);
    }

pub tables_dropping : (s : State) (channel held : Lists) (p q m : ℕ) → is_ready s p ≡ false → Taking s channel held p q m → Invariant s → Tables (after_dropping s channel held p q m)
tables_dropping s channel held p q m y t g = record {
  first_sent_all = g.tables.first_sent_all;
  first_sent_is = g.tables.first_sent_is;
  last_received_all = g.tables.last_received_all;
  last_received_is = g.tables.last_received_is;
  aside_first_all = g.tables.aside_first_all;
  aside_first_is = g.tables.aside_first_is;
  aside_last_all = g.tables.aside_last_all;
  aside_last_is = g.tables.aside_last_is;
  separates = g.tables.separates;
  latest_all = g.tables.latest_all;
  latest_low = λ u v. grind (arith, g.tables.latest_low u v);
}

pub tables_holding : (s : State) (p q m : ℕ) (rest : List Parcel) → s.channel q p ≡ App m ∷ rest → Invariant s → Tables (after_holding s p q m rest)
tables_holding s p q m rest e g = record {
  first_sent_all = g.tables.first_sent_all;
  first_sent_is = g.tables.first_sent_is;
  last_received_all = g.tables.last_received_all;
  last_received_is = g.tables.last_received_is;
  aside_first_all = g.tables.aside_first_all;
  aside_first_is = g.tables.aside_first_is;
  aside_last_all = g.tables.aside_last_all;
  aside_last_is = g.tables.aside_last_is;
  separates = g.tables.separates;
  latest_all = g.tables.latest_all;
  latest_low = g.tables.latest_low;
}

pub tables_row : (s : State) (row : Event) (up : ℕ → Bool) → summary_after s.so_far row ≡ record s.so_far { rows = s.so_far.rows + 1 } → HoldsBefore s.so_far row → Invariant s → Tables (with_row s row up)
tables_row s row up e holds g = record {
  first_sent_all = g.tables.first_sent_all;
  first_sent_is = g.tables.first_sent_is;
  last_received_all = g.tables.last_received_all;
  last_received_is = g.tables.last_received_is;
  aside_first_all = g.tables.aside_first_all;
  aside_first_is = g.tables.aside_first_is;
  aside_last_all = g.tables.aside_last_all;
  aside_last_is = g.tables.aside_last_is;
  separates = g.tables.separates;
  latest_all = g.tables.latest_all;
  latest_low = λ u v. grind (arith, g.tables.latest_low u v);
}

pub tables_began : (s : State) (p : ℕ) (roll : Bool) → Invariant s → Tables (after_began s p roll)
tables_began s p roll g = record {
  first_sent_all = g.tables.first_sent_all;
  first_sent_is = g.tables.first_sent_is;
  last_received_all = g.tables.last_received_all;
  last_received_is = g.tables.last_received_is;
  aside_first_all = λ k m y o r. g.tables.aside_first_all k m y o (sym (old s roll k ((g.positions.joined_instance k (s.so_far.from m) (g.positions.open_joined k (s.so_far.from m) y o)).1)) ∙ r);
  aside_first_is = λ k u v y o r. g.tables.aside_first_is k u v y o (sym (old s roll k ((g.positions.joined_instance k u (g.positions.open_joined k u y o)).1)) ∙ r);
  aside_last_all = λ k m y o r. g.tables.aside_last_all k m y o (sym (old s roll k ((g.positions.joined_instance k (s.so_far.to m) (g.positions.open_joined k (s.so_far.to m) y o)).1)) ∙ r);
  aside_last_is = λ k u v y o r. g.tables.aside_last_is k u v y o (sym (old s roll k ((g.positions.joined_instance k u (g.positions.open_joined k u y o)).1)) ∙ r);
  separates = g.tables.separates;
  latest_all = g.tables.latest_all;
  latest_low = λ u v. grind (arith, g.tables.latest_low u v);
}

pub tables_joining_checkpoint : (s : State) (channel : Lists) (p k : ℕ) (is_first : Bool) (par lnk lbl : ℕ) → Joining s channel p k is_first par lnk lbl false → Label s p k is_first par lnk → Invariant s → Tables (after_joining_checkpoint s channel p k is_first par lnk)
tables_joining_checkpoint s channel p k is_first par lnk lbl j lab g = record {
  first_sent_all = λ m a b. grind (arith, nat_tests, g.tables.first_sent_all m a, g.messages.sent_low m a);
  first_sent_is = λ u v a. grind (arith, nat_tests, g.tables.first_sent_is u v);
  last_received_all = λ m a b. grind (arith, nat_tests, g.tables.last_received_all m a, g.messages.received_low m a);
  last_received_is = λ u v a. grind (arith, nat_tests, g.tables.last_received_is u v);
  aside_first_all = λ i m x y r b c. grind (arith, nat_tests, g.tables.aside_first_all i m x, g.tables.first_sent_all m b, g.positions.closed_permanent p j.closed);
  aside_first_is = λ i u v x y r b. grind (arith, nat_tests, g.tables.aside_first_is i u v x, g.tables.first_sent_is p v, g.positions.closed_permanent p j.closed);
  aside_last_all = λ i m x y r b c d. grind (arith, nat_tests, g.tables.aside_last_all i m x, g.tables.last_received_all m b, g.positions.closed_permanent p j.closed);
  aside_last_is = λ i u v x y r b. grind (arith, nat_tests, g.tables.aside_last_is i u v x, g.tables.last_received_is p v);
  separates = g.tables.separates;
  latest_all = g.tables.latest_all;
  latest_low = λ u v. grind (arith, g.tables.latest_low u v);
}

pub tables_joining_rollback : (s : State) (channel : Lists) (p k : ℕ) (is_first : Bool) (par lnk lbl : ℕ) → Joining s channel p k is_first par lnk lbl true → RollbackLabel s p k is_first par lnk → Invariant s → Tables (after_joining_rollback s channel p k is_first par lnk)
tables_joining_rollback s channel p k is_first par lnk lbl j lab g = record {
  first_sent_all = g.tables.first_sent_all;
  first_sent_is = g.tables.first_sent_is;
  last_received_all = g.tables.last_received_all;
  last_received_is = g.tables.last_received_is;
  aside_first_all = λ i m x y r b c. grind (arith, nat_tests, g.tables.aside_first_all i m x, j.kind);
  aside_first_is = λ i u v x y r b. grind (arith, nat_tests, g.tables.aside_first_is i u v x, j.kind);
  aside_last_all = λ i m x y r b c d. grind (arith, nat_tests, g.tables.aside_last_all i m x, j.kind);
  aside_last_is = λ i u v x y r b. grind (arith, nat_tests, g.tables.aside_last_is i u v x, j.kind);
  separates = g.tables.separates;
  latest_all = g.tables.latest_all;
  latest_low = λ u v. grind (arith, g.tables.latest_low u v);
}

pub tables_noting : (s : State) (p q k l : ℕ) → s.so_far.joined k q ≡ true → (s.so_far.is_rollback k ≡ true → l ≡ s.last_sent q p) → Invariant s → Tables (after_noting s p q k l)
tables_noting s p q k l j e g = record {
  first_sent_all = g.tables.first_sent_all;
  first_sent_is = g.tables.first_sent_is;
  last_received_all = g.tables.last_received_all;
  last_received_is = g.tables.last_received_is;
  aside_first_all = g.tables.aside_first_all;
  aside_first_is = g.tables.aside_first_is;
  aside_last_all = g.tables.aside_last_all;
  aside_last_is = g.tables.aside_last_is;
  separates = g.tables.separates;
  latest_all = g.tables.latest_all;
  latest_low = g.tables.latest_low;
}

pub tables_replying : (s : State) (p q k l : ℕ) (rest : List Parcel) → s.channel q p ≡ Ask k l ∷ rest → Invariant s →
    (s.so_far.is_rollback k ≡ false → (m : ℕ) → s.so_far.from m ≡ p → s.so_far.to m ≡ q → s.so_far.is_received m ≡ true → m ≤ l → s.so_far.sent_at m < checkpoint_cut_of s.so_far k p) →
    (s.so_far.is_rollback k ≡ true → (n : ℕ) → s.so_far.from n ≡ q → s.so_far.to n ≡ p → s.so_far.is_sent n ≡ true → s.so_far.permanent q ≤ s.so_far.sent_at n → ((s.so_far.joined k p ≡ true) × (s.noted k p q ≡ true)) ⊎ ((s.so_far.is_received n ≡ false) × (weigh (is_message n) (s.held q p) ≡ 0))) →
    Tables (after_replying s p q k true rest)
tables_replying s p q k l rest e g safe safe_rollback = record {
  first_sent_all = g.tables.first_sent_all;
  first_sent_is = g.tables.first_sent_is;
  last_received_all = g.tables.last_received_all;
  last_received_is = g.tables.last_received_is;
  aside_first_all = g.tables.aside_first_all;
  aside_first_is = g.tables.aside_first_is;
  aside_last_all = g.tables.aside_last_all;
  aside_last_is = g.tables.aside_last_is;
  separates = g.tables.separates;
  latest_all = g.tables.latest_all;
  latest_low = g.tables.latest_low;
}

pub tables_unwilling : (s : State) (p q k l : ℕ) (cause : Cause) (rest : List Parcel) → s.channel q p ≡ Ask k l ∷ rest → Invariant s → Tables (after_unwilling s p q k cause rest)
tables_unwilling s p q k l cause rest e g = record {
  first_sent_all = g.tables.first_sent_all;
  first_sent_is = g.tables.first_sent_is;
  last_received_all = g.tables.last_received_all;
  last_received_is = g.tables.last_received_is;
  aside_first_all = g.tables.aside_first_all;
  aside_first_is = g.tables.aside_first_is;
  aside_last_all = g.tables.aside_last_all;
  aside_last_is = g.tables.aside_last_is;
  separates = g.tables.separates;
  latest_all = g.tables.latest_all;
  latest_low = λ u v. grind (arith, g.tables.latest_low u v);
}

pub tables_reply : (s : State) (p q k : ℕ) (w : Bool) (rest : List Parcel) → s.channel q p ≡ Reply k w ∷ rest → Invariant s → Tables (after_reply s p q k w rest)
tables_reply s p q k w rest e g = record {
  first_sent_all = g.tables.first_sent_all;
  first_sent_is = g.tables.first_sent_is;
  last_received_all = g.tables.last_received_all;
  last_received_is = g.tables.last_received_is;
  aside_first_all = g.tables.aside_first_all;
  aside_first_is = g.tables.aside_first_is;
  aside_last_all = g.tables.aside_last_all;
  aside_last_is = g.tables.aside_last_is;
  separates = g.tables.separates;
  latest_all = g.tables.latest_all;
  latest_low = g.tables.latest_low;
}

pub tables_answering : (s : State) (p k : ℕ) → s.so_far.joined k p ≡ true → s.has_answered k p ≡ false → ((v : ℕ) → s.awaits k p v ≡ false) → Invariant s → Tables (after_answering s p k)
tables_answering s p k j0 a0 quiet g = record {
  first_sent_all = g.tables.first_sent_all;
  first_sent_is = g.tables.first_sent_is;
  last_received_all = g.tables.last_received_all;
  last_received_is = g.tables.last_received_is;
  aside_first_all = g.tables.aside_first_all;
  aside_first_is = g.tables.aside_first_is;
  aside_last_all = g.tables.aside_last_all;
  aside_last_is = g.tables.aside_last_is;
  separates = g.tables.separates;
  latest_all = g.tables.latest_all;
  latest_low = g.tables.latest_low;
}

pub tables_aborting : (s : State) (p k : ℕ) → Invariant s → s.so_far.joined k p ≡ true → p ≡ s.initiator k → s.so_far.is_decided k ≡ false → s.so_far.has_unwilling k ≡ true → ((u v : ℕ) → s.awaits k u v ≡ false) → Tables (record s { log = s.log ++ Decided p k false ∷ []; so_far = summary_after s.so_far (Decided p k false) })
tables_aborting s p k g j0 i d w all_await_none = record {
  first_sent_all = g.tables.first_sent_all;
  first_sent_is = g.tables.first_sent_is;
  last_received_all = g.tables.last_received_all;
  last_received_is = g.tables.last_received_is;
  aside_first_all = g.tables.aside_first_all;
  aside_first_is = g.tables.aside_first_is;
  aside_last_all = g.tables.aside_last_all;
  aside_last_is = g.tables.aside_last_is;
  separates = g.tables.separates;
  latest_all = g.tables.latest_all;
  latest_low = λ u v. grind (arith, g.tables.latest_low u v);
}

pub tables_committing_checkpoint : (s : State) (p k : ℕ) → Invariant s → s.so_far.is_rollback k ≡ false → s.so_far.joined k p ≡ true → p ≡ s.initiator k → s.so_far.is_decided k ≡ false → s.so_far.has_unwilling k ≡ false → ((u v : ℕ) → s.awaits k u v ≡ false) → Tables (after_deciding_as true false s p k)
tables_committing_checkpoint s p k g r j0 i d w all_await_none =
    let in0 = g.positions.joined_instance k p j0 in
    record {
      first_sent_all = g.tables.first_sent_all;
      first_sent_is = g.tables.first_sent_is;
      last_received_all = g.tables.last_received_all;
      last_received_is = g.tables.last_received_is;
      aside_first_all = g.tables.aside_first_all;
      aside_first_is = g.tables.aside_first_is;
      aside_last_all = g.tables.aside_last_all;
      aside_last_is = g.tables.aside_last_is;
      separates = λ m a. grind (arith, nat_tests, g.tables.separates m a, g.tables.latest_all m a, g.positions.member_open k (s.so_far.from m), g.positions.open_sends k m in0.0, g.positions.open_saved k (s.so_far.from m) in0.0);
      latest_all = g.tables.latest_all;
      latest_low = λ u v. grind (arith, nat_tests, g.tables.latest_low u v);
    }

pub tables_committing_rollback : (s : State) (p k : ℕ) → Invariant s → s.so_far.is_rollback k ≡ true → s.so_far.joined k p ≡ true → p ≡ s.initiator k → s.so_far.is_decided k ≡ false → s.so_far.has_unwilling k ≡ false → ((u v : ℕ) → s.awaits k u v ≡ false) → Tables (after_deciding_as true true s p k)
tables_committing_rollback s p k g r j0 i d w all_await_none = record {
  first_sent_all = λ m a b. let x = was_sent s k g d r w all_await_none m a in let x1 = x.1 in let y = g.tables.first_sent_all m x.0 b in let z = member_base s k g d r w all_await_none (s.so_far.from m) in grind (arith, nat_tests, x1, y, z, b);
  first_sent_is = λ u v a. first_is_after u v a;
  last_received_all = λ m a b. let x = was_got s k g d r w all_await_none m a in let x1 = x.1 in let y = g.tables.last_received_all m x.0 b in let z = member_base s k g d r w all_await_none (s.so_far.to m) in grind (arith, nat_tests, x1, y, z, b);
  last_received_is = λ u v a. last_is_after u v a;
  aside_first_all = λ j m a b c h. g.tables.aside_first_all j m a b c (was_sent s k g d r w all_await_none m h).0;
  aside_first_is = λ j u v a b c h. let x = g.tables.aside_first_is j u v a b c h in let y = saver s k g d r w all_await_none j u b c in (still_sent s k g d r w all_await_none (s.first_sent_aside u v) x.0 (rw x.1 y), x.1, x.2, x.3);
  aside_last_all = λ j m a b c h. g.tables.aside_last_all j m a b c (was_got s k g d r w all_await_none m h).0;
  aside_last_is = λ j u v a b c h. let x = g.tables.aside_last_is j u v a b c h in let y = saver s k g d r w all_await_none j u b c in (still_got s k g d r w all_await_none (s.last_received_aside u v) x.0 (rw x.2 y), x.1, x.2);
  separates = λ m a. g.tables.separates m (was_sent s k g d r w all_await_none m a).0;
  latest_all = λ m a. g.tables.latest_all m (was_sent s k g d r w all_await_none m a).0;
  latest_low = λ u v. grind (arith, g.tables.latest_low u v);
}
  where
    first_is_after : (u v : ℕ) → 0 < (if s.so_far.joined k u then 0 else s.first_sent u v) → ((s.so_far.is_sent (if s.so_far.joined k u then 0 else s.first_sent u v) && not (is_undone s.so_far k (if s.so_far.joined k u then 0 else s.first_sent u v))) ≡ true) × (s.so_far.from (if s.so_far.joined k u then 0 else s.first_sent u v) ≡ u) × (s.so_far.to (if s.so_far.joined k u then 0 else s.first_sent u v) ≡ v) × (s.saved_at u ≤ s.so_far.sent_at (if s.so_far.joined k u then 0 else s.first_sent u v))
    first_is_after u v = at_test (s.so_far.joined k u) refl
      where
        at_test : (b : Bool) → s.so_far.joined k u ≡ b → 0 < (if b then 0 else s.first_sent u v) → ((s.so_far.is_sent (if b then 0 else s.first_sent u v) && not (is_undone s.so_far k (if b then 0 else s.first_sent u v))) ≡ true) × (s.so_far.from (if b then 0 else s.first_sent u v) ≡ u) × (s.so_far.to (if b then 0 else s.first_sent u v) ≡ v) × (s.saved_at u ≤ s.so_far.sent_at (if b then 0 else s.first_sent u v))
        at_test true e a = absurd (omega (arith, a))
        at_test false e a = let x = g.tables.first_sent_is u v a in (still_sent s k g d r w all_await_none (s.first_sent u v) x.0 (rw x.1 e), x.1, x.2, x.3)

    last_is_after : (u v : ℕ) → 0 < (if s.so_far.joined k u then 0 else s.last_received u v) → ((s.so_far.is_received (if s.so_far.joined k u then 0 else s.last_received u v) && not (is_unreceived s.so_far k (if s.so_far.joined k u then 0 else s.last_received u v))) ≡ true) × (s.so_far.from (if s.so_far.joined k u then 0 else s.last_received u v) ≡ v) × (s.so_far.to (if s.so_far.joined k u then 0 else s.last_received u v) ≡ u)
    last_is_after u v = at_test (s.so_far.joined k u) refl
      where
        at_test : (b : Bool) → s.so_far.joined k u ≡ b → 0 < (if b then 0 else s.last_received u v) → ((s.so_far.is_received (if b then 0 else s.last_received u v) && not (is_unreceived s.so_far k (if b then 0 else s.last_received u v))) ≡ true) × (s.so_far.from (if b then 0 else s.last_received u v) ≡ v) × (s.so_far.to (if b then 0 else s.last_received u v) ≡ u)
        at_test true e a = absurd (omega (arith, a))
        at_test false e a = let x = g.tables.last_received_is u v a in (still_got s k g d r w all_await_none (s.last_received u v) x.0 (rw x.2 e), x.1, x.2)

pub tables_closing_checkpoint : (s : State) (p k : ℕ) (c : Bool) → s.so_far.is_rollback k ≡ false → 0 < k → s.so_far.open_in p ≡ k → s.so_far.is_decided k ≡ true → s.so_far.is_committed k ≡ c → Invariant s → Tables (after_closing_checkpoint s p k c)
tables_closing_checkpoint s p k true r pos o d i g = record {
  first_sent_all = g.tables.first_sent_all;
  first_sent_is = g.tables.first_sent_is;
  last_received_all = g.tables.last_received_all;
  last_received_is = g.tables.last_received_is;
  aside_first_all = λ j m a b r' x y. grind (arith, nat_tests, g.tables.aside_first_all j m a);
  aside_first_is = λ j u v a b r' x. grind (arith, nat_tests, g.tables.aside_first_is j u v a);
  aside_last_all = λ j m a b r' x y z. grind (arith, nat_tests, g.tables.aside_last_all j m a);
  aside_last_is = λ j u v a b r' x. grind (arith, nat_tests, g.tables.aside_last_is j u v a);
  separates = g.tables.separates;
  latest_all = g.tables.latest_all;
  latest_low = λ u v. grind (arith, g.tables.latest_low u v);
}
tables_closing_checkpoint s p k false r pos o d i g = record {
  first_sent_all = λ m a b. grind (arith, nat_tests, g.tables.first_sent_all m, g.tables.aside_first_all k m pos);
  first_sent_is = λ u v a. grind (arith, nat_tests, g.tables.first_sent_is u v, g.tables.aside_first_is k u v pos);
  last_received_all = λ m a b. grind (arith, nat_tests, g.tables.last_received_all m, g.tables.aside_last_all k m pos);
  last_received_is = λ u v a. grind (arith, nat_tests, g.tables.last_received_is u v, g.tables.aside_last_is k u v pos);
  aside_first_all = λ j m a b r' x y. grind (arith, nat_tests, g.tables.aside_first_all j m a);
  aside_first_is = λ j u v a b r' x. grind (arith, nat_tests, g.tables.aside_first_is j u v a);
  aside_last_all = λ j m a b r' x y z. grind (arith, nat_tests, g.tables.aside_last_all j m a);
  aside_last_is = λ j u v a b r' x. grind (arith, nat_tests, g.tables.aside_last_is j u v a);
  separates = g.tables.separates;
  latest_all = g.tables.latest_all;
  latest_low = λ u v. grind (arith, g.tables.latest_low u v);
}

pub tables_closing_rollback : (s : State) (p k : ℕ) (c : Bool) → s.so_far.is_rollback k ≡ true → 0 < k → s.so_far.open_in p ≡ k → s.so_far.is_decided k ≡ true → s.so_far.is_committed k ≡ c → Invariant s → Tables (after_closing_rollback s p k c)
tables_closing_rollback s p k c r pos o d i g = record {
  first_sent_all = g.tables.first_sent_all;
  first_sent_is = g.tables.first_sent_is;
  last_received_all = g.tables.last_received_all;
  last_received_is = g.tables.last_received_is;
  aside_first_all = λ j m a b r' x y. grind (arith, nat_tests, g.tables.aside_first_all j m a);
  aside_first_is = λ j u v a b r' x. grind (arith, nat_tests, g.tables.aside_first_is j u v a);
  aside_last_all = λ j m a b r' x y z. grind (arith, nat_tests, g.tables.aside_last_all j m a);
  aside_last_is = λ j u v a b r' x. grind (arith, nat_tests, g.tables.aside_last_is j u v a);
  separates = g.tables.separates;
  latest_all = g.tables.latest_all;
  latest_low = λ u v. grind (arith, g.tables.latest_low u v);
}

pub tables_decision : (s : State) (p q k : ℕ) (c : Bool) (rest : List Parcel) → s.channel q p ≡ Decide k c ∷ rest → Invariant s → Tables (after_decision s p q rest)
tables_decision s p q k c rest e g = record {
  first_sent_all = g.tables.first_sent_all;
  first_sent_is = g.tables.first_sent_is;
  last_received_all = g.tables.last_received_all;
  last_received_is = g.tables.last_received_is;
  aside_first_all = g.tables.aside_first_all;
  aside_first_is = g.tables.aside_first_is;
  aside_last_all = g.tables.aside_last_all;
  aside_last_is = g.tables.aside_last_is;
  separates = g.tables.separates;
  latest_all = g.tables.latest_all;
  latest_low = g.tables.latest_low;
}
