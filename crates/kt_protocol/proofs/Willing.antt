-- Where a process was unwilling, and who knows: kept by each transition.
use Rattle.kt_base.specs.declared.words.Cause.{Cause}
use Rattle.std.proofs.Common.{◌≡◌, ℕ, ◌+◌, ◌≤◌, Bool, true, false, List, [], ◌∷◌, ◌++◌, refl, arith, inl, inr, ◌<◌, ◌⊎◌}
use Rattle.std.specs.Prelude.{ℤ}
use Rattle.std.proofs.lemmas.Bool.Decides.{nat_tests}
use Rattle.kt_spacetime.specs.declared.event.Event.TheVariants.{Decided}
use Rattle.kt_protocol.proofs.Askers.{outside}
use Rattle.kt_protocol.proofs.Invariant.{Invariant, is_message, is_unwilling_reply, Willing, with_row}
use Rattle.kt_protocol.proofs.Weights.{weigh, weigh_with_rest, weigh_with_parcel, weigh_swapped, weigh_decisions, weigh_nil}
use Rattle.kt_protocol.specs.Parcels.{App, Decide, Parcel, Lists, Ask, Reply}
use Rattle.kt_protocol.specs.States.{State, is_ready, opening}
use Rattle.kt_protocol.specs.Messages.{after_holding, after_sending, after_dropping, after_receiving}
use Rattle.kt_protocol.specs.Deciding.{after_decision, after_closing_rollback, after_closing_checkpoint, after_deciding_as}
use Rattle.kt_protocol.specs.Joining.{after_began, after_joining_checkpoint, after_joining_rollback}
use Rattle.kt_protocol.specs.Summary.{summary_after}
use Rattle.std.proofs.lemmas.Bool.{cases_eq}
use Rattle.kt_protocol.specs.Replies.{after_unwilling, after_replying, after_answering, after_reply, after_noting}
use Rattle.kt_protocol.proofs.RowFacts.{checkpoint_cut_of, HoldsBefore}
use Rattle.kt_protocol.proofs.Receiving.{Taking}
use Rattle.kt_protocol.proofs.Replying.{unwilling_before}
use Rattle.kt_protocol.proofs.Answering.{unwilling_member_taken, somewhere_taken, answers_somewhere}
use Rattle.kt_protocol.proofs.JoiningCheckpoints.{same_weight}
use Rattle.kt_protocol.proofs.Joining.{Joining, Label, RollbackLabel}
use Rattle.kt_protocol.proofs.JoiningRollbacks.{same_weight_rollback}
use Rattle.kt_protocol.proofs.Deciding.{undecided_before, below, all_await_none}
use Rattle.kt_spacetime.specs.declared.event.Event.{Event}

pub willing_opening : (n : ℕ) → Willing (opening n)
willing_opening n = record {
  unwilling_reply = λ k p q a. absurd (omega (arith, weigh_nil (is_unwilling_reply k)));
  unwilling_member = λ k p a. absurd (cc);
  somewhere = λ k a b. absurd (cc);
}

pub willing_sending : (s : State) (p q : ℕ) (body : ℤ) → p < s.processes → q < s.processes → s.so_far.open_in p ≡ 0 → Invariant s → Willing (after_sending s p q body)
willing_sending s p q body below below_q o g = record {
  unwilling_reply = λ k u v a. grind (arith, nat_tests, weigh_with_parcel (is_unwilling_reply k) s.channel p q (App (s.so_far.rows + 1)) u v, g.willing.unwilling_reply k u v);
  unwilling_member = g.willing.unwilling_member;
  somewhere = λ k a b. let z = g.willing.somewhere k a b in (z.0, z.1, grind (arith, nat_tests, weigh_with_parcel (is_unwilling_reply k) s.channel p q (App (s.so_far.rows + 1)) z.0 z.1, z.2));
}

pub willing_receiving : (s : State) (channel held : Lists) (p q m : ℕ) → is_ready s p ≡ false → Taking s channel held p q m → Invariant s → Willing (after_receiving s channel held p q m)
willing_receiving s channel held p q m y t g = record {
  unwilling_reply = λ k u v a. g.willing.unwilling_reply k u v (rw (t.others (is_unwilling_reply k) (λ n. refl) u v) at a);
  unwilling_member = g.willing.unwilling_member;
  somewhere = λ k a b. let z = g.willing.somewhere k a b in (z.0, z.1, rw (t.others (is_unwilling_reply k) (λ n. refl) z.0 z.1) z.2);
}

pub willing_dropping : (s : State) (channel held : Lists) (p q m : ℕ) → is_ready s p ≡ false → Taking s channel held p q m → Invariant s → Willing (after_dropping s channel held p q m)
willing_dropping s channel held p q m y t g = record {
  unwilling_reply = λ k u v a. g.willing.unwilling_reply k u v (rw (t.others (is_unwilling_reply k) (λ n. refl) u v) at a);
  unwilling_member = g.willing.unwilling_member;
  somewhere = λ k a b. let z = g.willing.somewhere k a b in (z.0, z.1, rw (t.others (is_unwilling_reply k) (λ n. refl) z.0 z.1) z.2);
}

pub willing_holding : (s : State) (p q m : ℕ) (rest : List Parcel) → s.channel q p ≡ App m ∷ rest → Invariant s → Willing (after_holding s p q m rest)
willing_holding s p q m rest e g = record {
  unwilling_reply = λ i u v a. grind (arith, nat_tests, weigh_with_rest (is_unwilling_reply i) s.channel q p (App m) rest e u v, g.willing.unwilling_reply i u v);
  unwilling_member = g.willing.unwilling_member;
  somewhere = λ i a b. let z = g.willing.somewhere i a b in (z.0, z.1, grind (arith, nat_tests, weigh_with_rest (is_unwilling_reply i) s.channel q p (App m) rest e z.0 z.1, z.2));
}

pub willing_row : (s : State) (row : Event) (up : ℕ → Bool) → summary_after s.so_far row ≡ record s.so_far { rows = s.so_far.rows + 1 } → HoldsBefore s.so_far row → Invariant s → Willing (with_row s row up)
willing_row s row up e holds g = record {
  unwilling_reply = g.willing.unwilling_reply;
  unwilling_member = g.willing.unwilling_member;
  somewhere = g.willing.somewhere;
}

pub willing_began : (s : State) (p : ℕ) (roll : Bool) → Invariant s → Willing (after_began s p roll)
willing_began s p roll g = record {
  unwilling_reply = g.willing.unwilling_reply;
  unwilling_member = g.willing.unwilling_member;
  somewhere = λ k a b. let z = g.willing.somewhere k a b in (z.0, z.1, grind (arith, nat_tests, z.2, g.positions.joined_instance k z.0));
}

pub willing_joining_checkpoint : (s : State) (channel : Lists) (p k : ℕ) (is_first : Bool) (par lnk lbl : ℕ) → Joining s channel p k is_first par lnk lbl false → Label s p k is_first par lnk → Invariant s → Willing (after_joining_checkpoint s channel p k is_first par lnk)
willing_joining_checkpoint s channel p k is_first par lnk lbl j lab g =
    let out = outside s k p g j.closed j.positive j.undecided in
    record {
      unwilling_reply = λ i u v a. g.willing.unwilling_reply i u v (rw (same_weight s channel p k is_first par lnk lbl false j (is_unwilling_reply i) (λ b. refl) u v) at a);
      unwilling_member = λ i u a. grind (arith, nat_tests, g.willing.unwilling_member i u);
      somewhere = λ i a b. let z = g.willing.somewhere i a b in (z.0, z.1, rw (same_weight s channel p k is_first par lnk lbl false j (is_unwilling_reply i) (λ b. refl) z.0 z.1) (grind (arith, nat_tests, z.2, out)));
    }

pub willing_joining_rollback : (s : State) (channel : Lists) (p k : ℕ) (is_first : Bool) (par lnk lbl : ℕ) → Joining s channel p k is_first par lnk lbl true → RollbackLabel s p k is_first par lnk → Invariant s → Willing (after_joining_rollback s channel p k is_first par lnk)
willing_joining_rollback s channel p k is_first par lnk lbl j lab g =
    let out = outside s k p g j.closed j.positive j.undecided in
    record {
      unwilling_reply = λ i u v a. g.willing.unwilling_reply i u v (rw (same_weight_rollback s channel p k is_first par lnk lbl true j (is_unwilling_reply i) (λ b. refl) u v) at a);
      unwilling_member = λ i u a. grind (arith, nat_tests, g.willing.unwilling_member i u);
      somewhere = λ i a b. let z = g.willing.somewhere i a b in (z.0, z.1, rw (same_weight_rollback s channel p k is_first par lnk lbl true j (is_unwilling_reply i) (λ b. refl) z.0 z.1) (grind (arith, nat_tests, z.2, out)));
    }

pub willing_noting : (s : State) (p q k l : ℕ) → s.so_far.joined k q ≡ true → (s.so_far.is_rollback k ≡ true → l ≡ s.last_sent q p) → Invariant s → Willing (after_noting s p q k l)
willing_noting s p q k l j e g = record {
  unwilling_reply = g.willing.unwilling_reply;
  unwilling_member = g.willing.unwilling_member;
  somewhere = g.willing.somewhere;
}

pub willing_replying : (s : State) (p q k l : ℕ) (rest : List Parcel) → s.channel q p ≡ Ask k l ∷ rest → Invariant s →
    (s.so_far.is_rollback k ≡ false → (m : ℕ) → s.so_far.from m ≡ p → s.so_far.to m ≡ q → s.so_far.is_received m ≡ true → m ≤ l → s.so_far.sent_at m < checkpoint_cut_of s.so_far k p) →
    (s.so_far.is_rollback k ≡ true → (n : ℕ) → s.so_far.from n ≡ q → s.so_far.to n ≡ p → s.so_far.is_sent n ≡ true → s.so_far.permanent q ≤ s.so_far.sent_at n → ((s.so_far.joined k p ≡ true) × (s.noted k p q ≡ true)) ⊎ ((s.so_far.is_received n ≡ false) × (weigh (is_message n) (s.held q p) ≡ 0))) →
    Willing (after_replying s p q k true rest)
willing_replying s p q k l rest e g safe safe_rollback = record {
  unwilling_reply = λ i u v a. grind (arith, nat_tests, weigh_swapped (is_unwilling_reply i) s.channel q p (Ask k l) (Reply k true) rest e u v, g.willing.unwilling_reply i u v);
  unwilling_member = g.willing.unwilling_member;
  somewhere = λ i a b. let z = g.willing.somewhere i a b in (z.0, z.1, grind (arith, nat_tests, weigh_swapped (is_unwilling_reply i) s.channel q p (Ask k l) (Reply k true) rest e z.0 z.1, z.2));
}

pub willing_unwilling : (s : State) (p q k l : ℕ) (cause : Cause) (rest : List Parcel) → s.channel q p ≡ Ask k l ∷ rest → Invariant s → Willing (after_unwilling s p q k cause rest)
willing_unwilling s p q k l cause rest e g = record {
  unwilling_reply = λ i u v a. grind (arith, nat_tests, weigh_swapped (is_unwilling_reply i) s.channel q p (Ask k l) (Reply k false) rest e u v, g.willing.unwilling_reply i u v);
  unwilling_member = λ j u a. grind (arith, nat_tests, g.willing.unwilling_member j u);
  somewhere = λ j a b. elim (cases_eq j k) [ inl c ↦ (p, q, grind (arith, nat_tests, weigh_swapped (is_unwilling_reply j) s.channel q p (Ask k l) (Reply k false) rest e p q)) | inr n ↦ unwilling_before s p q k l rest e g j n a b ];
}

pub willing_reply : (s : State) (p q k : ℕ) (w : Bool) (rest : List Parcel) → s.channel q p ≡ Reply k w ∷ rest → Invariant s → Willing (after_reply s p q k w rest)
willing_reply s p q k w rest e g = record {
  unwilling_reply = λ i u v a. grind (arith, nat_tests, weigh_with_rest (is_unwilling_reply i) s.channel q p (Reply k w) rest e u v, g.willing.unwilling_reply i u v);
  unwilling_member = unwilling_member_taken s q p k w rest e g;
  somewhere = somewhere_taken s q p k w rest e g;
}

pub willing_answering : (s : State) (p k : ℕ) → s.so_far.joined k p ≡ true → s.has_answered k p ≡ false → ((v : ℕ) → s.awaits k p v ≡ false) → Invariant s → Willing (after_answering s p k)
willing_answering s p k j0 a0 quiet g = record {
  unwilling_reply = λ j u v a. grind (arith, nat_tests, weigh_with_parcel (is_unwilling_reply j) s.channel p (s.parent k p) (Reply k (s.all_willing k p)) u v, g.willing.unwilling_reply j u v, g.willing.unwilling_member k p);
  unwilling_member = g.willing.unwilling_member;
  somewhere = λ j a b. answers_somewhere s p k g j a b (s.all_willing k p) refl;
}

pub willing_aborting : (s : State) (p k : ℕ) → Invariant s → s.so_far.joined k p ≡ true → p ≡ s.initiator k → s.so_far.is_decided k ≡ false → s.so_far.has_unwilling k ≡ true → ((u v : ℕ) → s.awaits k u v ≡ false) → Willing (record s { log = s.log ++ Decided p k false ∷ []; so_far = summary_after s.so_far (Decided p k false) })
willing_aborting s p k g j0 i d w all_await_none = record {
  unwilling_reply = g.willing.unwilling_reply;
  unwilling_member = g.willing.unwilling_member;
  somewhere = λ j a b. g.willing.somewhere j a (undecided_before s k j b).0;
}

pub willing_committing_checkpoint : (s : State) (p k : ℕ) → Invariant s → s.so_far.is_rollback k ≡ false → s.so_far.joined k p ≡ true → p ≡ s.initiator k → s.so_far.is_decided k ≡ false → s.so_far.has_unwilling k ≡ false → ((u v : ℕ) → s.awaits k u v ≡ false) → Willing (after_deciding_as true false s p k)
willing_committing_checkpoint s p k g r j0 i d w all_await_none = record {
  unwilling_reply = g.willing.unwilling_reply;
  unwilling_member = g.willing.unwilling_member;
  somewhere = λ j a b. g.willing.somewhere j a (undecided_before s k j b).0;
}

pub willing_committing_rollback : (s : State) (p k : ℕ) → Invariant s → s.so_far.is_rollback k ≡ true → s.so_far.joined k p ≡ true → p ≡ s.initiator k → s.so_far.is_decided k ≡ false → s.so_far.has_unwilling k ≡ false → ((u v : ℕ) → s.awaits k u v ≡ false) → Willing (after_deciding_as true true s p k)
willing_committing_rollback s p k g r j0 i d w all_await_none = record {
  unwilling_reply = g.willing.unwilling_reply;
  unwilling_member = g.willing.unwilling_member;
  somewhere = λ j a b. g.willing.somewhere j a (undecided_before s k j b).0;
}

pub willing_closing_checkpoint : (s : State) (p k : ℕ) (c : Bool) → s.so_far.is_rollback k ≡ false → 0 < k → s.so_far.open_in p ≡ k → s.so_far.is_decided k ≡ true → s.so_far.is_committed k ≡ c → Invariant s → Willing (after_closing_checkpoint s p k c)
willing_closing_checkpoint s p k true r pos o d i g = record {
  unwilling_reply = λ i u v a. grind (arith, nat_tests, weigh_decisions (is_unwilling_reply i) s.channel s.asked p k true u v, g.willing.unwilling_reply i u v);
  unwilling_member = g.willing.unwilling_member;
  somewhere = λ i a b. let z = g.willing.somewhere i a b in (z.0, z.1, grind (arith, nat_tests, weigh_decisions (is_unwilling_reply i) s.channel s.asked p k true z.0 z.1, z.2));
}
willing_closing_checkpoint s p k false r pos o d i g = record {
  unwilling_reply = λ i u v a. grind (arith, nat_tests, weigh_decisions (is_unwilling_reply i) s.channel s.asked p k false u v, g.willing.unwilling_reply i u v);
  unwilling_member = g.willing.unwilling_member;
  somewhere = λ i a b. let z = g.willing.somewhere i a b in (z.0, z.1, grind (arith, nat_tests, weigh_decisions (is_unwilling_reply i) s.channel s.asked p k false z.0 z.1, z.2));
}

pub willing_closing_rollback : (s : State) (p k : ℕ) (c : Bool) → s.so_far.is_rollback k ≡ true → 0 < k → s.so_far.open_in p ≡ k → s.so_far.is_decided k ≡ true → s.so_far.is_committed k ≡ c → Invariant s → Willing (after_closing_rollback s p k c)
willing_closing_rollback s p k c r pos o d i g = record {
  unwilling_reply = λ i u v a. grind (arith, nat_tests, weigh_decisions (is_unwilling_reply i) s.channel s.asked p k c u v, g.willing.unwilling_reply i u v);
  unwilling_member = g.willing.unwilling_member;
  somewhere = λ i a b. let z = g.willing.somewhere i a b in (z.0, z.1, grind (arith, nat_tests, weigh_decisions (is_unwilling_reply i) s.channel s.asked p k c z.0 z.1, z.2));
}

pub willing_decision : (s : State) (p q k : ℕ) (c : Bool) (rest : List Parcel) → s.channel q p ≡ Decide k c ∷ rest → Invariant s → Willing (after_decision s p q rest)
willing_decision s p q k c rest e g = record {
  unwilling_reply = λ i u v a. grind (arith, nat_tests, weigh_with_rest (is_unwilling_reply i) s.channel q p (Decide k c) rest e u v, g.willing.unwilling_reply i u v);
  unwilling_member = g.willing.unwilling_member;
  somewhere = λ i a b. let z = g.willing.somewhere i a b in (z.0, z.1, grind (arith, nat_tests, weigh_with_rest (is_unwilling_reply i) s.channel q p (Decide k c) rest e z.0 z.1, z.2));
}
