-- Asks, replies, decisions, and the tree of parents: kept by each transition.
use Rattle.kt_base.specs.declared.words.Cause.{Cause}
use Rattle.std.proofs.Common.{◌≡◌, ◌≢◌, ℕ, ◌+◌, ◌≤◌, Bool, true, false, List, [], ◌∷◌, ◌++◌, refl, arith, sym, ◌∙◌, ◌<◌, ◌⊎◌}
use Rattle.std.specs.Prelude.{◌==◌, ◌&&◌, ℤ, if◌then◌else◌}
use Rattle.std.proofs.lemmas.Bool.Decides.{nat_tests}
use Rattle.kt_spacetime.specs.declared.event.Event.TheVariants.{Decided}
use Rattle.kt_protocol.proofs.Askers.{asker_joined, outside, asker_open}
use Rattle.kt_protocol.proofs.Invariant.{Invariant, is_message, is_ask, is_ask_with, is_decide, is_reply, Asks, with_row}
use Rattle.kt_protocol.proofs.Updates.{at_one_other}
use Rattle.kt_protocol.proofs.Weights.{weigh, weigh_with_rest, weigh_with_parcel, weigh_swapped, weigh_decisions, weigh_nil}
use Rattle.kt_protocol.specs.Parcels.{App, Decide, Parcel, Lists, Ask, Reply}
use Rattle.kt_protocol.specs.States.{State, is_ready, opening}
use Rattle.kt_protocol.specs.Messages.{after_holding, after_sending, after_dropping, after_receiving}
use Rattle.kt_protocol.specs.Deciding.{after_decision, after_closing_rollback, after_closing_checkpoint, after_deciding_as}
use Rattle.kt_protocol.specs.Joining.{after_began, after_joining_checkpoint, after_joining_rollback}
use Rattle.kt_protocol.specs.Summary.{summary_after}
use Rattle.kt_protocol.specs.Replies.{after_unwilling, after_replying, after_answering, after_reply, after_noting}
use Rattle.kt_protocol.proofs.RowFacts.{checkpoint_cut_of, HoldsBefore}
use Rattle.kt_protocol.proofs.Choices.{same}
use Rattle.kt_protocol.proofs.Beginning.{old, began_awaits}
use Rattle.kt_protocol.proofs.Receiving.{Taking, message_facts}
use Rattle.kt_protocol.proofs.Answering.{reply_facts}
use Rattle.kt_protocol.proofs.Closing.{tells_true, tells_false, tells}
use Rattle.kt_protocol.proofs.JoiningCheckpoints.{same_weight, count_joins, linked_joins, ask_label_joins, linked_rollback_joins}
use Rattle.kt_protocol.proofs.Joining.{Joining, Label, RollbackLabel}
use Rattle.kt_protocol.proofs.JoiningRollbacks.{same_weight_rollback, count_joins_rollback, linked_rollback_rolls, linked_rolls, ask_label_rolls}
use Rattle.kt_protocol.proofs.Deciding.{undecided_before, no_member_of_other, below, all_await_none}
use Rattle.kt_protocol.proofs.RollingBack.{still_got, saver}
use Rattle.kt_protocol.proofs.NewMembers.{parent_joins}
use Rattle.kt_spacetime.specs.declared.event.Event.{Event}

pub asks_opening : (n : ℕ) → Asks (opening n)
asks_opening n = record {
  one_each = λ k p q. rw (weigh_nil (is_ask k), weigh_nil (is_reply k)) refl;
  awaits_joined = λ k p q a. absurd (cc);
  answered_awaits = λ k p q a b. refl;
  parent_first = λ k q a b. absurd (cc);
  joined_low = λ k q a. absurd (cc);
  ask_label = λ k l p q a. absurd (omega (arith, weigh_nil (is_ask_with k l)));
  linked = λ k q a b r c. absurd (cc);
  linked_rollback = λ k q a b r c. absurd (cc);
  decide_is = λ k c p q a. absurd (omega (arith, weigh_nil (is_decide k c)));
  noted_is = λ k p y a. absurd (cc);
}

pub asks_sending : (s : State) (p q : ℕ) (body : ℤ) → p < s.processes → q < s.processes → s.so_far.open_in p ≡ 0 → Invariant s → Asks (after_sending s p q body)
asks_sending s p q body below below_q o g = record {
  one_each = λ k u v. grind (arith, nat_tests, weigh_with_parcel (is_ask k) s.channel p q (App (s.so_far.rows + 1)) u v, weigh_with_parcel (is_reply k) s.channel p q (App (s.so_far.rows + 1)) v u, g.asks.one_each k u v);
  awaits_joined = g.asks.awaits_joined;
  answered_awaits = g.asks.answered_awaits;
  parent_first = g.asks.parent_first;
  joined_low = λ k u a. grind (arith, g.asks.joined_low k u a);
  ask_label = λ k l u v a. let x = g.asks.ask_label k l u v (grind (arith, nat_tests, weigh_with_parcel (is_ask_with k l) s.channel p q (App (s.so_far.rows + 1)) u v, a)) in (λ r. let y = x.0 r in grind (arith, nat_tests, y, g.messages.received_low l, g.messages.sent_low l), x.1);
  linked = λ k u a b r c. grind (arith, nat_tests, g.asks.linked k u a b r c, g.messages.received_low (s.link k u), g.messages.sent_low (s.link k u));
  linked_rollback = λ k u a b r c. grind (arith, nat_tests, g.asks.linked_rollback k u a b r c, g.messages.received_low (s.link k u), g.messages.sent_low (s.link k u));
  decide_is = λ k c u v a. grind (arith, nat_tests, weigh_with_parcel (is_decide k c) s.channel p q (App (s.so_far.rows + 1)) u v, g.asks.decide_is k c u v);
  noted_is = g.asks.noted_is;
}

pub asks_receiving : (s : State) (channel held : Lists) (p q m : ℕ) → is_ready s p ≡ false → Taking s channel held p q m → Invariant s → Asks (after_receiving s channel held p q m)
asks_receiving s channel held p q m y t g =
    let f = message_facts s channel held p q m t g in
    let f0 = f.0 in let f1 = f.1 in let f2 = f.2 in let f3 = f.3 in let f4 = f.4 in
    record {
      one_each = λ k u v. grind (arith, nat_tests, t.others (is_ask k) (λ n. refl) u v, t.others (is_reply k) (λ n. refl) v u, g.asks.one_each k u v);
      awaits_joined = g.asks.awaits_joined;
      answered_awaits = g.asks.answered_awaits;
      parent_first = g.asks.parent_first;
      joined_low = λ k u a. grind (arith, g.asks.joined_low k u a);
      ask_label = λ k l u v a. let x = g.asks.ask_label k l u v (rw (t.others (is_ask_with k l) (λ n. refl) u v) at a) in (λ r. let z = x.0 r in grind (arith, nat_tests, z, f1), x.1);
      linked = λ k u a b r c. grind (arith, nat_tests, g.asks.linked k u a b r c, f1);
      linked_rollback = λ k u a b r c. grind (arith, nat_tests, g.asks.linked_rollback k u a b r c, f1);
      decide_is = λ k c u v a. g.asks.decide_is k c u v (rw (t.others (is_decide k c) (λ n. refl) u v) at a);
      noted_is = g.asks.noted_is;
    }

pub asks_dropping : (s : State) (channel held : Lists) (p q m : ℕ) → is_ready s p ≡ false → Taking s channel held p q m → Invariant s → Asks (after_dropping s channel held p q m)
asks_dropping s channel held p q m y t g = record {
  one_each = λ k u v. grind (arith, nat_tests, t.others (is_ask k) (λ n. refl) u v, t.others (is_reply k) (λ n. refl) v u, g.asks.one_each k u v);
  awaits_joined = g.asks.awaits_joined;
  answered_awaits = g.asks.answered_awaits;
  parent_first = g.asks.parent_first;
  joined_low = λ k u a. grind (arith, g.asks.joined_low k u a);
  ask_label = λ k l u v a. g.asks.ask_label k l u v (rw (t.others (is_ask_with k l) (λ n. refl) u v) at a);
  linked = g.asks.linked;
  linked_rollback = g.asks.linked_rollback;
  decide_is = λ k c u v a. g.asks.decide_is k c u v (rw (t.others (is_decide k c) (λ n. refl) u v) at a);
  noted_is = g.asks.noted_is;
}

pub asks_holding : (s : State) (p q m : ℕ) (rest : List Parcel) → s.channel q p ≡ App m ∷ rest → Invariant s → Asks (after_holding s p q m rest)
asks_holding s p q m rest e g = record {
  one_each = λ i u v. grind (arith, nat_tests, weigh_with_rest (is_ask i) s.channel q p (App m) rest e u v, weigh_with_rest (is_reply i) s.channel q p (App m) rest e v u, g.asks.one_each i u v);
  awaits_joined = g.asks.awaits_joined;
  answered_awaits = g.asks.answered_awaits;
  parent_first = g.asks.parent_first;
  joined_low = g.asks.joined_low;
  ask_label = λ i n u v a. g.asks.ask_label i n u v (grind (arith, nat_tests, weigh_with_rest (is_ask_with i n) s.channel q p (App m) rest e u v, a));
  linked = g.asks.linked;
  linked_rollback = g.asks.linked_rollback;
  decide_is = λ i c1 u v a. grind (arith, nat_tests, weigh_with_rest (is_decide i c1) s.channel q p (App m) rest e u v, g.asks.decide_is i c1 u v);
  noted_is = g.asks.noted_is;
}

pub asks_row : (s : State) (row : Event) (up : ℕ → Bool) → summary_after s.so_far row ≡ record s.so_far { rows = s.so_far.rows + 1 } → HoldsBefore s.so_far row → Invariant s → Asks (with_row s row up)
asks_row s row up e holds g = record {
  one_each = g.asks.one_each;
  awaits_joined = g.asks.awaits_joined;
  answered_awaits = g.asks.answered_awaits;
  parent_first = g.asks.parent_first;
  joined_low = λ i u a. grind (arith, g.asks.joined_low i u a);
  ask_label = g.asks.ask_label;
  linked = g.asks.linked;
  linked_rollback = g.asks.linked_rollback;
  decide_is = g.asks.decide_is;
  noted_is = g.asks.noted_is;
}

pub asks_began : (s : State) (p : ℕ) (roll : Bool) → Invariant s → Asks (after_began s p roll)
asks_began s p roll g = record {
  one_each = g.asks.one_each;
  awaits_joined = g.asks.awaits_joined;
  answered_awaits = λ k u v a b. began_awaits s p g k u v a b;
  parent_first = λ k u h b. g.asks.parent_first k u h (λ c. b (c ∙ sym (at_one_other (s.instances + 1) k p s.initiator (λ d. omega (arith, (g.positions.joined_instance k u h).1)))));
  joined_low = λ i u a. grind (arith, g.asks.joined_low i u a);
  ask_label = λ k l u v a. let h = asker_joined s k l u v a g in let x = g.asks.ask_label k l u v a in (λ r. x.0 (sym (old s roll k ((g.positions.joined_instance k u h).1)) ∙ r), λ r. x.1 (sym (old s roll k ((g.positions.joined_instance k u h).1)) ∙ r));
  linked = λ k u h d r b. g.asks.linked k u h d (sym (old s roll k ((g.positions.joined_instance k u h).1)) ∙ r) (λ c. b (c ∙ sym (at_one_other (s.instances + 1) k p s.initiator (λ d. omega (arith, (g.positions.joined_instance k u h).1)))));
  linked_rollback = λ k u h d r b. g.asks.linked_rollback k u h d (sym (old s roll k ((g.positions.joined_instance k u h).1)) ∙ r) (λ c. b (c ∙ sym (at_one_other (s.instances + 1) k p s.initiator (λ d. omega (arith, (g.positions.joined_instance k u h).1)))));
  decide_is = g.asks.decide_is;
  noted_is = λ k u y a. let x = g.asks.noted_is k u y a in (x.0, λ b r. x.1 b (sym (old s roll k ((g.positions.joined_instance k y x.0).1)) ∙ r));
}

pub asks_joining_checkpoint : (s : State) (channel : Lists) (p k : ℕ) (is_first : Bool) (par lnk lbl : ℕ) → Joining s channel p k is_first par lnk lbl false → Label s p k is_first par lnk → Invariant s → Asks (after_joining_checkpoint s channel p k is_first par lnk)
asks_joining_checkpoint s channel p k is_first par lnk lbl j lab g =
    let out = outside s k p g j.closed j.positive j.undecided in
    record {
      one_each = count_joins s channel p k is_first par lnk lbl j lab out g;
      awaits_joined = λ i u v a. grind (arith, nat_tests, g.asks.awaits_joined i u v, j.undecided, g.tables.last_received_is p v, g.messages.received_low (s.last_received p v), g.messages.sent_low (s.last_received p v));
      answered_awaits = λ i u v a b. grind (arith, nat_tests, g.asks.answered_awaits i u v, j.initial);
      parent_first = parent_joins s.so_far.joined s.parent s.so_far.joined_at s.initiator k p par s.so_far.rows is_first out (λ z. (j.initial z).0) (λ z. (j.member z).0) (g.asks.joined_low k) g.asks.parent_first;
      joined_low = λ i u a. grind (arith, nat_tests, g.asks.joined_low i u);
      ask_label = ask_label_joins s channel p k is_first par lnk lbl j lab out g;
      linked = linked_joins s channel p k is_first par lnk lbl j lab out g;
      linked_rollback = linked_rollback_joins s channel p k is_first par lnk lbl j lab out g;
      decide_is = λ i c u v a. g.asks.decide_is i c u v (rw (same_weight s channel p k is_first par lnk lbl false j (is_decide i c) (λ b. refl) u v) at a);
      noted_is = λ i u y a. let x = g.asks.noted_is i u y a in let x0 = x.0 in (grind (arith, nat_tests, x0), x.1);
    }

pub asks_joining_rollback : (s : State) (channel : Lists) (p k : ℕ) (is_first : Bool) (par lnk lbl : ℕ) → Joining s channel p k is_first par lnk lbl true → RollbackLabel s p k is_first par lnk → Invariant s → Asks (after_joining_rollback s channel p k is_first par lnk)
asks_joining_rollback s channel p k is_first par lnk lbl j lab g =
    let out = outside s k p g j.closed j.positive j.undecided in
    record {
      one_each = count_joins_rollback s channel p k is_first par lnk lbl j lab out g;
      awaits_joined = λ i u v a. grind (arith, nat_tests, g.asks.awaits_joined i u v, j.undecided, g.tables.first_sent_is p v, g.messages.sent_low (s.first_sent p v));
      answered_awaits = λ i u v a b. grind (arith, nat_tests, g.asks.answered_awaits i u v, j.initial);
      parent_first = parent_joins s.so_far.joined s.parent s.so_far.joined_at s.initiator k p par s.so_far.rows is_first out (λ z. (j.initial z).0) (λ z. (j.member z).0) (g.asks.joined_low k) g.asks.parent_first;
      joined_low = λ i u a. grind (arith, nat_tests, g.asks.joined_low i u);
      ask_label = ask_label_rolls s channel p k is_first par lnk lbl j lab out g;
      linked = linked_rolls s channel p k is_first par lnk lbl j lab out g;
      linked_rollback = linked_rollback_rolls s channel p k is_first par lnk lbl j lab out g;
      decide_is = λ i c u v a. g.asks.decide_is i c u v (rw (same_weight_rollback s channel p k is_first par lnk lbl true j (is_decide i c) (λ b. refl) u v) at a);
      noted_is = λ i u y a. let x = g.asks.noted_is i u y a in let x0 = x.0 in (grind (arith, nat_tests, x0), x.1);
    }

pub asks_noting : (s : State) (p q k l : ℕ) → s.so_far.joined k q ≡ true → (s.so_far.is_rollback k ≡ true → l ≡ s.last_sent q p) → Invariant s → Asks (after_noting s p q k l)
asks_noting s p q k l j e g = record {
  one_each = g.asks.one_each;
  awaits_joined = g.asks.awaits_joined;
  answered_awaits = g.asks.answered_awaits;
  parent_first = g.asks.parent_first;
  joined_low = g.asks.joined_low;
  ask_label = g.asks.ask_label;
  linked = g.asks.linked;
  linked_rollback = g.asks.linked_rollback;
  decide_is = g.asks.decide_is;
  noted_is = λ i u y a. noted_now i u y a;
}
  where
    noted_now : (i u y : ℕ) → (if i == k && u == p && y == q then true else s.noted i u y) ≡ true → (s.so_far.joined i y ≡ true) × (s.so_far.is_decided i ≡ false → s.so_far.is_rollback i ≡ true → (if i == k && u == p && y == q then l else s.noted_label i u y) ≡ s.last_sent y u)
    noted_now i u y = at_test (i == k && u == p && y == q) refl
      where
        three : (a b c : Bool) → (a && b && c) ≡ true → (a ≡ true) × (b ≡ true) × (c ≡ true)
        three a b c z = grind (arith, nat_tests, z)

        at_test : (b : Bool) → (i == k && u == p && y == q) ≡ b → (if b then true else s.noted i u y) ≡ true → (s.so_far.joined i y ≡ true) × (s.so_far.is_decided i ≡ false → s.so_far.is_rollback i ≡ true → (if b then l else s.noted_label i u y) ≡ s.last_sent y u)
        at_test false z a = g.asks.noted_is i u y a
        at_test true z a = let t = three (i == k) (u == p) (y == q) z in let x = same i k t.0 in let v = same u p t.1 in let w = same y q t.2 in rw (x, v, w) (j, λ d r. e r)

pub asks_replying : (s : State) (p q k l : ℕ) (rest : List Parcel) → s.channel q p ≡ Ask k l ∷ rest → Invariant s →
    (s.so_far.is_rollback k ≡ false → (m : ℕ) → s.so_far.from m ≡ p → s.so_far.to m ≡ q → s.so_far.is_received m ≡ true → m ≤ l → s.so_far.sent_at m < checkpoint_cut_of s.so_far k p) →
    (s.so_far.is_rollback k ≡ true → (n : ℕ) → s.so_far.from n ≡ q → s.so_far.to n ≡ p → s.so_far.is_sent n ≡ true → s.so_far.permanent q ≤ s.so_far.sent_at n → ((s.so_far.joined k p ≡ true) × (s.noted k p q ≡ true)) ⊎ ((s.so_far.is_received n ≡ false) × (weigh (is_message n) (s.held q p) ≡ 0))) →
    Asks (after_replying s p q k true rest)
asks_replying s p q k l rest e g safe safe_rollback = record {
  one_each = λ i u v. grind (arith, nat_tests, weigh_swapped (is_ask i) s.channel q p (Ask k l) (Reply k true) rest e u v, weigh_swapped (is_reply i) s.channel q p (Ask k l) (Reply k true) rest e v u, g.asks.one_each i u v);
  awaits_joined = g.asks.awaits_joined;
  answered_awaits = g.asks.answered_awaits;
  parent_first = g.asks.parent_first;
  joined_low = g.asks.joined_low;
  ask_label = λ i n u v a. g.asks.ask_label i n u v (grind (arith, nat_tests, weigh_swapped (is_ask_with i n) s.channel q p (Ask k l) (Reply k true) rest e u v, a));
  linked = g.asks.linked;
  linked_rollback = g.asks.linked_rollback;
  decide_is = λ i c1 u v a. grind (arith, nat_tests, weigh_swapped (is_decide i c1) s.channel q p (Ask k l) (Reply k true) rest e u v, g.asks.decide_is i c1 u v);
  noted_is = g.asks.noted_is;
}

pub asks_unwilling : (s : State) (p q k l : ℕ) (cause : Cause) (rest : List Parcel) → s.channel q p ≡ Ask k l ∷ rest → Invariant s → Asks (after_unwilling s p q k cause rest)
asks_unwilling s p q k l cause rest e g = record {
  one_each = λ i u v. grind (arith, nat_tests, weigh_swapped (is_ask i) s.channel q p (Ask k l) (Reply k false) rest e u v, weigh_swapped (is_reply i) s.channel q p (Ask k l) (Reply k false) rest e v u, g.asks.one_each i u v);
  awaits_joined = g.asks.awaits_joined;
  answered_awaits = g.asks.answered_awaits;
  parent_first = g.asks.parent_first;
  joined_low = λ i u a. grind (arith, g.asks.joined_low i u a);
  ask_label = λ i n u v a. g.asks.ask_label i n u v (grind (arith, nat_tests, weigh_swapped (is_ask_with i n) s.channel q p (Ask k l) (Reply k false) rest e u v, a));
  linked = g.asks.linked;
  linked_rollback = g.asks.linked_rollback;
  decide_is = λ i c1 u v a. grind (arith, nat_tests, weigh_swapped (is_decide i c1) s.channel q p (Ask k l) (Reply k false) rest e u v, g.asks.decide_is i c1 u v);
  noted_is = g.asks.noted_is;
}

pub asks_reply : (s : State) (p q k : ℕ) (w : Bool) (rest : List Parcel) → s.channel q p ≡ Reply k w ∷ rest → Invariant s → Asks (after_reply s p q k w rest)
asks_reply s p q k w rest e g =
    let f = reply_facts s q p k w rest e g in
    record {
      one_each = λ j u v. grind (arith, nat_tests, weigh_with_rest (is_ask j) s.channel q p (Reply k w) rest e u v, weigh_with_rest (is_reply j) s.channel q p (Reply k w) rest e v u, g.asks.one_each j u v, f.0);
      awaits_joined = λ j u v a. grind (arith, nat_tests, g.asks.awaits_joined j u v);
      answered_awaits = λ j u v a b. grind (arith, nat_tests, g.asks.answered_awaits j u v a b);
      parent_first = g.asks.parent_first;
      joined_low = g.asks.joined_low;
      ask_label = λ i n u v a. g.asks.ask_label i n u v (grind (arith, nat_tests, weigh_with_rest (is_ask_with i n) s.channel q p (Reply k w) rest e u v, a));
      linked = g.asks.linked;
      linked_rollback = g.asks.linked_rollback;
      decide_is = λ i c1 u v a. grind (arith, nat_tests, weigh_with_rest (is_decide i c1) s.channel q p (Reply k w) rest e u v, g.asks.decide_is i c1 u v);
      noted_is = g.asks.noted_is;
    }

pub asks_answering : (s : State) (p k : ℕ) → s.so_far.joined k p ≡ true → s.has_answered k p ≡ false → ((v : ℕ) → s.awaits k p v ≡ false) → Invariant s → Asks (after_answering s p k)
asks_answering s p k j0 a0 quiet g = record {
  one_each = λ j u v. grind (arith, nat_tests, weigh_with_parcel (is_ask j) s.channel p (s.parent k p) (Reply k (s.all_willing k p)) u v, weigh_with_parcel (is_reply j) s.channel p (s.parent k p) (Reply k (s.all_willing k p)) v u, g.asks.one_each j u v);
  awaits_joined = g.asks.awaits_joined;
  answered_awaits = λ j u v a b. grind (arith, nat_tests, g.asks.answered_awaits j u v, quiet v);
  parent_first = g.asks.parent_first;
  joined_low = g.asks.joined_low;
  ask_label = λ i n u v a. g.asks.ask_label i n u v (grind (arith, nat_tests, weigh_with_parcel (is_ask_with i n) s.channel p (s.parent k p) (Reply k (s.all_willing k p)) u v, a));
  linked = g.asks.linked;
  linked_rollback = g.asks.linked_rollback;
  decide_is = λ i c1 u v a. grind (arith, nat_tests, weigh_with_parcel (is_decide i c1) s.channel p (s.parent k p) (Reply k (s.all_willing k p)) u v, g.asks.decide_is i c1 u v);
  noted_is = g.asks.noted_is;
}

pub asks_aborting : (s : State) (p k : ℕ) → Invariant s → s.so_far.joined k p ≡ true → p ≡ s.initiator k → s.so_far.is_decided k ≡ false → s.so_far.has_unwilling k ≡ true → ((u v : ℕ) → s.awaits k u v ≡ false) → Asks (record s { log = s.log ++ Decided p k false ∷ []; so_far = summary_after s.so_far (Decided p k false) })
asks_aborting s p k g j0 i d w all_await_none = record {
  one_each = g.asks.one_each;
  awaits_joined = λ j u v a. grind (arith, nat_tests, g.asks.awaits_joined j u v a, all_await_none u v);
  answered_awaits = g.asks.answered_awaits;
  parent_first = g.asks.parent_first;
  joined_low = λ j u a. grind (arith, g.asks.joined_low j u a);
  ask_label = g.asks.ask_label;
  linked = λ j q a b. g.asks.linked j q a (undecided_before s k j b).0;
  linked_rollback = λ j q a b. g.asks.linked_rollback j q a (undecided_before s k j b).0;
  decide_is = λ j x u v a. grind (arith, nat_tests, g.asks.decide_is j x u v a);
  noted_is = λ j u y a. let x = g.asks.noted_is j u y a in (x.0, λ b. x.1 (undecided_before s k j b).0);
}

pub asks_committing_checkpoint : (s : State) (p k : ℕ) → Invariant s → s.so_far.is_rollback k ≡ false → s.so_far.joined k p ≡ true → p ≡ s.initiator k → s.so_far.is_decided k ≡ false → s.so_far.has_unwilling k ≡ false → ((u v : ℕ) → s.awaits k u v ≡ false) → Asks (after_deciding_as true false s p k)
asks_committing_checkpoint s p k g r j0 i d w all_await_none = record {
  one_each = g.asks.one_each;
  awaits_joined = λ j u v a. grind (arith, nat_tests, g.asks.awaits_joined j u v a, all_await_none u v);
  answered_awaits = g.asks.answered_awaits;
  parent_first = g.asks.parent_first;
  joined_low = λ j u a. grind (arith, g.asks.joined_low j u a);
  ask_label = λ j l u v a. let f = asker_open s j l u v a g in let x = g.asks.ask_label j l u v a in (x.0, λ c. asked_far j l u v f c (x.1 c));
  linked = λ j q a b c n. let x = undecided_before s k j b in let y = no_member_of_other s k j q g d x.0 x.1 a in rw y (g.asks.linked j q a x.0 c n);
  linked_rollback = λ j q a b c n. let x = undecided_before s k j b in let t = g.asks.parent_first j q a n in let y = no_member_of_other s k j (s.parent j q) g d x.0 x.1 t.0 in rw y (g.asks.linked_rollback j q a x.0 c n);
  decide_is = λ j x u v a. grind (arith, nat_tests, g.asks.decide_is j x u v a);
  noted_is = λ j u y a. let x = g.asks.noted_is j u y a in (x.0, λ b c. let v = undecided_before s k j b in rw (no_member_of_other s k j y g d v.0 v.1 x.0) (x.1 v.0 c));
}
  where
    asked_far : (j l u v : ℕ) → (s.so_far.joined j u ≡ true) × (s.so_far.is_decided j ≡ false) → s.so_far.is_rollback j ≡ true → l ≡ s.last_sent u v → l ≡ (if s.so_far.joined k u then s.latest_sent u v else s.last_sent u v)
    asked_far j l u v f c e = let n : j ≢ k = λ x. (let y : s.so_far.is_rollback k ≡ true = rw x at c in absurd (cc (y, r))) in rw (no_member_of_other s k j u g d f.1 n f.0) e

pub asks_committing_rollback : (s : State) (p k : ℕ) → Invariant s → s.so_far.is_rollback k ≡ true → s.so_far.joined k p ≡ true → p ≡ s.initiator k → s.so_far.is_decided k ≡ false → s.so_far.has_unwilling k ≡ false → ((u v : ℕ) → s.awaits k u v ≡ false) → Asks (after_deciding_as true true s p k)
asks_committing_rollback s p k g r j0 i d w all_await_none = record {
  one_each = g.asks.one_each;
  awaits_joined = λ j u v a. grind (arith, nat_tests, g.asks.awaits_joined j u v a, all_await_none u v);
  answered_awaits = g.asks.answered_awaits;
  parent_first = g.asks.parent_first;
  joined_low = λ j u a. grind (arith, g.asks.joined_low j u a);
  ask_label = λ j l u v a. let f = asker_open s j l u v a g in let x = g.asks.ask_label j l u v a in (λ c. let y = x.0 c in let n = saver s k g d r w all_await_none j u (g.positions.member_open j u f.0 f.1) c in (still_got s k g d r w all_await_none l y.0 (rw y.1 n), y.1, y.2, y.3), x.1);
  linked = λ j q a b c n. let x = undecided_before s k j b in let y = g.asks.linked j q a x.0 c n in let t = g.asks.parent_first j q a n in let z = no_member_of_other s k j (s.parent j q) g d x.0 x.1 t.0 in (still_got s k g d r w all_await_none (s.link j q) y.0 (rw y.2 z), y.1, y.2, y.3, y.4);
  linked_rollback = λ j q a b c n. let x = undecided_before s k j b in let y = g.asks.linked_rollback j q a x.0 c n in let z = no_member_of_other s k j q g d x.0 x.1 a in (still_got s k g d r w all_await_none (s.link j q) y.0 (rw y.2 z), y.1, y.2, y.3);
  decide_is = λ j x u v a. grind (arith, nat_tests, g.asks.decide_is j x u v a);
  noted_is = λ j u y a. let x = g.asks.noted_is j u y a in (x.0, λ b. x.1 (undecided_before s k j b).0);
}

pub asks_closing_checkpoint : (s : State) (p k : ℕ) (c : Bool) → s.so_far.is_rollback k ≡ false → 0 < k → s.so_far.open_in p ≡ k → s.so_far.is_decided k ≡ true → s.so_far.is_committed k ≡ c → Invariant s → Asks (after_closing_checkpoint s p k c)
asks_closing_checkpoint s p k true r pos o d i g = record {
  one_each = λ i u v. grind (arith, nat_tests, weigh_decisions (is_ask i) s.channel s.asked p k true u v, weigh_decisions (is_reply i) s.channel s.asked p k true v u, g.asks.one_each i u v);
  awaits_joined = g.asks.awaits_joined;
  answered_awaits = g.asks.answered_awaits;
  parent_first = g.asks.parent_first;
  joined_low = λ i u a. grind (arith, g.asks.joined_low i u a);
  ask_label = λ i n u v a. g.asks.ask_label i n u v (grind (arith, nat_tests, weigh_decisions (is_ask_with i n) s.channel s.asked p k true u v, a));
  linked = g.asks.linked;
  linked_rollback = g.asks.linked_rollback;
  decide_is = λ j c u v a. tells_true s p k d i g j c u v a;
  noted_is = g.asks.noted_is;
}
asks_closing_checkpoint s p k false r pos o d i g = record {
  one_each = λ i u v. grind (arith, nat_tests, weigh_decisions (is_ask i) s.channel s.asked p k false u v, weigh_decisions (is_reply i) s.channel s.asked p k false v u, g.asks.one_each i u v);
  awaits_joined = g.asks.awaits_joined;
  answered_awaits = g.asks.answered_awaits;
  parent_first = g.asks.parent_first;
  joined_low = λ i u a. grind (arith, g.asks.joined_low i u a);
  ask_label = λ i n u v a. g.asks.ask_label i n u v (grind (arith, nat_tests, weigh_decisions (is_ask_with i n) s.channel s.asked p k false u v, a));
  linked = g.asks.linked;
  linked_rollback = g.asks.linked_rollback;
  decide_is = λ j c u v a. tells_false s p k d i g j c u v a;
  noted_is = g.asks.noted_is;
}

pub asks_closing_rollback : (s : State) (p k : ℕ) (c : Bool) → s.so_far.is_rollback k ≡ true → 0 < k → s.so_far.open_in p ≡ k → s.so_far.is_decided k ≡ true → s.so_far.is_committed k ≡ c → Invariant s → Asks (after_closing_rollback s p k c)
asks_closing_rollback s p k c r pos o d i g = record {
  one_each = λ i u v. grind (arith, nat_tests, weigh_decisions (is_ask i) s.channel s.asked p k c u v, weigh_decisions (is_reply i) s.channel s.asked p k c v u, g.asks.one_each i u v);
  awaits_joined = g.asks.awaits_joined;
  answered_awaits = g.asks.answered_awaits;
  parent_first = g.asks.parent_first;
  joined_low = λ i u a. grind (arith, g.asks.joined_low i u a);
  ask_label = λ i n u v a. g.asks.ask_label i n u v (grind (arith, nat_tests, weigh_decisions (is_ask_with i n) s.channel s.asked p k c u v, a));
  linked = g.asks.linked;
  linked_rollback = g.asks.linked_rollback;
  decide_is = λ j c' u v a. tells s p k c d i g j c' u v a;
  noted_is = g.asks.noted_is;
}

pub asks_decision : (s : State) (p q k : ℕ) (c : Bool) (rest : List Parcel) → s.channel q p ≡ Decide k c ∷ rest → Invariant s → Asks (after_decision s p q rest)
asks_decision s p q k c rest e g = record {
  one_each = λ i u v. grind (arith, nat_tests, weigh_with_rest (is_ask i) s.channel q p (Decide k c) rest e u v, weigh_with_rest (is_reply i) s.channel q p (Decide k c) rest e v u, g.asks.one_each i u v);
  awaits_joined = g.asks.awaits_joined;
  answered_awaits = g.asks.answered_awaits;
  parent_first = g.asks.parent_first;
  joined_low = g.asks.joined_low;
  ask_label = λ i n u v a. g.asks.ask_label i n u v (grind (arith, nat_tests, weigh_with_rest (is_ask_with i n) s.channel q p (Decide k c) rest e u v, a));
  linked = g.asks.linked;
  linked_rollback = g.asks.linked_rollback;
  decide_is = λ i c1 u v a. grind (arith, nat_tests, weigh_with_rest (is_decide i c1) s.channel q p (Decide k c) rest e u v, g.asks.decide_is i c1 u v);
  noted_is = g.asks.noted_is;
}
