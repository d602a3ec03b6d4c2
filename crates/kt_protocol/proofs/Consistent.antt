-- What the cuts lack is being asked for, and each row so far was right: kept by each transition.
use Rattle.kt_base.specs.declared.words.Cause.{Cause}
use Rattle.kt_meaning.specs.Past.{at_one}
use Rattle.std.proofs.Common.{◌≡◌, ◌≢◌, ℕ, ◌+◌, ◌≤◌, Bool, true, false, List, [], ◌∷◌, ◌++◌, refl, arith, sym, inl, inr, ◌∙◌, ◌<◌, ◌⊎◌, not}
use Rattle.std.specs.Prelude.{◌==◌, ◌&&◌, ℤ, if◌then◌else◌, nat_le}
use Rattle.std.proofs.lemmas.Bool.Decides.{nat_tests}
use Rattle.kt_spacetime.specs.declared.event.Event.TheVariants.{Began, Sent, Received, Dropped, Unwilling, Closed, Took, Ready, Decided}
use Rattle.kt_protocol.proofs.Askers.{permanent_low, outside}
use Rattle.kt_protocol.proofs.EachRow.{rows_hold_push, permanent_has_no_orphan, present_has_no_orphan}
use Rattle.kt_protocol.proofs.Invariant.{Invariant, is_message, is_ask, is_ask_over, one, Consistent, with_row}
use Rattle.kt_protocol.proofs.Updates.{at_one_other}
use Rattle.kt_protocol.proofs.Weights.{weigh, weigh_with_rest, weigh_with_parcel, weigh_swapped, weigh_decisions, weigh_put_back}
use Rattle.kt_protocol.specs.Parcels.{App, Decide, Parcel, Lists, Ask, Reply, put_back}
use Rattle.kt_protocol.specs.States.{State, is_ready, opening}
use Rattle.kt_protocol.specs.Messages.{after_holding, after_sending, after_dropping, after_receiving}
use Rattle.kt_protocol.specs.Deciding.{after_decision, after_closing_rollback, after_closing_checkpoint, after_deciding_as}
use Rattle.kt_protocol.specs.Joining.{kind_for, after_began, after_joining_checkpoint, after_joining_rollback}
use Rattle.kt_protocol.specs.Summary.{is_undone, summary_after, is_unreceived}
use Rattle.std.proofs.lemmas.Bool.{cases_eq}
use Rattle.kt_protocol.specs.Replies.{after_unwilling, after_replying, after_answering, after_reply, after_noting}
use Rattle.kt_protocol.proofs.RowFacts.{checkpoint_cut_of, HoldsBefore}
use Rattle.kt_protocol.proofs.Choices.{no_rows}
use Rattle.kt_protocol.proofs.Beginning.{old}
use Rattle.kt_protocol.proofs.Sending.{undone_sent}
use Rattle.kt_protocol.proofs.Receiving.{Taking, message_facts, undone_receiving}
use Rattle.kt_protocol.proofs.Replying.{ask_facts, undone_swapped}
use Rattle.kt_protocol.proofs.JoiningCheckpoints.{consistent_joins, undone_joins}
use Rattle.kt_protocol.proofs.Joining.{Joining, Label, RollbackLabel}
use Rattle.kt_protocol.proofs.JoiningRollbacks.{consistent_rolls, undone_rolls}
use Rattle.kt_protocol.proofs.Deciding.{checkpoint_cut_consistent, decision_holds, undecided_before, no_member_of_other, below, all_await_none}
use Rattle.kt_protocol.proofs.RollingBack.{was_sent, was_got}
use Rattle.kt_spacetime.specs.declared.event.Event.{Event}

pub consistent_opening : (n : ℕ) → Consistent (opening n)
consistent_opening n = record {
  sent_permanently = λ m a b. absurd (cc);
  sent_or_asked = λ k m r a b c d e. absurd (cc);
  undone_or_asked = λ k m d r. absurd (cc);
  rows_hold = λ t row e. absurd (no_rows t row e);
}

pub consistent_sending : (s : State) (p q : ℕ) (body : ℤ) → p < s.processes → q < s.processes → s.so_far.open_in p ≡ 0 → Invariant s → Consistent (after_sending s p q body)
consistent_sending s p q body below below_q o g = record {
  sent_permanently = λ m a b. grind (arith, nat_tests, g.consistent.sent_permanently m, g.messages.received_low m, g.messages.sent_low m);
  sent_or_asked = λ k m r a b c d e. grind (arith, nat_tests, g.consistent.sent_or_asked k m r a b, g.messages.received_low m, g.messages.sent_low m, weigh_with_parcel (is_ask_over k m) s.channel p q (App (s.so_far.rows + 1)) (s.so_far.to m) (s.so_far.from m));
  undone_or_asked = undone_sent s p q o g;
  rows_hold = rows_hold_push s (Sent p q body) g (permanent_has_no_orphan s g, present_has_no_orphan s g);
}

pub consistent_receiving : (s : State) (channel held : Lists) (p q m : ℕ) → is_ready s p ≡ false → Taking s channel held p q m → Invariant s → Consistent (after_receiving s channel held p q m)
consistent_receiving s channel held p q m y t g =
    let f = message_facts s channel held p q m t g in
    let f0 = f.0 in let f1 = f.1 in let f2 = f.2 in let f3 = f.3 in let f4 = f.4 in
    record {
      sent_permanently = λ n a b. grind (arith, nat_tests, g.consistent.sent_permanently n, permanent_low s p g, f4);
      sent_or_asked = λ k n r a b c d x. grind (arith, nat_tests, g.consistent.sent_or_asked k n r a b, g.positions.new_low k p, f4, t.others (is_ask_over k n) (λ n. refl) (s.so_far.to n) (s.so_far.from n));
      undone_or_asked = undone_receiving s channel held p q m y t g;
      rows_hold = rows_hold_push s (Received p q m) g (permanent_has_no_orphan s g, present_has_no_orphan s g);
    }

pub consistent_dropping : (s : State) (channel held : Lists) (p q m : ℕ) → is_ready s p ≡ false → Taking s channel held p q m → Invariant s → Consistent (after_dropping s channel held p q m)
consistent_dropping s channel held p q m y t g = record {
  sent_permanently = g.consistent.sent_permanently;
  sent_or_asked = λ k n r a b c d x. rw (t.others (is_ask_over k n) (λ n. refl) (s.so_far.to n) (s.so_far.from n)) (g.consistent.sent_or_asked k n r a b c d x);
  undone_or_asked = λ k n d r w j a b. elim (undone_receiving s channel held p q m y t g k n d r w j a b) [ inl c ↦ inl c | inr c ↦ inr (c.0, elim c.1 [ inl x ↦ inl x | inr x ↦ inr (got_old n x.0, x.1) ]) ];
  rows_hold = rows_hold_push s (Dropped p q m) g (permanent_has_no_orphan s g, present_has_no_orphan s g);
}
  where
    got_old : (n : ℕ) → at_one m true s.so_far.is_received n ≡ false → s.so_far.is_received n ≡ false
    got_old n e = grind (arith, nat_tests, e)

pub consistent_holding : (s : State) (p q m : ℕ) (rest : List Parcel) → s.channel q p ≡ App m ∷ rest → Invariant s → Consistent (after_holding s p q m rest)
consistent_holding s p q m rest e g = record {
  sent_permanently = g.consistent.sent_permanently;
  sent_or_asked = λ i n a r b c2 d x. grind (arith, nat_tests, g.consistent.sent_or_asked i n a r b c2 d x, weigh_with_rest (is_ask_over i n) s.channel q p (App m) rest e (s.so_far.to n) (s.so_far.from n));
  undone_or_asked = λ i n d r z a b c. let x = weigh_with_rest (is_ask i) s.channel q p (App m) rest e (s.so_far.from n) (s.so_far.to n) in let y = weigh_with_rest (is_message n) s.channel q p (App m) rest e (s.so_far.from n) (s.so_far.to n) in let h = weigh_with_parcel (is_message n) s.held q p (App m) (s.so_far.from n) (s.so_far.to n) in elim (g.consistent.undone_or_asked i n d r z a b c) [ inl o ↦ inl (grind (arith, nat_tests, x, o)) | inr o ↦ inr (grind (arith, nat_tests, y, o.0), elim o.1 [ inl v ↦ inl v | inr v ↦ inr (v.0, let o0 = o.0 in let v1 = v.1 in grind (arith, nat_tests, y, h, o0, v1)) ]) ];
  rows_hold = g.consistent.rows_hold;
}

pub consistent_row : (s : State) (row : Event) (up : ℕ → Bool) → summary_after s.so_far row ≡ record s.so_far { rows = s.so_far.rows + 1 } → HoldsBefore s.so_far row → Invariant s → Consistent (with_row s row up)
consistent_row s row up e holds g = record {
  sent_permanently = g.consistent.sent_permanently;
  sent_or_asked = g.consistent.sent_or_asked;
  undone_or_asked = g.consistent.undone_or_asked;
  rows_hold = rows_hold_push s row g holds;
}

pub consistent_began : (s : State) (p : ℕ) (roll : Bool) → Invariant s → Consistent (after_began s p roll)
consistent_began s p roll g = record {
  sent_permanently = g.consistent.sent_permanently;
  sent_or_asked = λ k m d r w h. g.consistent.sent_or_asked k m d (sym (old s roll k ((g.positions.joined_instance k (s.so_far.to m) h).1)) ∙ r) w h;
  undone_or_asked = λ k m d r w h. g.consistent.undone_or_asked k m d (sym (old s roll k ((g.positions.joined_instance k (s.so_far.from m) h).1)) ∙ r) w h;
  rows_hold = rows_hold_push s (Began p (s.instances + 1) (kind_for roll)) g (permanent_has_no_orphan s g, present_has_no_orphan s g);
}

pub consistent_joining_checkpoint : (s : State) (channel : Lists) (p k : ℕ) (is_first : Bool) (par lnk lbl : ℕ) → Joining s channel p k is_first par lnk lbl false → Label s p k is_first par lnk → Invariant s → Consistent (after_joining_checkpoint s channel p k is_first par lnk)
consistent_joining_checkpoint s channel p k is_first par lnk lbl j lab g =
    let out = outside s k p g j.closed j.positive j.undecided in
    record {
      sent_permanently = g.consistent.sent_permanently;
      sent_or_asked = consistent_joins s channel p k is_first par lnk lbl j lab out g;
      undone_or_asked = undone_joins s channel p k is_first par lnk lbl j lab out g;
      rows_hold = rows_hold_push s (Took p k) g (permanent_has_no_orphan s g, present_has_no_orphan s g);
    }

pub consistent_joining_rollback : (s : State) (channel : Lists) (p k : ℕ) (is_first : Bool) (par lnk lbl : ℕ) → Joining s channel p k is_first par lnk lbl true → RollbackLabel s p k is_first par lnk → Invariant s → Consistent (after_joining_rollback s channel p k is_first par lnk)
consistent_joining_rollback s channel p k is_first par lnk lbl j lab g =
    let out = outside s k p g j.closed j.positive j.undecided in
    record {
      sent_permanently = g.consistent.sent_permanently;
      sent_or_asked = consistent_rolls s channel p k is_first par lnk lbl j lab out g;
      undone_or_asked = undone_rolls s channel p k is_first par lnk lbl j lab out g;
      rows_hold = rows_hold_push s (Ready p k) g (permanent_has_no_orphan s g, present_has_no_orphan s g);
    }

pub consistent_noting : (s : State) (p q k l : ℕ) → s.so_far.joined k q ≡ true → (s.so_far.is_rollback k ≡ true → l ≡ s.last_sent q p) → Invariant s → Consistent (after_noting s p q k l)
consistent_noting s p q k l j e g = record {
  sent_permanently = g.consistent.sent_permanently;
  sent_or_asked = g.consistent.sent_or_asked;
  undone_or_asked = λ i m d r w a b c. elim (g.consistent.undone_or_asked i m d r w a b c) [ inl x ↦ inl x | inr x ↦ inr (x.0, elim x.1 [ inl y ↦ let y1 = y.1 in inl (y.0, grind (arith, nat_tests, y1)) | inr y ↦ inr y ]) ];
  rows_hold = g.consistent.rows_hold;
}

pub consistent_replying : (s : State) (p q k l : ℕ) (rest : List Parcel) → s.channel q p ≡ Ask k l ∷ rest → Invariant s →
    (s.so_far.is_rollback k ≡ false → (m : ℕ) → s.so_far.from m ≡ p → s.so_far.to m ≡ q → s.so_far.is_received m ≡ true → m ≤ l → s.so_far.sent_at m < checkpoint_cut_of s.so_far k p) →
    (s.so_far.is_rollback k ≡ true → (n : ℕ) → s.so_far.from n ≡ q → s.so_far.to n ≡ p → s.so_far.is_sent n ≡ true → s.so_far.permanent q ≤ s.so_far.sent_at n → ((s.so_far.joined k p ≡ true) × (s.noted k p q ≡ true)) ⊎ ((s.so_far.is_received n ≡ false) × (weigh (is_message n) (s.held q p) ≡ 0))) →
    Consistent (after_replying s p q k true rest)
consistent_replying s p q k l rest e g safe safe_rollback = record {
  sent_permanently = g.consistent.sent_permanently;
  sent_or_asked = λ i m a r b c d x. let y = weigh_swapped (is_ask_over i m) s.channel q p (Ask k l) (Reply k true) rest e (s.so_far.to m) (s.so_far.from m) in elim (g.consistent.sent_or_asked i m a r b c d x) [ inl z ↦ inl z | inr z ↦ elim (cases_eq i k) [ inl v ↦ (let f = safe (rw v at r) m in grind (arith, nat_tests, f, y, z, d)) | inr v ↦ inr (grind (arith, nat_tests, y, z)) ] ];
  undone_or_asked = λ i n d r z a b c. undone_swapped s p q k l true rest e g i n (λ x y v. safe_rollback (rw x at r) n y v b (rw y at c)) (g.consistent.undone_or_asked i n d r z a b c);
  rows_hold = g.consistent.rows_hold;
}

pub consistent_unwilling : (s : State) (p q k l : ℕ) (cause : Cause) (rest : List Parcel) → s.channel q p ≡ Ask k l ∷ rest → Invariant s → Consistent (after_unwilling s p q k cause rest)
consistent_unwilling s p q k l cause rest e g =
    let f = ask_facts s q p k l rest e g in
    record {
      sent_permanently = g.consistent.sent_permanently;
      sent_or_asked = λ j m a r b c d x. grind (arith, nat_tests, g.consistent.sent_or_asked j m a r, weigh_swapped (is_ask_over j m) s.channel q p (Ask k l) (Reply k false) rest e (s.so_far.to m) (s.so_far.from m));
      undone_or_asked = λ i n d r z a b c. let v : i ≢ k = λ x. sour_not i x z in undone_swapped s p q k l false rest e g i n (λ x. absurd (v x)) (g.consistent.undone_or_asked i n d r (sym (at_one_other k i true s.so_far.has_unwilling v) ∙ z) a b c);
      rows_hold = rows_hold_push s (Unwilling p k cause) g (permanent_has_no_orphan s g, present_has_no_orphan s g, f.2);
    }
  where
    sour_not : (i : ℕ) → i ≡ k → at_one k true s.so_far.has_unwilling i ≡ false → ⊥
    sour_not i x z = grind (arith, nat_tests, z)

pub consistent_reply : (s : State) (p q k : ℕ) (w : Bool) (rest : List Parcel) → s.channel q p ≡ Reply k w ∷ rest → Invariant s → Consistent (after_reply s p q k w rest)
consistent_reply s p q k w rest e g = record {
  sent_permanently = g.consistent.sent_permanently;
  sent_or_asked = λ i n a r b c2 d x. grind (arith, nat_tests, g.consistent.sent_or_asked i n a r b c2 d x, weigh_with_rest (is_ask_over i n) s.channel q p (Reply k w) rest e (s.so_far.to n) (s.so_far.from n));
  undone_or_asked = λ i n d r z a b c2. let x = weigh_with_rest (is_ask i) s.channel q p (Reply k w) rest e (s.so_far.from n) (s.so_far.to n) in let y = weigh_with_rest (is_message n) s.channel q p (Reply k w) rest e (s.so_far.from n) (s.so_far.to n) in elim (g.consistent.undone_or_asked i n d r z a b c2) [ inl o ↦ inl (grind (arith, nat_tests, x, o)) | inr o ↦ inr (grind (arith, nat_tests, y, o.0), o.1) ];
  rows_hold = g.consistent.rows_hold;
}

pub consistent_answering : (s : State) (p k : ℕ) → s.so_far.joined k p ≡ true → s.has_answered k p ≡ false → ((v : ℕ) → s.awaits k p v ≡ false) → Invariant s → Consistent (after_answering s p k)
consistent_answering s p k j0 a0 quiet g = record {
  sent_permanently = g.consistent.sent_permanently;
  sent_or_asked = λ i n a r b c2 d x. grind (arith, nat_tests, g.consistent.sent_or_asked i n a r b c2 d x, weigh_with_parcel (is_ask_over i n) s.channel p (s.parent k p) (Reply k (s.all_willing k p)) (s.so_far.to n) (s.so_far.from n));
  undone_or_asked = λ i n d r z a b c2. let x = weigh_with_parcel (is_ask i) s.channel p (s.parent k p) (Reply k (s.all_willing k p)) (s.so_far.from n) (s.so_far.to n) in let y = weigh_with_parcel (is_message n) s.channel p (s.parent k p) (Reply k (s.all_willing k p)) (s.so_far.from n) (s.so_far.to n) in elim (g.consistent.undone_or_asked i n d r z a b c2) [ inl o ↦ inl (grind (arith, nat_tests, x, o)) | inr o ↦ inr (grind (arith, nat_tests, y, o.0), o.1) ];
  rows_hold = g.consistent.rows_hold;
}

pub consistent_aborting : (s : State) (p k : ℕ) → Invariant s → s.so_far.joined k p ≡ true → p ≡ s.initiator k → s.so_far.is_decided k ≡ false → s.so_far.has_unwilling k ≡ true → ((u v : ℕ) → s.awaits k u v ≡ false) → Consistent (record s { log = s.log ++ Decided p k false ∷ []; so_far = summary_after s.so_far (Decided p k false) })
consistent_aborting s p k g j0 i d w all_await_none = record {
  sent_permanently = g.consistent.sent_permanently;
  sent_or_asked = λ j m b. g.consistent.sent_or_asked j m (undecided_before s k j b).0;
  undone_or_asked = λ j m b. g.consistent.undone_or_asked j m (undecided_before s k j b).0;
  rows_hold = rows_hold_push s (Decided p k false) g (decision_holds s p k false g i d w all_await_none);
}

pub consistent_committing_checkpoint : (s : State) (p k : ℕ) → Invariant s → s.so_far.is_rollback k ≡ false → s.so_far.joined k p ≡ true → p ≡ s.initiator k → s.so_far.is_decided k ≡ false → s.so_far.has_unwilling k ≡ false → ((u v : ℕ) → s.awaits k u v ≡ false) → Consistent (after_deciding_as true false s p k)
consistent_committing_checkpoint s p k g r j0 i d w all_await_none = record {
  sent_permanently = λ m a l. checkpoint_cut_consistent s k g d r w all_await_none m a l;
  sent_or_asked = λ j m a b x y z u. let v = undecided_before s k j a in grind (arith, nat_tests, g.consistent.sent_or_asked j m v.0 b x y z u, g.positions.permanent_new k (s.so_far.from m));
  undone_or_asked = λ j m a b x y z. let v = undecided_before s k j a in let f = no_member_of_other s k j (s.so_far.from m) g d v.0 v.1 y in rw f (g.consistent.undone_or_asked j m v.0 b x y z);
  rows_hold = rows_hold_push s (Decided p k true) g (decision_holds s p k true g i d w all_await_none);
}

pub consistent_committing_rollback : (s : State) (p k : ℕ) → Invariant s → s.so_far.is_rollback k ≡ true → s.so_far.joined k p ≡ true → p ≡ s.initiator k → s.so_far.is_decided k ≡ false → s.so_far.has_unwilling k ≡ false → ((u v : ℕ) → s.awaits k u v ≡ false) → Consistent (after_deciding_as true true s p k)
consistent_committing_rollback s p k g r j0 i d w all_await_none = record {
  sent_permanently = λ m a l. g.consistent.sent_permanently m (was_got s k g d r w all_await_none m a).0 l;
  sent_or_asked = λ j m a b c e h l. g.consistent.sent_or_asked j m (undecided_before s k j a).0 b c e (was_got s k g d r w all_await_none m h).0 l;
  undone_or_asked = undone_after;
  rows_hold = rows_hold_push s (Decided p k true) g (decision_holds s p k true g i d w all_await_none);
}
  where
    undone_after : (j m : ℕ) → at_one k true s.so_far.is_decided j ≡ false → s.so_far.is_rollback j ≡ true → s.so_far.has_unwilling j ≡ false → s.so_far.joined j (s.so_far.from m) ≡ true → (s.so_far.is_sent m && not (is_undone s.so_far k m)) ≡ true → s.so_far.permanent (s.so_far.from m) ≤ s.so_far.sent_at m →
        (0 < weigh (is_ask j) (s.channel (s.so_far.from m) (s.so_far.to m))) ⊎ ((weigh (is_message m) (s.channel (s.so_far.from m) (s.so_far.to m)) ≡ 0) × (((s.so_far.joined j (s.so_far.to m) ≡ true) × (s.noted j (s.so_far.to m) (s.so_far.from m) ≡ true)) ⊎ (((s.so_far.is_received m && not (is_unreceived s.so_far k m)) ≡ false) × (weigh (is_message m) (put_back (λ m. not (is_undone s.so_far k m)) (s.so_far.joined k) s.kept s.held (s.so_far.from m) (s.so_far.to m)) ≡ 0))))
    undone_after j m a b c e h l = elim (g.consistent.undone_or_asked j m (undecided_before s k j a).0 b c e (was_sent s k g d r w all_await_none m h).0 l) [
      | inl x ↦ inl x
      | inr x ↦ inr (
        x.0,
        elim x.1 [
          | inl y ↦ inl y
          | inr y ↦ inr (
              let y0 = y.0 in
              let y1 = y.1 in
              let z = g.messages.kept_is m (s.so_far.to m) (s.so_far.from m) in
              let v = weigh_put_back m (λ m. not (is_undone s.so_far k m)) (s.so_far.joined k) s.kept s.held (s.so_far.from m) (s.so_far.to m) in
              (grind (arith, nat_tests, y0), v ∙ zero_if (s.so_far.joined k (s.so_far.to m)) (not (is_undone s.so_far k m)) _ _ (none m y.0 z) y.1))
        ],
      )
    ]
      where
        none : (m : ℕ) → s.so_far.is_received m ≡ false → weigh (is_message m) (s.kept (s.so_far.from m) (s.so_far.to m)) ≡ one (s.so_far.is_received m && s.so_far.from m == s.so_far.from m && s.so_far.to m == s.so_far.to m && nat_le (s.so_far.permanent (s.so_far.to m)) (s.so_far.received_at m)) → weigh (is_message m) (s.kept (s.so_far.from m) (s.so_far.to m)) ≡ 0
        none m e z = grind (arith, nat_tests, e, z)

        zero_if : (a b : Bool) (x y : ℕ) → x ≡ 0 → y ≡ 0 → (if a then (if b then x + y else 0) else y) ≡ 0
        zero_if a b x y e f = grind (arith, nat_tests, e, f)

pub consistent_closing_checkpoint : (s : State) (p k : ℕ) (c : Bool) → s.so_far.is_rollback k ≡ false → 0 < k → s.so_far.open_in p ≡ k → s.so_far.is_decided k ≡ true → s.so_far.is_committed k ≡ c → Invariant s → Consistent (after_closing_checkpoint s p k c)
consistent_closing_checkpoint s p k true r pos o d i g = record {
  sent_permanently = g.consistent.sent_permanently;
  sent_or_asked = λ i n a r b c2 d x. grind (arith, nat_tests, g.consistent.sent_or_asked i n a r b c2 d x, weigh_decisions (is_ask_over i n) s.channel s.asked p k true (s.so_far.to n) (s.so_far.from n));
  undone_or_asked = λ i n d r z a b c2. let x = weigh_decisions (is_ask i) s.channel s.asked p k true (s.so_far.from n) (s.so_far.to n) in let y = weigh_decisions (is_message n) s.channel s.asked p k true (s.so_far.from n) (s.so_far.to n) in elim (g.consistent.undone_or_asked i n d r z a b c2) [ inl o ↦ inl (grind (arith, nat_tests, x, o)) | inr o ↦ inr (grind (arith, nat_tests, y, o.0), o.1) ];
  rows_hold = rows_hold_push s (Closed p k) g (permanent_has_no_orphan s g, present_has_no_orphan s g);
}
consistent_closing_checkpoint s p k false r pos o d i g = record {
  sent_permanently = g.consistent.sent_permanently;
  sent_or_asked = λ i n a r b c2 d x. grind (arith, nat_tests, g.consistent.sent_or_asked i n a r b c2 d x, weigh_decisions (is_ask_over i n) s.channel s.asked p k false (s.so_far.to n) (s.so_far.from n));
  undone_or_asked = λ i n d r z a b c2. let x = weigh_decisions (is_ask i) s.channel s.asked p k false (s.so_far.from n) (s.so_far.to n) in let y = weigh_decisions (is_message n) s.channel s.asked p k false (s.so_far.from n) (s.so_far.to n) in elim (g.consistent.undone_or_asked i n d r z a b c2) [ inl o ↦ inl (grind (arith, nat_tests, x, o)) | inr o ↦ inr (grind (arith, nat_tests, y, o.0), o.1) ];
  rows_hold = rows_hold_push s (Closed p k) g (permanent_has_no_orphan s g, present_has_no_orphan s g);
}

pub consistent_closing_rollback : (s : State) (p k : ℕ) (c : Bool) → s.so_far.is_rollback k ≡ true → 0 < k → s.so_far.open_in p ≡ k → s.so_far.is_decided k ≡ true → s.so_far.is_committed k ≡ c → Invariant s → Consistent (after_closing_rollback s p k c)
consistent_closing_rollback s p k c r pos o d i g = record {
  sent_permanently = g.consistent.sent_permanently;
  sent_or_asked = λ i n a r b c2 d x. grind (arith, nat_tests, g.consistent.sent_or_asked i n a r b c2 d x, weigh_decisions (is_ask_over i n) s.channel s.asked p k c (s.so_far.to n) (s.so_far.from n));
  undone_or_asked = λ i n d r z a b c2. let x = weigh_decisions (is_ask i) s.channel s.asked p k c (s.so_far.from n) (s.so_far.to n) in let y = weigh_decisions (is_message n) s.channel s.asked p k c (s.so_far.from n) (s.so_far.to n) in elim (g.consistent.undone_or_asked i n d r z a b c2) [ inl o ↦ inl (grind (arith, nat_tests, x, o)) | inr o ↦ inr (grind (arith, nat_tests, y, o.0), o.1) ];
  rows_hold = rows_hold_push s (Closed p k) g (permanent_has_no_orphan s g, present_has_no_orphan s g);
}

pub consistent_decision : (s : State) (p q k : ℕ) (c : Bool) (rest : List Parcel) → s.channel q p ≡ Decide k c ∷ rest → Invariant s → Consistent (after_decision s p q rest)
consistent_decision s p q k c rest e g = record {
  sent_permanently = g.consistent.sent_permanently;
  sent_or_asked = λ i n a r b c2 d x. grind (arith, nat_tests, g.consistent.sent_or_asked i n a r b c2 d x, weigh_with_rest (is_ask_over i n) s.channel q p (Decide k c) rest e (s.so_far.to n) (s.so_far.from n));
  undone_or_asked = λ i n d r z a b c2. let x = weigh_with_rest (is_ask i) s.channel q p (Decide k c) rest e (s.so_far.from n) (s.so_far.to n) in let y = weigh_with_rest (is_message n) s.channel q p (Decide k c) rest e (s.so_far.from n) (s.so_far.to n) in elim (g.consistent.undone_or_asked i n d r z a b c2) [ inl o ↦ inl (grind (arith, nat_tests, x, o)) | inr o ↦ inr (grind (arith, nat_tests, y, o.0), o.1) ];
  rows_hold = g.consistent.rows_hold;
}
