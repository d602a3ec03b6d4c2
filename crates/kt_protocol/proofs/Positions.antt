-- Members, instances and positions: kept by each transition.
use Rattle.kt_base.specs.declared.words.Cause.{Cause}
use Rattle.std.proofs.Common.{◌≡◌, ℕ, ◌≤◌, Bool, true, false, List, [], ◌∷◌, ◌++◌, refl, arith, sym, ◌∙◌, ◌<◌, ◌⊎◌}
use Rattle.std.specs.Prelude.{ℤ}
use Rattle.std.proofs.lemmas.Bool.Decides.{nat_tests}
use Rattle.kt_spacetime.specs.declared.event.Event.TheVariants.{Decided}
use Rattle.kt_protocol.proofs.Askers.{permanent_low, outside}
use Rattle.kt_protocol.proofs.Invariant.{Invariant, is_message, Positions, with_row}
use Rattle.kt_protocol.proofs.Weights.{weigh}
use Rattle.kt_protocol.specs.Parcels.{App, Decide, Parcel, Lists, Ask, Reply}
use Rattle.kt_protocol.specs.States.{State, is_ready, opening}
use Rattle.kt_protocol.specs.Messages.{after_holding, after_sending, after_dropping, after_receiving}
use Rattle.kt_protocol.specs.Deciding.{after_decision, after_closing_rollback, after_closing_checkpoint, after_deciding_as}
use Rattle.kt_protocol.specs.Joining.{after_began, after_joining_checkpoint, after_joining_rollback}
use Rattle.kt_protocol.specs.Summary.{summary_after}
use Rattle.kt_protocol.specs.Replies.{after_unwilling, after_replying, after_answering, after_reply, after_noting}
use Rattle.kt_protocol.proofs.RowFacts.{checkpoint_cut_of, HoldsBefore}
use Rattle.kt_protocol.proofs.Beginning.{old}
use Rattle.kt_protocol.proofs.Receiving.{Taking}
use Rattle.kt_protocol.proofs.Joining.{Joining, Label, RollbackLabel}
use Rattle.kt_protocol.proofs.Deciding.{undecided_before, no_member_of_other, below, all_await_none}
use Rattle.kt_protocol.proofs.RollingBack.{was_sent, member_base}
use Rattle.kt_protocol.proofs.NewMembers.{instance_joins}
use Rattle.kt_spacetime.specs.declared.event.Event.{Event}
use Rattle.std.specs.Prelude.{◌+◌}

pub positions_opening : (n : ℕ) → Positions (opening n)
positions_opening n = record {
  new_low = λ k p h a b. absurd (cc);
  permanent_new = λ k p h d b. absurd (cc);
  joined_instance = λ k p h. absurd (cc);
  decided_instance = λ k h. absurd (cc);
  member_open = λ k p h d. absurd (cc);
  open_joined = λ k p a b. absurd (omega arith);
  open_saved = λ k p a b c. absurd (omega arith);
  open_permanent = λ k p a b c. absurd (omega arith);
  open_sends = λ k m a b c h. absurd (cc);
  closed_permanent = λ p a. (refl, refl);
  rollback_permanent = λ k p a b c. (refl, refl);
  saved_low = λ p. (omega arith, omega arith);
}

pub positions_sending : (s : State) (p q : ℕ) (body : ℤ) → p < s.processes → q < s.processes → s.so_far.open_in p ≡ 0 → Invariant s → Positions (after_sending s p q body)
positions_sending s p q body below below_q o g = record {
  new_low = λ k u h a b. grind (arith, nat_tests, g.positions.new_low k u h a b);
  permanent_new = g.positions.permanent_new;
  joined_instance = g.positions.joined_instance;
  decided_instance = g.positions.decided_instance;
  member_open = g.positions.member_open;
  open_joined = g.positions.open_joined;
  open_saved = g.positions.open_saved;
  open_permanent = g.positions.open_permanent;
  open_sends = λ k m a b c d. grind (arith, nat_tests, g.positions.open_sends k m a);
  closed_permanent = g.positions.closed_permanent;
  rollback_permanent = g.positions.rollback_permanent;
  saved_low = λ u. grind (arith, nat_tests, g.positions.saved_low u);
}

pub positions_receiving : (s : State) (channel held : Lists) (p q m : ℕ) → is_ready s p ≡ false → Taking s channel held p q m → Invariant s → Positions (after_receiving s channel held p q m)
positions_receiving s channel held p q m y t g = record {
  new_low = λ k u h a b. grind (arith, nat_tests, g.positions.new_low k u h a b);
  permanent_new = g.positions.permanent_new;
  joined_instance = g.positions.joined_instance;
  decided_instance = g.positions.decided_instance;
  member_open = g.positions.member_open;
  open_joined = g.positions.open_joined;
  open_saved = g.positions.open_saved;
  open_permanent = g.positions.open_permanent;
  open_sends = g.positions.open_sends;
  closed_permanent = g.positions.closed_permanent;
  rollback_permanent = g.positions.rollback_permanent;
  saved_low = λ u. grind (arith, nat_tests, g.positions.saved_low u);
}

pub positions_dropping : (s : State) (channel held : Lists) (p q m : ℕ) → is_ready s p ≡ false → Taking s channel held p q m → Invariant s → Positions (after_dropping s channel held p q m)
positions_dropping s channel held p q m y t g = record {
  new_low = g.positions.new_low;
  permanent_new = g.positions.permanent_new;
  joined_instance = g.positions.joined_instance;
  decided_instance = g.positions.decided_instance;
  member_open = g.positions.member_open;
  open_joined = g.positions.open_joined;
  open_saved = g.positions.open_saved;
  open_permanent = g.positions.open_permanent;
  open_sends = g.positions.open_sends;
  closed_permanent = g.positions.closed_permanent;
  rollback_permanent = g.positions.rollback_permanent;
  saved_low = g.positions.saved_low;
}

pub positions_holding : (s : State) (p q m : ℕ) (rest : List Parcel) → s.channel q p ≡ App m ∷ rest → Invariant s → Positions (after_holding s p q m rest)
positions_holding s p q m rest e g = record {
  new_low = g.positions.new_low;
  permanent_new = g.positions.permanent_new;
  joined_instance = g.positions.joined_instance;
  decided_instance = g.positions.decided_instance;
  member_open = g.positions.member_open;
  open_joined = g.positions.open_joined;
  open_saved = g.positions.open_saved;
  open_permanent = g.positions.open_permanent;
  open_sends = g.positions.open_sends;
  closed_permanent = g.positions.closed_permanent;
  rollback_permanent = g.positions.rollback_permanent;
  saved_low = g.positions.saved_low;
}

pub positions_row : (s : State) (row : Event) (up : ℕ → Bool) → summary_after s.so_far row ≡ record s.so_far { rows = s.so_far.rows + 1 } → HoldsBefore s.so_far row → Invariant s → Positions (with_row s row up)
positions_row s row up e holds g = record {
  new_low = g.positions.new_low;
  permanent_new = g.positions.permanent_new;
  joined_instance = g.positions.joined_instance;
  decided_instance = g.positions.decided_instance;
  member_open = g.positions.member_open;
  open_joined = g.positions.open_joined;
  open_saved = g.positions.open_saved;
  open_permanent = g.positions.open_permanent;
  open_sends = g.positions.open_sends;
  closed_permanent = g.positions.closed_permanent;
  rollback_permanent = g.positions.rollback_permanent;
  saved_low = g.positions.saved_low;
}

pub positions_began : (s : State) (p : ℕ) (roll : Bool) → Invariant s → Positions (after_began s p roll)
positions_began s p roll g = record {
  new_low = λ k u h d r. g.positions.new_low k u h d (sym (old s roll k ((g.positions.joined_instance k u h).1)) ∙ r);
  permanent_new = λ k u h d r. g.positions.permanent_new k u h d (sym (old s roll k ((g.positions.joined_instance k u h).1)) ∙ r);
  joined_instance = λ k u h. grind (arith, nat_tests, g.positions.joined_instance k u h);
  decided_instance = λ k h. let d = g.positions.decided_instance k h in (d.0, omega (arith, d.1));
  member_open = g.positions.member_open;
  open_joined = g.positions.open_joined;
  open_saved = λ k u y o r. g.positions.open_saved k u y o (sym (old s roll k ((g.positions.joined_instance k u (g.positions.open_joined k u y o)).1)) ∙ r);
  open_permanent = λ k u y o r. g.positions.open_permanent k u y o (sym (old s roll k ((g.positions.joined_instance k u (g.positions.open_joined k u y o)).1)) ∙ r);
  open_sends = λ k m y o r. g.positions.open_sends k m y o (sym (old s roll k ((g.positions.joined_instance k (s.so_far.from m) (g.positions.open_joined k (s.so_far.from m) y o)).1)) ∙ r);
  closed_permanent = g.positions.closed_permanent;
  rollback_permanent = λ k u y o r. g.positions.rollback_permanent k u y o (sym (old s roll k ((g.positions.joined_instance k u (g.positions.open_joined k u y o)).1)) ∙ r);
  saved_low = g.positions.saved_low;
}

pub positions_joining_checkpoint : (s : State) (channel : Lists) (p k : ℕ) (is_first : Bool) (par lnk lbl : ℕ) → Joining s channel p k is_first par lnk lbl false → Label s p k is_first par lnk → Invariant s → Positions (after_joining_checkpoint s channel p k is_first par lnk)
positions_joining_checkpoint s channel p k is_first par lnk lbl j lab g = record {
  new_low = λ i u h a b. grind (arith, nat_tests, g.positions.new_low i u);
  permanent_new = λ i u a b c. grind (arith, nat_tests, g.positions.permanent_new i u, permanent_low s p g);
  joined_instance = instance_joins s.so_far.joined s.has_answered s.initiator k p s.instances is_first (outside s k p g j.closed j.positive j.undecided) j.positive j.begun (λ z. (j.initial z).0) (λ z. ((j.member z).1, (j.member z).2)) g.positions.joined_instance;
  decided_instance = g.positions.decided_instance;
  member_open = λ i u a b. grind (arith, nat_tests, g.positions.member_open i u, j.closed, g.positions.joined_instance i u);
  open_joined = λ i u a b. grind (arith, nat_tests, g.positions.open_joined i u a);
  open_saved = λ i u a b c. grind (arith, nat_tests, g.positions.open_saved i u a);
  open_permanent = λ i u a b c. grind (arith, nat_tests, g.positions.open_permanent i u a, g.positions.closed_permanent p j.closed, j.undecided);
  open_sends = λ i m a b c d. grind (arith, nat_tests, g.positions.open_sends i m a, g.messages.sent_low m d);
  closed_permanent = λ u a. grind (arith, nat_tests, g.positions.closed_permanent u, j.positive);
  rollback_permanent = λ i u a b c. grind (arith, nat_tests, g.positions.rollback_permanent i u a, j.kind);
  saved_low = λ u. grind (arith, nat_tests, g.positions.saved_low u);
}

pub positions_joining_rollback : (s : State) (channel : Lists) (p k : ℕ) (is_first : Bool) (par lnk lbl : ℕ) → Joining s channel p k is_first par lnk lbl true → RollbackLabel s p k is_first par lnk → Invariant s → Positions (after_joining_rollback s channel p k is_first par lnk)
positions_joining_rollback s channel p k is_first par lnk lbl j lab g = record {
  new_low = λ i u h a b. grind (arith, nat_tests, g.positions.new_low i u, j.kind);
  permanent_new = λ i u a b c. grind (arith, nat_tests, g.positions.permanent_new i u, j.kind);
  joined_instance = instance_joins s.so_far.joined s.has_answered s.initiator k p s.instances is_first (outside s k p g j.closed j.positive j.undecided) j.positive j.begun (λ z. (j.initial z).0) (λ z. ((j.member z).1, (j.member z).2)) g.positions.joined_instance;
  decided_instance = g.positions.decided_instance;
  member_open = λ i u a b. grind (arith, nat_tests, g.positions.member_open i u, j.closed, g.positions.joined_instance i u);
  open_joined = λ i u a b. grind (arith, nat_tests, g.positions.open_joined i u a);
  open_saved = λ i u a b c. grind (arith, nat_tests, g.positions.open_saved i u a, j.kind);
  open_permanent = λ i u a b c. grind (arith, nat_tests, g.positions.open_permanent i u a, j.kind);
  open_sends = λ i m a b c d. grind (arith, nat_tests, g.positions.open_sends i m a, j.kind);
  closed_permanent = λ u a. grind (arith, nat_tests, g.positions.closed_permanent u, j.positive);
  rollback_permanent = λ i u a b c. grind (arith, nat_tests, g.positions.rollback_permanent i u a, g.positions.closed_permanent p j.closed);
  saved_low = g.positions.saved_low;
}

pub positions_noting : (s : State) (p q k l : ℕ) → s.so_far.joined k q ≡ true → (s.so_far.is_rollback k ≡ true → l ≡ s.last_sent q p) → Invariant s → Positions (after_noting s p q k l)
positions_noting s p q k l j e g = record {
  new_low = g.positions.new_low;
  permanent_new = g.positions.permanent_new;
  joined_instance = g.positions.joined_instance;
  decided_instance = g.positions.decided_instance;
  member_open = g.positions.member_open;
  open_joined = g.positions.open_joined;
  open_saved = g.positions.open_saved;
  open_permanent = g.positions.open_permanent;
  open_sends = g.positions.open_sends;
  closed_permanent = g.positions.closed_permanent;
  rollback_permanent = g.positions.rollback_permanent;
  saved_low = g.positions.saved_low;
}

pub positions_replying : (s : State) (p q k l : ℕ) (rest : List Parcel) → s.channel q p ≡ Ask k l ∷ rest → Invariant s →
    (s.so_far.is_rollback k ≡ false → (m : ℕ) → s.so_far.from m ≡ p → s.so_far.to m ≡ q → s.so_far.is_received m ≡ true → m ≤ l → s.so_far.sent_at m < checkpoint_cut_of s.so_far k p) →
    (s.so_far.is_rollback k ≡ true → (n : ℕ) → s.so_far.from n ≡ q → s.so_far.to n ≡ p → s.so_far.is_sent n ≡ true → s.so_far.permanent q ≤ s.so_far.sent_at n → ((s.so_far.joined k p ≡ true) × (s.noted k p q ≡ true)) ⊎ ((s.so_far.is_received n ≡ false) × (weigh (is_message n) (s.held q p) ≡ 0))) →
    Positions (after_replying s p q k true rest)
positions_replying s p q k l rest e g safe safe_rollback = record {
  new_low = g.positions.new_low;
  permanent_new = g.positions.permanent_new;
  joined_instance = g.positions.joined_instance;
  decided_instance = g.positions.decided_instance;
  member_open = g.positions.member_open;
  open_joined = g.positions.open_joined;
  open_saved = g.positions.open_saved;
  open_permanent = g.positions.open_permanent;
  open_sends = g.positions.open_sends;
  closed_permanent = g.positions.closed_permanent;
  rollback_permanent = g.positions.rollback_permanent;
  saved_low = g.positions.saved_low;
}

pub positions_unwilling : (s : State) (p q k l : ℕ) (cause : Cause) (rest : List Parcel) → s.channel q p ≡ Ask k l ∷ rest → Invariant s → Positions (after_unwilling s p q k cause rest)
positions_unwilling s p q k l cause rest e g = record {
  new_low = g.positions.new_low;
  permanent_new = g.positions.permanent_new;
  joined_instance = g.positions.joined_instance;
  decided_instance = g.positions.decided_instance;
  member_open = g.positions.member_open;
  open_joined = g.positions.open_joined;
  open_saved = g.positions.open_saved;
  open_permanent = g.positions.open_permanent;
  open_sends = g.positions.open_sends;
  closed_permanent = g.positions.closed_permanent;
  rollback_permanent = g.positions.rollback_permanent;
  saved_low = g.positions.saved_low;
}

pub positions_reply : (s : State) (p q k : ℕ) (w : Bool) (rest : List Parcel) → s.channel q p ≡ Reply k w ∷ rest → Invariant s → Positions (after_reply s p q k w rest)
positions_reply s p q k w rest e g = record {
  new_low = g.positions.new_low;
  permanent_new = g.positions.permanent_new;
  joined_instance = g.positions.joined_instance;
  decided_instance = g.positions.decided_instance;
  member_open = g.positions.member_open;
  open_joined = g.positions.open_joined;
  open_saved = g.positions.open_saved;
  open_permanent = g.positions.open_permanent;
  open_sends = g.positions.open_sends;
  closed_permanent = g.positions.closed_permanent;
  rollback_permanent = g.positions.rollback_permanent;
  saved_low = g.positions.saved_low;
}

pub positions_answering : (s : State) (p k : ℕ) → s.so_far.joined k p ≡ true → s.has_answered k p ≡ false → ((v : ℕ) → s.awaits k p v ≡ false) → Invariant s → Positions (after_answering s p k)
positions_answering s p k j0 a0 quiet g = record {
  new_low = g.positions.new_low;
  permanent_new = g.positions.permanent_new;
  joined_instance = λ j u a. grind (arith, nat_tests, g.positions.joined_instance j u);
  decided_instance = g.positions.decided_instance;
  member_open = g.positions.member_open;
  open_joined = g.positions.open_joined;
  open_saved = g.positions.open_saved;
  open_permanent = g.positions.open_permanent;
  open_sends = g.positions.open_sends;
  closed_permanent = g.positions.closed_permanent;
  rollback_permanent = g.positions.rollback_permanent;
  saved_low = g.positions.saved_low;
}

pub positions_aborting : (s : State) (p k : ℕ) → Invariant s → s.so_far.joined k p ≡ true → p ≡ s.initiator k → s.so_far.is_decided k ≡ false → s.so_far.has_unwilling k ≡ true → ((u v : ℕ) → s.awaits k u v ≡ false) → Positions (record s { log = s.log ++ Decided p k false ∷ []; so_far = summary_after s.so_far (Decided p k false) })
positions_aborting s p k g j0 i d w all_await_none =
    let in0 = g.positions.joined_instance k p j0 in
    record {
      new_low = λ j u a b. g.positions.new_low j u a (undecided_before s k j b).0;
      permanent_new = λ j u a b. g.positions.permanent_new j u a (undecided_before s k j b).0;
      joined_instance = g.positions.joined_instance;
      decided_instance = λ j h. grind (arith, nat_tests, g.positions.decided_instance j, in0.0, in0.1);
      member_open = λ j u a b. g.positions.member_open j u a (undecided_before s k j b).0;
      open_joined = g.positions.open_joined;
      open_saved = g.positions.open_saved;
      open_permanent = λ j u a b r. grind (arith, nat_tests, g.positions.open_permanent j u a b r, d);
      open_sends = g.positions.open_sends;
      closed_permanent = g.positions.closed_permanent;
      rollback_permanent = g.positions.rollback_permanent;
      saved_low = g.positions.saved_low;
    }

pub positions_committing_checkpoint : (s : State) (p k : ℕ) → Invariant s → s.so_far.is_rollback k ≡ false → s.so_far.joined k p ≡ true → p ≡ s.initiator k → s.so_far.is_decided k ≡ false → s.so_far.has_unwilling k ≡ false → ((u v : ℕ) → s.awaits k u v ≡ false) → Positions (after_deciding_as true false s p k)
positions_committing_checkpoint s p k g r j0 i d w all_await_none =
    let in0 = g.positions.joined_instance k p j0 in
    record {
      new_low = λ j u a b. g.positions.new_low j u a (undecided_before s k j b).0;
      permanent_new = λ j u a b c. let x = undecided_before s k j b in let y = no_member_of_other s k j u g d x.0 x.1 a in rw y (g.positions.permanent_new j u a x.0 c);
      joined_instance = g.positions.joined_instance;
      decided_instance = λ j h. grind (arith, nat_tests, g.positions.decided_instance j, in0.0, in0.1);
      member_open = λ j u a b. g.positions.member_open j u a (undecided_before s k j b).0;
      open_joined = g.positions.open_joined;
      open_saved = g.positions.open_saved;
      open_permanent = λ j u a b c. grind (arith, nat_tests, g.positions.open_permanent j u a b c, g.positions.open_saved j u a b c, g.positions.open_joined j u a b, g.positions.member_open k u);
      open_sends = g.positions.open_sends;
      closed_permanent = λ u a. grind (arith, nat_tests, g.positions.closed_permanent u a, g.positions.member_open k u, in0.0);
      rollback_permanent = λ j u a b c. grind (arith, nat_tests, g.positions.rollback_permanent j u a b c, g.positions.member_open k u);
      saved_low = g.positions.saved_low;
    }

pub positions_committing_rollback : (s : State) (p k : ℕ) → Invariant s → s.so_far.is_rollback k ≡ true → s.so_far.joined k p ≡ true → p ≡ s.initiator k → s.so_far.is_decided k ≡ false → s.so_far.has_unwilling k ≡ false → ((u v : ℕ) → s.awaits k u v ≡ false) → Positions (after_deciding_as true true s p k)
positions_committing_rollback s p k g r j0 i d w all_await_none =
    let in0 = g.positions.joined_instance k p j0 in
    record {
      new_low = λ j u a b c. let x = undecided_before s k j b in let y = no_member_of_other s k j u g d x.0 x.1 a in rw y (g.positions.new_low j u a x.0 c);
      permanent_new = λ j u a b. g.positions.permanent_new j u a (undecided_before s k j b).0;
      joined_instance = g.positions.joined_instance;
      decided_instance = λ j h. grind (arith, nat_tests, g.positions.decided_instance j, in0.0, in0.1);
      member_open = λ j u a b. g.positions.member_open j u a (undecided_before s k j b).0;
      open_joined = g.positions.open_joined;
      open_saved = g.positions.open_saved;
      open_permanent = λ j u a b c. grind (arith, nat_tests, g.positions.open_permanent j u a b c, r);
      open_sends = λ j m a b c h. g.positions.open_sends j m a b c (was_sent s k g d r w all_await_none m h).0;
      closed_permanent = g.positions.closed_permanent;
      rollback_permanent = g.positions.rollback_permanent;
      saved_low = λ u. let a = g.positions.saved_low u in let b = member_base s k g d r w all_await_none u in (a.0, grind (arith, nat_tests, a.1, b));
    }

pub positions_closing_checkpoint : (s : State) (p k : ℕ) (c : Bool) → s.so_far.is_rollback k ≡ false → 0 < k → s.so_far.open_in p ≡ k → s.so_far.is_decided k ≡ true → s.so_far.is_committed k ≡ c → Invariant s → Positions (after_closing_checkpoint s p k c)
positions_closing_checkpoint s p k true r pos o d i g = record {
  new_low = g.positions.new_low;
  permanent_new = g.positions.permanent_new;
  joined_instance = g.positions.joined_instance;
  decided_instance = g.positions.decided_instance;
  member_open = λ j u a b. grind (arith, nat_tests, g.positions.member_open j u a b);
  open_joined = λ j u a b. grind (arith, nat_tests, g.positions.open_joined j u a);
  open_saved = λ j u a b r'. grind (arith, nat_tests, g.positions.open_saved j u a);
  open_permanent = λ j u a b r'. grind (arith, nat_tests, g.positions.open_permanent j u a);
  open_sends = λ j m a b r' x. grind (arith, nat_tests, g.positions.open_sends j m a);
  closed_permanent = λ u a. grind (arith, nat_tests, g.positions.closed_permanent u, g.positions.open_permanent k p pos o r);
  rollback_permanent = λ j u a b r'. grind (arith, nat_tests, g.positions.rollback_permanent j u a);
  saved_low = λ u. grind (arith, nat_tests, g.positions.saved_low u);
}
positions_closing_checkpoint s p k false r pos o d i g = record {
  new_low = g.positions.new_low;
  permanent_new = g.positions.permanent_new;
  joined_instance = g.positions.joined_instance;
  decided_instance = g.positions.decided_instance;
  member_open = λ j u a b. grind (arith, nat_tests, g.positions.member_open j u a b);
  open_joined = λ j u a b. grind (arith, nat_tests, g.positions.open_joined j u a);
  open_saved = λ j u a b r'. grind (arith, nat_tests, g.positions.open_saved j u a);
  open_permanent = λ j u a b r'. grind (arith, nat_tests, g.positions.open_permanent j u a);
  open_sends = λ j m a b r' x. grind (arith, nat_tests, g.positions.open_sends j m a);
  closed_permanent = λ u a. grind (arith, nat_tests, g.positions.closed_permanent u, g.positions.open_permanent k p pos o r);
  rollback_permanent = λ j u a b r'. grind (arith, nat_tests, g.positions.rollback_permanent j u a);
  saved_low = λ u. grind (arith, nat_tests, g.positions.saved_low u);
}

pub positions_closing_rollback : (s : State) (p k : ℕ) (c : Bool) → s.so_far.is_rollback k ≡ true → 0 < k → s.so_far.open_in p ≡ k → s.so_far.is_decided k ≡ true → s.so_far.is_committed k ≡ c → Invariant s → Positions (after_closing_rollback s p k c)
positions_closing_rollback s p k c r pos o d i g = record {
  new_low = g.positions.new_low;
  permanent_new = g.positions.permanent_new;
  joined_instance = g.positions.joined_instance;
  decided_instance = g.positions.decided_instance;
  member_open = λ j u a b. grind (arith, nat_tests, g.positions.member_open j u a b);
  open_joined = λ j u a b. grind (arith, nat_tests, g.positions.open_joined j u a);
  open_saved = λ j u a b r'. grind (arith, nat_tests, g.positions.open_saved j u a);
  open_permanent = λ j u a b r'. grind (arith, nat_tests, g.positions.open_permanent j u a);
  open_sends = λ j m a b r' x. grind (arith, nat_tests, g.positions.open_sends j m a);
  closed_permanent = λ u a. grind (arith, nat_tests, g.positions.closed_permanent u, g.positions.rollback_permanent k p pos o r);
  rollback_permanent = λ j u a b r'. grind (arith, nat_tests, g.positions.rollback_permanent j u a);
  saved_low = λ u. grind (arith, nat_tests, g.positions.saved_low u);
}

pub positions_decision : (s : State) (p q k : ℕ) (c : Bool) (rest : List Parcel) → s.channel q p ≡ Decide k c ∷ rest → Invariant s → Positions (after_decision s p q rest)
positions_decision s p q k c rest e g = record {
  new_low = g.positions.new_low;
  permanent_new = g.positions.permanent_new;
  joined_instance = g.positions.joined_instance;
  decided_instance = g.positions.decided_instance;
  member_open = g.positions.member_open;
  open_joined = g.positions.open_joined;
  open_saved = g.positions.open_saved;
  open_permanent = g.positions.open_permanent;
  open_sends = g.positions.open_sends;
  closed_permanent = g.positions.closed_permanent;
  rollback_permanent = g.positions.rollback_permanent;
  saved_low = g.positions.saved_low;
}
