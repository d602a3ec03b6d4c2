-- From the machine's invariant to what the log means.
use Rattle.kt_meaning.proofs.Items.{take_item, get_from_drop}
use Rattle.kt_meaning.proofs.LegalLogs.{past_push, legal_take, legal_last}
use Rattle.kt_meaning.specs.Decided.{AbortsChangeNothing, AbortsWhereUnwilling, HasLeastDecisions, HasLinkedDecisions, HasUnwilling, IsJustified, IsLeast, Links}
use Rattle.std.proofs.Common.{◌≡◌, ◌≢◌, ℕ, zero, suc, ◌-◌, ◌≤◌, ◌<◌, Bool, true, false, not, Some, None, List, [], ◌∷◌, ◌++◌, length, take, drop, refl, arith, sym, ap, subst, inl, inr, ◌⊎◌, ◌∙◌}
use Rattle.std.specs.Prelude.{is_some, ◌+◌, ◌||◌, ◌==◌, ◌&&◌, if◌then◌else◌, slice_get, unwrap_or, fold}
use Rattle.std.proofs.lemmas.Bool.{cases_eq, cases_lt}
use Rattle.kt_base.specs.declared.words.Cause.{Cause}
use Rattle.kt_spacetime.specs.declared.event.Event.{Event}
use Rattle.kt_spacetime.specs.declared.event.Event.TheVariants.{Sent, Received, Dropped, Began, Took, Ready, Unwilling, Decided, Closed, Failed, Refused}
use Rattle.kt_spacetime.specs.declared.deeds.Deed.TheVariants as deed
use Rattle.kt_meaning.specs.Past.{Past, past, is_checkpoint, is_rollback, initiator_of}
use Rattle.kt_meaning.specs.Legal.{has_begun, IsLegal, has_deed, broken_rule}
use Rattle.kt_meaning.specs.Cuts.{IsConsistent, checkpoint_cut, rollback_cut, permanent_cut, present_cut}
use Rattle.kt_meaning.specs.Chains.{is_sent_past, members, LinksCheckpoint, LinksRollback}
use Rattle.kt_meaning.specs.Least.{EachLinks}
use Rattle.kt_meaning.specs.Throughout.{LeavesConsistent, HasConsistentDecisions}
use Rattle.kt_meaning.proofs.RowRules.{MayDecide, may_decide}
use Rattle.kt_meaning.proofs.Lists.{get_in_take, get_take, has_from_place, deed_place}
use Rattle.kt_meaning.proofs.Consistency.{consistent, sound_log, decisions_take}
use Rattle.kt_meaning.proofs.Leastness.{least_checkpoint_by_links, least_rollback_by_links}
use Rattle.std.proofs.lemmas.Bool.Decides.{nat_tests}
use Rattle.kt_protocol.proofs.Invariant.{Invariant, one}
use Rattle.kt_protocol.proofs.Lines.{times_apps}
use Rattle.kt_protocol.proofs.Updates.{at_one_here, at_one_other, is_same}
use Rattle.kt_protocol.proofs.SummaryTies.{ranked, tied}
use Rattle.kt_protocol.specs.InTransit.{IsInTransit, times}
use Rattle.kt_protocol.specs.Parcels.{messages}
use Rattle.kt_protocol.proofs.RowFacts.{EachRow, HasNoOrphan, IsAsked, HoldsBefore, rollback_cut_of, checkpoint_cut_of}
use Rattle.kt_protocol.specs.States.{State}
use Rattle.kt_protocol.specs.SummaryMeaning.{PlacesMessages, OrdersMembers, AgreesWith}
use Rattle.kt_protocol.specs.Summary.{Summary, summary_committed, summary, summary_after, summary_start}
use Rattle.kt_protocol.proofs.Choices.{both}

take_next : (log : List Event) (t : ℕ) (row : Event) → slice_get log t ≡ Some row → take (suc t) log ≡ take t log ++ row ∷ []
take_next [] t row e = absurd (cc)
take_next (x ∷ xs) zero row e = let same : x ≡ row = cc in rw same refl
take_next (x ∷ xs) (suc t) row e = ap (λ (l : List Event). x ∷ l) (take_next xs t row e)

-- a row of a legal log breaks no rule
row_unbroken : (log : List Event) (t : ℕ) (row : Event) → IsLegal log → slice_get log t ≡ Some row → broken_rule (past (take t log)) row ≡ None
row_unbroken log t row l e = (legal_last (take t log) row (subst IsLegal (take_next log t row e) (legal_take (suc t) log l))).1

-- no orphan, by numbers and by lists
no_orphan : (h : Summary) (s : Past) → AgreesWith h s → (cut other : ℕ → ℕ) → ((p : ℕ) → cut p ≡ other p) → HasNoOrphan h cut → IsConsistent s other
no_orphan h s t cut other same f = consistent s other (record {
  each = λ p q i msg e l.
      let x = f msg q p i (rw (t.live p) e) (let c = same p in omega (arith, c, l)) in
      (x.0, rw (← t.live q) x.1, let c = same q in let d = x.2 in omega (arith, c, d));
})

saved_cut : (h : Summary) (s : Past) (k : ℕ) → AgreesWith h s → h.is_rollback k ≡ false → (p : ℕ) → checkpoint_cut_of h k p ≡ checkpoint_cut s k p
saved_cut h s k t r p = rw (t.new k p, r) (at_test (h.joined k p))
  where
    at_test : (b : Bool) → (if b then h.new k p else h.permanent p) ≡ unwrap_or (if b && true then Some (h.new k p) else None) (s.permanent p)
    at_test true = refl
    at_test false = t.permanent p

rolled_cut : (h : Summary) (s : Past) (k : ℕ) → AgreesWith h s → h.is_rollback k ≡ true → (p : ℕ) → rollback_cut_of h k p ≡ rollback_cut s k p
rolled_cut h s k t r p = rw (t.ready k p, r) (at_test (h.joined k p))
  where
    at_test : (b : Bool) → (if b then h.permanent p else h.size p) ≡ (if b && true then s.permanent p else length (s.live p))
    at_test true = t.permanent p
    at_test false = t.size p

-- one decision
module _ (log : List Event) (legal : IsLegal log) (p k : ℕ) (c : Bool) (unbroken : broken_rule (past log) (Decided p k c) ≡ None) (fine : HoldsBefore (summary log) (Decided p k c)) where
  tie : AgreesWith (summary log) (past log)
  tie = tied log legal

  may : MayDecide (past log) p k
  may = may_decide (past log) p k c unbroken

  saves_is : is_checkpoint (past log) k ≡ true → (summary log).is_rollback k ≡ false
  saves_is e = flip ((summary log).is_rollback k) (sym (tie.checkpoint k may.begun) ∙ e)
    where
      flip : (b : Bool) → not b ≡ true → b ≡ false
      flip true e = absurd (cc)
      flip false e = refl

  rolls_is : is_rollback (past log) k ≡ true → (summary log).is_rollback k ≡ true
  rolls_is e = sym (tie.rollback k may.begun) ∙ e

  pub leaves : c ≡ true → LeavesConsistent (past log) k
  leaves e = record {
    checkpoint = λ r. no_orphan (summary log) (past log) tie (checkpoint_cut_of (summary log) k) (checkpoint_cut (past log) k) (saved_cut (summary log) (past log) k tie (saves_is r)) (fine.2.consistent e (saves_is r));
    rollback = λ r. no_orphan (summary log) (past log) tie (rollback_cut_of (summary log) k) (rollback_cut (past log) k) (rolled_cut (summary log) (past log) k tie (rolls_is r)) (fine.2.consistent_back e (rolls_is r));
  }

  -- the place of an earlier member
  placed : (place q member : ℕ) → slice_get (members log k) place ≡ Some q → (summary log).joined k member ≡ true → (summary log).joined_at k member < (summary log).joined_at k q → (i : ℕ) × (i < place) × (slice_get (members log k) i ≡ Some member)
  placed place q member e j low =
      let r = ranked log legal in
      let there = r.there k member j in
      (there.0, before r there.0 there.1 (cases_lt there.0 place), there.1)
    where
      before : OrdersMembers (summary log) log → (i : ℕ) → slice_get (members log k) i ≡ Some member → (i < place) ⊎ (place ≤ i) → i < place
      before r i f (inl x) = x
      before r i f (inr x) = elim (cases_eq i place) [
        | inl y ↦ (let same : Some member ≡ Some q = sym f ∙ (rw y e) in let m : member ≡ q = cc in absurd (let z : (summary log).joined_at k q < (summary log).joined_at k q = rw m at low in omega (arith, z)))
        | inr y ↦ (let z = r.rises k place i q member e f (omega (arith, x, y)) in absurd (omega (arith, z, low)))
      ]

  others : (q : ℕ) → initiator_of (past log) k ≢ Some q → q ≢ p
  others q n e = n (may.is_initiator ∙ ap (λ (x : ℕ). Some x) (sym e))

  saved_link : is_checkpoint (past log) k ≡ true → EachLinks (LinksCheckpoint (past log) k) (initiator_of (past log) k) (members log k)
  saved_link kind place q e n =
      let r = ranked log legal in
      let f = fine.2.linked (saves_is kind) q (r.member k place q e) (others q n) in
      let where_is = placed place q f.member e f.joined f.earlier in
      let perm : (past log).permanent q ≤ f.out = (let a = tie.permanent q in let b = f.past_permanent in omega (arith, a, b)) in
      let sent : slice_get ((past log).live q) f.out ≡ Some (deed.Sent f.msg f.member) = rw (← tie.live q) f.sent in
      let received : slice_get ((past log).live f.member) f.place ≡ Some (deed.Received f.msg q) = rw (← tie.live f.member) f.received in
      let new : (past log).new k f.member ≡ Some ((summary log).new k f.member) = tie.new k f.member ∙ rw (f.joined, saves_is kind) refl in
      record {
        earlier = where_is.0;
        before = where_is.1;
        other = f.member;
        there = where_is.2;
        msg = f.msg;
        links = record {
          sent = has_from_place (deed.Sent f.msg f.member) (drop ((past log).permanent q) ((past log).live q)) (f.out - (past log).permanent q) (get_from_drop ((past log).permanent q) ((past log).live q) f.out (deed.Sent f.msg f.member) sent perm);
          member = rw new refl;
          received = rw new (has_from_place (deed.Received f.msg q) (take ((summary log).new k f.member) ((past log).live f.member)) f.place (get_in_take ((summary log).new k f.member) ((past log).live f.member) f.place (deed.Received f.msg q) received f.within));
        };
      }

  rolled_link : is_rollback (past log) k ≡ true → EachLinks (LinksRollback (past log)) (initiator_of (past log) k) (members log k)
  rolled_link kind place q e n =
      let r = ranked log legal in
      let f = fine.2.linked_back (rolls_is kind) q (r.member k place q e) (others q n) in
      let where_is = placed place q f.member e f.joined f.earlier in
      let perm : (past log).permanent f.member ≤ f.out = (let a = tie.permanent f.member in let b = f.past_permanent in omega (arith, a, b)) in
      let sent : slice_get ((past log).live f.member) f.out ≡ Some (deed.Sent f.msg q) = rw (← tie.live f.member) f.sent in
      let received : slice_get ((past log).live q) f.place ≡ Some (deed.Received f.msg f.member) = rw (← tie.live q) f.received in
      record {
        earlier = where_is.0;
        before = where_is.1;
        other = f.member;
        there = where_is.2;
        msg = f.msg;
        links = record {
          sent = has_from_place (deed.Sent f.msg q) (drop ((past log).permanent f.member) ((past log).live f.member)) (f.out - (past log).permanent f.member) (get_from_drop ((past log).permanent f.member) ((past log).live f.member) f.out (deed.Sent f.msg q) sent perm);
          received = has_from_place (deed.Received f.msg f.member) ((past log).live q) f.place received;
        };
      }

  pub links : Links log k
  links = record { checkpoint = saved_link; rollback = rolled_link }

  pub least : c ≡ true → IsLeast log k
  least e = record {
    checkpoint = λ kind. least_checkpoint_by_links log k ((leaves e).checkpoint kind) (saved_link kind);
    rollback = λ kind. least_rollback_by_links log k ((leaves e).rollback kind) (rolled_link kind);
  }

-- all decisions of a log
pub all_consistent : (log : List Event) → IsLegal log → EachRow HoldsBefore log → HasConsistentDecisions log
all_consistent log l f n p k e = leaves (take n log) (legal_take n log l) p k true (row_unbroken log n (Decided p k true) l e) (f n (Decided p k true) e) refl

pub all_linked : (log : List Event) → IsLegal log → EachRow HoldsBefore log → HasLinkedDecisions log
all_linked log l f n p k c e = links (take n log) (legal_take n log l) p k c (row_unbroken log n (Decided p k c) l e) (f n (Decided p k c) e)

pub all_least : (log : List Event) → IsLegal log → EachRow HoldsBefore log → HasLeastDecisions log
all_least log l f n p k e = least (take n log) (legal_take n log l) p k true (row_unbroken log n (Decided p k true) l e) (f n (Decided p k true) e) refl

pub permanent_consistent : (log : List Event) → IsLegal log → EachRow HoldsBefore log → (n : ℕ) → IsConsistent (past (take n log)) (permanent_cut (past (take n log)))
permanent_consistent log l f n =
    let h = sound_log (take n log) (legal_take n log l) (decisions_take n log (all_consistent log l f)) in
    consistent (past (take n log)) (permanent_cut (past (take n log))) h.permanent

pub present_consistent : (log : List Event) → IsLegal log → EachRow HoldsBefore log → (n : ℕ) → IsConsistent (past (take n log)) (present_cut (past (take n log)))
present_consistent log l f n =
    let h = sound_log (take n log) (legal_take n log l) (decisions_take n log (all_consistent log l f)) in
    consistent (past (take n log)) (present_cut (past (take n log))) h.present

-- unwilling rows
unwilling_comes : (h : Summary) (row : Event) (k : ℕ) → (summary_after h row).has_unwilling k ≡ true → (h.has_unwilling k ≡ true) ⊎ ((q : ℕ) × (cause : Cause) × (row ≡ Unwilling q k cause))
unwilling_comes h (Unwilling q j cause) k e = elim (cases_eq k j) [
  | inl i ↦ inr (q, cause, rw i refl)
  | inr n ↦ inl (sym (at_one_other j k true h.has_unwilling n) ∙ e)
]
unwilling_comes h (Decided p j true) k e = inl (by_kind (h.is_rollback j) e)
  where
    by_kind : (b : Bool) → (summary_committed b h j).has_unwilling k ≡ true → h.has_unwilling k ≡ true
    by_kind true e = e
    by_kind false e = e
unwilling_comes h (Decided p j false) k e = inl e
unwilling_comes h (Sent p q body) k e = inl e
unwilling_comes h (Received p q m) k e = inl e
unwilling_comes h (Dropped p q m) k e = inl e
unwilling_comes h (Began p j kind) k e = inl e
unwilling_comes h (Took p j) k e = inl e
unwilling_comes h (Ready p j) k e = inl e
unwilling_comes h (Closed p j) k e = inl e
unwilling_comes h (Failed p) k e = inl e
unwilling_comes h (Refused p v cause) k e = inl e

unwilling_stays : (h : Summary) (row : Event) (k : ℕ) → h.has_unwilling k ≡ true → (summary_after h row).has_unwilling k ≡ true
unwilling_stays h (Unwilling q j cause) k e = at_test (k == j)
  where
    at_test : (b : Bool) → (if b then true else h.has_unwilling k) ≡ true
    at_test true = refl
    at_test false = e
unwilling_stays h (Decided p j true) k e = by_kind (h.is_rollback j)
  where
    by_kind : (b : Bool) → (summary_committed b h j).has_unwilling k ≡ true
    by_kind true = e
    by_kind false = e
unwilling_stays h (Decided p j false) k e = e
unwilling_stays h (Sent p q body) k e = e
unwilling_stays h (Received p q m) k e = e
unwilling_stays h (Dropped p q m) k e = e
unwilling_stays h (Began p j kind) k e = e
unwilling_stays h (Took p j) k e = e
unwilling_stays h (Ready p j) k e = e
unwilling_stays h (Closed p j) k e = e
unwilling_stays h (Failed p) k e = e
unwilling_stays h (Refused p v cause) k e = e

decided_stays : (h : Summary) (row : Event) (k : ℕ) → h.is_decided k ≡ true → (summary_after h row).is_decided k ≡ true
decided_stays h (Decided p j c) k e = at_commit c
  where
    at_test : (b : Bool) → (if b then true else h.is_decided k) ≡ true
    at_test true = refl
    at_test false = e

    by_kind : (b : Bool) → (summary_committed b h j).is_decided k ≡ true
    by_kind true = at_test (k == j)
    by_kind false = at_test (k == j)

    at_commit : (c : Bool) → (summary_after h (Decided p j c)).is_decided k ≡ true
    at_commit true = by_kind (h.is_rollback j)
    at_commit false = at_test (k == j)
decided_stays h (Unwilling q j cause) k e = e
decided_stays h (Sent p q body) k e = e
decided_stays h (Received p q m) k e = e
decided_stays h (Dropped p q m) k e = e
decided_stays h (Began p j kind) k e = e
decided_stays h (Took p j) k e = e
decided_stays h (Ready p j) k e = e
decided_stays h (Closed p j) k e = e
decided_stays h (Failed p) k e = e
decided_stays h (Refused p v cause) k e = e

decided_now : (h : Summary) (p k : ℕ) (c : Bool) → (summary_after h (Decided p k c)).is_decided k ≡ true
decided_now h p k false = at_one_here k true h.is_decided
decided_now h p k true = by_kind (h.is_rollback k)
  where
    by_kind : (b : Bool) → (summary_committed b h k).is_decided k ≡ true
    by_kind true = at_one_here k true h.is_decided
    by_kind false = at_one_here k true h.is_decided

unwilling_from : (h : Summary) (log : List Event) (k : ℕ) → (fold summary_after h log).has_unwilling k ≡ true → (h.has_unwilling k ≡ true) ⊎ HasUnwilling log k
unwilling_from h [] k e = inl e
unwilling_from h (row ∷ rows) k e = elim (unwilling_from (summary_after h row) rows k e) [
  | inl a ↦ elim (unwilling_comes h row k a) [
    | inl b ↦ inl b
    | inr b ↦ inr (0, b.0, b.1, ap (λ (x : Event). Some x) b.2)
  ]
  | inr a ↦ inr (suc a.0, a.1, a.2, a.3)
]

unwilling_on : (h : Summary) (log : List Event) (k : ℕ) → h.has_unwilling k ≡ true → (fold summary_after h log).has_unwilling k ≡ true
unwilling_on h [] k e = e
unwilling_on h (row ∷ rows) k e = unwilling_on (summary_after h row) rows k (unwilling_stays h row k e)

decided_on : (h : Summary) (log : List Event) (k : ℕ) → h.is_decided k ≡ true → (fold summary_after h log).is_decided k ≡ true
decided_on h [] k e = e
decided_on h (row ∷ rows) k e = decided_on (summary_after h row) rows k (decided_stays h row k e)

unwilling_at : (h : Summary) (log : List Event) (n q k : ℕ) (cause : Cause) → slice_get log n ≡ Some (Unwilling q k cause) → (fold summary_after h log).has_unwilling k ≡ true
unwilling_at h [] n q k cause e = absurd (cc)
unwilling_at h (row ∷ rows) zero q k cause e = let same : row ≡ Unwilling q k cause = cc in unwilling_on (summary_after h row) rows k (rw same (at_one_here k true h.has_unwilling))
unwilling_at h (row ∷ rows) (suc n) q k cause e = unwilling_at (summary_after h row) rows n q k cause e

decided_at : (h : Summary) (log : List Event) (n p k : ℕ) (c : Bool) → slice_get log n ≡ Some (Decided p k c) → (fold summary_after h log).is_decided k ≡ true
decided_at h [] n p k c e = absurd (cc)
decided_at h (row ∷ rows) zero p k c e = let same : row ≡ Decided p k c = cc in decided_on (summary_after h row) rows k (rw same (decided_now h p k c))
decided_at h (row ∷ rows) (suc n) p k c e = decided_at (summary_after h row) rows n p k c e

pub aborts : (log : List Event) → EachRow HoldsBefore log → AbortsWhereUnwilling log
aborts log f n p k c e =
    let x : (summary (take n log)).has_unwilling k ≡ not c = (f n (Decided p k c) e).2.exact in
    (λ a. there x a, λ u. aborted x u)
  where
    there : (summary (take n log)).has_unwilling k ≡ not c → c ≡ false → HasUnwilling log k
    there x a = elim (unwilling_from summary_start (take n log) k (x ∙ rw a refl)) [
      | inl b ↦ absurd (cc)
      | inr b ↦ (b.0, b.1, b.2, (get_take n log b.0 (Unwilling b.1 k b.2) b.3).0)
    ]

    flip : (b : Bool) → true ≡ not b → b ≡ false
    flip true e = absurd (cc)
    flip false e = refl

    aborted : (summary (take n log)).has_unwilling k ≡ not c → HasUnwilling log k → c ≡ false
    aborted x u = elim (cases_lt u.0 n) [
      | inl b ↦ (let y = unwilling_at summary_start (take n log) u.0 u.1 k u.2 (get_in_take n log u.0 (Unwilling u.1 k u.2) u.3 b) in flip c (sym y ∙ x))
      | inr b ↦ elim (cases_eq u.0 n) [
        | inl i ↦ (let y : slice_get log n ≡ Some (Unwilling u.1 k u.2) = rw i at u.3 in let z : Some (Decided p k c) ≡ Some (Unwilling u.1 k u.2) = sym e ∙ y in absurd (cc (z)))
        | inr i ↦ (
            let y = (f u.0 (Unwilling u.1 k u.2) u.3).2 in
            let z = decided_at summary_start (take u.0 log) n p k c (get_in_take u.0 log n (Decided p k c) e (omega (arith, b, i))) in
            absurd (cc (y, z)))
      ]
    ]

-- the places of messages in a state that is good
pub placed_in : (s : State) → Invariant s → AgreesWith s.so_far (past s.log) → PlacesMessages s.so_far (past s.log)
placed_in s g t = record {
  sent = λ m p to i. (
    λ e. (let a = g.histories.sent_is p i m to (rw (t.live p) e) in (a.0, a.1, a.3, a.2)),
    λ a. (let e = g.histories.sent_there m a.0 in rw (a.1, a.2, a.3, t.live p) at e),
  );
  received = λ m p from i. (
    λ e. (let a = g.histories.received_is p i m from (rw (t.live p) e) in (a.0, a.1, a.3, a.2)),
    λ a. (let e = g.histories.received_there m a.0 in rw (a.1, a.2, a.3, t.live p) at e),
  );
  is_sent = λ m. sent_test m (s.so_far.is_sent m) (has_deed (deed.Sent m (s.so_far.to m)) ((past s.log).live (s.so_far.from m))) refl refl;
  is_received = λ m. got_test m (s.so_far.is_received m) (has_deed (deed.Received m (s.so_far.from m)) ((past s.log).live (s.so_far.to m))) refl refl;
}
  where
    sent_test : (m : ℕ) (a b : Bool) → s.so_far.is_sent m ≡ a → has_deed (deed.Sent m (s.so_far.to m)) ((past s.log).live (s.so_far.from m)) ≡ b → s.so_far.is_sent m ≡ has_deed (deed.Sent m (s.so_far.to m)) ((past s.log).live (s.so_far.from m))
    sent_test m false false e f = e ∙ sym f
    sent_test m true b e f = e ∙ sym (has_from_place (deed.Sent m (s.so_far.to m)) ((past s.log).live (s.so_far.from m)) (s.so_far.sent_at m) (rw (← t.live (s.so_far.from m)) (g.histories.sent_there m e)))
    sent_test m false true e f =
        let x = deed_place (deed.Sent m (s.so_far.to m)) ((past s.log).live (s.so_far.from m)) f in
        (g.histories.sent_is (s.so_far.from m) x.0 m (s.so_far.to m) (rw (t.live (s.so_far.from m)) x.1)).0 ∙ sym f

    got_test : (m : ℕ) (a b : Bool) → s.so_far.is_received m ≡ a → has_deed (deed.Received m (s.so_far.from m)) ((past s.log).live (s.so_far.to m)) ≡ b → s.so_far.is_received m ≡ has_deed (deed.Received m (s.so_far.from m)) ((past s.log).live (s.so_far.to m))
    got_test m false false e f = e ∙ sym f
    got_test m true b e f = e ∙ sym (has_from_place (deed.Received m (s.so_far.from m)) ((past s.log).live (s.so_far.to m)) (s.so_far.received_at m) (rw (← t.live (s.so_far.to m)) (g.histories.received_there m e)))
    got_test m false true e f =
        let x = deed_place (deed.Received m (s.so_far.from m)) ((past s.log).live (s.so_far.to m)) f in
        (g.histories.received_is (s.so_far.to m) x.0 m (s.so_far.from m) (rw (t.live (s.so_far.to m)) x.1)).0 ∙ sym f

-- an unwilling row
pub justified_in : (h : Summary) (s : Past) (p k : ℕ) (cause : Cause) → AgreesWith h s → IsAsked h p k cause → IsJustified s p k cause
justified_in h s p k cause t a =
    let begun = t.begun k a.asker a.joined in
    record {
      asker = a.asker;
      member = rw (t.new k a.asker, t.ready k a.asker, a.joined) (one_of (h.is_rollback k));
      msg = a.msg;
      received = λ kind. let r = saves_kind begun kind in let new = new_of r in rw new (is_received (a.received r));
      sent = λ kind. let r : h.is_rollback k ≡ true = sym (t.rollback k begun) ∙ kind in let x = a.sent r in is_sent a.asker p a.out x.0 x.1;
      linked = λ z. let x = a.linked z in let new = new_of x.0 in record {
        sent = is_sent p a.asker a.out x.1 x.2;
        member = rw new refl;
        received = rw new (within_new (a.received x.0));
      };
    }
  where
    one_of : (r : Bool) → (is_some (if true && not r then Some (h.new k a.asker) else None) || (true && r)) ≡ true
    one_of true = refl
    one_of false = refl

    flip : (b : Bool) → not b ≡ true → b ≡ false
    flip true e = absurd (cc)
    flip false e = refl

    saves_kind : has_begun s k ≡ true → is_checkpoint s k ≡ true → h.is_rollback k ≡ false
    saves_kind b kind = flip (h.is_rollback k) (sym (t.checkpoint k b) ∙ kind)

    new_of : h.is_rollback k ≡ false → s.new k a.asker ≡ Some (h.new k a.asker)
    new_of r = t.new k a.asker ∙ rw (a.joined, r) refl

    within_new : (slice_get (h.live a.asker) a.place ≡ Some (deed.Received a.msg p)) × (h.permanent a.asker ≤ a.place) × (a.place < h.new k a.asker) → has_deed (deed.Received a.msg p) (take (h.new k a.asker) (s.live a.asker)) ≡ true
    within_new x = has_from_place (deed.Received a.msg p) (take (h.new k a.asker) (s.live a.asker)) a.place (get_in_take (h.new k a.asker) (s.live a.asker) a.place (deed.Received a.msg p) (rw (← t.live a.asker) x.0) x.2)

    is_received : (slice_get (h.live a.asker) a.place ≡ Some (deed.Received a.msg p)) × (h.permanent a.asker ≤ a.place) × (a.place < h.new k a.asker) → has_deed (deed.Received a.msg p) (drop (s.permanent a.asker) (take (h.new k a.asker) (s.live a.asker))) ≡ true
    is_received x =
        let there = get_in_take (h.new k a.asker) (s.live a.asker) a.place (deed.Received a.msg p) (rw (← t.live a.asker) x.0) x.2 in
        let low : s.permanent a.asker ≤ a.place = (let y = t.permanent a.asker in let z = x.1 in omega (arith, y, z)) in
        has_from_place (deed.Received a.msg p) (drop (s.permanent a.asker) (take (h.new k a.asker) (s.live a.asker))) (a.place - s.permanent a.asker) (get_from_drop (s.permanent a.asker) (take (h.new k a.asker) (s.live a.asker)) a.place (deed.Received a.msg p) there low)

    is_sent : (u v out : ℕ) → slice_get (h.live u) out ≡ Some (deed.Sent a.msg v) → h.permanent u ≤ out → is_sent_past s u v a.msg ≡ true
    is_sent u v out e l =
        let there : slice_get (s.live u) out ≡ Some (deed.Sent a.msg v) = rw (← t.live u) e in
        let low : s.permanent u ≤ out = (let y = t.permanent u in omega (arith, y, l)) in
        has_from_place (deed.Sent a.msg v) (drop (s.permanent u) (s.live u)) (out - s.permanent u) (get_from_drop (s.permanent u) (s.live u) out (deed.Sent a.msg v) there low)

-- messages in transit
pub in_transit : (s : State) → Invariant s → AgreesWith s.so_far (past s.log) → IsInTransit (past s.log) s.channel s.held
in_transit s g t m p q =
    let a = times_apps m (s.channel p q) in
    let b = times_apps m (s.held p q) in
    let c = g.messages.flying m p q in
    let d = placed_in s g t in
    let e = sent_here d in
    let sum : times m (messages (s.channel p q)) + times m (messages (s.held p q)) ≡ one (s.so_far.is_sent m && not (s.so_far.is_received m) && not (s.so_far.dropped m) && s.so_far.from m == p && s.so_far.to m == q) = omega (arith, a, b, c) in
    sum ∙ rw (t.dropped m) (by_sent (has_deed (deed.Sent m q) ((past s.log).live p)) refl e)
  where
    same_number : (a b : ℕ) → (a == b) ≡ true → a ≡ b
    same_number a b e = grind (arith, nat_tests, e)

    sent_here : PlacesMessages s.so_far (past s.log) → has_deed (deed.Sent m q) ((past s.log).live p) ≡ (s.so_far.is_sent m && s.so_far.from m == p && s.so_far.to m == q)
    sent_here d = at_test (has_deed (deed.Sent m q) ((past s.log).live p)) (s.so_far.is_sent m && s.so_far.from m == p && s.so_far.to m == q) refl refl
      where
        at_test : (x y : Bool) → has_deed (deed.Sent m q) ((past s.log).live p) ≡ x → (s.so_far.is_sent m && s.so_far.from m == p && s.so_far.to m == q) ≡ y → has_deed (deed.Sent m q) ((past s.log).live p) ≡ (s.so_far.is_sent m && s.so_far.from m == p && s.so_far.to m == q)
        at_test true y e f =
            let place = deed_place (deed.Sent m q) ((past s.log).live p) e in
            let w = (d.sent m p q place.0).0 place.1 in
            e ∙ sym (rw (w.0, w.1, w.2, is_same p, is_same q) refl)
        at_test false false e f = e ∙ sym f
        at_test false true e f =
            let a = both (s.so_far.is_sent m && s.so_far.from m == p) (s.so_far.to m == q) f in
            let b = both (s.so_far.is_sent m) (s.so_far.from m == p) a.0 in
            let w = (d.sent m p q (s.so_far.sent_at m)).1 (b.0, same_number (s.so_far.from m) p b.1, same_number (s.so_far.to m) q a.1, refl) in
            has_from_place (deed.Sent m q) ((past s.log).live p) (s.so_far.sent_at m) w ∙ sym f

    got_here : PlacesMessages s.so_far (past s.log) → s.so_far.from m ≡ p → s.so_far.to m ≡ q → has_deed (deed.Received m p) ((past s.log).live q) ≡ s.so_far.is_received m
    got_here d from to = rw (← from, ← to) (sym (d.is_received m))

    by_sent : (x : Bool) → has_deed (deed.Sent m q) ((past s.log).live p) ≡ x → has_deed (deed.Sent m q) ((past s.log).live p) ≡ (s.so_far.is_sent m && s.so_far.from m == p && s.so_far.to m == q) → one (s.so_far.is_sent m && not (s.so_far.is_received m) && not (s.so_far.dropped m) && s.so_far.from m == p && s.so_far.to m == q) ≡ (if has_deed (deed.Sent m q) ((past s.log).live p) && not (has_deed (deed.Received m p) ((past s.log).live q)) && not (s.so_far.dropped m) then 1 else 0)
    by_sent false e f = rw e (none (s.so_far.is_sent m) (s.so_far.from m == p) (s.so_far.to m == q) (s.so_far.is_received m) (s.so_far.dropped m) (sym f ∙ e))
      where
        none : (a b c x y : Bool) → (a && b && c) ≡ false → one (a && not x && not y && b && c) ≡ 0
        none a b c x y e = grind (arith, nat_tests, e)
    by_sent true e f =
        let a = both (s.so_far.is_sent m && s.so_far.from m == p) (s.so_far.to m == q) (sym f ∙ e) in
        let b = both (s.so_far.is_sent m) (s.so_far.from m == p) a.0 in
        let w = got_here (placed_in s g t) (same_number (s.so_far.from m) p b.1) (same_number (s.so_far.to m) q a.1) in
        rw (e, w, b.0, b.1, a.1) (some (s.so_far.is_received m) (s.so_far.dropped m))
      where
        some : (x y : Bool) → one (true && not x && not y && true && true) ≡ (if true && not x && not y then 1 else 0)
        some true y = refl
        some false true = refl
        some false false = refl

-- the row that decides an abort
pub aborts_change_nothing : (log : List Event) → AbortsChangeNothing log
aborts_change_nothing log n p k q e =
    let a = take_item log n (n + 1) (Decided p k false) refl e in
    let b = past_push (take n log) (Decided p k false) in
    (ap (λ (l : List Event). (past l).live q) a ∙ ap (λ (s : Past). s.live q) b, ap (λ (l : List Event). (past l).permanent q) a ∙ ap (λ (s : Past). s.permanent q) b)
