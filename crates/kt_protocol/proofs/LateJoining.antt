-- Beginning, joining and noting: what they do to a late state c, once closed.
use Rattle.std.proofs.Common.{◌≡◌, ◌≢◌, ℕ, ◌+◌, Bool, true, false, not, List, ◌++◌, refl, arith, sym, ap, ap₂, ◌∙◌}
use Rattle.std.specs.Prelude.{◌==◌, ◌&&◌, nat_lt, nat_le, if◌then◌else◌}
use Rattle.kt_spacetime.specs.declared.event.Event.TheVariants.{Took}
use Rattle.kt_protocol.proofs.Choices.{same}
use Rattle.kt_protocol.proofs.Invariant.{Invariant}
use Rattle.kt_protocol.proofs.Updates.{is_other}
use Rattle.kt_protocol.specs.Joining.{after_began, after_joining_checkpoint, after_joining_rollback}
use Rattle.kt_protocol.specs.Parcels.{Parcel, Lists, messages_where}
use Rattle.kt_protocol.specs.Replies.{after_noting}
use Rattle.kt_protocol.specs.States.{State}
use Rattle.kt_protocol.specs.Summary.{Summary, summary_after, summary_began}
use Rattle.kt_protocol.specs.LateClosing.{is_within_label, is_newer}
use Rattle.kt_protocol.specs.OnceClosed.{has_to_save, has_to_restore, kept_once_closed, held_once_closed, once_closed}
use Rattle.kt_protocol.proofs.SameStates.{same_fields, same_more_fields, asks_same, checkpoint_asks_same, rollback_asks_same, swap, here_one, closed_no_save, closed_no_restore}

-- nobody is in a new instance
not_new : (c : State) (u : ℕ) → Invariant (once_closed c) → c.so_far.open_in u ≢ c.instances + 1
not_new c u g e = let j = g.positions.open_joined (c.instances + 1) u (omega arith) e in let l = (g.positions.joined_instance (c.instances + 1) u j).1 in absurd (omega (arith, l))

pub save_began : (c : State) (roll : Bool) (u : ℕ) → Invariant (once_closed c) → has_to_save (summary_began c.so_far (c.instances + 1) roll) u ≡ has_to_save c.so_far u
save_began c roll u g = rw (is_other (c.so_far.open_in u) (c.instances + 1) (not_new c u g)) refl

restore_began : (c : State) (roll : Bool) (u : ℕ) → Invariant (once_closed c) → has_to_restore (summary_began c.so_far (c.instances + 1) roll) u ≡ has_to_restore c.so_far u
restore_began c roll u g = rw (is_other (c.so_far.open_in u) (c.instances + 1) (not_new c u g)) refl

pub once_closed_began : (c : State) (p : ℕ) (roll : Bool) → Invariant (once_closed c) → once_closed (after_began c p roll) ≡ after_began (once_closed c) p roll
once_closed_began c p roll g = same_fields (after_began c p roll)
    (λ u v. ap (λ (r : Bool). if r then 0 else c.first_sent u v) (restore_began c roll u g))
    (λ u v. ap (λ (r : Bool). if r then 0 else c.last_received u v) (restore_began c roll u g))
    (λ u v. ap (λ (r : Bool). if r then c.latest_sent u v else c.last_sent u v) (save_began c roll u g))
    (λ a u. ap₂ (λ (s r : Bool). kept_once_closed s r (is_newer c u) (c.kept a u)) (save_began c roll u g) (restore_began c roll u g))
    (λ a u. ap (λ (r : Bool). held_once_closed r (is_within_label c (c.so_far.open_in u) u a) (c.kept a u) (c.held a u)) (restore_began c roll u g))

-- p joins k, which is not decided: nobody has more to do
module _ (h : Summary) (p k : ℕ) (o : h.open_in p ≡ 0) (d : h.is_decided k ≡ false) where
  no_more : (a b r : Bool) (x : Bool) → x ≡ false → ((a && (x && b)) && r) ≡ false
  no_more true b r x e = rw e refl
  no_more false b r x e = refl

  pub joining_due : (u : ℕ) → (has_to_save (summary_after h (Took p k)) u ≡ has_to_save h u) × (has_to_restore (summary_after h (Took p k)) u ≡ has_to_restore h u)
  joining_due u = go (u == p) refl
    where
      go : (b : Bool) → (u == p) ≡ b → (((not ((if b then k else h.open_in u) == 0) && (h.is_decided (if b then k else h.open_in u) && h.is_committed (if b then k else h.open_in u))) && not (h.is_rollback (if b then k else h.open_in u))) ≡ has_to_save h u) × (((not ((if b then k else h.open_in u) == 0) && (h.is_decided (if b then k else h.open_in u) && h.is_committed (if b then k else h.open_in u))) && h.is_rollback (if b then k else h.open_in u)) ≡ has_to_restore h u)
      go false e = (refl, refl)
      go true e = (no_more (not (k == 0)) (h.is_committed k) (not (h.is_rollback k)) (h.is_decided k) d ∙ sym (here_one (has_to_save h) u p (closed_no_save h p o) e), no_more (not (k == 0)) (h.is_committed k) (h.is_rollback k) (h.is_decided k) d ∙ sym (here_one (has_to_restore h) u p (closed_no_restore h p o) e))

kept_aside : (s r b : Bool) (t t' : ℕ → Bool) (l : List Parcel) → (b ≡ true → s ≡ false) → (b ≡ false → t ≡ t') → kept_once_closed s r t l ≡ kept_once_closed s r t' l
kept_aside true r true t t' l e d = absurd (cc (e refl))
kept_aside true r false t t' l e d = ap (λ (x : ℕ → Bool). messages_where x l) (d refl)
kept_aside false r b t t' l e d = refl

held_aside : (r b : Bool) (t t' : ℕ → Bool) (k h : List Parcel) → (b ≡ true → r ≡ false) → (b ≡ false → t ≡ t') → held_once_closed r t k h ≡ held_once_closed r t' k h
held_aside true true t t' k h e d = absurd (cc (e refl))
held_aside true false t t' k h e d = ap (λ (x : ℕ → Bool). messages_where x k ++ messages_where x h) (d refl)
held_aside false b t t' k h e d = refl

not_zero : (r x : Bool) (n : ℕ) → r ≡ false → n ≡ (if r then 0 else n)
not_zero true x n e = absurd (cc (e))
not_zero false x n e = refl

module _ (c : State) (p k : ℕ) (o : c.so_far.open_in p ≡ 0) (d : c.so_far.is_decided k ≡ false) where
  save_at : (u : ℕ) → (u == p) ≡ true → has_to_save c.so_far u ≡ false
  save_at u e = here_one (has_to_save c.so_far) u p (closed_no_save c.so_far p o) e

  restore_at : (u : ℕ) → (u == p) ≡ true → has_to_restore c.so_far u ≡ false
  restore_at u e = here_one (has_to_restore c.so_far) u p (closed_no_restore c.so_far p o) e

  first_p : (v : ℕ) → c.first_sent p v ≡ (once_closed c).first_sent p v
  first_p v = not_zero (has_to_restore c.so_far p) true (c.first_sent p v) (closed_no_restore c.so_far p o)

  last_p : (v : ℕ) → c.last_received p v ≡ (once_closed c).last_received p v
  last_p v = not_zero (has_to_restore c.so_far p) true (c.last_received p v) (closed_no_restore c.so_far p o)

  sent_p : (v : ℕ) → c.last_sent p v ≡ (once_closed c).last_sent p v
  sent_p v = go (has_to_save c.so_far p) (closed_no_save c.so_far p o)
    where
      go : (r : Bool) → r ≡ false → c.last_sent p v ≡ (if r then c.latest_sent p v else c.last_sent p v)
      go true e = absurd (cc (e))
      go false e = refl

  held_same : (a u : ℕ) → held_once_closed (has_to_restore (summary_after c.so_far (Took p k)) u) (is_within_label c (if u == p then k else c.so_far.open_in u) u a) (c.kept a u) (c.held a u) ≡ held_once_closed (has_to_restore c.so_far u) (is_within_label c (c.so_far.open_in u) u a) (c.kept a u) (c.held a u)
  held_same a u = ap (λ (r : Bool). held_once_closed r (is_within_label c (if u == p then k else c.so_far.open_in u) u a) (c.kept a u) (c.held a u)) (joining_due c.so_far p k o d u).1 ∙
      held_aside (has_to_restore c.so_far u) (u == p) _ _ (c.kept a u) (c.held a u) (restore_at u) (λ e. rw e refl)

  pub once_closed_joining_checkpoint : (channel : Lists) (is_first : Bool) (par lnk : ℕ) → once_closed (after_joining_checkpoint c channel p k is_first par lnk) ≡ after_joining_checkpoint (once_closed c) channel p k is_first par lnk
  once_closed_joining_checkpoint channel is_first par lnk = same_more_fields (after_joining_checkpoint c channel p k is_first par lnk)
      (asks_same c.asks c.processes k (c.last_received p) ((once_closed c).last_received p) last_p)
      (checkpoint_asks_same channel c.last_received (once_closed c).last_received p k last_p)
      (λ j u v. ap (λ (x : ℕ). if j == k && u == p then nat_lt 0 x else c.asked j u v) (last_p v))
      (λ j u v. ap (λ (x : ℕ). if j == k && u == p then nat_lt 0 x else c.awaits j u v) (last_p v))
      (λ u v. ap (λ (x : ℕ). if u == p then x else c.first_sent_aside u v) (first_p v))
      (λ u v. ap (λ (x : ℕ). if u == p then x else c.last_received_aside u v) (last_p v))
      (λ u v. ap (λ (r : Bool). if r then 0 else if u == p then 0 else c.first_sent u v) (joining_due c.so_far p k o d u).1 ∙ swap (has_to_restore c.so_far u) (u == p) 0 0 0 (c.first_sent u v) (restore_at u) refl)
      (λ u v. ap (λ (r : Bool). if r then 0 else if u == p then 0 else c.last_received u v) (joining_due c.so_far p k o d u).1 ∙ swap (has_to_restore c.so_far u) (u == p) 0 0 0 (c.last_received u v) (restore_at u) refl)
      (λ u v. ap (λ (r : Bool). if r then c.latest_sent u v else c.last_sent u v) (joining_due c.so_far p k o d u).0)
      (λ a u. ap₂ (λ (s r : Bool). kept_once_closed s r (λ m. nat_le (if u == p then c.so_far.size p else c.saved_at u) (c.so_far.received_at m)) (c.kept a u)) (joining_due c.so_far p k o d u).0 (joining_due c.so_far p k o d u).1 ∙
      kept_aside (has_to_save c.so_far u) (has_to_restore c.so_far u) (u == p) _ _ (c.kept a u) (save_at u) (λ e. rw e refl))
      held_same

  pub once_closed_joining_rollback : (channel : Lists) (is_first : Bool) (par lnk : ℕ) → once_closed (after_joining_rollback c channel p k is_first par lnk) ≡ after_joining_rollback (once_closed c) channel p k is_first par lnk
  once_closed_joining_rollback channel is_first par lnk = same_more_fields (after_joining_rollback c channel p k is_first par lnk)
      (asks_same c.asks c.processes k (c.first_sent p) ((once_closed c).first_sent p) first_p)
      (rollback_asks_same channel c.first_sent (once_closed c).first_sent c.last_sent (once_closed c).last_sent p k first_p sent_p)
      (λ j u v. ap (λ (x : ℕ). if j == k && u == p then nat_lt 0 x else c.asked j u v) (first_p v))
      (λ j u v. ap (λ (x : ℕ). if j == k && u == p then nat_lt 0 x else c.awaits j u v) (first_p v))
      (λ u v. refl)
      (λ u v. refl)
      (λ u v. ap (λ (r : Bool). if r then 0 else c.first_sent u v) (joining_due c.so_far p k o d u).1)
      (λ u v. ap (λ (r : Bool). if r then 0 else c.last_received u v) (joining_due c.so_far p k o d u).1)
      (λ u v. ap (λ (r : Bool). if r then c.latest_sent u v else c.last_sent u v) (joining_due c.so_far p k o d u).0)
      (λ a u. ap₂ (λ (s r : Bool). kept_once_closed s r (is_newer c u) (c.kept a u)) (joining_due c.so_far p k o d u).0 (joining_due c.so_far p k o d u).1)
      held_same

-- p notes a label in an instance that is not decided
pub once_closed_noting : (c : State) (p q k l : ℕ) → c.so_far.is_decided k ≡ false → once_closed (after_noting c p q k l) ≡ after_noting (once_closed c) p q k l
once_closed_noting c p q k l d = same_fields (after_noting c p q k l) (λ u v. refl) (λ u v. refl) (λ u v. refl) (λ u v. refl)
    (λ a u. held_aside (has_to_restore c.so_far u) (c.so_far.open_in u == k && u == p && a == q) _ _ (c.kept a u) (c.held a u) (λ e. quiet (c.so_far.open_in u) (c.so_far.open_in u == k) (u == p) (a == q) e refl) (λ e. ap {B = ℕ → Bool} (λ (b : Bool) (m : ℕ). not ((if b then true else c.noted (c.so_far.open_in u) u a) && nat_lt (if b then l else c.noted_label (c.so_far.open_in u) u a) m)) e))
  where
    quiet : (j : ℕ) (x y z : Bool) → (x && y && z) ≡ true → (j == k) ≡ x → ((not (j == 0) && (c.so_far.is_decided j && c.so_far.is_committed j)) && c.so_far.is_rollback j) ≡ false
    quiet j true y z e f = rw (same j k f) (no_more (not (k == 0)) (c.so_far.is_committed k) (c.so_far.is_rollback k) (c.so_far.is_decided k) d)
      where
        no_more : (a b r : Bool) (x : Bool) → x ≡ false → ((a && (x && b)) && r) ≡ false
        no_more true b r x e = rw e refl
        no_more false b r x e = refl
    quiet j false y z e f = absurd (cc)
