-- The closed row: what it does to a late state c, once closed.
use Rattle.std.proofs.Common.{◌≡◌, ℕ, ◌<◌, Bool, true, false, not, List, [], ◌++◌, refl, arith, sym, ap, ap₂, ◌∙◌}
use Rattle.std.specs.Prelude.{◌==◌, ◌&&◌, nat_lt, nat_le, if◌then◌else◌}
use Rattle.std.proofs.lemmas.Bool.Decides.{nat_tests}
use Rattle.kt_protocol.proofs.Choices.{same}
use Rattle.kt_protocol.specs.Deciding.{after_closing_checkpoint, after_closing_rollback, after_closing}
use Rattle.kt_protocol.specs.Parcels.{Parcel, messages_where}
use Rattle.kt_protocol.specs.States.{State}
use Rattle.kt_protocol.specs.LateClosing.{is_within_label, is_newer, late_closing_checkpoint, late_closing_rollback, late_closing}
use Rattle.kt_protocol.specs.OnceClosed.{has_to_close, has_to_save, has_to_restore, kept_once_closed, held_once_closed, once_closed}
use Rattle.kt_protocol.proofs.SameStates.{same_fields, choice, swap}

-- what was still to be done at one place is done
moved : {X : Type 0} (s' s b : Bool) (x y : X) → (b ≡ true → s ≡ true) → (b ≡ true → s' ≡ false) → (b ≡ false → s' ≡ s) → (if s' then x else if b then x else y) ≡ (if s then x else y)
moved s' s true x y a d e = rw (a refl, d refl) refl
moved s' s false x y a d e = rw (e refl) refl

kept_saved : (s' r' s r b : Bool) (t : ℕ → Bool) (l : List Parcel) → (b ≡ true → s ≡ true) → (b ≡ true → s' ≡ false) → (b ≡ false → s' ≡ s) → r' ≡ r → (b ≡ true → r ≡ false) → kept_once_closed s' r' t (if b then messages_where t l else l) ≡ kept_once_closed s r t l
kept_saved s' r' s r true t l a d e f n = rw (a refl, d refl, f, n refl) refl
kept_saved s' r' s r false t l a d e f n = rw (e refl, f) refl

held_saved : (r' r b : Bool) (t t' : ℕ → Bool) (k k' h : List Parcel) → r' ≡ r → (b ≡ true → r ≡ false) → (b ≡ false → t' ≡ t) → (b ≡ false → k' ≡ k) → held_once_closed r' t' k' h ≡ held_once_closed r t k h
held_saved r' r true t t' k k' h e n x y = rw (e, n refl) refl
held_saved r' r false t t' k k' h e n x y = rw (e, x refl, y refl) refl

kept_restored : (s' r' s r b : Bool) (t : ℕ → Bool) (l : List Parcel) → s' ≡ s → (b ≡ true → s ≡ false) → (b ≡ true → r ≡ true) → (b ≡ true → r' ≡ false) → (b ≡ false → r' ≡ r) → kept_once_closed s' r' t (if b then [] else l) ≡ kept_once_closed s r t l
kept_restored s' r' s r true t l e n a d f = rw (e, n refl, a refl, d refl) refl
kept_restored s' r' s r false t l e n a d f = rw (e, f refl) refl

held_restored : (r' r b : Bool) (t t' w : ℕ → Bool) (k h : List Parcel) → (b ≡ true → r ≡ true) → (b ≡ true → r' ≡ false) → (b ≡ false → r' ≡ r) → (b ≡ true → w ≡ t) → (b ≡ false → t' ≡ t) →
    held_once_closed r' t' (if b then [] else k) (if b then messages_where w k ++ messages_where w h else h) ≡ held_once_closed r t k h
held_restored r' r true t t' w k h a d e x y = rw (a refl, d refl, x refl) refl
held_restored r' r false t t' w k h a d e x y = rw (e refl, y refl) refl

module _ (c : State) (p k : ℕ) (pos : 0 < k) (o : c.so_far.open_in p ≡ k) (d : c.so_far.is_decided k ≡ true) where
  due_is : (b : Bool) → c.so_far.is_committed k ≡ b → has_to_close c.so_far p ≡ b
  due_is b e = rw (o, d, e) (go b)
    where
      go : (b : Bool) → (not (k == 0) && (true && b)) ≡ b
      go true = grind (arith, nat_tests, pos)
      go false = grind (arith, nat_tests)

  due_here : (b : Bool) → c.so_far.is_committed k ≡ b → (u : ℕ) → (u == p) ≡ true → has_to_close c.so_far u ≡ b
  due_here b e u x = ap (has_to_close c.so_far) (same u p x) ∙ due_is b e

  roll_here : (b : Bool) → c.so_far.is_rollback k ≡ b → (u : ℕ) → (u == p) ≡ true → c.so_far.is_rollback (c.so_far.open_in u) ≡ b
  roll_here b r u x = ap (λ (i : ℕ). c.so_far.is_rollback (c.so_far.open_in i)) (same u p x) ∙ (ap c.so_far.is_rollback o ∙ r)

  -- who has to close an instance afterwards
  unfoldable pub then_open : ℕ → ℕ
  then_open u = if u == p then 0 else c.so_far.open_in u

  unfoldable pub then_saving : ℕ → Bool
  unfolding then_open
  then_saving u = (not (then_open u == 0) && (c.so_far.is_decided (then_open u) && c.so_far.is_committed (then_open u))) && not (c.so_far.is_rollback (then_open u))

  unfoldable pub then_restoring : ℕ → Bool
  unfolding then_open
  then_restoring u = (not (then_open u == 0) && (c.so_far.is_decided (then_open u) && c.so_far.is_committed (then_open u))) && c.so_far.is_rollback (then_open u)

  pub saving_here : (u : ℕ) → (u == p) ≡ true → then_saving u ≡ false
  unfolding then_saving then_open
  saving_here u e = rw e refl

  pub restoring_here : (u : ℕ) → (u == p) ≡ true → then_restoring u ≡ false
  unfolding then_restoring then_open
  restoring_here u e = rw e refl

  pub saving_there : (u : ℕ) → (u == p) ≡ false → then_saving u ≡ has_to_save c.so_far u
  unfolding then_saving then_open
  saving_there u e = rw e refl

  pub restoring_there : (u : ℕ) → (u == p) ≡ false → then_restoring u ≡ has_to_restore c.so_far u
  unfolding then_restoring then_open
  restoring_there u e = rw e refl

  open_there : (u a : ℕ) → (u == p) ≡ false → is_within_label c (then_open u) u a ≡ is_within_label c (c.so_far.open_in u) u a
  unfolding then_open
  open_there u a e = ap (λ (b : Bool). is_within_label c (if b then 0 else c.so_far.open_in u) u a) e

  open_here : (u a : ℕ) → (u == p) ≡ true → is_within_label c k u a ≡ is_within_label c (c.so_far.open_in u) u a
  open_here u a e = ap (λ (i : ℕ). is_within_label c i u a) (sym (ap c.so_far.open_in (same u p e) ∙ o))

  -- where p has nothing of one kind to do
  saving_same : ((u : ℕ) → (u == p) ≡ true → has_to_save c.so_far u ≡ false) → (u : ℕ) → then_saving u ≡ has_to_save c.so_far u
  saving_same n u = go (u == p) refl
    where
      go : (b : Bool) → (u == p) ≡ b → then_saving u ≡ has_to_save c.so_far u
      go true e = saving_here u e ∙ sym (n u e)
      go false e = saving_there u e

  restoring_same : ((u : ℕ) → (u == p) ≡ true → has_to_restore c.so_far u ≡ false) → (u : ℕ) → then_restoring u ≡ has_to_restore c.so_far u
  restoring_same n u = go (u == p) refl
    where
      go : (b : Bool) → (u == p) ≡ b → then_restoring u ≡ has_to_restore c.so_far u
      go true e = restoring_here u e ∙ sym (n u e)
      go false e = restoring_there u e

  -- a commit
  module _ (y : c.so_far.is_committed k ≡ true) where
    due_kind : (b : Bool) → c.so_far.is_rollback k ≡ b → (u : ℕ) → (u == p) ≡ true → (has_to_save c.so_far u ≡ not b) × (has_to_restore c.so_far u ≡ b)
    due_kind b r u e = (ap₂ (λ (m n : Bool). m && not n) (due_here true y u e) (roll_here b r u e), ap₂ (λ (m n : Bool). m && n) (due_here true y u e) (roll_here b r u e))

    committed_checkpoint : c.so_far.is_rollback k ≡ false → once_closed (late_closing_checkpoint c p k true) ≡ after_closing_checkpoint (once_closed c) p k true
    unfolding then_saving then_restoring then_open
    committed_checkpoint r = same_fields (late_closing_checkpoint c p k true)
        (λ u v. ap (λ (b : Bool). if b then 0 else c.first_sent u v) (restoring u))
        (λ u v. ap (λ (b : Bool). if b then 0 else c.last_received u v) (restoring u))
        (λ u v. moved (then_saving u) (has_to_save c.so_far u) (u == p) (c.latest_sent u v) (c.last_sent u v) (λ e. (due_kind false r u e).0) (saving_here u) (saving_there u))
        (λ a u. kept_saved (then_saving u) (then_restoring u) (has_to_save c.so_far u) (has_to_restore c.so_far u) (u == p) (is_newer c u) (c.kept a u) (λ e. (due_kind false r u e).0) (saving_here u) (saving_there u) (restoring u) (λ e. (due_kind false r u e).1))
        (λ a u. held_saved (then_restoring u) (has_to_restore c.so_far u) (u == p) _ _ (c.kept a u) _ (c.held a u) (restoring u) (λ e. (due_kind false r u e).1) (open_there u a) (λ e. rw e refl))
      where
        restoring : (u : ℕ) → then_restoring u ≡ has_to_restore c.so_far u
        restoring = restoring_same (λ u e. (due_kind false r u e).1)

    committed_rollback : c.so_far.is_rollback k ≡ true → once_closed (late_closing_rollback c p k true) ≡ after_closing_rollback (once_closed c) p k true
    unfolding then_saving then_restoring then_open
    committed_rollback r = same_fields (late_closing_rollback c p k true)
        (λ u v. moved (then_restoring u) (has_to_restore c.so_far u) (u == p) 0 (c.first_sent u v) (λ e. (due_kind true r u e).1) (restoring_here u) (restoring_there u))
        (λ u v. moved (then_restoring u) (has_to_restore c.so_far u) (u == p) 0 (c.last_received u v) (λ e. (due_kind true r u e).1) (restoring_here u) (restoring_there u))
        (λ u v. ap (λ (b : Bool). if b then c.latest_sent u v else c.last_sent u v) (saving u))
        (λ a u. kept_restored (then_saving u) (then_restoring u) (has_to_save c.so_far u) (has_to_restore c.so_far u) (u == p) (is_newer c u) (c.kept a u) (saving u) (λ e. (due_kind true r u e).0) (λ e. (due_kind true r u e).1) (restoring_here u) (restoring_there u))
        (λ a u. held_restored (then_restoring u) (has_to_restore c.so_far u) (u == p) _ _ (is_within_label c k u a) (c.kept a u) (c.held a u) (λ e. (due_kind true r u e).1) (restoring_here u) (restoring_there u) (open_here u a) (open_there u a))
      where
        saving : (u : ℕ) → then_saving u ≡ has_to_save c.so_far u
        saving = saving_same (λ u e. (due_kind true r u e).0)

  -- an abort
  module _ (y : c.so_far.is_committed k ≡ false) where
    saving_no : (u : ℕ) → then_saving u ≡ has_to_save c.so_far u
    saving_no = saving_same (λ u e. ap (λ (b : Bool). b && not (c.so_far.is_rollback (c.so_far.open_in u))) (due_here false y u e))

    restoring_p : (u : ℕ) → (u == p) ≡ true → has_to_restore c.so_far u ≡ false
    restoring_p u e = ap (λ (b : Bool). b && c.so_far.is_rollback (c.so_far.open_in u)) (due_here false y u e)

    restoring_no : (u : ℕ) → then_restoring u ≡ has_to_restore c.so_far u
    restoring_no = restoring_same restoring_p

    saving_p : (u : ℕ) → (u == p) ≡ true → has_to_save c.so_far u ≡ false
    saving_p u e = ap (λ (b : Bool). b && not (c.so_far.is_rollback (c.so_far.open_in u))) (due_here false y u e)

    kept_stays : (s b : Bool) (r : Bool) (t t' : ℕ → Bool) (l : List Parcel) → (b ≡ true → s ≡ false) → (b ≡ false → t ≡ t') → kept_once_closed s r t l ≡ kept_once_closed s r t' l
    kept_stays true true r t t' l e n = absurd (cc (e refl))
    kept_stays true false r t t' l e n = ap (λ (x : ℕ → Bool). messages_where x l) (n refl)
    kept_stays false b r t t' l e n = refl

    aborted_checkpoint : once_closed (after_closing_checkpoint c p k false) ≡ after_closing_checkpoint (once_closed c) p k false
    unfolding then_saving then_restoring then_open
    aborted_checkpoint = same_fields (after_closing_checkpoint c p k false)
        (λ u v. ap (λ (b : Bool). if b then 0 else if u == p then c.first_sent_aside p v else c.first_sent u v) (restoring_no u) ∙ swap (has_to_restore c.so_far u) (u == p) 0 _ _ (c.first_sent u v) (restoring_p u) refl)
        (λ u v. ap (λ (b : Bool). if b then 0 else if u == p then (if nat_lt (c.last_received_aside p v) (c.last_received p v) then c.last_received p v else c.last_received_aside p v) else c.last_received u v) (restoring_no u) ∙ swap (has_to_restore c.so_far u) (u == p) 0 _ _ (c.last_received u v) (restoring_p u) (read v (has_to_restore c.so_far p) (ap (λ (b : Bool). b && c.so_far.is_rollback (c.so_far.open_in p)) (due_is false y))))
        (λ u v. ap (λ (b : Bool). if b then c.latest_sent u v else c.last_sent u v) (saving_no u))
        (λ a u. ap₂ (λ (s b : Bool). kept_once_closed s b (λ m. nat_le (if u == p then c.own_permanent p else c.saved_at u) (c.so_far.received_at m)) (c.kept a u)) (saving_no u) (restoring_no u) ∙
        kept_stays (has_to_save c.so_far u) (u == p) (has_to_restore c.so_far u) _ _ (c.kept a u) (saving_p u) (λ e. ap {B = ℕ → Bool} (λ (b : Bool) (m : ℕ). nat_le (if b then c.own_permanent p else c.saved_at u) (c.so_far.received_at m)) e))
        (λ a u. held_saved (then_restoring u) (has_to_restore c.so_far u) (u == p) _ _ (c.kept a u) _ (c.held a u) (restoring_no u) (restoring_p u) (open_there u a) (λ e. refl))
      where
        read : (v : ℕ) (r : Bool) → r ≡ false → (if nat_lt (c.last_received_aside p v) (c.last_received p v) then c.last_received p v else c.last_received_aside p v) ≡ (if nat_lt (c.last_received_aside p v) (if r then 0 else c.last_received p v) then (if r then 0 else c.last_received p v) else c.last_received_aside p v)
        read v true e = absurd (cc (e))
        read v false e = refl

    aborted_rollback : once_closed (after_closing_rollback c p k false) ≡ after_closing_rollback (once_closed c) p k false
    unfolding then_saving then_restoring then_open
    aborted_rollback = same_fields (after_closing_rollback c p k false)
        (λ u v. ap (λ (b : Bool). if b then 0 else c.first_sent u v) (restoring_no u))
        (λ u v. ap (λ (b : Bool). if b then 0 else c.last_received u v) (restoring_no u))
        (λ u v. ap (λ (b : Bool). if b then c.latest_sent u v else c.last_sent u v) (saving_no u))
        (λ a u. ap₂ (λ (s b : Bool). kept_once_closed s b (is_newer c u) (c.kept a u)) (saving_no u) (restoring_no u))
        (λ a u. held_saved (then_restoring u) (has_to_restore c.so_far u) (u == p) _ _ (c.kept a u) _ (c.held a u) (restoring_no u) (restoring_p u) (open_there u a) (λ e. refl))

  pub once_closed_closing : (w : Bool) → c.so_far.is_committed k ≡ w → once_closed (late_closing c p k w) ≡ after_closing (once_closed c) p k w
  once_closed_closing true y = choice once_closed (c.so_far.is_rollback k) (committed_rollback y) (committed_checkpoint y)
  once_closed_closing false y = choice once_closed (c.so_far.is_rollback k) (λ _. aborted_rollback y) (λ _. aborted_checkpoint y)
