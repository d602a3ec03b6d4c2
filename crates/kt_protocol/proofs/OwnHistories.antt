-- A live history is the process's own one, cut back where it has a rollback to close: kept by each row.
use Rattle.std.proofs.Common.{◌≡◌, ◌≢◌, ℕ, ℤ, ◌+◌, ◌<◌, Bool, true, false, not, List, [], ◌∷◌, ◌++◌, take, refl, arith, sym, ap, subst, ◌∙◌}
use Rattle.std.specs.Prelude.{◌==◌, ◌&&◌, if◌then◌else◌}
use Rattle.std.proofs.lemmas.Bool.Decides.{nat_tests}
use Rattle.std.proofs.lemmas.Grind.{fold-append}
use Rattle.kt_spacetime.specs.declared.event.Event.{Event}
use Rattle.kt_spacetime.specs.declared.event.Event.TheVariants.{Sent, Received, Began, Took, Ready, Decided, Closed}
use Rattle.kt_spacetime.specs.declared.deeds.Deed.{Deed}
use Rattle.kt_spacetime.specs.declared.deeds.Deed.TheVariants as deed
use Rattle.kt_protocol.proofs.Choices.{same}
use Rattle.kt_protocol.proofs.Invariant.{Invariant}
use Rattle.kt_protocol.proofs.Updates.{is_same, is_other}
use Rattle.kt_protocol.specs.Deciding.{after_deciding_as}
use Rattle.kt_protocol.specs.Joining.{kind_for}
use Rattle.kt_protocol.specs.States.{State, is_ready}
use Rattle.kt_protocol.specs.Summary.{Summary, summary_start, summary_after, summary_began, summary_committed}
use Rattle.kt_protocol.specs.OnceClosed.{has_to_restore}
use Rattle.kt_protocol.specs.OwnHistories.{own_after, OwnHistories, own_histories_after, own_histories, live_once_closed}
use Rattle.kt_protocol.proofs.SameStates.{here_one, closed_no_restore}
use Rattle.kt_protocol.proofs.LateJoining.{joining_due}
use Rattle.kt_protocol.proofs.LateMessages.{no_restore}
use Rattle.kt_protocol.proofs.LateClosing.{then_restoring, then_open, restoring_here, restoring_there}

-- the own histories of a log tell the live ones
pub record OwnAgrees (log : List Event) (h : Summary) : Type 0 where
  pub known : (own_histories log).so_far ≡ h
  pub live : (u : ℕ) → h.live u ≡ live_once_closed h (own_histories log).own u

push : (log : List Event) (row : Event) → own_histories (log ++ row ∷ []) ≡ own_histories_after (own_histories log) row
push log row = fold-append own_histories_after (record { so_far = summary_start; own = λ p. [] }) log (row ∷ [])

pub own_row : (log : List Event) (h : Summary) (row : Event) → OwnAgrees log h → ((u : ℕ) → (summary_after h row).live u ≡ live_once_closed (summary_after h row) (own_after h (own_histories log).own row) u) → OwnAgrees (log ++ row ∷ []) (summary_after h row)
own_row log h row o e = record {
  known = ap (λ (x : OwnHistories). x.so_far) (push log row) ∙ ap (λ (g : Summary). summary_after g row) o.known;
  live = λ u. e u ∙ sym (ap (λ (x : OwnHistories). live_once_closed (summary_after h row) x.own u) (push log row) ∙ ap (λ (g : Summary). live_once_closed (summary_after h row) (own_after g (own_histories log).own row) u) o.known);
}

-- a deed of who has nothing to close
own_deed : (h : Summary) (x : ℕ → List Deed) (p : ℕ) (d : Deed) → has_to_restore h p ≡ false → ((u : ℕ) → h.live u ≡ live_once_closed h x u) → (u : ℕ) → (if u == p then h.live p ++ d ∷ [] else h.live u) ≡ (if has_to_restore h u then take (h.permanent u) (if u == p then x p ++ d ∷ [] else x u) else (if u == p then x p ++ d ∷ [] else x u))
own_deed h x p d r e u = go (u == p) refl
  where
    plain : (b : Bool) → b ≡ false → (l : List Deed) → (if b then take (h.permanent p) (x p) else x p) ≡ l → x p ≡ l
    plain true n l f = absurd (cc (n))
    plain false n l f = f

    at_p : (b : Bool) (n : ℕ) → b ≡ false → h.live p ++ d ∷ [] ≡ (if b then take n (x p ++ d ∷ []) else x p ++ d ∷ [])
    at_p true n f = absurd (cc (f))
    at_p false n f = ap (λ (l : List Deed). l ++ d ∷ []) (sym (plain (has_to_restore h p) r (h.live p) (sym (e p))))

    go : (b : Bool) → (u == p) ≡ b → (if b then h.live p ++ d ∷ [] else h.live u) ≡ (if has_to_restore h u then take (h.permanent u) (if b then x p ++ d ∷ [] else x u) else (if b then x p ++ d ∷ [] else x u))
    go false f = e u
    go true f = at_p (has_to_restore h u) (h.permanent u) (here_one (has_to_restore h) u p r f)

module _ (s : State) (o : OwnAgrees s.log s.so_far) where
  pub own_sending : (p q : ℕ) (body : ℤ) → s.so_far.open_in p ≡ 0 → OwnAgrees (s.log ++ Sent p q body ∷ []) (summary_after s.so_far (Sent p q body))
  own_sending p q body z = own_row s.log s.so_far (Sent p q body) o (own_deed s.so_far (own_histories s.log).own p (deed.Sent (s.so_far.rows + 1) q) (closed_no_restore s.so_far p z) o.live)

  pub own_receiving : (p q m : ℕ) → is_ready s p ≡ false → OwnAgrees (s.log ++ Received p q m ∷ []) (summary_after s.so_far (Received p q m))
  own_receiving p q m y = own_row s.log s.so_far (Received p q m) o (own_deed s.so_far (own_histories s.log).own p (deed.Received m q) (no_restore s p y) o.live)

  restored_as : (h' : Summary) → ((u : ℕ) → has_to_restore h' u ≡ has_to_restore s.so_far u) → (u : ℕ) → s.so_far.live u ≡ (if has_to_restore h' u then take (s.so_far.permanent u) ((own_histories s.log).own u) else (own_histories s.log).own u)
  restored_as h' e u = o.live u ∙ ap (λ (r : Bool). if r then take (s.so_far.permanent u) ((own_histories s.log).own u) else (own_histories s.log).own u) (sym (e u))

  pub own_began : (p : ℕ) (roll : Bool) → Invariant s → OwnAgrees (s.log ++ Began p (s.instances + 1) (kind_for roll) ∷ []) (summary_began s.so_far (s.instances + 1) roll)
  own_began p roll g = go roll
    where
      far : (u : ℕ) → s.so_far.open_in u ≢ s.instances + 1
      far u e = let j = g.positions.open_joined (s.instances + 1) u (omega arith) e in let l = (g.positions.joined_instance (s.instances + 1) u j).1 in absurd (omega (arith, l))

      go : (roll : Bool) → OwnAgrees (s.log ++ Began p (s.instances + 1) (kind_for roll) ∷ []) (summary_began s.so_far (s.instances + 1) roll)
      go true = own_row s.log s.so_far (Began p (s.instances + 1) (kind_for true)) o (restored_as (summary_began s.so_far (s.instances + 1) true) (λ u. rw (is_other (s.so_far.open_in u) (s.instances + 1) (far u)) refl))
      go false = own_row s.log s.so_far (Began p (s.instances + 1) (kind_for false)) o (restored_as (summary_began s.so_far (s.instances + 1) false) (λ u. rw (is_other (s.so_far.open_in u) (s.instances + 1) (far u)) refl))

  pub own_joining_checkpoint : (p k : ℕ) → s.so_far.open_in p ≡ 0 → s.so_far.is_decided k ≡ false → OwnAgrees (s.log ++ Took p k ∷ []) (summary_after s.so_far (Took p k))
  own_joining_checkpoint p k z d = own_row s.log s.so_far (Took p k) o (restored_as (summary_after s.so_far (Took p k)) (λ u. (joining_due s.so_far p k z d u).1))

  pub own_joining_rollback : (p k : ℕ) → s.so_far.open_in p ≡ 0 → s.so_far.is_decided k ≡ false → OwnAgrees (s.log ++ Ready p k ∷ []) (summary_after s.so_far (Ready p k))
  own_joining_rollback p k z d = own_row s.log s.so_far (Ready p k) o (restored_as (summary_after s.so_far (Ready p k)) (λ u. (joining_due s.so_far p k z d u).1))

  -- a decision
  module _ (p k : ℕ) (g : Invariant s) (pos : 0 < k) (d : s.so_far.is_decided k ≡ false) where
    member : (u : ℕ) → s.so_far.joined k u ≡ true → s.so_far.open_in u ≡ k
    member u j = g.positions.member_open k u j d

    outside : (u : ℕ) → s.so_far.joined k u ≡ false → s.so_far.open_in u ≢ k
    outside u j e = let x = g.positions.open_joined k u pos e in absurd (cc (x, j))

    not_before : (u : ℕ) → s.so_far.joined k u ≡ true → has_to_restore s.so_far u ≡ false
    not_before u j = rw (member u j, d) (grind (arith, nat_tests, pos))

    abort_same : (u : ℕ) → has_to_restore (summary_after s.so_far (Decided p k false)) u ≡ has_to_restore s.so_far u
    abort_same u = go (s.so_far.open_in u) (s.so_far.open_in u == k) refl
      where
        flat : (a x b r : Bool) → x ≡ false → ((a && false) && r) ≡ ((a && (x && b)) && r)
        flat true x b r e = rw e refl
        flat false x b r e = refl

        go : (o : ℕ) (b : Bool) → (o == k) ≡ b → ((not (o == 0) && ((if b then true else s.so_far.is_decided o) && (if b then false else s.so_far.is_committed o))) && s.so_far.is_rollback o) ≡ ((not (o == 0) && (s.so_far.is_decided o && s.so_far.is_committed o)) && s.so_far.is_rollback o)
        go o false e = refl
        go o true e = flat (not (o == 0)) (s.so_far.is_decided o) (s.so_far.is_committed o) (s.so_far.is_rollback o) (ap s.so_far.is_decided (same o k e) ∙ d)

    commit_there : (u : ℕ) → s.so_far.joined k u ≡ true → has_to_restore (summary_committed false s.so_far k) u ≡ s.so_far.is_rollback k
    commit_there u j = rw (member u j, is_same k) (go (k == 0) (s.so_far.is_rollback k) (grind (arith, nat_tests, pos)))
      where
        go : (b r : Bool) → b ≡ false → ((not b && (true && true)) && r) ≡ r
        go true r e = absurd (cc (e))
        go false r e = refl

    commit_other : (u : ℕ) → s.so_far.joined k u ≡ false → has_to_restore (summary_committed false s.so_far k) u ≡ has_to_restore s.so_far u
    commit_other u j = rw (is_other (s.so_far.open_in u) k (outside u j)) refl

    own_live : (u : ℕ) → s.so_far.joined k u ≡ true → s.so_far.live u ≡ (own_histories s.log).own u
    own_live u j = o.live u ∙ ap (λ (r : Bool). if r then take (s.so_far.permanent u) ((own_histories s.log).own u) else (own_histories s.log).own u) (not_before u j)

    saved_live : s.so_far.is_rollback k ≡ false → (u : ℕ) → s.so_far.live u ≡ live_once_closed (summary_committed false s.so_far k) (own_histories s.log).own u
    saved_live r u = go (s.so_far.joined k u) refl
      where
        go : (b : Bool) → s.so_far.joined k u ≡ b → s.so_far.live u ≡ (if has_to_restore (summary_committed false s.so_far k) u then take (if b then s.so_far.new k u else s.so_far.permanent u) ((own_histories s.log).own u) else (own_histories s.log).own u)
        go true j = own_live u j ∙ sym (ap (λ (x : Bool). if x then take (s.so_far.new k u) ((own_histories s.log).own u) else (own_histories s.log).own u) (commit_there u j ∙ r))
        go false j = o.live u ∙ sym (ap (λ (x : Bool). if x then take (s.so_far.permanent u) ((own_histories s.log).own u) else (own_histories s.log).own u) (commit_other u j))

    rolled_live : s.so_far.is_rollback k ≡ true → (u : ℕ) → (summary_committed true s.so_far k).live u ≡ live_once_closed (summary_committed true s.so_far k) (own_histories s.log).own u
    rolled_live r u = go (s.so_far.joined k u) refl
      where
        go : (b : Bool) → s.so_far.joined k u ≡ b → (if b then take (s.so_far.permanent u) (s.so_far.live u) else s.so_far.live u) ≡ (if has_to_restore (summary_committed false s.so_far k) u then take (s.so_far.permanent u) ((own_histories s.log).own u) else (own_histories s.log).own u)
        go true j = ap (λ (l : List Deed). take (s.so_far.permanent u) l) (own_live u j) ∙ sym (ap (λ (x : Bool). if x then take (s.so_far.permanent u) ((own_histories s.log).own u) else (own_histories s.log).own u) (commit_there u j ∙ r))
        go false j = o.live u ∙ sym (ap (λ (x : Bool). if x then take (s.so_far.permanent u) ((own_histories s.log).own u) else (own_histories s.log).own u) (commit_other u j))

    pub own_deciding : (c roll : Bool) → s.so_far.is_rollback k ≡ roll → OwnAgrees (after_deciding_as c roll s p k).log (after_deciding_as c roll s p k).so_far
    own_deciding false roll r = own_row s.log s.so_far (Decided p k false) o (restored_as (summary_after s.so_far (Decided p k false)) abort_same)
    own_deciding true false r = subst (λ (x : Bool). OwnAgrees (s.log ++ Decided p k true ∷ []) (summary_committed x s.so_far k)) r (own_row s.log s.so_far (Decided p k true) o (λ u. subst (λ (x : Bool). (summary_committed x s.so_far k).live u ≡ live_once_closed (summary_committed x s.so_far k) (own_histories s.log).own u) (sym r) (saved_live r u)))
    own_deciding true true r = subst (λ (x : Bool). OwnAgrees (s.log ++ Decided p k true ∷ []) (summary_committed x s.so_far k)) r (own_row s.log s.so_far (Decided p k true) o (λ u. subst (λ (x : Bool). (summary_committed x s.so_far k).live u ≡ live_once_closed (summary_committed x s.so_far k) (own_histories s.log).own u) (sym r) (rolled_live r u)))

  pub own_closing : (p k : ℕ) → 0 < k → s.so_far.open_in p ≡ k → s.so_far.is_decided k ≡ true → OwnAgrees (s.log ++ Closed p k ∷ []) (summary_after s.so_far (Closed p k))
  unfolding then_restoring then_open
  own_closing p k pos z d = own_row s.log s.so_far (Closed p k) o (λ u. go u (u == p) refl)
    where
      test : has_to_restore s.so_far p ≡ (s.so_far.is_committed k && s.so_far.is_rollback k)
      test = rw (z, d) (plain (k == 0) (s.so_far.is_committed k) (s.so_far.is_rollback k) (grind (arith, nat_tests, pos)))
        where
          plain : (b c r : Bool) → b ≡ false → ((not b && (true && c)) && r) ≡ (c && r)
          plain true c r e = absurd (cc (e))
          plain false c r e = refl

      go : (u : ℕ) (b : Bool) → (u == p) ≡ b → s.so_far.live u ≡ (if then_restoring s p k pos z d u then take (s.so_far.permanent u) (if b then (if s.so_far.is_committed k && s.so_far.is_rollback k then take (s.so_far.permanent p) ((own_histories s.log).own p) else (own_histories s.log).own p) else (own_histories s.log).own u) else (if b then (if s.so_far.is_committed k && s.so_far.is_rollback k then take (s.so_far.permanent p) ((own_histories s.log).own p) else (own_histories s.log).own p) else (own_histories s.log).own u))
      go u false e = o.live u ∙ sym (ap (λ (x : Bool). if x then take (s.so_far.permanent u) ((own_histories s.log).own u) else (own_histories s.log).own u) (restoring_there s p k pos z d u e))
      go u true e = ap s.so_far.live (same u p e) ∙ (o.live p ∙ (ap (λ (x : Bool). if x then take (s.so_far.permanent p) ((own_histories s.log).own p) else (own_histories s.log).own p) test ∙
          sym (ap (λ (x : Bool). if x then take (s.so_far.permanent u) (if s.so_far.is_committed k && s.so_far.is_rollback k then take (s.so_far.permanent p) ((own_histories s.log).own p) else (own_histories s.log).own p) else (if s.so_far.is_committed k && s.so_far.is_rollback k then take (s.so_far.permanent p) ((own_histories s.log).own p) else (own_histories s.log).own p)) (restoring_here s p k pos z d u e))))
