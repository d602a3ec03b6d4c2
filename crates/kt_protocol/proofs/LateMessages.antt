-- Messages: what they do to a late state c, once closed.
use Rattle.std.proofs.Common.{◌≡◌, ℕ, ℤ, ◌+◌, Bool, true, false, not, List, [], ◌∷◌, ◌++◌, refl, arith, sym, ap, inl, inr, ◌∙◌, append_assoc}
use Rattle.std.specs.Prelude.{◌==◌, ◌&&◌, nat_lt, nat_le, if◌then◌else◌}
use Rattle.std.proofs.lemmas.Bool.{cases_eq}
use Rattle.std.proofs.lemmas.Bool.Decides.{nat_tests}
use Rattle.kt_protocol.proofs.Choices.{same, both}
use Rattle.kt_protocol.proofs.Invariant.{Invariant}
use Rattle.kt_protocol.proofs.Updates.{is_same, is_other}
use Rattle.kt_protocol.specs.Messages.{after_sending, after_receiving, after_dropping, after_holding, after_arrival}
use Rattle.kt_protocol.specs.Parcels.{Parcel, App, Lists, with_parcel, with_rest, messages_where}
use Rattle.kt_protocol.specs.States.{State, is_ready}
use Rattle.kt_protocol.specs.LateClosing.{is_within_label, is_newer}
use Rattle.kt_protocol.specs.OnceClosed.{has_to_save, has_to_restore, kept_once_closed, held_once_closed, once_closed}
use Rattle.kt_protocol.proofs.MessageLists.{where_same, where_push}
use Rattle.kt_protocol.proofs.KeptLists.{KeptLists}
use Rattle.kt_protocol.proofs.SameStates.{same_fields, swap, unchanged, here_two, choice, closed_no_save, closed_no_restore}

pub once_closed_sending : (c : State) (p q : ℕ) (body : ℤ) → c.so_far.open_in p ≡ 0 → once_closed (after_sending c p q body) ≡ after_sending (once_closed c) p q body
once_closed_sending c p q body o = same_fields (after_sending c p q body)
    (λ u v. swap (has_to_restore c.so_far u) (u == p && v == q) 0 _ _ _ (here_two (has_to_restore c.so_far) u p v q (closed_no_restore c.so_far p o)) (read (has_to_restore c.so_far p) (closed_no_restore c.so_far p o)))
    (λ u v. refl)
    (λ u v. unchanged (has_to_save c.so_far u) (u == p && v == q) _ _ _ (here_two (has_to_save c.so_far) u p v q (closed_no_save c.so_far p o)))
    (λ u v. refl)
    (λ u v. refl)
  where
    read : (r : Bool) → r ≡ false → (if c.first_sent p q == 0 then c.so_far.rows + 1 else c.first_sent p q) ≡ (if (if r then 0 else c.first_sent p q) == 0 then c.so_far.rows + 1 else (if r then 0 else c.first_sent p q))
    read true e = absurd (cc (e))
    read false e = refl

unready : (a d r : Bool) → (a && r) ≡ false → ((a && d) && r) ≡ false
unready true true r e = e
unready true false r e = refl
unready false d r e = refl

pub no_restore : (c : State) (p : ℕ) → is_ready c p ≡ false → has_to_restore c.so_far p ≡ false
no_restore c p y = unready (not (c.so_far.open_in p == 0)) (c.so_far.is_decided (c.so_far.open_in p) && c.so_far.is_committed (c.so_far.open_in p)) (c.so_far.is_rollback (c.so_far.open_in p)) y

held_skip : (r : Bool) (t : ℕ → Bool) (k k' h : List Parcel) → r ≡ false → held_once_closed r t k h ≡ held_once_closed r t k' h
held_skip true t k k' h e = absurd (cc (e))
held_skip false t k k' h e = refl

kept_test : (s r : Bool) (t t' : ℕ → Bool) (l : List Parcel) → (s ≡ true → messages_where t l ≡ messages_where t' l) → kept_once_closed s r t l ≡ kept_once_closed s r t' l
kept_test true r t t' l e = e refl
kept_test false r t t' l e = refl

kept_push : (s r : Bool) (t t' : ℕ → Bool) (l : List Parcel) (m : ℕ) → r ≡ false → t m ≡ true → (s ≡ true → messages_where t l ≡ messages_where t' l) → kept_once_closed s r t (l ++ App m ∷ []) ≡ kept_once_closed s r t' l ++ App m ∷ []
kept_push true r t t' l m n a e = where_push t l m a ∙ ap (λ (x : List Parcel). x ++ App m ∷ []) (e refl)
kept_push false true t t' l m n a e = absurd (cc (n))
kept_push false false t t' l m n a e = refl

pub once_closed_receiving : (c : State) (channel hc hi : Lists) (p q m : ℕ) → is_ready c p ≡ false → c.so_far.is_received m ≡ false → ((a u : ℕ) → held_once_closed (has_to_restore c.so_far u) (is_within_label c (c.so_far.open_in u) u a) (c.kept a u) (hc a u) ≡ hi a u) → KeptLists c → Invariant (once_closed c) → once_closed (after_receiving c channel hc p q m) ≡ after_receiving (once_closed c) channel hi p q m
unfolding with_parcel
once_closed_receiving c channel hc hi p q m y n e d g = same_fields (after_receiving c channel hc p q m)
    (λ u v. refl)
    (λ u v. swap (has_to_restore c.so_far u) (u == p && v == q) 0 _ _ _ (here_two (has_to_restore c.so_far) u p v q r) (read (has_to_restore c.so_far p) r))
    (λ u v. refl)
    (λ a u. kept a u (a == q && u == p) refl)
    (λ a u. held a u (a == q && u == p) refl)
  where
    r : has_to_restore c.so_far p ≡ false
    r = no_restore c p y

    read : (b : Bool) → b ≡ false → (if nat_lt (c.last_received p q) m then m else c.last_received p q) ≡ (if nat_lt (if b then 0 else c.last_received p q) m then m else (if b then 0 else c.last_received p q))
    read true e = absurd (cc (e))
    read false e = refl

    newer : ℕ → ℕ → Bool
    newer u i = nat_le (c.saved_at u) (if i == m then c.so_far.size p else c.so_far.received_at i)

    tests : (a u : ℕ) → has_to_save c.so_far u ≡ true → messages_where (newer u) (c.kept a u) ≡ messages_where (is_newer c u) (c.kept a u)
    tests a u s = where_same (newer u) (is_newer c u) (c.kept a u) (λ i w. other i (d.received u a i s w).0)
      where
        other : (i : ℕ) → c.so_far.is_received i ≡ true → newer u i ≡ is_newer c u i
        other i w = elim (cases_eq i m) [
          | inl f ↦ (let z : c.so_far.is_received m ≡ true = rw f at w in absurd (cc (z, n)))
          | inr f ↦ rw (is_other i m f) refl
        ]

    kept : (a u : ℕ) (b : Bool) → (a == q && u == p) ≡ b → kept_once_closed (has_to_save c.so_far u) (has_to_restore c.so_far u) (newer u) (if b then c.kept a u ++ App m ∷ [] else c.kept a u) ≡ (if b then kept_once_closed (has_to_save c.so_far u) (has_to_restore c.so_far u) (is_newer c u) (c.kept a u) ++ App m ∷ [] else kept_once_closed (has_to_save c.so_far u) (has_to_restore c.so_far u) (is_newer c u) (c.kept a u))
    kept a u false f = kept_test (has_to_save c.so_far u) (has_to_restore c.so_far u) (newer u) (is_newer c u) (c.kept a u) (tests a u)
    kept a u true f = let x = same u p (both (a == q) (u == p) f).1 in kept_push (has_to_save c.so_far u) (has_to_restore c.so_far u) (newer u) (is_newer c u) (c.kept a u) m (ap (has_to_restore c.so_far) x ∙ r) (low u x) (tests a u)
      where
        low : (u : ℕ) → u ≡ p → newer u m ≡ true
        low u x = let z = (g.positions.saved_low p).1 in rw (x, is_same m) (grind (arith, nat_tests, z))

    held : (a u : ℕ) (b : Bool) → (a == q && u == p) ≡ b → held_once_closed (has_to_restore c.so_far u) (is_within_label c (c.so_far.open_in u) u a) (if b then c.kept a u ++ App m ∷ [] else c.kept a u) (hc a u) ≡ hi a u
    held a u false f = e a u
    held a u true f = let x = same u p (both (a == q) (u == p) f).1 in held_skip (has_to_restore c.so_far u) _ _ (c.kept a u) (hc a u) (ap (has_to_restore c.so_far) x ∙ r) ∙ e a u

pub once_closed_dropping : (c : State) (channel hc hi : Lists) (p q m : ℕ) → ((a u : ℕ) → held_once_closed (has_to_restore c.so_far u) (is_within_label c (c.so_far.open_in u) u a) (c.kept a u) (hc a u) ≡ hi a u) → once_closed (after_dropping c channel hc p q m) ≡ after_dropping (once_closed c) channel hi p q m
once_closed_dropping c channel hc hi p q m e = same_fields (after_dropping c channel hc p q m) (λ u v. refl) (λ u v. refl) (λ u v. refl) (λ u v. refl) e

pub once_closed_arrival : (c : State) (channel hc hi : Lists) (p q m : ℕ) → is_ready c p ≡ false → c.so_far.is_received m ≡ false → ((a u : ℕ) → held_once_closed (has_to_restore c.so_far u) (is_within_label c (c.so_far.open_in u) u a) (c.kept a u) (hc a u) ≡ hi a u) → KeptLists c → Invariant (once_closed c) → once_closed (after_arrival c channel hc p q m) ≡ after_arrival (once_closed c) channel hi p q m
once_closed_arrival c channel hc hi p q m y n e d g = choice once_closed (c.up p) (λ _. once_closed_receiving c channel hc hi p q m y n e d g) (λ _. once_closed_dropping c channel hc hi p q m e)

-- the held list without its first message, at a process in no rollback
pub held_with_rest : (c : State) (p q : ℕ) (rest : List Parcel) → has_to_restore c.so_far p ≡ false → (a u : ℕ) → held_once_closed (has_to_restore c.so_far u) (is_within_label c (c.so_far.open_in u) u a) (c.kept a u) (with_rest c.held q p rest a u) ≡ with_rest (once_closed c).held q p rest a u
unfolding with_rest
held_with_rest c p q rest r a u = go (a == q && u == p) refl
  where
    go : (b : Bool) → (a == q && u == p) ≡ b → held_once_closed (has_to_restore c.so_far u) (is_within_label c (c.so_far.open_in u) u a) (c.kept a u) (if b then rest else c.held a u) ≡ (if b then rest else held_once_closed (has_to_restore c.so_far u) (is_within_label c (c.so_far.open_in u) u a) (c.kept a u) (c.held a u))
    go false f = refl
    go true f = at_test (has_to_restore c.so_far u) (ap (has_to_restore c.so_far) (same u p (both (a == q) (u == p) f).1) ∙ r)
      where
        at_test : (z : Bool) → z ≡ false → held_once_closed z (is_within_label c (c.so_far.open_in u) u a) (c.kept a u) rest ≡ rest
        at_test true e = absurd (cc (e))
        at_test false e = refl

pub once_closed_holding : (c : State) (p q m : ℕ) (rest : List Parcel) → (has_to_restore c.so_far p ≡ true → is_within_label c (c.so_far.open_in p) p q m ≡ true) → once_closed (after_holding c p q m rest) ≡ after_holding (once_closed c) p q m rest
unfolding with_parcel
once_closed_holding c p q m rest t = same_fields (after_holding c p q m rest) (λ u v. refl) (λ u v. refl) (λ u v. refl) (λ u v. refl) (λ a u. go a u (a == q && u == p) refl)
  where
    put : (z : Bool) (t : ℕ → Bool) (k h : List Parcel) → (z ≡ true → t m ≡ true) → held_once_closed z t k (h ++ App m ∷ []) ≡ held_once_closed z t k h ++ App m ∷ []
    put true t k h e = ap (λ (x : List Parcel). messages_where t k ++ x) (where_push t h m (e refl)) ∙ sym (append_assoc (messages_where t k) (messages_where t h) (App m ∷ []))
    put false t k h e = refl

    go : (a u : ℕ) (b : Bool) → (a == q && u == p) ≡ b → held_once_closed (has_to_restore c.so_far u) (is_within_label c (c.so_far.open_in u) u a) (c.kept a u) (if b then c.held a u ++ App m ∷ [] else c.held a u) ≡ (if b then held_once_closed (has_to_restore c.so_far u) (is_within_label c (c.so_far.open_in u) u a) (c.kept a u) (c.held a u) ++ App m ∷ [] else held_once_closed (has_to_restore c.so_far u) (is_within_label c (c.so_far.open_in u) u a) (c.kept a u) (c.held a u))
    go a u false f = refl
    go a u true f = let x = both (a == q) (u == p) f in put (has_to_restore c.so_far u) (is_within_label c (c.so_far.open_in u) u a) (c.kept a u) (c.held a u) (rw (same a q x.0, same u p x.1) t)
