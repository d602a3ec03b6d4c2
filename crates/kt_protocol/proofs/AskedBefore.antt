-- Who is awaited was asked, and who joined was asked by its parent: kept by each transition.
use Rattle.std.specs.Prelude.{ℤ}
use Rattle.kt_base.specs.declared.words.Verb.{Verb}
use Rattle.std.proofs.Common.{◌≡◌, ◌≢◌, ℕ, ◌+◌, ◌≤◌, Bool, true, false, List, refl, arith, sym, ap, subst, inl, inr, ◌∙◌}
use Rattle.std.specs.Prelude.{◌==◌, ◌&&◌, nat_lt, if◌then◌else◌}
use Rattle.std.proofs.lemmas.Bool.{cases_eq}
use Rattle.std.proofs.lemmas.Bool.Decides.{nat_tests}
use Rattle.kt_base.specs.declared.words.Cause.{Cause}
use Rattle.kt_meaning.specs.Past.{at_pair}
use Rattle.kt_protocol.proofs.Joining.{Joining}
use Rattle.kt_protocol.proofs.Updates.{at_one_other, is_other, is_same}
use Rattle.kt_protocol.specs.Parcels.{Parcel, Lists}
use Rattle.kt_protocol.specs.States.{State, opening}
use Rattle.kt_protocol.specs.Replies.{after_answering, after_noting, after_unwilling, after_replying, after_reply}
use Rattle.kt_protocol.specs.Messages.{after_refusal, after_failing, after_holding, after_dropping, after_receiving, after_sending}
use Rattle.kt_protocol.specs.Deciding.{after_deciding_as, after_decision, after_closing_rollback, after_closing_checkpoint}
use Rattle.kt_protocol.specs.Joining.{after_began, after_joining_rollback, after_joining_checkpoint}

-- more of what holds at each point of a step
pub record AskedBefore (s : State) : Type 0 where
  pub asked_awaits : (k p q : ℕ) → s.awaits k p q ≡ true → s.asked k p q ≡ true
  pub asked_parent : (k q : ℕ) → s.so_far.joined k q ≡ true → q ≢ s.initiator k → s.asked k (s.parent k q) q ≡ true

pub asked_before_opening : (n : ℕ) → AskedBefore (opening n)
asked_before_opening n = record { asked_awaits = λ k p q a. absurd (cc); asked_parent = λ k q a b. absurd (cc) }

pub asked_before_sending : (s : State) (p q : ℕ) (body : ℤ) → AskedBefore s → AskedBefore (after_sending s p q body)
asked_before_sending s p q body a = record { asked_awaits = a.asked_awaits; asked_parent = a.asked_parent }

pub asked_before_receiving : (s : State) (channel held : Lists) (p q m : ℕ) → AskedBefore s → AskedBefore (after_receiving s channel held p q m)
asked_before_receiving s channel held p q m a = record { asked_awaits = a.asked_awaits; asked_parent = a.asked_parent }

pub asked_before_dropping : (s : State) (channel held : Lists) (p q m : ℕ) → AskedBefore s → AskedBefore (after_dropping s channel held p q m)
asked_before_dropping s channel held p q m a = record { asked_awaits = a.asked_awaits; asked_parent = a.asked_parent }

pub asked_before_holding : (s : State) (p q m : ℕ) (rest : List Parcel) → AskedBefore s → AskedBefore (after_holding s p q m rest)
asked_before_holding s p q m rest a = record { asked_awaits = a.asked_awaits; asked_parent = a.asked_parent }

pub asked_before_failing : (s : State) (p : ℕ) → AskedBefore s → AskedBefore (after_failing s p)
asked_before_failing s p a = record { asked_awaits = a.asked_awaits; asked_parent = a.asked_parent }

pub asked_before_refusal : (s : State) (p : ℕ) (v : Verb) (c : Cause) → AskedBefore s → AskedBefore (after_refusal s p v c)
asked_before_refusal s p v c a = record { asked_awaits = a.asked_awaits; asked_parent = a.asked_parent }

pub asked_before_began : (s : State) (p : ℕ) (roll : Bool) → ((k u : ℕ) → s.so_far.joined k u ≡ true → k ≤ s.instances) → AskedBefore s → AskedBefore (after_began s p roll)
asked_before_began s p roll low a = record {
  asked_awaits = a.asked_awaits;
  asked_parent = λ k u h b. a.asked_parent k u h (λ c. b (c ∙ sym (at_one_other (s.instances + 1) k p s.initiator (λ d. omega (arith, low k u h)))));
}

asked_now : (f : ℕ → ℕ → ℕ → Bool) (x : ℕ → Bool) (k p : ℕ) (awaits : ℕ → ℕ → ℕ → Bool) → ((i u v : ℕ) → awaits i u v ≡ true → f i u v ≡ true) → (i u v : ℕ) → (if i == k && u == p then x v else awaits i u v) ≡ true → (if i == k && u == p then x v else f i u v) ≡ true
asked_now f x k p awaits h i u v = go (i == k && u == p)
  where
    go : (b : Bool) → (if b then x v else awaits i u v) ≡ true → (if b then x v else f i u v) ≡ true
    go true a = a
    go false a = h i u v a

-- who asked a new member
parent_now : (f : ℕ → ℕ → ℕ → Bool) (x : ℕ → Bool) (joined : ℕ → ℕ → Bool) (parent : ℕ → ℕ → ℕ) (k p par i q : ℕ) → joined k p ≡ false →
    (i ≡ k → q ≡ p → (par ≢ p) × (f k par p ≡ true)) →
    (joined i q ≡ true → (joined i (parent i q) ≡ true) × (f i (parent i q) q ≡ true)) →
    at_pair k p true joined i q ≡ true → (if i == k && at_pair k p par parent i q == p then x q else f i (at_pair k p par parent i q) q) ≡ true
parent_now f x joined parent k p par i q out here others a = go (i == k && q == p) refl a
  where
    two : (a b : ℕ) (c d : ℕ) → (a == b && c == d) ≡ true → (a ≡ b) × (c ≡ d)
    two a b c d e = grind (arith, nat_tests, e)

    go : (b : Bool) → (i == k && q == p) ≡ b → (if b then true else joined i q) ≡ true → (if i == k && (if b then par else parent i q) == p then x q else f i (if b then par else parent i q) q) ≡ true
    go true e a = let z = two i k q p e in let h = here z.0 z.1 in rw (z.0, z.1, is_same k, is_other par p h.0) h.1
    go false e a = let h = others a in elim (cases_eq i k) [
      | inl z ↦ elim (cases_eq (parent i q) p) [
        | inl y ↦ (let h0 : joined k p ≡ true = rw (z, rw z at y) at h.0 in absurd (cc (h0, out)))
        | inr y ↦ rw (is_other (parent i q) p y) (off (i == k) _ _ h.1)
      ]
      | inr z ↦ rw (is_other i k z) h.1
    ]
      where
        off : (b x y : Bool) → y ≡ true → (if b && false then x else y) ≡ true
        off true x y e = e
        off false x y e = e

pub asked_before_joining_checkpoint : (s : State) (channel : Lists) (p k : ℕ) (is_first : Bool) (par lnk lbl : ℕ) → Joining s channel p k is_first par lnk lbl false → s.so_far.joined k p ≡ false → ((i q : ℕ) → s.so_far.joined i q ≡ true → q ≢ s.initiator i → s.so_far.joined i (s.parent i q) ≡ true) → AskedBefore s → AskedBefore (after_joining_checkpoint s channel p k is_first par lnk)
asked_before_joining_checkpoint s channel p k is_first par lnk lbl j out tree a = record {
  asked_awaits = asked_now s.asked (λ v. nat_lt 0 (s.last_received p v)) k p s.awaits a.asked_awaits;
  asked_parent = λ i q h n. parent_now s.asked (λ v. nat_lt 0 (s.last_received p v)) s.so_far.joined s.parent k p par i q out (λ e f. asker is_first refl e f n) (λ h. (tree i q h n, a.asked_parent i q h n)) h;
}
  where
    asker : (b : Bool) → is_first ≡ b → {i q : ℕ} → i ≡ k → q ≡ p → q ≢ s.initiator i → (par ≢ p) × (s.asked k par p ≡ true)
    asker true e x y n = absurd (n (y ∙ (j.initial e).0 ∙ ap s.initiator (sym x)))
    asker false e x y n = let m = j.member e in (λ z. (let h : s.so_far.joined k p ≡ true = subst (λ (x : ℕ). s.so_far.joined k x ≡ true) z m.0 in absurd (cc (h, out))), a.asked_awaits k par p m.3)

pub asked_before_joining_rollback : (s : State) (channel : Lists) (p k : ℕ) (is_first : Bool) (par lnk lbl : ℕ) → Joining s channel p k is_first par lnk lbl true → s.so_far.joined k p ≡ false → ((i q : ℕ) → s.so_far.joined i q ≡ true → q ≢ s.initiator i → s.so_far.joined i (s.parent i q) ≡ true) → AskedBefore s → AskedBefore (after_joining_rollback s channel p k is_first par lnk)
asked_before_joining_rollback s channel p k is_first par lnk lbl j out tree a = record {
  asked_awaits = asked_now s.asked (λ v. nat_lt 0 (s.first_sent p v)) k p s.awaits a.asked_awaits;
  asked_parent = λ i q h n. parent_now s.asked (λ v. nat_lt 0 (s.first_sent p v)) s.so_far.joined s.parent k p par i q out (λ e f. asker is_first refl e f n) (λ h. (tree i q h n, a.asked_parent i q h n)) h;
}
  where
    asker : (b : Bool) → is_first ≡ b → {i q : ℕ} → i ≡ k → q ≡ p → q ≢ s.initiator i → (par ≢ p) × (s.asked k par p ≡ true)
    asker true e x y n = absurd (n (y ∙ (j.initial e).0 ∙ ap s.initiator (sym x)))
    asker false e x y n = let m = j.member e in (λ z. (let h : s.so_far.joined k p ≡ true = subst (λ (x : ℕ). s.so_far.joined k x ≡ true) z m.0 in absurd (cc (h, out))), a.asked_awaits k par p m.3)

pub asked_before_noting : (s : State) (p q k l : ℕ) → AskedBefore s → AskedBefore (after_noting s p q k l)
asked_before_noting s p q k l a = record { asked_awaits = a.asked_awaits; asked_parent = a.asked_parent }

pub asked_before_replying : (s : State) (p q k : ℕ) (w : Bool) (rest : List Parcel) → AskedBefore s → AskedBefore (after_replying s p q k w rest)
asked_before_replying s p q k w rest a = record { asked_awaits = a.asked_awaits; asked_parent = a.asked_parent }

pub asked_before_unwilling : (s : State) (p q k : ℕ) (cause : Cause) (rest : List Parcel) → AskedBefore s → AskedBefore (after_unwilling s p q k cause rest)
asked_before_unwilling s p q k cause rest a = record { asked_awaits = a.asked_awaits; asked_parent = a.asked_parent }

pub asked_before_reply : (s : State) (p q k : ℕ) (w : Bool) (rest : List Parcel) → AskedBefore s → AskedBefore (after_reply s p q k w rest)
asked_before_reply s p q k w rest a = record { asked_awaits = λ i u v b. a.asked_awaits i u v (was (i == k && u == p && v == q) (s.awaits i u v) b); asked_parent = a.asked_parent }
  where
    was : (t x : Bool) → (if t then false else x) ≡ true → x ≡ true
    was true x e = absurd (cc (e))
    was false x e = e

pub asked_before_answering : (s : State) (p k : ℕ) → AskedBefore s → AskedBefore (after_answering s p k)
asked_before_answering s p k a = record { asked_awaits = a.asked_awaits; asked_parent = a.asked_parent }

pub asked_before_deciding : (s : State) (p k : ℕ) (c roll : Bool) → AskedBefore s → AskedBefore (after_deciding_as c roll s p k)
asked_before_deciding s p k false roll a = record { asked_awaits = a.asked_awaits; asked_parent = a.asked_parent }
asked_before_deciding s p k true false a = record { asked_awaits = a.asked_awaits; asked_parent = a.asked_parent }
asked_before_deciding s p k true true a = record { asked_awaits = a.asked_awaits; asked_parent = a.asked_parent }

pub asked_before_closing_checkpoint : (s : State) (p k : ℕ) (c : Bool) → AskedBefore s → AskedBefore (after_closing_checkpoint s p k c)
asked_before_closing_checkpoint s p k true a = record { asked_awaits = a.asked_awaits; asked_parent = a.asked_parent }
asked_before_closing_checkpoint s p k false a = record { asked_awaits = a.asked_awaits; asked_parent = a.asked_parent }

pub asked_before_closing_rollback : (s : State) (p k : ℕ) (c : Bool) → AskedBefore s → AskedBefore (after_closing_rollback s p k c)
asked_before_closing_rollback s p k c a = record { asked_awaits = a.asked_awaits; asked_parent = a.asked_parent }

pub asked_before_decision : (s : State) (p q : ℕ) (rest : List Parcel) → AskedBefore s → AskedBefore (after_decision s p q rest)
asked_before_decision s p q rest a = record { asked_awaits = a.asked_awaits; asked_parent = a.asked_parent }
