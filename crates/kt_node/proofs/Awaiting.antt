-- Whom a process awaits in its instance: it asked them when it joined, and they have not replied.
use Rattle.std.proofs.Common.{◌≡◌, ◌∙◌, ℕ, ◌+◌, ◌<◌, Bool, true, false, not, List, [], ◌∷◌, ◌⊎◌, refl, sym, ap, subst, inl, inr, arith}
use Rattle.std.specs.Prelude.{◌==◌, ◌&&◌, nat_lt, if◌then◌else◌}
use Rattle.std.proofs.lemmas.Bool.{cases_eq}
use Rattle.kt_meaning.specs.Past.{at_one}
use Rattle.kt_protocol.proofs.Choices.{at_if, closed_of, same}
use Rattle.kt_protocol.proofs.Updates.{is_same, is_other, at_one_here, at_one_other}
use Rattle.kt_protocol.specs.Parcels.{Parcel, App, Ask, Reply, Decide, Lists, with_rest}
use Rattle.kt_protocol.specs.States.{ProtocolStep, Send, Begin, Fail, Take, State, is_ready}
use Rattle.kt_protocol.specs.Messages.{after_arrival}
use Rattle.kt_protocol.specs.Joining.{after_began, must_take, must_roll, after_joining_checkpoint, after_joining_rollback}
use Rattle.kt_protocol.specs.Replies.{after_noting, after_reply}
use Rattle.kt_protocol.specs.Deciding.{after_decision, none_of}
use Rattle.kt_protocol.specs.LateClosing.{late_deciding_as, late_deciding, late_closing_checkpoint, late_closing_rollback, late_closing}
use Rattle.kt_protocol.specs.LateSteps.{late_settling, late_ask, late_front, late_take, late_beginning, late_begin_command, late_step}

-- p is in an instance, and awaits q there
abbrev pub Awaits : State → ℕ → ℕ → Type 0
Awaits s p q = (0 < s.so_far.open_in p) × (s.awaits (s.so_far.open_in p) p q ≡ true)

-- p received of q or sent to it since its last checkpoint
abbrev pub Met : State → ℕ → ℕ → Type 0
Met s p q = (nat_lt 0 (s.last_received p q) ≡ true) ⊎ (nat_lt 0 (s.first_sent p q) ≡ true)

-- whom p awaits in t it awaited in s, or it has joined since and met it before
pub record Since (s t : State) (p q : ℕ) : Type 0 where
  pub processes : t.processes ≡ s.processes
  pub awaits : Awaits t p q → ((s.so_far.open_in p ≡ 0) × Met s p q) ⊎ ((s.so_far.open_in p ≡ t.so_far.open_in p) × Awaits s p q)

-- and it has not joined since
pub record Still (s t : State) (p q : ℕ) : Type 0 where
  pub processes : t.processes ≡ s.processes
  pub awaits : Awaits t p q → (s.so_far.open_in p ≡ t.so_far.open_in p) × Awaits s p q

on_with : (s t u : State) (p q : ℕ) → Since s t p q → Still t u p q → Since s u p q
on_with s t u p q a b = record {
  processes = b.processes ∙ a.processes;
  awaits = λ w. let x = b.awaits w in elim (a.awaits x.1) [
    | inl y ↦ inl y
    | inr y ↦ inr (y.0 ∙ x.0, y.1)
  ];
}

still_with : (s t u : State) (p q : ℕ) → Still s t p q → Still t u p q → Still s u p q
still_with s t u p q a b = record {
  processes = b.processes ∙ a.processes;
  awaits = λ w. let x = b.awaits w in let y = a.awaits x.1 in (y.0 ∙ x.0, y.1);
}

as_since : (s t : State) (p q : ℕ) → Still s t p q → Since s t p q
as_since s t p q a = record { processes = a.processes; awaits = λ w. inr (a.awaits w) }

itself : (s : State) (p q : ℕ) → Since s s p q
itself s p q = record { processes = refl; awaits = λ w. inr (refl, w) }

-- who closes is in no instance
closes_one : (f : ℕ → ℕ) (g : ℕ → ℕ → ℕ → Bool) (u p q : ℕ) → (0 < at_one u 0 f p) × (g (at_one u 0 f p) p q ≡ true) → (f p ≡ at_one u 0 f p) × ((0 < f p) × (g (f p) p q ≡ true))
closes_one f g u p q h = elim (cases_eq p u) [
  | inl e ↦ (let z : at_one u 0 f p ≡ 0 = ap (at_one u 0 f) e ∙ at_one_here u 0 f in let l = h.0 in absurd (omega (arith, l, z)))
  | inr n ↦ (let e = at_one_other u p 0 f n in (sym e, subst (λ (k : ℕ). (0 < k) × (g k p q ≡ true)) e h))
]

module _ (p q : ℕ) where
  closing : (s : State) (u k : ℕ) (c : Bool) → Still s (late_closing s u k c) p q
  closing s u k c = at_if (λ t. Still s t p q) (s.so_far.is_rollback k) _ _ (λ e. rollback c) (λ e. checkpoint c)
    where
      rollback : (c : Bool) → Still s (late_closing_rollback s u k c) p q
      rollback true = record { processes = refl; awaits = closes_one s.so_far.open_in s.awaits u p q }
      rollback false = record { processes = refl; awaits = closes_one s.so_far.open_in s.awaits u p q }

      checkpoint : (c : Bool) → Still s (late_closing_checkpoint s u k c) p q
      checkpoint true = record { processes = refl; awaits = closes_one s.so_far.open_in s.awaits u p q }
      checkpoint false = record { processes = refl; awaits = closes_one s.so_far.open_in s.awaits u p q }

  deciding : (s : State) (u k : ℕ) (c roll : Bool) → Still s (late_deciding_as c roll s u k) p q
  deciding s u k false roll = record { processes = refl; awaits = λ w. (refl, w) }
  deciding s u k true true = record { processes = refl; awaits = λ w. (refl, w) }
  deciding s u k true false = record { processes = refl; awaits = λ w. (refl, w) }

  pub settling : (s : State) (u k : ℕ) → Still s (late_settling s u k) p q
  settling s u k = at_if (λ t. Still s t p q) (none_of s.processes (s.awaits k u)) _ _
      (λ e. at_if (λ t. Still s t p q) (u == s.initiator k) _ _
      (λ f. still_with s (late_deciding s u k) (late_closing (late_deciding s u k) u k (s.all_willing k u)) p q (deciding s u k (s.all_willing k u) (s.so_far.is_rollback k)) (closing (late_deciding s u k) u k (s.all_willing k u)))
      (λ f. record { processes = refl; awaits = λ w. (refl, w) }))
      (λ e. record { processes = refl; awaits = λ w. (refl, w) })

  then_settles : (s t : State) (u k : ℕ) → Since s t p q → Since s (late_settling t u k) p q
  then_settles s t u k a = on_with s t (late_settling t u k) p q a (settling t u k)

  -- who joins was in none
  joins_one : (f : ℕ → ℕ) (g : ℕ → ℕ → ℕ → Bool) (x : ℕ → Bool) (u k : ℕ) → f u ≡ 0 → (0 < at_one u k f p) × ((if at_one u k f p == k && p == u then x q else g (at_one u k f p) p q) ≡ true)
      → ((f p ≡ 0) × ((p ≡ u) × (x q ≡ true))) ⊎ ((f p ≡ at_one u k f p) × ((0 < f p) × (g (f p) p q ≡ true)))
  joins_one f g x u k o h = elim (cases_eq p u) [
    | inl e ↦ (let here : at_one u k f p ≡ k = ap (at_one u k f) e ∙ at_one_here u k f in
        let test : (at_one u k f p == k && p == u) ≡ true = ap (λ (n : ℕ). n == k && p == u) here ∙ (ap (λ (b : Bool). b && p == u) (is_same k) ∙ (ap (λ (n : ℕ). n == u) e ∙ is_same u)) in
        inl (ap f e ∙ o, (e, sym (ap (λ (b : Bool). if b then x q else g (at_one u k f p) p q) test) ∙ h.1)))
    | inr n ↦ (let there = at_one_other u p k f n in
        let test : (at_one u k f p == k && p == u) ≡ false = ap (λ (b : Bool). at_one u k f p == k && b) (is_other p u n) ∙ none (at_one u k f p == k) in
        let w : g (at_one u k f p) p q ≡ true = sym (ap (λ (b : Bool). if b then x q else g (at_one u k f p) p q) test) ∙ h.1 in
        inr (sym there, subst (λ (j : ℕ). (0 < j) × (g j p q ≡ true)) there (h.0, w)))
  ]
    where
      none : (b : Bool) → (b && false) ≡ false
      none true = refl
      none false = refl

  joining_checkpoint : (s : State) (channel : Lists) (u k : ℕ) (first : Bool) (parent link : ℕ) → s.so_far.open_in u ≡ 0 → Since s (after_joining_checkpoint s channel u k first parent link) p q
  joining_checkpoint s channel u k first parent link o = record {
    processes = refl;
    awaits = λ w. elim (joins_one s.so_far.open_in s.awaits (λ v. nat_lt 0 (s.last_received u v)) u k o w) [
      | inl h ↦ inl (h.0, inl (subst (λ (n : ℕ). nat_lt 0 (s.last_received n q) ≡ true) (sym h.1.0) h.1.1))
      | inr h ↦ inr h
    ];
  }

  joining_rollback : (s : State) (channel : Lists) (u k : ℕ) (first : Bool) (parent link : ℕ) → s.so_far.open_in u ≡ 0 → Since s (after_joining_rollback s channel u k first parent link) p q
  joining_rollback s channel u k first parent link o = record {
    processes = refl;
    awaits = λ w. elim (joins_one s.so_far.open_in s.awaits (λ v. nat_lt 0 (s.first_sent u v)) u k o w) [
      | inl h ↦ inl (h.0, inr (subst (λ (n : ℕ). nat_lt 0 (s.first_sent n q) ≡ true) (sym h.1.0) h.1.1))
      | inr h ↦ inr h
    ];
  }

  asked : (s : State) (u v k : ℕ) (able : Bool) (label : ℕ) (rest : List Parcel) → Since s (late_ask s u v able k label rest) p q
  asked s u v k able label rest = at_if (λ t. Since s t p q) (s.so_far.open_in u == k) _ _
      (λ e. record { processes = refl; awaits = λ w. inr (refl, w) })
      (λ e. at_if (λ t. Since s t p q) (not (s.so_far.open_in u == 0)) _ _
      (λ f. record { processes = refl; awaits = λ w. inr (refl, w) })
      (λ f. let o = closed_of (s.so_far.open_in u) f in at_if (λ t. Since s t p q) (s.so_far.is_rollback k) _ _
      (λ r. at_if (λ t. Since s t p q) (must_roll s u v label) _ _
      (λ m. let t = after_noting s u v k label in
      let j = joining_rollback t (with_rest s.channel v u rest) u k false v (s.last_received u v) o in
      then_settles s (after_joining_rollback t (with_rest s.channel v u rest) u k false v (s.last_received u v)) u k (record { processes = j.processes; awaits = j.awaits }))
      (λ m. record { processes = refl; awaits = λ w. inr (refl, w) }))
      (λ r. at_if (λ t. Since s t p q) (not (must_take s u v label)) _ _
      (λ m. record { processes = refl; awaits = λ w. inr (refl, w) })
      (λ m. at_if (λ t. Since s t p q) (not (able && s.up u)) _ _
      (λ a. record { processes = refl; awaits = λ w. inr (refl, w) })
      (λ a. then_settles s (after_joining_checkpoint s (with_rest s.channel v u rest) u k false v label) u k (joining_checkpoint s (with_rest s.channel v u rest) u k false v label o))))))

  arriving : (s : State) (channel held : Lists) (u v m : ℕ) → Since s (after_arrival s channel held u v m) p q
  arriving s channel held u v m = at_if (λ t. Since s t p q) (s.up u) _ _ (λ e. record { processes = refl; awaits = λ w. inr (refl, w) }) (λ e. record { processes = refl; awaits = λ w. inr (refl, w) })

  -- a reply that has come is awaited no longer
  was : (b x : Bool) → (if b then false else x) ≡ true → x ≡ true
  was true x e = absurd (cc (e))
  was false x e = e

  front : (s : State) (u v : ℕ) (able : Bool) (xs : List Parcel) → Since s (late_front s u v able xs) p q
  front s u v able [] = itself s p q
  front s u v able (App m ∷ rest) = at_if (λ t. Since s t p q) (is_ready s u) _ _ (λ e. record { processes = refl; awaits = λ w. inr (refl, w) }) (λ e. arriving s (with_rest s.channel v u rest) s.held u v m)
  front s u v able (Ask k label ∷ rest) = asked s u v k able label rest
  front s u v able (Reply k b ∷ rest) = then_settles s (after_reply s u v k b rest) u k (record { processes = refl; awaits = λ w. inr (refl, (w.0, was _ _ w.1)) })
  front s u v able (Decide k c ∷ rest) = at_if (λ t. Since s t p q) (s.so_far.open_in u == k) _ _
      (λ e. let a = closing (after_decision s u v rest) u k c in as_since s (late_closing (after_decision s u v rest) u k c) p q (record { processes = a.processes; awaits = a.awaits }))
      (λ e. record { processes = refl; awaits = λ w. inr (refl, w) })

  taken : (s : State) (u v : ℕ) (able : Bool) (xs : List Parcel) → Since s (late_take s u v able xs) p q
  taken s u v able [] = front s u v able (s.channel v u)
  taken s u v able (App m ∷ rest) = arriving s s.channel (with_rest s.held v u rest) u v m
  taken s u v able (Ask k label ∷ rest) = itself s p q
  taken s u v able (Reply k b ∷ rest) = itself s p q
  taken s u v able (Decide k c ∷ rest) = itself s p q

  beginning : (s : State) (u : ℕ) (roll : Bool) → s.so_far.open_in u ≡ 0 → Since s (late_beginning s u roll) p q
  beginning s u false o =
      let j = joining_checkpoint (after_began s u false) s.channel u (s.instances + 1) true u 0 o in
      then_settles s (after_joining_checkpoint (after_began s u false) s.channel u (s.instances + 1) true u 0) u (s.instances + 1) (record { processes = j.processes; awaits = j.awaits })
  beginning s u true o =
      let j = joining_rollback (after_began s u true) s.channel u (s.instances + 1) true u 0 o in
      then_settles s (after_joining_rollback (after_began s u true) s.channel u (s.instances + 1) true u 0) u (s.instances + 1) (record { processes = j.processes; awaits = j.awaits })

  begun : (s : State) (u : ℕ) (roll able : Bool) → s.so_far.open_in u ≡ 0 → Since s (late_begin_command s u roll able) p q
  begun s u true able o = beginning s u true o
  begun s u false able o = at_if (λ t. Since s t p q) (able && s.up u) _ _ (λ e. beginning s u false o) (λ e. record { processes = refl; awaits = λ w. inr (refl, w) })

  pub since_step : (s : State) (x : ProtocolStep) → Since s (late_step s x) p q
  since_step s (Send u v body) = at_if (λ t. Since s t p q) ((nat_lt u s.processes && nat_lt v s.processes) && (s.so_far.open_in u == 0 && not (v == u))) _ _
      (λ e. at_if (λ t. Since s t p q) (s.up u) _ _ (λ f. record { processes = refl; awaits = λ w. inr (refl, w) }) (λ f. record { processes = refl; awaits = λ w. inr (refl, w) }))
      (λ e. itself s p q)
  since_step s (Begin u roll able) = at_if (λ t. Since s t p q) (s.so_far.open_in u == 0) _ _ (λ e. begun s u roll able (same (s.so_far.open_in u) 0 e)) (λ e. record { processes = refl; awaits = λ w. inr (refl, w) })
  since_step s (Fail u) = at_if (λ t. Since s t p q) (s.up u) _ _ (λ e. record { processes = refl; awaits = λ w. inr (refl, w) }) (λ e. record { processes = refl; awaits = λ w. inr (refl, w) })
  since_step s (Take u v able) = at_if (λ t. Since s t p q) (is_ready s u) _ _ (λ e. front s u v able (s.channel v u)) (λ e. taken s u v able (s.held v u))

  -- whose reply p takes it awaits no longer
  pub replied : (s : State) (k : ℕ) (b : Bool) (rest : List Parcel) → s.so_far.open_in p ≡ k → Awaits (late_settling (after_reply s p q k b rest) p k) p q → ⊥
  replied s k b rest o w =
      let a = (settling (after_reply s p q k b rest) p k).awaits w in
      gone (s.so_far.open_in p) o a.1.1
    where
      none : (c x : Bool) → c ≡ true → (if c then false else x) ≡ true → ⊥
      none true x e h = cc (h)
      none false x e h = cc (e)

      gone : (j : ℕ) → j ≡ k → (if j == k && p == p && q == q then false else s.awaits j p q) ≡ true → ⊥
      gone j e h = let t : (j == k && p == p && q == q) ≡ true = rw (e, is_same k, is_same p, is_same q) refl in none (j == k && p == p && q == q) (s.awaits j p q) t h
