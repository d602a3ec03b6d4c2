-- What a step of one process leaves to the others: their own state, and the fronts of their channels.
use Rattle.std.proofs.Common.{◌≡◌, ◌≢◌, ℕ, ℤ, ◌+◌, ◌≤◌, Bool, true, false, List, [], ◌∷◌, ◌++◌, refl, arith, sym, ap, subst, ◌∙◌, append_assoc, append-nil}
use Rattle.std.specs.Prelude.{◌==◌, ◌&&◌, ◌||◌, not, nat_lt, if◌then◌else◌}
use Rattle.kt_base.specs.declared.words.Verb.{Verb}
use Rattle.kt_base.specs.declared.words.Cause.{Cause}
use Rattle.kt_protocol.specs.LateClosing.{late_deciding_as, late_deciding, late_closing_checkpoint, late_closing_rollback, late_closing}
use Rattle.kt_protocol.specs.LateSteps.{late_settling, late_ask, late_front, late_take, late_beginning, late_step}
use Rattle.kt_protocol.proofs.Choices.{at_if}
use Rattle.kt_protocol.proofs.Updates.{is_other}
use Rattle.kt_protocol.specs.Deciding.{after_decision, none_of}
use Rattle.kt_protocol.specs.Joining.{after_began, after_joining_checkpoint, after_joining_rollback, must_take, must_roll}
use Rattle.kt_protocol.specs.Messages.{after_arrival, after_sending, after_failing, after_refusal}
use Rattle.kt_protocol.specs.Parcels.{Parcel, App, Ask, Reply, Decide, Lists, with_parcel, with_rest, with_checkpoint_asks, with_rollback_asks, with_decisions}
use Rattle.kt_protocol.specs.Replies.{after_noting, after_replying, after_unwilling, after_reply, after_answering}
use Rattle.kt_protocol.specs.States.{State, is_ready}
use Rattle.kt_protocol.specs.States as machine

abbrev pub Grown : List Parcel → List Parcel → Type 0
Grown l l' = (more : List Parcel) × (l' ≡ l ++ more)

-- a step of r
pub record KeepsOthers (r : ℕ) (s s' : State) : Type 0 where
  pub open_in : (u : ℕ) → u ≢ r → s'.so_far.open_in u ≡ s.so_far.open_in u
  pub up : (u : ℕ) → u ≢ r → s'.up u ≡ s.up u
  pub first_sent : (u v : ℕ) → u ≢ r → s'.first_sent u v ≡ s.first_sent u v
  pub held : (q u : ℕ) → u ≢ r → s'.held q u ≡ s.held q u
  pub channel : (q u : ℕ) → u ≢ r → Grown (s.channel q u) (s'.channel q u)
  pub is_rollback : (k : ℕ) → k ≤ s.instances → s'.so_far.is_rollback k ≡ s.so_far.is_rollback k
  pub instances : s.instances ≤ s'.instances

pub same_list : (l : List Parcel) → Grown l l
same_list l = ([], sym (append-nil l))

grows : (b : Bool) (l : List Parcel) (x : Parcel) → Grown l (if b then l ++ x ∷ [] else l)
grows true l x = (x ∷ [], refl)
grows false l x = same_list l

grown_of : (b : Bool) (l l' : List Parcel) (x : Parcel) → l ≡ l' → Grown l' (if b then l ++ x ∷ [] else l)
grown_of b l l' x e = subst (λ (m : List Parcel). Grown m (if b then l ++ x ∷ [] else l)) e (grows b l x)

pub along : (r : ℕ) (s s' s'' : State) → KeepsOthers r s s' → KeepsOthers r s' s'' → KeepsOthers r s s''
along r s s' s'' a b = record {
  open_in = λ u n. b.open_in u n ∙ a.open_in u n;
  up = λ u n. b.up u n ∙ a.up u n;
  first_sent = λ u v n. b.first_sent u v n ∙ a.first_sent u v n;
  held = λ q u n. b.held q u n ∙ a.held q u n;
  channel = λ q u n. (let x = a.channel q u n in let y = b.channel q u n in (x.0 ++ y.0, y.1 ∙ (ap (λ (l : List Parcel). l ++ y.0) x.1 ∙ append_assoc (s.channel q u) x.0 y.0)));
  is_rollback = λ k l. (let i = a.instances in b.is_rollback k (omega (arith, i, l))) ∙ a.is_rollback k l;
  instances = (let x = a.instances in let y = b.instances in omega (arith, x, y));
}

pub still : (r : ℕ) (s : State) → KeepsOthers r s s
still r s = record { open_in = λ u n. refl; up = λ u n. refl; first_sent = λ u v n. refl; held = λ q u n. refl; channel = λ q u n. same_list (s.channel q u); is_rollback = λ k l. refl; instances = omega arith }

module _ (r : ℕ) where
  -- a value at r alone
  away : {X : Type 0} (u : ℕ) (x y : X) → u ≢ r → (if u == r then x else y) ≡ y
  away u x y n = let o = is_other u r n in rw o refl

  away_two : {X : Type 0} (u v q : ℕ) (x y : X) → u ≢ r → (if u == r && v == q then x else y) ≡ y
  away_two u v q x y n = let o = is_other u r n in rw o refl

  pub with_rest_away : (channel : Lists) (q : ℕ) (rest : List Parcel) (v u : ℕ) → u ≢ r → with_rest channel q r rest v u ≡ channel v u
  unfolding with_rest
  with_rest_away channel q rest v u n = go (v == q)
    where
      go : (b : Bool) → (if b && u == r then rest else channel v u) ≡ channel v u
      go true = let o = is_other u r n in rw o refl
      go false = refl

  with_parcel_away : (channel : Lists) (q : ℕ) (x : Parcel) (v u : ℕ) → u ≢ r → with_parcel channel q r x v u ≡ channel v u
  unfolding with_parcel
  with_parcel_away channel q x v u n = go (v == q)
    where
      go : (b : Bool) → (if b && u == r then channel v u ++ x ∷ [] else channel v u) ≡ channel v u
      go true = let o = is_other u r n in rw o refl
      go false = refl

  same_as : (l l' : List Parcel) → l' ≡ l → Grown l l'
  same_as l l' e = ([], e ∙ sym (append-nil l))

  pub sending_keeps_others : (s : State) (q : ℕ) (body : ℤ) → KeepsOthers r s (after_sending s r q body)
  unfolding with_parcel
  sending_keeps_others s q body = record { open_in = λ u n. refl; up = λ u n. refl; first_sent = λ u v n. away_two u v q (if s.first_sent r q == 0 then s.so_far.rows + 1 else s.first_sent r q) (s.first_sent u v) n; held = λ v u n. refl; channel = λ v u n. grows (v == r && u == q) (s.channel v u) (App (s.so_far.rows + 1)); is_rollback = λ k l. refl; instances = omega arith }

  pub refusal_keeps_others : (s : State) (v : Verb) (c : Cause) → KeepsOthers r s (after_refusal s r v c)
  refusal_keeps_others s v c = record { open_in = λ u n. refl; up = λ u n. refl; first_sent = λ u v n. refl; held = λ q u n. refl; channel = λ q u n. same_list (s.channel q u); is_rollback = λ k l. refl; instances = omega arith }

  pub failing_keeps_others : (s : State) → KeepsOthers r s (after_failing s r)
  failing_keeps_others s = record { open_in = λ u n. refl; up = λ u n. away u false (s.up u) n; first_sent = λ u v n. refl; held = λ q u n. refl; channel = λ q u n. same_list (s.channel q u); is_rollback = λ k l. refl; instances = omega arith }

  began_keeps_others : (s : State) (roll : Bool) → KeepsOthers r s (after_began s r roll)
  began_keeps_others s roll = record { open_in = λ u n. refl; up = λ u n. refl; first_sent = λ u v n. refl; held = λ q u n. refl; channel = λ q u n. same_list (s.channel q u); is_rollback = λ k l. (let o = is_other k (s.instances + 1) (λ e. omega (arith, e, l)) in rw o refl); instances = omega arith }

  joining_checkpoint_keeps_others : (s : State) (channel : Lists) (k : ℕ) (is_first : Bool) (par lnk : ℕ) → ((v u : ℕ) → u ≢ r → channel v u ≡ s.channel v u) → KeepsOthers r s (after_joining_checkpoint s channel r k is_first par lnk)
  unfolding with_checkpoint_asks
  joining_checkpoint_keeps_others s channel k is_first par lnk e = record { open_in = λ u n. away u k (s.so_far.open_in u) n; up = λ u n. refl; first_sent = λ u v n. away u 0 (s.first_sent u v) n; held = λ q u n. refl; channel = λ v u n. grown_of (v == r && nat_lt 0 (s.last_received r u)) (channel v u) (s.channel v u) (Ask k (s.last_received r u)) (e v u n); is_rollback = λ k l. refl; instances = omega arith }

  joining_rollback_keeps_others : (s : State) (channel : Lists) (k : ℕ) (is_first : Bool) (par lnk : ℕ) → ((v u : ℕ) → u ≢ r → channel v u ≡ s.channel v u) → KeepsOthers r s (after_joining_rollback s channel r k is_first par lnk)
  unfolding with_rollback_asks
  joining_rollback_keeps_others s channel k is_first par lnk e = record { open_in = λ u n. away u k (s.so_far.open_in u) n; up = λ u n. refl; first_sent = λ u v n. refl; held = λ q u n. refl; channel = λ v u n. grown_of (v == r && nat_lt 0 (s.first_sent r u)) (channel v u) (s.channel v u) (Ask k (s.last_sent r u)) (e v u n); is_rollback = λ k l. refl; instances = omega arith }

  deciding_keeps_others : (s : State) (k : ℕ) (c roll : Bool) → KeepsOthers r s (late_deciding_as c roll s r k)
  deciding_keeps_others s k false roll = record { open_in = λ u n. refl; up = λ u n. refl; first_sent = λ u v n. refl; held = λ q u n. refl; channel = λ q u n. same_list (s.channel q u); is_rollback = λ k l. refl; instances = omega arith }
  deciding_keeps_others s k true true = record { open_in = λ u n. refl; up = λ u n. refl; first_sent = λ u v n. refl; held = λ q u n. refl; channel = λ q u n. same_list (s.channel q u); is_rollback = λ k l. refl; instances = omega arith }
  deciding_keeps_others s k true false = record { open_in = λ u n. refl; up = λ u n. refl; first_sent = λ u v n. refl; held = λ q u n. refl; channel = λ q u n. same_list (s.channel q u); is_rollback = λ k l. refl; instances = omega arith }

  pub closing_keeps_others : (s : State) (k : ℕ) (c : Bool) → KeepsOthers r s (late_closing s r k c)
  unfolding with_decisions
  closing_keeps_others s k c = at_if (KeepsOthers r s) (s.so_far.is_rollback k) _ _ (λ _. rolls c) (λ _. takes c)
    where
      rolls : (c : Bool) → KeepsOthers r s (late_closing_rollback s r k c)
      rolls true = record { open_in = λ u n. away u 0 (s.so_far.open_in u) n; up = λ u n. away u (s.up r || true) (s.up u) n; first_sent = λ u v n. away u 0 (s.first_sent u v) n; held = λ q u n. away u _ (s.held q u) n; channel = λ v u n. grows (v == r && s.asked k r u) (s.channel v u) (Decide k true); is_rollback = λ k l. refl; instances = omega arith }
      rolls false = record { open_in = λ u n. away u 0 (s.so_far.open_in u) n; up = λ u n. away u (s.up r || false) (s.up u) n; first_sent = λ u v n. refl; held = λ q u n. refl; channel = λ v u n. grows (v == r && s.asked k r u) (s.channel v u) (Decide k false); is_rollback = λ k l. refl; instances = omega arith }

      takes : (c : Bool) → KeepsOthers r s (late_closing_checkpoint s r k c)
      takes true = record { open_in = λ u n. away u 0 (s.so_far.open_in u) n; up = λ u n. refl; first_sent = λ u v n. refl; held = λ q u n. refl; channel = λ v u n. grows (v == r && s.asked k r u) (s.channel v u) (Decide k true); is_rollback = λ k l. refl; instances = omega arith }
      takes false = record { open_in = λ u n. away u 0 (s.so_far.open_in u) n; up = λ u n. refl; first_sent = λ u v n. away u (s.first_sent_aside r v) (s.first_sent u v) n; held = λ q u n. refl; channel = λ v u n. grows (v == r && s.asked k r u) (s.channel v u) (Decide k false); is_rollback = λ k l. refl; instances = omega arith }

  answering_keeps_others : (s : State) (k : ℕ) → KeepsOthers r s (after_answering s r k)
  unfolding with_parcel
  answering_keeps_others s k = record { open_in = λ u n. refl; up = λ u n. refl; first_sent = λ u v n. refl; held = λ q u n. refl; channel = λ v u n. grows (v == r && u == s.parent k r) (s.channel v u) (Reply k (s.all_willing k r)); is_rollback = λ k l. refl; instances = omega arith }

  pub settling_keeps_others : (s : State) (k : ℕ) → KeepsOthers r s (late_settling s r k)
  settling_keeps_others s k = at_if (KeepsOthers r s) (none_of s.processes (s.awaits k r)) _ _
      (λ _. at_if (KeepsOthers r s) (r == s.initiator k) _ _
      (λ _. along r s (late_deciding s r k) _ (deciding_keeps_others s k (s.all_willing k r) (s.so_far.is_rollback k)) (closing_keeps_others (late_deciding s r k) k (s.all_willing k r)))
      (λ _. answering_keeps_others s k))
      (λ _. still r s)

  replying_keeps_others : (s : State) (q k : ℕ) (w : Bool) (rest : List Parcel) → KeepsOthers r s (after_replying s r q k w rest)
  unfolding with_parcel
  replying_keeps_others s q k w rest = record { open_in = λ u n. refl; up = λ u n. refl; first_sent = λ u v n. refl; held = λ q u n. refl; channel = λ v u n. grown_of (v == r && u == q) (with_rest s.channel q r rest v u) (s.channel v u) (Reply k w) (with_rest_away s.channel q rest v u n); is_rollback = λ k l. refl; instances = omega arith }

  unwilling_keeps_others : (s : State) (q k : ℕ) (c : Cause) (rest : List Parcel) → KeepsOthers r s (after_unwilling s r q k c rest)
  unfolding with_parcel
  unwilling_keeps_others s q k c rest = record { open_in = λ u n. refl; up = λ u n. refl; first_sent = λ u v n. refl; held = λ q u n. refl; channel = λ v u n. grown_of (v == r && u == q) (with_rest s.channel q r rest v u) (s.channel v u) (Reply k false) (with_rest_away s.channel q rest v u n); is_rollback = λ k l. refl; instances = omega arith }

  noting_keeps_others : (s : State) (q k l : ℕ) → KeepsOthers r s (after_noting s r q k l)
  noting_keeps_others s q k l = record { open_in = λ u n. refl; up = λ u n. refl; first_sent = λ u v n. refl; held = λ q u n. refl; channel = λ q u n. same_list (s.channel q u); is_rollback = λ k l. refl; instances = omega arith }

  ask_keeps_others : (s : State) (q : ℕ) (able : Bool) (k l : ℕ) (rest : List Parcel) → KeepsOthers r s (late_ask s r q able k l rest)
  ask_keeps_others s q able k l rest = at_if (KeepsOthers r s) (s.so_far.open_in r == k) _ _ (λ _. along r s (after_noting s r q k l) _ (noting_keeps_others s q k l) (replying_keeps_others (after_noting s r q k l) q k true rest))
      (λ _. at_if (KeepsOthers r s) (not (s.so_far.open_in r == 0)) _ _ (λ _. unwilling_keeps_others s q k _ rest)
      (λ _. at_if (KeepsOthers r s) (s.so_far.is_rollback k) _ _
      (λ _. at_if (KeepsOthers r s) (must_roll s r q l) _ _
      (λ _. along r s (after_noting s r q k l) _ (noting_keeps_others s q k l)
      (along r (after_noting s r q k l) (after_joining_rollback (after_noting s r q k l) (with_rest s.channel q r rest) r k false q (s.last_received r q)) _
      (joining_rollback_keeps_others (after_noting s r q k l) (with_rest s.channel q r rest) k false q (s.last_received r q) (with_rest_away s.channel q rest))
      (settling_keeps_others (after_joining_rollback (after_noting s r q k l) (with_rest s.channel q r rest) r k false q (s.last_received r q)) k)))
      (λ _. replying_keeps_others s q k true rest))
      (λ _. at_if (KeepsOthers r s) (not (must_take s r q l)) _ _ (λ _. replying_keeps_others s q k true rest)
      (λ _. at_if (KeepsOthers r s) (not (able && s.up r)) _ _ (λ _. unwilling_keeps_others s q k _ rest)
      (λ _. along r s (after_joining_checkpoint s (with_rest s.channel q r rest) r k false q l) _
      (joining_checkpoint_keeps_others s (with_rest s.channel q r rest) k false q l (with_rest_away s.channel q rest))
      (settling_keeps_others (after_joining_checkpoint s (with_rest s.channel q r rest) r k false q l) k))))))

  arrival_keeps_others : (s : State) (channel held : Lists) (q m : ℕ) → ((v u : ℕ) → u ≢ r → channel v u ≡ s.channel v u) → ((v u : ℕ) → u ≢ r → held v u ≡ s.held v u) → KeepsOthers r s (after_arrival s channel held r q m)
  arrival_keeps_others s channel held q m e f = at_if (KeepsOthers r s) (s.up r) _ _
      (λ _. record { open_in = λ u n. refl; up = λ u n. refl; first_sent = λ u v n. refl; held = f; channel = λ v u n. same_as (s.channel v u) (channel v u) (e v u n); is_rollback = λ k l. refl; instances = omega arith })
      (λ _. record { open_in = λ u n. refl; up = λ u n. refl; first_sent = λ u v n. refl; held = f; channel = λ v u n. same_as (s.channel v u) (channel v u) (e v u n); is_rollback = λ k l. refl; instances = omega arith })

  decision_keeps_others : (s : State) (q : ℕ) (rest : List Parcel) → KeepsOthers r s (after_decision s r q rest)
  decision_keeps_others s q rest = record { open_in = λ u n. refl; up = λ u n. refl; first_sent = λ u v n. refl; held = λ q u n. refl; channel = λ v u n. same_as (s.channel v u) (with_rest s.channel q r rest v u) (with_rest_away s.channel q rest v u n); is_rollback = λ k l. refl; instances = omega arith }

  front_keeps_others : (s : State) (q : ℕ) (able : Bool) (l : List Parcel) → KeepsOthers r s (late_front s r q able l)
  front_keeps_others s q able [] = still r s
  front_keeps_others s q able (App m ∷ rest) = at_if (KeepsOthers r s) (is_ready s r) _ _
      (λ _. record { open_in = λ u n. refl; up = λ u n. refl; first_sent = λ u v n. refl; held = λ v u n. with_parcel_away s.held q (App m) v u n; channel = λ v u n. same_as (s.channel v u) (with_rest s.channel q r rest v u) (with_rest_away s.channel q rest v u n); is_rollback = λ k l. refl; instances = omega arith })
      (λ _. arrival_keeps_others s (with_rest s.channel q r rest) s.held q m (with_rest_away s.channel q rest) (λ v u n. refl))
  front_keeps_others s q able (Ask k l ∷ rest) = ask_keeps_others s q able k l rest
  front_keeps_others s q able (Reply k w ∷ rest) = along r s (after_decision s r q rest) _ (decision_keeps_others s q rest) (let x = settling_keeps_others (after_reply s r q k w rest) k in
      record { open_in = x.open_in; up = x.up; first_sent = x.first_sent; held = x.held; channel = x.channel; is_rollback = x.is_rollback; instances = x.instances })
  front_keeps_others s q able (Decide k c ∷ rest) = at_if (KeepsOthers r s) (s.so_far.open_in r == k) _ _ (λ _. along r s (after_decision s r q rest) _ (decision_keeps_others s q rest) (closing_keeps_others (after_decision s r q rest) k c)) (λ _. decision_keeps_others s q rest)

  pub take_keeps_others : (s : State) (q : ℕ) (able : Bool) → KeepsOthers r s (late_step s (machine.Take r q able))
  take_keeps_others s q able = at_if (KeepsOthers r s) (is_ready s r) _ _ (λ _. front_keeps_others s q able (s.channel q r)) (λ _. go (s.held q r))
    where
      go : (l : List Parcel) → KeepsOthers r s (late_take s r q able l)
      go [] = front_keeps_others s q able (s.channel q r)
      go (App m ∷ rest) = arrival_keeps_others s s.channel (with_rest s.held q r rest) q m (λ v u n. refl) (with_rest_away s.held q rest)
      go (Ask k l ∷ rest) = still r s
      go (Reply k l ∷ rest) = still r s
      go (Decide k l ∷ rest) = still r s

  pub beginning_keeps_others : (s : State) (roll : Bool) → KeepsOthers r s (late_beginning s r roll)
  beginning_keeps_others s false = along r s (after_began s r false) _ (began_keeps_others s false) (along r (after_began s r false) (after_joining_checkpoint (after_began s r false) s.channel r (s.instances + 1) true r 0) _
      (joining_checkpoint_keeps_others (after_began s r false) s.channel (s.instances + 1) true r 0 (λ v u n. refl)) (settling_keeps_others (after_joining_checkpoint (after_began s r false) s.channel r (s.instances + 1) true r 0) (s.instances + 1)))
  beginning_keeps_others s true = along r s (after_began s r true) _ (began_keeps_others s true) (along r (after_began s r true) (after_joining_rollback (after_began s r true) s.channel r (s.instances + 1) true r 0) _
      (joining_rollback_keeps_others (after_began s r true) s.channel (s.instances + 1) true r 0 (λ v u n. refl)) (settling_keeps_others (after_joining_rollback (after_began s r true) s.channel r (s.instances + 1) true r 0) (s.instances + 1)))
