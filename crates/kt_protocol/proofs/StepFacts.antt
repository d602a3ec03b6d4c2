-- What is known at the parts of a step, so that each transition keeps the invariant.
use Rattle.std.proofs.Common.{◌≡◌, ℕ, zero, suc, ◌+◌, ◌≤◌, ◌<◌, Bool, true, false, not, List, [], ◌∷◌, refl, arith, sym, inl, inr, ◌⊎◌, ◌∙◌}
use Rattle.std.proofs.lemmas.Bool.{cases_eq}
use Rattle.std.proofs.lemmas.Bool.Decides.{nat_tests}
use Rattle.std.proofs.lemmas.Bool.{cases_lt}
use Rattle.kt_protocol.proofs.Replying.{ask_facts, ask_label_facts, no_message}
use Rattle.kt_protocol.proofs.Deciding.{all_await_none, willing_has_none}
use Rattle.kt_protocol.proofs.Invariant.{Invariant, is_message}
use Rattle.kt_protocol.proofs.Joining.{Joining, Label, RollbackLabel}
use Rattle.kt_protocol.proofs.Updates.{at_one_here, is_same}
use Rattle.kt_protocol.proofs.Receiving.{Taking}
use Rattle.kt_protocol.proofs.Weights.{behind_with_rest, weigh, weigh_nil, weigh_with_rest}
use Rattle.kt_protocol.specs.Parcels.{App, Ask, Parcel, with_rest}
use Rattle.kt_protocol.specs.States.{State}
use Rattle.kt_protocol.specs.Deciding.{after_closing, after_deciding_as, after_deciding, none_of}
use Rattle.kt_protocol.specs.Joining.{must_roll, must_take, after_began}
use Rattle.kt_protocol.specs.Replies.{after_noting}
use Rattle.kt_protocol.proofs.RowFacts.{checkpoint_cut_of}
use Rattle.kt_protocol.proofs.Choices.{at_if}
use Rattle.kt_protocol.proofs.Transitions.{invariant_noting, invariant_aborting, invariant_committing_checkpoint, invariant_committing_rollback, invariant_closing_checkpoint, invariant_closing_rollback}

pub none_is : (n : ℕ) (f : ℕ → Bool) → none_of n f ≡ true → (v : ℕ) → v < n → f v ≡ false
none_is zero f h v l = absurd (omega arith)
none_is (suc n) f h v l = elim (cases_eq v n) [
  | inl e ↦ rw e (grind (arith, nat_tests))
  | inr d ↦ none_is n f (grind (arith, nat_tests)) v (omega arith)
]

pub awaits_none : (s : State) (p k : ℕ) → Invariant s → none_of s.processes (s.awaits k p) ≡ true → (v : ℕ) → s.awaits k p v ≡ false
awaits_none s p k g b v = at_test (s.awaits k p v) refl
  where
    at_test : (x : Bool) → s.awaits k p v ≡ x → s.awaits k p v ≡ false
    at_test false e = e
    at_test true e = none_is s.processes (s.awaits k p) b v (g.asks.awaits_joined k p v e).2

pub invariant_deciding_as : (s : State) (p k : ℕ) (c roll : Bool) → Invariant s → s.so_far.is_rollback k ≡ roll → s.so_far.joined k p ≡ true → p ≡ s.initiator k → s.so_far.is_decided k ≡ false → s.so_far.has_unwilling k ≡ not c → ((u v : ℕ) → s.awaits k u v ≡ false) → Invariant (after_deciding_as c roll s p k)
invariant_deciding_as s p k false roll g r j i d w all_await_none = invariant_aborting s p k g j i d w all_await_none
invariant_deciding_as s p k true false g r j i d w all_await_none = invariant_committing_checkpoint s p k g r j i d w all_await_none
invariant_deciding_as s p k true true g r j i d w all_await_none = invariant_committing_rollback s p k g r j i d w all_await_none

pub invariant_closing : (s : State) (p k : ℕ) (c : Bool) → 0 < k → s.so_far.open_in p ≡ k → s.so_far.is_decided k ≡ true → s.so_far.is_committed k ≡ c → Invariant s → Invariant (after_closing s p k c)
invariant_closing s p k c pos o d i g = at_if Invariant (s.so_far.is_rollback k) _ _ (λ r. invariant_closing_rollback s p k c r pos o d i g) (λ r. invariant_closing_checkpoint s p k c r pos o d i g)

-- what a decision leaves
pub same_open : (s : State) (p k u : ℕ) (c roll : Bool) → (after_deciding_as c roll s p k).so_far.open_in u ≡ s.so_far.open_in u
same_open s p k u false roll = refl
same_open s p k u true false = refl
same_open s p k u true true = refl

pub now_decided : (s : State) (p k : ℕ) (c roll : Bool) → ((after_deciding_as c roll s p k).so_far.is_decided k ≡ true) × ((after_deciding_as c roll s p k).so_far.is_committed k ≡ c)
now_decided s p k false roll = (at_one_here k true s.so_far.is_decided, at_one_here k false s.so_far.is_committed)
now_decided s p k true false = (at_one_here k true s.so_far.is_decided, at_one_here k true s.so_far.is_committed)
now_decided s p k true true = (at_one_here k true s.so_far.is_decided, at_one_here k true s.so_far.is_committed)

pub invariant_deciding : (s : State) (p k : ℕ) → Invariant s → s.so_far.joined k p ≡ true → s.so_far.is_decided k ≡ false → p ≡ s.initiator k → ((v : ℕ) → s.awaits k p v ≡ false) → Invariant (after_deciding s p k)
invariant_deciding s p k g j d i quiet =
    let q : (v : ℕ) → s.awaits k (s.initiator k) v ≡ false = λ v. rw (← i) (quiet v) in
    invariant_deciding_as s p k (s.all_willing k p) (s.so_far.is_rollback k) g refl j i d (exact (s.all_willing k p) refl q) (all_await_none s k g q)
  where
    exact : (c : Bool) → s.all_willing k p ≡ c → ((v : ℕ) → s.awaits k (s.initiator k) v ≡ false) → s.so_far.has_unwilling k ≡ not c
    exact true e q = willing_has_none s k g q d (rw (← i) e)
    exact false e q = g.willing.unwilling_member k p e

pub noted_here : (s : State) (p q k l : ℕ) → (after_noting s p q k l).noted k p q ≡ true
noted_here s p q k l = rw (is_same k, is_same p, is_same q) refl

module _ (s : State) (p q k l : ℕ) (rest : List Parcel) (e : s.channel q p ≡ Ask k l ∷ rest) (g : Invariant s) where
  pub safe_open : s.so_far.open_in p ≡ k → s.so_far.is_rollback k ≡ false → (m : ℕ) → s.so_far.from m ≡ p → s.so_far.to m ≡ q → s.so_far.is_received m ≡ true → m ≤ l → s.so_far.sent_at m < checkpoint_cut_of s.so_far k p
  safe_open o r m f t a b =
      let pos = (ask_facts s q p k l rest e g).3 in
      let x = g.positions.open_joined k p pos o in
      let v = g.positions.open_saved k p pos o r in
      let y = g.positions.open_sends k m pos (rw f o) r in
      let z = (g.messages.received_low m a).0 in
      let y' : s.so_far.sent_at m < s.saved_at p = rw f at (y z) in grind (arith, nat_tests, x, y', v)

  pub safe_closed : s.so_far.open_in p ≡ 0 → s.so_far.is_rollback k ≡ false → must_take s p q l ≡ false → (m : ℕ) → s.so_far.from m ≡ p → s.so_far.to m ≡ q → s.so_far.is_received m ≡ true → m ≤ l → s.so_far.sent_at m < checkpoint_cut_of s.so_far k p
  safe_closed o r must m f t a b = elim (cases_lt (s.so_far.sent_at m) (s.saved_at p)) [
    | inl x ↦ (let c = (g.positions.closed_permanent p o).0 in let u = (ask_facts s q p k l rest e g).2 in grind (arith, nat_tests, c, x, g.positions.permanent_new k p, u, r))
    | inr x ↦ (let y = g.tables.first_sent_all m (g.messages.received_low m a).0 (rw f x) in let z : (0 < s.first_sent p q) × (s.first_sent p q ≤ m) = rw (f, t) at y in absurd (grind (arith, nat_tests, z, must)))
  ]

  -- p has nothing that q would undo
  pub safe_rollback : s.so_far.open_in p ≡ 0 → s.so_far.is_rollback k ≡ true → must_roll s p q l ≡ false → s.held q p ≡ [] → (n : ℕ) → s.so_far.from n ≡ q → s.so_far.to n ≡ p → s.so_far.is_sent n ≡ true → s.so_far.permanent q ≤ s.so_far.sent_at n → ((s.so_far.joined k p ≡ true) × (s.noted k p q ≡ true)) ⊎ ((s.so_far.is_received n ≡ false) × (weigh (is_message n) (s.held q p) ≡ 0))
  safe_rollback o r must none n f t a b = inr (at_test (s.so_far.is_received n) refl, rw none (weigh_nil (is_message n)))
    where
      at_test : (x : Bool) → s.so_far.is_received n ≡ x → s.so_far.is_received n ≡ false
      at_test false x = x
      at_test true x =
          let c = (g.positions.closed_permanent p o).0 in
          let lab = (ask_label_facts s q p k l rest e g).1 r in
          let sep : s.last_sent q p < n = rw (f, t) at ((g.tables.separates n a).1 (rw f b)) in
          absurd (elim (cases_lt (s.so_far.received_at n) (s.so_far.permanent p)) [
            | inl y ↦ (let z : s.so_far.sent_at n < s.so_far.permanent q = rw f at (g.consistent.sent_permanently n x (rw t y)) in omega (arith, z, b))
            | inr y ↦ (let z : n ≤ s.last_received p q = rw (f, t) at (g.tables.last_received_all n x (rw t (omega (arith, y, c)))) in grind (arith, nat_tests, z, sep, lab, must))
          ])

  pub joining : s.so_far.open_in p ≡ 0 → s.so_far.is_rollback k ≡ false → must_take s p q l ≡ true → Joining s (with_rest s.channel q p rest) p k false q l l false × Label s p k false q l
  joining o r must =
      let f = ask_facts s q p k l rest e g in
      let lab = (ask_label_facts s q p k l rest e g).0 r in
      let i = g.positions.joined_instance k q f.1 in
      let b : (0 < s.first_sent p q) × (s.first_sent p q ≤ l) = grind (arith, nat_tests, must) in
      let x = g.tables.first_sent_is p q b.0 in
      let v = g.messages.sends_rise (s.first_sent p q) l x.0 (g.messages.received_low l lab.0).0 (x.1 ∙ sym lab.2) b.1 in (
        record {
          closed = o;
          positive = f.3;
          undecided = f.2;
          begun = f.4;
          kind = r;
          pop = λ f u v. weigh_with_rest f s.channel q p (Ask k l) rest e u v;
          front = behind_with_rest s.channel q p (Ask k l) rest e g.messages.messages_first;
          initial = λ z. absurd (cc (z));
          member = λ z. (f.1, i.2, i.3, f.0);
        },
        record { label = λ z. (lab.0, lab.2, lab.1, omega (arith, v, x.3, (g.positions.closed_permanent p o).0), lab.3) },
      )

  pub rolling_in : s.so_far.open_in p ≡ 0 → s.so_far.is_rollback k ≡ true → must_roll s p q l ≡ true → Joining (after_noting s p q k l) (with_rest s.channel q p rest) p k false q (s.last_received p q) l true × RollbackLabel (after_noting s p q k l) p k false q (s.last_received p q)
  rolling_in o r must =
      let f = ask_facts s q p k l rest e g in
      let lab = (ask_label_facts s q p k l rest e g).1 r in
      let i = g.positions.joined_instance k q f.1 in
      let b : l < s.last_received p q = grind (arith, nat_tests, must) in
      let x = g.tables.last_received_is p q (omega (arith, b)) in
      let sep = (g.tables.separates (s.last_received p q) (g.messages.received_low (s.last_received p q) x.0).0).0 in
      let past_perm : s.so_far.permanent q ≤ s.so_far.sent_at (s.last_received p q) = past_it x.1 x.2 sep b lab in (
        record {
          closed = o;
          positive = f.3;
          undecided = f.2;
          begun = f.4;
          kind = r;
          pop = λ f u v. weigh_with_rest f s.channel q p (Ask k l) rest e u v;
          front = behind_with_rest s.channel q p (Ask k l) rest e g.messages.messages_first;
          initial = λ z. absurd (cc (z));
          member = λ z. (f.1, i.2, i.3, f.0);
        },
        record { label = λ z. (x.0, x.1, x.2, past_perm); noted = λ z. noted_here s p q k l; clear = λ z n. no_message s q p k l rest e g n },
      )
    where
      past_it : s.so_far.from (s.last_received p q) ≡ q → s.so_far.to (s.last_received p q) ≡ p → (s.so_far.sent_at (s.last_received p q) < s.so_far.permanent (s.so_far.from (s.last_received p q)) → s.last_received p q ≤ s.last_sent (s.so_far.from (s.last_received p q)) (s.so_far.to (s.last_received p q))) → l < s.last_received p q → l ≡ s.last_sent q p → s.so_far.permanent q ≤ s.so_far.sent_at (s.last_received p q)
      past_it a b sep c lab = elim (cases_lt (s.so_far.sent_at (s.last_received p q)) (s.so_far.permanent q)) [
        | inl y ↦ (let z : s.last_received p q ≤ s.last_sent q p = rw (a, b) at (sep (rw a y)) in absurd (omega (arith, z, c, lab)))
        | inr y ↦ y
      ]

  pub noted_invariant : Invariant (after_noting s p q k l)
  noted_invariant = invariant_noting s p q k l (ask_facts s q p k l rest e g).1 (ask_label_facts s q p k l rest e g).1 g

pub new_undecided : (s : State) → Invariant s → s.so_far.is_decided (s.instances + 1) ≡ false
new_undecided s g = grind (arith, nat_tests, g.positions.decided_instance (s.instances + 1))

pub new_empty : (s : State) → Invariant s → (q : ℕ) → s.so_far.joined (s.instances + 1) q ≡ false
new_empty s g q = grind (arith, nat_tests, g.positions.joined_instance (s.instances + 1) q)

pub new_joining : (s : State) (p : ℕ) (roll : Bool) → s.so_far.open_in p ≡ 0 → Invariant s → Joining (after_began s p roll) s.channel p (s.instances + 1) true p 0 0 roll
new_joining s p roll o g = record {
  closed = o;
  positive = omega arith;
  undecided = new_undecided s g;
  begun = omega arith;
  kind = at_one_here (s.instances + 1) roll s.so_far.is_rollback;
  pop = λ f u v. omega arith;
  front = g.messages.messages_first;
  initial = λ _. (sym (at_one_here (s.instances + 1) p s.initiator), new_empty s g);
  member = λ z. absurd (cc (z));
}

pub from_channel : (s : State) (p q m : ℕ) (rest : List Parcel) → s.channel q p ≡ App m ∷ rest → Invariant s → Taking s (with_rest s.channel q p rest) s.held p q m
from_channel s p q m rest e g = record {
  others = λ f z u v. let a = weigh_with_rest f s.channel q p (App m) rest e u v in let b = z m in grind (arith, nat_tests, a, b);
  messages = λ n u v. let a = weigh_with_rest (is_message n) s.channel q p (App m) rest e u v in grind (arith, nat_tests, a);
  less = λ n u v. let a = weigh_with_rest (is_message n) s.channel q p (App m) rest e u v in omega (arith, a);
  less_held = λ n u v. omega arith;
  front = behind_with_rest s.channel q p (App m) rest e g.messages.messages_first;
}

pub from_held : (s : State) (p q m : ℕ) (rest : List Parcel) → s.held q p ≡ App m ∷ rest → Invariant s → Taking s s.channel (with_rest s.held q p rest) p q m
from_held s p q m rest e g = record {
  others = λ f z u v. refl;
  messages = λ n u v. let a = weigh_with_rest (is_message n) s.held q p (App m) rest e u v in grind (arith, nat_tests, a);
  less = λ n u v. omega arith;
  less_held = λ n u v. let a = weigh_with_rest (is_message n) s.held q p (App m) rest e u v in omega (arith, a);
  front = g.messages.messages_first;
}
