-- Who has to settle awaits somebody, and who is in a decided instance will be told: kept by each transition.
use Rattle.std.specs.Prelude.{ℤ}
use Rattle.kt_base.specs.declared.words.Verb.{Verb}
use Rattle.std.proofs.Common.{◌≡◌, ◌≢◌, ℕ, ◌+◌, ◌≤◌, ◌<◌, Bool, true, false, not, List, ◌∷◌, refl, arith, sym, ap, inl, inr, ◌∙◌}
use Rattle.std.specs.Prelude.{◌==◌, ◌&&◌, ◌||◌, if◌then◌else◌}
use Rattle.std.proofs.lemmas.Bool.{cases_eq}
use Rattle.std.proofs.lemmas.Bool.Decides.{nat_tests}
use Rattle.kt_base.specs.declared.words.Cause.{Cause}
use Rattle.kt_meaning.specs.Past.{at_one}
use Rattle.kt_protocol.proofs.Deciding.{undecided_before}
use Rattle.kt_protocol.proofs.Invariant.{one}
use Rattle.kt_protocol.proofs.JoiningCheckpoints.{same_weight as same_weight_joins}
use Rattle.kt_protocol.proofs.Joining.{Joining}
use Rattle.kt_protocol.proofs.Updates.{at_one_here, at_one_other, is_other, is_same}
use Rattle.kt_protocol.proofs.Receiving.{Taking}
use Rattle.kt_protocol.proofs.JoiningRollbacks.{same_weight_rollback as same_weight_rolls}
use Rattle.kt_protocol.proofs.Weights.{weigh, weigh_with_rest, weigh_with_parcel, weigh_decisions}
use Rattle.kt_protocol.specs.Parcels.{App, Ask, Decide, Parcel, Reply, Lists, with_rest, with_parcel, with_decisions}
use Rattle.kt_protocol.specs.States.{State, opening}
use Rattle.kt_protocol.specs.Replies.{after_answering, after_noting, after_unwilling, after_replying, after_reply}
use Rattle.kt_protocol.specs.Messages.{after_refusal, after_failing, after_holding, after_dropping, after_receiving, after_sending}
use Rattle.kt_protocol.specs.Deciding.{after_closing, after_deciding_as, after_decision, after_closing_rollback, after_closing_checkpoint}
use Rattle.kt_protocol.specs.Joining.{after_began, after_joining_rollback, after_joining_checkpoint}

-- a decision of k
abbrev pub is_told : ℕ → Parcel → ℕ
is_told k (Decide j c) = one (j == k)
is_told k _ = 0

-- what holds of instance j and process u after each step
pub record Waiting (s : State) (j u : ℕ) : Type 0 where
  -- who is to answer or to decide awaits somebody
  pub waits : s.so_far.joined j u ≡ true → s.so_far.is_decided j ≡ false → (u == s.initiator j || not (s.has_answered j u)) ≡ true → (v : ℕ) × (s.awaits j u v ≡ true)
  -- who is open in a decided instance will be told: the decision is in transit, or its asker is open
  pub told : 0 < j → s.so_far.open_in u ≡ j → s.so_far.is_decided j ≡ true → (u ≢ s.initiator j) × (0 < weigh (is_told j) (s.channel (s.parent j u) u) + one (s.so_far.open_in (s.parent j u) == j))

pub waiting_opening : (n j u : ℕ) → Waiting (opening n) j u
waiting_opening n j u = record { waits = λ a b c. absurd (cc); told = λ a b c. absurd (cc) }

push_told : (channel : Lists) (p q : ℕ) (x : Parcel) (j u v n : ℕ) → 0 < weigh (is_told j) (channel u v) + n → 0 < weigh (is_told j) (with_parcel channel p q x u v) + n
push_told channel p q x j u v n h = let e = weigh_with_parcel (is_told j) channel p q x u v in omega (arith, e, h)

pop_told : (channel : Lists) (q p : ℕ) (x : Parcel) (rest : List Parcel) → channel q p ≡ x ∷ rest → (j u v n : ℕ) → (if u == q && v == p then is_told j x else 0) ≡ 0 → 0 < weigh (is_told j) (channel u v) + n → 0 < weigh (is_told j) (with_rest channel q p rest u v) + n
pop_told channel q p x rest e j u v n z h = let a = weigh_with_rest (is_told j) channel q p x rest e u v in omega (arith, a, z, h)

zero_if : (b : Bool) (x : ℕ) → x ≡ 0 → (if b then x else 0) ≡ 0
zero_if true x e = e
zero_if false x e = refl

pub waiting_sending : (s : State) (p q j u : ℕ) (body : ℤ) → Waiting s j u → Waiting (after_sending s p q body) j u
waiting_sending s p q j u body r = record { waits = r.waits; told = λ a b c. let x = r.told a b c in (x.0, push_told s.channel p q (App (s.so_far.rows + 1)) j (s.parent j u) u _ x.1) }

pub waiting_receiving : (s : State) (channel held : Lists) (p q m : ℕ) → Taking s channel held p q m → (j u : ℕ) → Waiting s j u → Waiting (after_receiving s channel held p q m) j u
waiting_receiving s channel held p q m t j u r = record { waits = r.waits; told = λ a b c. let x = r.told a b c in (x.0, rw (t.others (is_told j) (λ n. refl) (s.parent j u) u) x.1) }

pub waiting_dropping : (s : State) (channel held : Lists) (p q m : ℕ) → Taking s channel held p q m → (j u : ℕ) → Waiting s j u → Waiting (after_dropping s channel held p q m) j u
waiting_dropping s channel held p q m t j u r = record { waits = r.waits; told = λ a b c. let x = r.told a b c in (x.0, rw (t.others (is_told j) (λ n. refl) (s.parent j u) u) x.1) }

pub waiting_holding : (s : State) (p q m : ℕ) (rest : List Parcel) → s.channel q p ≡ App m ∷ rest → (j u : ℕ) → Waiting s j u → Waiting (after_holding s p q m rest) j u
waiting_holding s p q m rest e j u r = record { waits = r.waits; told = λ a b c. let x = r.told a b c in (x.0, pop_told s.channel q p (App m) rest e j (s.parent j u) u _ (zero_if _ 0 refl) x.1) }

pub waiting_failing : (s : State) (p j u : ℕ) → Waiting s j u → Waiting (after_failing s p) j u
waiting_failing s p j u r = record { waits = r.waits; told = r.told }

pub waiting_refusal : (s : State) (p j u : ℕ) (v : Verb) (c : Cause) → Waiting s j u → Waiting (after_refusal s p v c) j u
waiting_refusal s p j u v c r = record { waits = r.waits; told = r.told }

pub waiting_began : (s : State) (p : ℕ) (roll : Bool) (j u : ℕ) → ((k u : ℕ) → s.so_far.joined k u ≡ true → k ≤ s.instances) → (0 < j → s.so_far.open_in u ≡ j → s.so_far.joined j u ≡ true) → Waiting s j u → Waiting (after_began s p roll) j u
waiting_began s p roll j u low there r = record {
  waits = λ a b c. r.waits a b (sym (ap (λ x. u == x || not (s.has_answered j u)) (same_initiator (low j u a))) ∙ c);
  told = λ a b c. let x = r.told a b c in ((λ e. x.0 (e ∙ same_initiator (low j u (there a b)))), x.1);
}
  where
    same_initiator : j ≤ s.instances → at_one (s.instances + 1) p s.initiator j ≡ s.initiator j
    same_initiator l = at_one_other (s.instances + 1) j p s.initiator (λ e. omega (arith, l, e))

keep : (w a b i : ℕ) → 0 < w + one (a == i) → (a ≡ i → b ≡ i) → 0 < w + one (b == i)
keep w a b i h f = elim (cases_eq a i) [
  | inl e ↦ (let y = f e in rw (y, is_same i) (omega arith))
  | inr n ↦ (let y = rw (is_other a i n) at h in omega (arith, y))
]

still_open : (f : ℕ → ℕ) (p k u i : ℕ) → 0 < i → f p ≡ 0 → f u ≡ i → at_one p k f u ≡ i
still_open f p k u i pos z e = at_one_other p u k f (λ x. (let y : f p ≡ i = rw x at e in omega (arith, y, z, pos))) ∙ e

was_open : (f : ℕ → ℕ) (p k u i : ℕ) → (i == k && u == p) ≡ false → at_one p k f u ≡ i → f u ≡ i
was_open f p k u i n e = elim (cases_eq u p) [
  | inl x ↦ (let y : k ≡ i = sym (at_one_here p k f) ∙ (rw x at e) in absurd (grind (arith, nat_tests, n, x, y)))
  | inr x ↦ sym (at_one_other p u k f x) ∙ e
]

pub waiting_joining_checkpoint : (s : State) (channel : Lists) (p k : ℕ) (is_first : Bool) (par lnk lbl : ℕ) → Joining s channel p k is_first par lnk lbl false → (i u : ℕ) → (i == k && u == p) ≡ false → Waiting s i u → Waiting (after_joining_checkpoint s channel p k is_first par lnk) i u
waiting_joining_checkpoint s channel p k is_first par lnk lbl j i u n r = record {
  waits = λ a b c. let x = r.waits (rw n at a) b (rw n at c) in (x.0, rw n x.1);
  told = λ a b c. let x = r.told a (was_open s.so_far.open_in p k u i n b) c in (x.0, rw (n, same_weight_joins s channel p k is_first par lnk lbl false j (is_told i) (λ b. refl) (s.parent i u) u) (keep _ (s.so_far.open_in (s.parent i u)) _ i x.1 (still_open s.so_far.open_in p k (s.parent i u) i a j.closed)));
}

pub waiting_joining_rollback : (s : State) (channel : Lists) (p k : ℕ) (is_first : Bool) (par lnk lbl : ℕ) → Joining s channel p k is_first par lnk lbl true → (i u : ℕ) → (i == k && u == p) ≡ false → Waiting s i u → Waiting (after_joining_rollback s channel p k is_first par lnk) i u
waiting_joining_rollback s channel p k is_first par lnk lbl j i u n r = record {
  waits = λ a b c. let x = r.waits (rw n at a) b (rw n at c) in (x.0, rw n x.1);
  told = λ a b c. let x = r.told a (was_open s.so_far.open_in p k u i n b) c in (x.0, rw (n, same_weight_rolls s channel p k is_first par lnk lbl true j (is_told i) (λ b. refl) (s.parent i u) u) (keep _ (s.so_far.open_in (s.parent i u)) _ i x.1 (still_open s.so_far.open_in p k (s.parent i u) i a j.closed)));
}

pub waiting_noting : (s : State) (p q k l j u : ℕ) → Waiting s j u → Waiting (after_noting s p q k l) j u
waiting_noting s p q k l j u r = record { waits = r.waits; told = r.told }

pub waiting_replying : (s : State) (p q k l : ℕ) (w : Bool) (rest : List Parcel) → s.channel q p ≡ Ask k l ∷ rest → (j u : ℕ) → Waiting s j u → Waiting (after_replying s p q k w rest) j u
waiting_replying s p q k l w rest e j u r = record { waits = r.waits; told = λ a b c. let x = r.told a b c in (x.0, push_told (with_rest s.channel q p rest) p q (Reply k w) j (s.parent j u) u _ (pop_told s.channel q p (Ask k l) rest e j (s.parent j u) u _ (zero_if _ 0 refl) x.1)) }

pub waiting_unwilling : (s : State) (p q k l : ℕ) (cause : Cause) (rest : List Parcel) → s.channel q p ≡ Ask k l ∷ rest → (j u : ℕ) → Waiting s j u → Waiting (after_unwilling s p q k cause rest) j u
waiting_unwilling s p q k l cause rest e j u r = record { waits = r.waits; told = λ a b c. let x = r.told a b c in (x.0, push_told (with_rest s.channel q p rest) p q (Reply k false) j (s.parent j u) u _ (pop_told s.channel q p (Ask k l) rest e j (s.parent j u) u _ (zero_if _ 0 refl) x.1)) }

pub waiting_reply : (s : State) (p q k : ℕ) (w : Bool) (rest : List Parcel) → s.channel q p ≡ Reply k w ∷ rest → (j u : ℕ) → (j == k && u == p) ≡ false → Waiting s j u → Waiting (after_reply s p q k w rest) j u
waiting_reply s p q k w rest e j u n r = record {
  waits = λ a b c. let x = r.waits a b c in (x.0, was (j == k) (u == p) (x.0 == q) (s.awaits j u x.0) n x.1);
  told = λ a b c. let x = r.told a b c in (x.0, pop_told s.channel q p (Reply k w) rest e j (s.parent j u) u _ (zero_if _ 0 refl) x.1);
}
  where
    was : (t y z x : Bool) → (t && y) ≡ false → x ≡ true → (if t && y && z then false else x) ≡ true
    was true true z x n e = absurd (cc (n))
    was true false z x n e = e
    was false y z x n e = e

pub waiting_answering : (s : State) (p k j u : ℕ) → (j == k && u == p) ≡ false → Waiting s j u → Waiting (after_answering s p k) j u
waiting_answering s p k j u n r = record {
  waits = λ a b c. r.waits a b (rw n at c);
  told = λ a b c. let x = r.told a b c in (x.0, push_told s.channel p (s.parent k p) (Reply k (s.all_willing k p)) j (s.parent j u) u _ x.1);
}

-- who has answered needs to await nobody
pub waiting_answered : (s : State) (p k : ℕ) → s.so_far.is_decided k ≡ false → p ≢ s.initiator k → Waiting (after_answering s p k) k p
waiting_answered s p k d n = record {
  waits = λ a b c. absurd (none (p == s.initiator k) (k == k && p == p) (s.has_answered k p) (is_other p (s.initiator k) n) (rw (is_same k, is_same p) refl) c);
  told = λ a b c. absurd (cc (c, d));
}
  where
    none : (x y z : Bool) → x ≡ false → y ≡ true → (x || not (if y then true else z)) ≡ true → ⊥
    none x y z e f h = grind (arith, nat_tests, e, f, h)

pub waiting_deciding : (s : State) (p k : ℕ) (c roll : Bool) → p ≡ s.initiator k → ((u : ℕ) → s.so_far.open_in u ≡ k → u ≢ p → s.so_far.open_in (s.parent k u) ≡ k) → (i u : ℕ) → (i == k && u == p) ≡ false → Waiting s i u → Waiting (after_deciding_as c roll s p k) i u
waiting_deciding s p k c roll first up i u n r = go c roll
  where
    now : 0 < i → s.so_far.open_in u ≡ i → at_one k true s.so_far.is_decided i ≡ true → (u ≢ s.initiator i) × (0 < weigh (is_told i) (s.channel (s.parent i u) u) + one (s.so_far.open_in (s.parent i u) == i))
    now a b c = elim (cases_eq i k) [
      | inl e ↦ (let m : u ≢ p = λ x. grind (arith, nat_tests, n, e, x) in (λ x. m (x ∙ ap s.initiator e ∙ sym first), let y = up u (b ∙ e) m in rw (e, y, is_same k) (omega arith)))
      | inr e ↦ r.told a b (sym (at_one_other k i true s.so_far.is_decided e) ∙ c)
    ]

    go : (c roll : Bool) → Waiting (after_deciding_as c roll s p k) i u
    go false roll = record { waits = λ a b c. r.waits a (undecided_before s k i b).0 c; told = now }
    go true false = record { waits = λ a b c. r.waits a (undecided_before s k i b).0 c; told = now }
    go true true = record { waits = λ a b c. r.waits a (undecided_before s k i b).0 c; told = now }

closes_told : (s : State) (p k : ℕ) (c : Bool) (i u : ℕ) → 0 < i → s.so_far.open_in p ≡ k → s.asked i (s.parent i u) u ≡ true → 0 < weigh (is_told i) (s.channel (s.parent i u) u) + one (s.so_far.open_in (s.parent i u) == i) → 0 < weigh (is_told i) (with_decisions s.channel s.asked p k c (s.parent i u) u) + one (at_one p 0 s.so_far.open_in (s.parent i u) == i)
closes_told s p k c i u pos o a h = let w = weigh_decisions (is_told i) s.channel s.asked p k c (s.parent i u) u in elim (cases_eq (s.parent i u) p) [
  | inl e ↦ elim (cases_eq i k) [
    | inl f ↦ (let x : weigh (is_told i) (with_decisions s.channel s.asked p k c (s.parent i u) u) ≡ weigh (is_told i) (s.channel (s.parent i u) u) + 1 = w ∙ ap (λ y. weigh (is_told i) (s.channel (s.parent i u) u) + y) (fires e f) in omega (arith, x))
    | inr f ↦ (let y : (s.so_far.open_in (s.parent i u) == i) ≡ false = is_other (s.so_far.open_in (s.parent i u)) i (λ z. f (sym z ∙ ap s.so_far.open_in e ∙ o)) in let z = rw y at h in omega (arith, w, z))
  ]
  | inr e ↦ rw (is_other (s.parent i u) p e) (omega (arith, w, h))
]
  where
    fires : s.parent i u ≡ p → i ≡ k → (if s.parent i u == p && s.asked k p u then one (k == i) else 0) ≡ 1
    fires e f = let b : s.asked k p u ≡ true = rw (f, rw f at e) at a in rw (e, is_same p, b, f, is_same k) refl

pub waiting_closed : (s : State) (p k : ℕ) (c : Bool) → s.so_far.open_in p ≡ k → ((i u : ℕ) → s.so_far.joined i u ≡ true → u ≢ s.initiator i → s.asked i (s.parent i u) u ≡ true) → ((i u : ℕ) → 0 < i → s.so_far.open_in u ≡ i → s.so_far.joined i u ≡ true) → (i u : ℕ) → (i == k && u == p) ≡ false → Waiting s i u →
    0 < i → at_one p 0 s.so_far.open_in u ≡ i → s.so_far.is_decided i ≡ true → (u ≢ s.initiator i) × (0 < weigh (is_told i) (with_decisions s.channel s.asked p k c (s.parent i u) u) + one (at_one p 0 s.so_far.open_in (s.parent i u) == i))
waiting_closed s p k c o asked there i u n r a b d =
    let m : u ≢ p = λ e. out e in
    let b' = sym (at_one_other p u 0 s.so_far.open_in m) ∙ b in
    let x = r.told a b' d in
    (x.0, closes_told s p k c i u a o (asked i u (there i u a b') x.0) x.1)
  where
    out : u ≡ p → ⊥
    out e = let y : 0 ≡ i = sym (at_one_here p 0 s.so_far.open_in) ∙ (rw e at b) in omega (arith, a, y)

pub waiting_closing : (s : State) (p k : ℕ) (c : Bool) → s.so_far.open_in p ≡ k → ((i u : ℕ) → s.so_far.joined i u ≡ true → u ≢ s.initiator i → s.asked i (s.parent i u) u ≡ true) → ((i u : ℕ) → 0 < i → s.so_far.open_in u ≡ i → s.so_far.joined i u ≡ true) → (i u : ℕ) → (i == k && u == p) ≡ false → Waiting s i u → Waiting (after_closing s p k c) i u
waiting_closing s p k c o asked there i u n r = go c (s.so_far.is_rollback k)
  where
    go : (c roll : Bool) → Waiting (if roll then after_closing_rollback s p k c else after_closing_checkpoint s p k c) i u
    go c true = record { waits = r.waits; told = waiting_closed s p k c o asked there i u n r }
    go true false = record { waits = r.waits; told = waiting_closed s p k true o asked there i u n r }
    go false false = record { waits = r.waits; told = waiting_closed s p k false o asked there i u n r }

-- who closes an instance is in no instance
pub waiting_shut : (s : State) (p k : ℕ) (c : Bool) → 0 < k → s.so_far.is_decided k ≡ true → Waiting (after_closing s p k c) k p
waiting_shut s p k c pos d = go c (s.so_far.is_rollback k)
  where
    out : {X : Type 0} → at_one p 0 s.so_far.open_in p ≡ k → X
    out b = let y : 0 ≡ k = sym (at_one_here p 0 s.so_far.open_in) ∙ b in absurd (omega (arith, y, pos))

    go : (c roll : Bool) → Waiting (if roll then after_closing_rollback s p k c else after_closing_checkpoint s p k c) k p
    go c true = record { waits = λ a b c. absurd (cc (b, d)); told = λ a b c. out b }
    go true false = record { waits = λ a b c. absurd (cc (b, d)); told = λ a b c. out b }
    go false false = record { waits = λ a b c. absurd (cc (b, d)); told = λ a b c. out b }

pub waiting_decision : (s : State) (p q k : ℕ) (c : Bool) (rest : List Parcel) → s.channel q p ≡ Decide k c ∷ rest → (j u : ℕ) → (j == k && u == p) ≡ false → Waiting s j u → Waiting (after_decision s p q rest) j u
waiting_decision s p q k c rest e j u n r = record { waits = r.waits; told = λ a b d. let x = r.told a b d in (x.0, pop_told s.channel q p (Decide k c) rest e j (s.parent j u) u _ (other (s.parent j u)) x.1) }
  where
    other : (x : ℕ) → (if x == q && u == p then one (k == j) else 0) ≡ 0
    other x = grind (arith, nat_tests, n)

-- who takes a decision of an instance that it is not in
pub waiting_ignores : (s : State) (p q k : ℕ) (rest : List Parcel) → s.so_far.open_in p ≢ k → s.so_far.is_decided k ≡ true → Waiting (after_decision s p q rest) k p
waiting_ignores s p q k rest n d = record { waits = λ a b c. absurd (cc (b, d)); told = λ a b c. absurd (n b) }
