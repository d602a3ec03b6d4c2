-- Tables and asks speak of messages since the last checkpoint: kept by each transition.
use Rattle.std.specs.Prelude.{ℤ}
use Rattle.kt_base.specs.declared.words.Verb.{Verb}
use Rattle.std.proofs.Common.{◌≡◌, ◌≢◌, ℕ, ◌+◌, ◌≤◌, ◌<◌, Bool, true, false, not, List, ◌∷◌, refl, arith, sym, inl, inr, ◌∙◌}
use Rattle.std.specs.Prelude.{◌==◌, ◌&&◌, nat_lt, if◌then◌else◌}
use Rattle.std.proofs.lemmas.Bool.{cases_eq}
use Rattle.std.proofs.lemmas.Bool.Decides.{nat_tests}
use Rattle.kt_base.specs.declared.words.Cause.{Cause}
use Rattle.kt_meaning.specs.Past.{at_one, at_pair}
use Rattle.kt_protocol.proofs.Invariant.{is_ask, is_ask_with, one}
use Rattle.kt_protocol.proofs.Joining.{Joining}
use Rattle.kt_protocol.proofs.Updates.{at_one_here, at_one_other, is_other, is_same}
use Rattle.kt_protocol.proofs.Receiving.{Taking}
use Rattle.kt_protocol.proofs.Weights.{weigh, weigh_checkpoint_asks, weigh_le, weigh_nil, weigh_rollback_asks, weigh_decisions, weigh_same_parcel, weigh_less_rest}
use Rattle.kt_protocol.specs.Parcels.{App, Ask, Decide, Parcel, Reply, Lists, with_checkpoint_asks, with_rest, with_rollback_asks, with_decisions}
use Rattle.kt_protocol.specs.States.{State, opening}
use Rattle.kt_protocol.specs.Replies.{after_answering, after_noting, after_unwilling, after_replying, after_reply}
use Rattle.kt_protocol.specs.Messages.{after_refusal, after_failing, after_holding, after_dropping, after_receiving, after_sending}
use Rattle.kt_protocol.specs.Deciding.{after_closing, after_deciding_as, after_decision, after_closing_rollback, after_closing_checkpoint}
use Rattle.kt_protocol.specs.Joining.{after_began, after_joining_rollback, after_joining_checkpoint}
use Rattle.kt_protocol.proofs.Choices.{same, two}
use Rattle.kt_protocol.proofs.Askers.{with_le}

-- where the tables' labels lie
pub record TablesSince (s : State) : Type 0 where
  pub last_since : (p q : ℕ) → 0 < s.last_received p q → s.saved_at p ≤ s.so_far.received_at (s.last_received p q)
  pub kept_since : (k p q : ℕ) → 0 < k → s.so_far.open_in p ≡ k → s.so_far.is_rollback k ≡ false → 0 < s.last_received_aside p q → s.own_permanent p ≤ s.so_far.received_at (s.last_received_aside p q)
  pub ask_kept : (k l p q : ℕ) → s.so_far.is_rollback k ≡ false → 0 < weigh (is_ask_with k l) (s.channel p q) → l ≡ s.last_received_aside p q
  pub ask_first : (k p q : ℕ) → s.so_far.is_rollback k ≡ true → 0 < weigh (is_ask k) (s.channel p q) → 0 < s.first_sent p q

pub tables_since_opening : (n : ℕ) → TablesSince (opening n)
tables_since_opening n = record {
  last_since = λ p q a. absurd (omega (arith, a));
  kept_since = λ k p q a b c d. absurd (omega (arith, d));
  ask_kept = λ k l p q a b. absurd (omega (arith, weigh_nil (is_ask_with k l), b));
  ask_first = λ k p q a b. absurd (omega (arith, weigh_nil (is_ask k), b));
}

pub tables_since_sending : (s : State) (p q : ℕ) (body : ℤ) → TablesSince s → TablesSince (after_sending s p q body)
tables_since_sending s p q body t = record {
  last_since = t.last_since;
  kept_since = t.kept_since;
  ask_kept = λ i n u v r a. t.ask_kept i n u v r (rw (weigh_same_parcel (is_ask_with i n) s.channel p q (App (s.so_far.rows + 1)) refl u v) at a);
  ask_first = λ i u v r a. more u v (t.ask_first i u v r (rw (weigh_same_parcel (is_ask i) s.channel p q (App (s.so_far.rows + 1)) refl u v) at a));
}
  where
    more : (u v : ℕ) → 0 < s.first_sent u v → 0 < at_pair p q (if s.first_sent p q == 0 then s.so_far.rows + 1 else s.first_sent p q) s.first_sent u v
    more u v h = grind (arith, nat_tests, h)

pub tables_since_receiving : (s : State) (channel held : Lists) (p q m : ℕ) → Taking s channel held p q m → s.saved_at p ≤ s.so_far.size p → ((u v : ℕ) → 0 < s.last_received u v → s.last_received u v ≢ m) → ((k u v : ℕ) → 0 < k → s.so_far.open_in u ≡ k → s.so_far.is_rollback k ≡ false → 0 < s.last_received_aside u v → s.last_received_aside u v ≢ m) → TablesSince s → TablesSince (after_receiving s channel held p q m)
tables_since_receiving s channel held p q m y low last_old kept_old t = record {
  last_since = λ u v a. later u v (u == p && v == q) refl a;
  kept_since = λ k u v a b c d. rw (at_one_other m (s.last_received_aside u v) (s.so_far.size p) s.so_far.received_at (kept_old k u v a b c d)) (t.kept_since k u v a b c d);
  ask_kept = λ i n u v r a. t.ask_kept i n u v r (rw (y.others (is_ask_with i n) (λ n. refl) u v) at a);
  ask_first = λ i u v r a. t.ask_first i u v r (rw (y.others (is_ask i) (λ n. refl) u v) at a);
}
  where
    old : (u v : ℕ) → 0 < s.last_received u v → s.saved_at u ≤ at_one m (s.so_far.size p) s.so_far.received_at (s.last_received u v)
    old u v a = rw (at_one_other m (s.last_received u v) (s.so_far.size p) s.so_far.received_at (last_old u v a)) (t.last_since u v a)

    pick : (b : Bool) → 0 < (if b then m else s.last_received p q) → s.saved_at p ≤ at_one m (s.so_far.size p) s.so_far.received_at (if b then m else s.last_received p q)
    pick true a = rw (at_one_here m (s.so_far.size p) s.so_far.received_at) low
    pick false a = old p q a

    later : (u v : ℕ) (b : Bool) → (u == p && v == q) ≡ b → 0 < (if b then (if nat_lt (s.last_received p q) m then m else s.last_received p q) else s.last_received u v) → s.saved_at u ≤ at_one m (s.so_far.size p) s.so_far.received_at (if b then (if nat_lt (s.last_received p q) m then m else s.last_received p q) else s.last_received u v)
    later u v true e a = let z = two u p v q e in rw z.0 (pick (nat_lt (s.last_received p q) m) a)
    later u v false e a = old u v a

pub tables_since_dropping : (s : State) (channel held : Lists) (p q m : ℕ) → Taking s channel held p q m → TablesSince s → TablesSince (after_dropping s channel held p q m)
tables_since_dropping s channel held p q m y t = record {
  last_since = t.last_since;
  kept_since = t.kept_since;
  ask_kept = λ i n u v r a. t.ask_kept i n u v r (rw (y.others (is_ask_with i n) (λ n. refl) u v) at a);
  ask_first = λ i u v r a. t.ask_first i u v r (rw (y.others (is_ask i) (λ n. refl) u v) at a);
}

pub tables_since_holding : (s : State) (p q m : ℕ) (rest : List Parcel) → s.channel q p ≡ App m ∷ rest → TablesSince s → TablesSince (after_holding s p q m rest)
tables_since_holding s p q m rest e t = record {
  last_since = t.last_since;
  kept_since = t.kept_since;
  ask_kept = λ i n u v r a. t.ask_kept i n u v r (weigh_less_rest (is_ask_with i n) s.channel q p (App m) rest e u v a);
  ask_first = λ i u v r a. t.ask_first i u v r (weigh_less_rest (is_ask i) s.channel q p (App m) rest e u v a);
}

pub tables_since_failing : (s : State) (p : ℕ) → TablesSince s → TablesSince (after_failing s p)
tables_since_failing s p t = record {
  last_since = t.last_since;
  kept_since = t.kept_since;
  ask_kept = t.ask_kept;
  ask_first = t.ask_first;
}

pub tables_since_refusal : (s : State) (p : ℕ) (v : Verb) (c : Cause) → TablesSince s → TablesSince (after_refusal s p v c)
tables_since_refusal s p v c t = record {
  last_since = t.last_since;
  kept_since = t.kept_since;
  ask_kept = t.ask_kept;
  ask_first = t.ask_first;
}

pub tables_since_noting : (s : State) (p q k l : ℕ) → TablesSince s → TablesSince (after_noting s p q k l)
tables_since_noting s p q k l t = record {
  last_since = t.last_since;
  kept_since = t.kept_since;
  ask_kept = t.ask_kept;
  ask_first = t.ask_first;
}

pub tables_since_replying : (s : State) (p q k l : ℕ) (w : Bool) (rest : List Parcel) → s.channel q p ≡ Ask k l ∷ rest → TablesSince s → TablesSince (after_replying s p q k w rest)
tables_since_replying s p q k l w rest e t = record {
  last_since = t.last_since;
  kept_since = t.kept_since;
  ask_kept = λ i n u v r a. t.ask_kept i n u v r (weigh_less_rest (is_ask_with i n) s.channel q p (Ask k l) rest e u v (rw (weigh_same_parcel (is_ask_with i n) (with_rest s.channel q p rest) p q (Reply k w) refl u v) at a));
  ask_first = λ i u v r a. t.ask_first i u v r (weigh_less_rest (is_ask i) s.channel q p (Ask k l) rest e u v (rw (weigh_same_parcel (is_ask i) (with_rest s.channel q p rest) p q (Reply k w) refl u v) at a));
}

pub tables_since_unwilling : (s : State) (p q k l : ℕ) (cause : Cause) (rest : List Parcel) → s.channel q p ≡ Ask k l ∷ rest → TablesSince s → TablesSince (after_unwilling s p q k cause rest)
tables_since_unwilling s p q k l cause rest e t = record {
  last_since = t.last_since;
  kept_since = t.kept_since;
  ask_kept = λ i n u v r a. t.ask_kept i n u v r (weigh_less_rest (is_ask_with i n) s.channel q p (Ask k l) rest e u v (rw (weigh_same_parcel (is_ask_with i n) (with_rest s.channel q p rest) p q (Reply k false) refl u v) at a));
  ask_first = λ i u v r a. t.ask_first i u v r (weigh_less_rest (is_ask i) s.channel q p (Ask k l) rest e u v (rw (weigh_same_parcel (is_ask i) (with_rest s.channel q p rest) p q (Reply k false) refl u v) at a));
}

pub tables_since_reply : (s : State) (p q k : ℕ) (w : Bool) (rest : List Parcel) → s.channel q p ≡ Reply k w ∷ rest → TablesSince s → TablesSince (after_reply s p q k w rest)
tables_since_reply s p q k w rest e t = record {
  last_since = t.last_since;
  kept_since = t.kept_since;
  ask_kept = λ i n u v r a. t.ask_kept i n u v r (weigh_less_rest (is_ask_with i n) s.channel q p (Reply k w) rest e u v a);
  ask_first = λ i u v r a. t.ask_first i u v r (weigh_less_rest (is_ask i) s.channel q p (Reply k w) rest e u v a);
}

pub tables_since_answering : (s : State) (p k : ℕ) → TablesSince s → TablesSince (after_answering s p k)
tables_since_answering s p k t = record {
  last_since = t.last_since;
  kept_since = t.kept_since;
  ask_kept = λ i n u v r a. t.ask_kept i n u v r (rw (weigh_same_parcel (is_ask_with i n) s.channel p (s.parent k p) (Reply k (s.all_willing k p)) refl u v) at a);
  ask_first = λ i u v r a. t.ask_first i u v r (rw (weigh_same_parcel (is_ask i) s.channel p (s.parent k p) (Reply k (s.all_willing k p)) refl u v) at a);
}

pub tables_since_decision : (s : State) (p q k : ℕ) (c : Bool) (rest : List Parcel) → s.channel q p ≡ Decide k c ∷ rest → TablesSince s → TablesSince (after_decision s p q rest)
tables_since_decision s p q k c rest e t = record {
  last_since = t.last_since;
  kept_since = t.kept_since;
  ask_kept = λ i n u v r a. t.ask_kept i n u v r (weigh_less_rest (is_ask_with i n) s.channel q p (Decide k c) rest e u v a);
  ask_first = λ i u v r a. t.ask_first i u v r (weigh_less_rest (is_ask i) s.channel q p (Decide k c) rest e u v a);
}

with_ask : (k l : ℕ) (x : List Parcel) → 0 < weigh (is_ask_with k l) x → 0 < weigh (is_ask k) x
with_ask k l x h = let a = weigh_le (is_ask_with k l) (is_ask k) (with_le k l) x in omega (arith, a, h)

pub tables_since_began : (s : State) (p : ℕ) (roll : Bool) → ((i u : ℕ) → 0 < i → s.so_far.open_in u ≡ i → i ≤ s.instances) → ((i u v : ℕ) → 0 < weigh (is_ask i) (s.channel u v) → i ≤ s.instances) → TablesSince s → TablesSince (after_began s p roll)
tables_since_began s p roll begun asked t = record {
  last_since = t.last_since;
  kept_since = λ i u v a b c d. t.kept_since i u v a b (sym (same_kind i (begun i u a b)) ∙ c) d;
  ask_kept = λ i n u v r a. t.ask_kept i n u v (sym (same_kind i (asked i u v (with_ask i n (s.channel u v) a))) ∙ r) a;
  ask_first = λ i u v r a. t.ask_first i u v (sym (same_kind i (asked i u v a)) ∙ r) a;
}
  where
    same_kind : (i : ℕ) → i ≤ s.instances → at_one (s.instances + 1) roll s.so_far.is_rollback i ≡ s.so_far.is_rollback i
    same_kind i l = at_one_other (s.instances + 1) i roll s.so_far.is_rollback (λ e. omega (arith, l, e))

-- what p of instance k asks; it asked nothing before
module _ (s : State) (channel new : Lists) (tab : ℕ → ℕ → ℕ) (lab : ℕ → ℕ) (p k : ℕ) (is_first : Bool) (par lbl : ℕ)
    (pop : (f : Parcel → ℕ) (u v : ℕ) → weigh f (channel u v) + (if not is_first && u == par && v == p then f (Ask k lbl) else 0) ≡ weigh f (s.channel u v))
    (grow : (f : Parcel → ℕ) (u v : ℕ) → weigh f (new u v) ≡ weigh f (channel u v) + (if u == p && nat_lt 0 (tab p v) then f (Ask k (lab v)) else 0))
    (none : (i v : ℕ) → weigh (is_ask i) (s.channel p v) ≡ 0) where
  ask_other : (f : Parcel → ℕ) (u v : ℕ) → u ≢ p → 0 < weigh f (new u v) → 0 < weigh f (s.channel u v)
  ask_other f u v n h = let a = pop f u v in let b = rw (is_other u p n) at (grow f u v) in omega (arith, a, b, h)

  ask_new : (i l v : ℕ) → 0 < weigh (is_ask_with i l) (new p v) → (i ≡ k) × (l ≡ lab v) × (0 < tab p v)
  ask_new i l v h =
      let a = pop (is_ask_with i l) p v in
      let b = grow (is_ask_with i l) p v in
      let c = weigh_le (is_ask_with i l) (is_ask i) (with_le i l) (s.channel p v) in
      let d = none i v in
      let e : 0 < (if p == p && nat_lt 0 (tab p v) then one (k == i && lab v == l) else 0) = omega (arith, a, b, c, d, h) in
      facts p k i (lab v) l (tab p v) e
    where
      facts : (p k i x l t : ℕ) → 0 < (if p == p && nat_lt 0 t then one (k == i && x == l) else 0) → (i ≡ k) × (l ≡ x) × (0 < t)
      facts p k i x l t e = grind (arith, nat_tests, e)

  ask_new_any : (i v : ℕ) → 0 < weigh (is_ask i) (new p v) → (i ≡ k) × (0 < tab p v)
  ask_new_any i v h =
      let a = pop (is_ask i) p v in
      let b = grow (is_ask i) p v in
      let d = none i v in
      let e : 0 < (if p == p && nat_lt 0 (tab p v) then one (k == i) else 0) = omega (arith, a, b, d, h) in
      facts p k i (tab p v) e
    where
      facts : (p k i t : ℕ) → 0 < (if p == p && nat_lt 0 t then one (k == i) else 0) → (i ≡ k) × (0 < t)
      facts p k i t e = grind (arith, nat_tests, e)

pub tables_since_joining_checkpoint : (s : State) (channel : Lists) (p k : ℕ) (is_first : Bool) (par lnk lbl : ℕ) → Joining s channel p k is_first par lnk lbl false → ((i v : ℕ) → weigh (is_ask i) (s.channel p v) ≡ 0) → s.own_permanent p ≤ s.saved_at p → TablesSince s → TablesSince (after_joining_checkpoint s channel p k is_first par lnk)
tables_since_joining_checkpoint s channel p k is_first par lnk lbl j none low t = record {
  last_since = λ u v. last_at u v;
  kept_since = λ i u v a b c d. kept_at i u v a b c d;
  ask_kept = λ i l u v r a. elim (cases_eq u p) [
    | inl e ↦ rw (e, is_same p) (ask_new s channel (with_checkpoint_asks channel s.last_received p k) s.last_received (λ v. s.last_received p v) p k is_first par lbl j.pop (λ f u v. weigh_checkpoint_asks f channel s.last_received p k u v) none i l v (rw e at a)).1
    | inr n ↦ rw (is_other u p n) (t.ask_kept i l u v r (ask_other s channel (with_checkpoint_asks channel s.last_received p k) s.last_received (λ v. s.last_received p v) p k is_first par lbl j.pop (λ f u v. weigh_checkpoint_asks f channel s.last_received p k u v) none (is_ask_with i l) u v n a))
  ];
  ask_first = λ i u v r a. elim (cases_eq u p) [
    | inl e ↦ (let x = (ask_new_any s channel (with_checkpoint_asks channel s.last_received p k) s.last_received (λ v. s.last_received p v) p k is_first par lbl j.pop (λ f u v. weigh_checkpoint_asks f channel s.last_received p k u v) none i v (rw e at a)).0 in let z : s.so_far.is_rollback k ≡ true = rw x at r in absurd (let y = j.kind in cc (y, z)))
    | inr n ↦ rw (is_other u p n) (t.ask_first i u v r (ask_other s channel (with_checkpoint_asks channel s.last_received p k) s.last_received (λ v. s.last_received p v) p k is_first par lbl j.pop (λ f u v. weigh_checkpoint_asks f channel s.last_received p k u v) none (is_ask i) u v n a))
  ];
}
  where
    last_at : (u v : ℕ) → 0 < (if u == p then 0 else s.last_received u v) → at_one p (s.so_far.size p) s.saved_at u ≤ s.so_far.received_at (if u == p then 0 else s.last_received u v)
    last_at u v = go (u == p)
      where
        go : (b : Bool) → 0 < (if b then 0 else s.last_received u v) → (if b then s.so_far.size p else s.saved_at u) ≤ s.so_far.received_at (if b then 0 else s.last_received u v)
        go true a = absurd (omega (arith, a))
        go false a = t.last_since u v a

    kept_at : (i u v : ℕ) → 0 < i → at_one p k s.so_far.open_in u ≡ i → s.so_far.is_rollback i ≡ false → 0 < (if u == p then s.last_received p v else s.last_received_aside u v) → s.own_permanent u ≤ s.so_far.received_at (if u == p then s.last_received p v else s.last_received_aside u v)
    kept_at i u v a b c = go (u == p) refl b
      where
        go : (x : Bool) → (u == p) ≡ x → (if x then k else s.so_far.open_in u) ≡ i → 0 < (if x then s.last_received p v else s.last_received_aside u v) → s.own_permanent u ≤ s.so_far.received_at (if x then s.last_received p v else s.last_received_aside u v)
        go true e b d = let z = same u p e in rw z (let y = t.last_since p v d in omega (arith, y, low))
        go false e b d = t.kept_since i u v a b c d

pub tables_since_joining_rollback : (s : State) (channel : Lists) (p k : ℕ) (is_first : Bool) (par lnk lbl : ℕ) → Joining s channel p k is_first par lnk lbl true → ((i v : ℕ) → weigh (is_ask i) (s.channel p v) ≡ 0) → TablesSince s → TablesSince (after_joining_rollback s channel p k is_first par lnk)
tables_since_joining_rollback s channel p k is_first par lnk lbl j none t = record {
  last_since = t.last_since;
  kept_since = λ i u v a b c d. kept_at i u v a b c d;
  ask_kept = λ i l u v r a. elim (cases_eq u p) [
    | inl e ↦ (let x = (ask_new s channel (with_rollback_asks channel s.first_sent s.last_sent p k) s.first_sent (λ v. s.last_sent p v) p k is_first par lbl j.pop (λ f u v. weigh_rollback_asks f channel s.first_sent s.last_sent p k u v) none i l v (rw e at a)).0 in let z : s.so_far.is_rollback k ≡ false = rw x at r in absurd (let y = j.kind in cc (y, z)))
    | inr n ↦ t.ask_kept i l u v r (ask_other s channel (with_rollback_asks channel s.first_sent s.last_sent p k) s.first_sent (λ v. s.last_sent p v) p k is_first par lbl j.pop (λ f u v. weigh_rollback_asks f channel s.first_sent s.last_sent p k u v) none (is_ask_with i l) u v n a)
  ];
  ask_first = λ i u v r a. elim (cases_eq u p) [
    | inl e ↦ rw e (ask_new_any s channel (with_rollback_asks channel s.first_sent s.last_sent p k) s.first_sent (λ v. s.last_sent p v) p k is_first par lbl j.pop (λ f u v. weigh_rollback_asks f channel s.first_sent s.last_sent p k u v) none i v (rw e at a)).1
    | inr n ↦ t.ask_first i u v r (ask_other s channel (with_rollback_asks channel s.first_sent s.last_sent p k) s.first_sent (λ v. s.last_sent p v) p k is_first par lbl j.pop (λ f u v. weigh_rollback_asks f channel s.first_sent s.last_sent p k u v) none (is_ask i) u v n a)
  ];
}
  where
    kept_at : (i u v : ℕ) → 0 < i → at_one p k s.so_far.open_in u ≡ i → s.so_far.is_rollback i ≡ false → 0 < s.last_received_aside u v → s.own_permanent u ≤ s.so_far.received_at (s.last_received_aside u v)
    kept_at i u v a b c d = go (u == p) b
      where
        go : (x : Bool) → (if x then k else s.so_far.open_in u) ≡ i → s.own_permanent u ≤ s.so_far.received_at (s.last_received_aside u v)
        go true b = let z : s.so_far.is_rollback k ≡ false = rw (← b) at c in absurd (let y = j.kind in cc (y, z))
        go false b = t.kept_since i u v a b c d

pub tables_since_deciding : (s : State) (p k : ℕ) (c roll : Bool) → ((i u v : ℕ) → 0 < weigh (is_ask i) (s.channel u v) → s.so_far.joined k u ≡ false) → TablesSince s → TablesSince (after_deciding_as c roll s p k)
tables_since_deciding s p k c roll far t = go c roll
  where
    last_at : (u v : ℕ) → 0 < (if s.so_far.joined k u then 0 else s.last_received u v) → s.saved_at u ≤ s.so_far.received_at (if s.so_far.joined k u then 0 else s.last_received u v)
    last_at u v = go (s.so_far.joined k u)
      where
        go : (b : Bool) → 0 < (if b then 0 else s.last_received u v) → s.saved_at u ≤ s.so_far.received_at (if b then 0 else s.last_received u v)
        go true a = absurd (omega (arith, a))
        go false a = t.last_since u v a

    go : (c roll : Bool) → TablesSince (after_deciding_as c roll s p k)
    go false roll = record { last_since = t.last_since; kept_since = t.kept_since; ask_kept = t.ask_kept; ask_first = t.ask_first }
    go true false = record { last_since = t.last_since; kept_since = t.kept_since; ask_kept = t.ask_kept; ask_first = t.ask_first }
    go true true = record { last_since = last_at; kept_since = t.kept_since; ask_kept = t.ask_kept; ask_first = λ i u v r a. rw (far i u v a) (t.ask_first i u v r a) }

pub tables_since_closing : (s : State) (p k : ℕ) (c : Bool) → 0 < k → s.so_far.open_in p ≡ k → s.own_permanent p ≤ s.saved_at p → ((i v : ℕ) → weigh (is_ask i) (s.channel p v) ≡ 0) → TablesSince s → TablesSince (after_closing s p k c)
tables_since_closing s p k c pos o low none t = at_if (s.so_far.is_rollback k) refl
  where
    told : (f : Parcel → ℕ) (c : Bool) → ((b : Bool) → f (Decide k b) ≡ 0) → (u v : ℕ) → weigh f (with_decisions s.channel s.asked p k c u v) ≡ weigh f (s.channel u v)
    told f c z u v = grind (arith, nat_tests, weigh_decisions f s.channel s.asked p k c u v, z c)

    kept_at : (f : ℕ → ℕ) (x : ℕ) → ((u : ℕ) → u ≢ p → f u ≡ s.own_permanent u) → (i u v : ℕ) → 0 < i → at_one p 0 s.so_far.open_in u ≡ i → s.so_far.is_rollback i ≡ false → 0 < s.last_received_aside u v → f u ≤ s.so_far.received_at (s.last_received_aside u v)
    kept_at f x same i u v a b c d = elim (cases_eq u p) [
      | inl e ↦ (let y : 0 ≡ i = sym (at_one_here p 0 s.so_far.open_in) ∙ (rw e at b) in absurd (omega (arith, y, a)))
      | inr n ↦ rw (same u n) (t.kept_since i u v a (sym (at_one_other p u 0 s.so_far.open_in n) ∙ b) c d)
    ]

    ask_kept_at : (c : Bool) (i l u v : ℕ) → s.so_far.is_rollback i ≡ false → 0 < weigh (is_ask_with i l) (with_decisions s.channel s.asked p k c u v) → l ≡ s.last_received_aside u v
    ask_kept_at c i l u v r a = t.ask_kept i l u v r (rw (told (is_ask_with i l) c (λ b. refl) u v) at a)

    ask_first_at : (c : Bool) (i u v : ℕ) → s.so_far.is_rollback i ≡ true → 0 < weigh (is_ask i) (with_decisions s.channel s.asked p k c u v) → 0 < s.first_sent u v
    ask_first_at c i u v r a = t.ask_first i u v r (rw (told (is_ask i) c (λ b. refl) u v) at a)

    ask_first_back : (i u v : ℕ) → s.so_far.is_rollback i ≡ true → 0 < weigh (is_ask i) (with_decisions s.channel s.asked p k false u v) → 0 < (if u == p then s.first_sent_aside p v else s.first_sent u v)
    ask_first_back i u v r a = let b = rw (told (is_ask i) false (λ b. refl) u v) at a in elim (cases_eq u p) [
      | inl e ↦ (let x : weigh (is_ask i) (s.channel u v) ≡ 0 = rw e (none i v) in absurd (omega (arith, b, x)))
      | inr n ↦ rw (is_other u p n) (t.ask_first i u v r b)
    ]

    last_back : s.so_far.is_rollback k ≡ false → (u v : ℕ) → 0 < (if u == p then (if nat_lt (s.last_received_aside p v) (s.last_received p v) then s.last_received p v else s.last_received_aside p v) else s.last_received u v) → at_one p (s.own_permanent p) s.saved_at u ≤ s.so_far.received_at (if u == p then (if nat_lt (s.last_received_aside p v) (s.last_received p v) then s.last_received p v else s.last_received_aside p v) else s.last_received u v)
    last_back r u v = go (u == p)
      where
        pick : (b : Bool) → 0 < (if b then s.last_received p v else s.last_received_aside p v) → s.own_permanent p ≤ s.so_far.received_at (if b then s.last_received p v else s.last_received_aside p v)
        pick true a = let y = t.last_since p v a in omega (arith, y, low)
        pick false a = t.kept_since k p v pos o r a

        go : (b : Bool) → 0 < (if b then (if nat_lt (s.last_received_aside p v) (s.last_received p v) then s.last_received p v else s.last_received_aside p v) else s.last_received u v) → (if b then s.own_permanent p else s.saved_at u) ≤ s.so_far.received_at (if b then (if nat_lt (s.last_received_aside p v) (s.last_received p v) then s.last_received p v else s.last_received_aside p v) else s.last_received u v)
        go true a = pick (nat_lt (s.last_received_aside p v) (s.last_received p v)) a
        go false a = t.last_since u v a

    at_if : (roll : Bool) → s.so_far.is_rollback k ≡ roll → TablesSince (if roll then after_closing_rollback s p k c else after_closing_checkpoint s p k c)
    at_if true r = record { last_since = t.last_since; kept_since = kept_at s.own_permanent 0 (λ u n. refl); ask_kept = ask_kept_at c; ask_first = ask_first_at c }
    at_if false r = go c
      where
        go : (c : Bool) → TablesSince (after_closing_checkpoint s p k c)
        go true = record { last_since = t.last_since; kept_since = kept_at (at_one p (s.saved_at p) s.own_permanent) 0 (λ u n. at_one_other p u (s.saved_at p) s.own_permanent n); ask_kept = ask_kept_at true; ask_first = ask_first_at true }
        go false = record { last_since = last_back r; kept_since = kept_at s.own_permanent 0 (λ u n. refl); ask_kept = ask_kept_at false; ask_first = ask_first_back }
