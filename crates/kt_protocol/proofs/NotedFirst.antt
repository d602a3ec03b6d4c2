-- From who noted it until it closes, no message comes before the decision: kept by each transition.
use Rattle.std.specs.Prelude.{ℤ}
use Rattle.kt_base.specs.declared.words.Verb.{Verb}
use Rattle.std.proofs.Common.{◌≡◌, ◌≢◌, ℕ, suc, ◌+◌, ◌<◌, Bool, true, false, List, [], ◌∷◌, ◌++◌, refl, arith, sym, ap, subst, inl, inr, ◌⊎◌, ◌∙◌}
use Rattle.std.specs.Prelude.{◌==◌, ◌&&◌, nat_lt, if◌then◌else◌}
use Rattle.std.proofs.lemmas.Bool.{cases_eq}
use Rattle.std.proofs.lemmas.Bool.Decides.{nat_tests}
use Rattle.kt_base.specs.declared.words.Cause.{Cause}
use Rattle.kt_meaning.specs.Past.{at_one, at_pair}
use Rattle.kt_protocol.proofs.Invariant.{one}
use Rattle.kt_protocol.proofs.JoiningCheckpoints.{same_weight as same_weight_joins}
use Rattle.kt_protocol.proofs.Joining.{Joining}
use Rattle.kt_protocol.proofs.Updates.{at_one_here, at_one_other, is_other, is_same}
use Rattle.kt_protocol.proofs.Receiving.{Taking}
use Rattle.kt_protocol.proofs.Waiting.{is_told}
use Rattle.kt_protocol.proofs.JoiningRollbacks.{same_weight_rollback as same_weight_rolls}
use Rattle.kt_protocol.proofs.Weights.{any_app, weigh, weigh_cons, weigh_nil, weigh_with_rest, weigh_decisions, weigh_same_parcel}
use Rattle.kt_protocol.specs.Parcels.{App, Ask, Decide, Parcel, Reply, Lists, with_checkpoint_asks, with_rest, with_parcel, with_rollback_asks, with_decisions}
use Rattle.kt_protocol.specs.States.{State, opening}
use Rattle.kt_protocol.specs.Replies.{after_answering, after_noting, after_unwilling, after_replying, after_reply}
use Rattle.kt_protocol.specs.Messages.{after_refusal, after_failing, after_holding, after_dropping, after_receiving, after_sending}
use Rattle.kt_protocol.specs.Deciding.{after_closing, after_deciding_as, after_decision, after_closing_rollback, after_closing_checkpoint}
use Rattle.kt_protocol.specs.Joining.{after_began, after_joining_rollback, after_joining_checkpoint}
use Rattle.kt_protocol.proofs.Choices.{at_if, three, two}

-- the messages before the first decision of k
unfoldable pub before : ℕ → List Parcel → ℕ
before k [] = 0
before k (App m ∷ xs) = suc (before k xs)
before k (Ask j l ∷ xs) = before k xs
before k (Reply j w ∷ xs) = before k xs
before k (Decide j c ∷ xs) = if j == k then 0 else before k xs

before_none : (k : ℕ) (l : List Parcel) → weigh any_app l ≡ 0 → before k l ≡ 0
unfolding before
before_none k [] h = refl
before_none k (App m ∷ xs) h = absurd (let w = weigh_cons any_app (App m) xs in omega (arith, w, h))
before_none k (Ask j l ∷ xs) h = before_none k xs (let w = weigh_cons any_app (Ask j l) xs in omega (arith, w, h))
before_none k (Reply j l ∷ xs) h = before_none k xs (let w = weigh_cons any_app (Reply j l) xs in omega (arith, w, h))
before_none k (Decide j l ∷ xs) h = pick (j == k) (before_none k xs (let w = weigh_cons any_app (Decide j l) xs in omega (arith, w, h)))
  where
    pick : (b : Bool) → before k xs ≡ 0 → (if b then 0 else before k xs) ≡ 0
    pick true e = refl
    pick false e = e

no_more : (k : ℕ) (x : Parcel) → any_app x ≡ 0 → before k (x ∷ []) ≡ 0
no_more k x e = before_none k (x ∷ []) (let w = weigh_cons any_app x [] in let z = weigh_nil any_app in omega (arith, w, z, e))

before_push_no : (k : ℕ) (l : List Parcel) (x : Parcel) → any_app x ≡ 0 → before k l ≡ 0 → before k (l ++ x ∷ []) ≡ 0
unfolding before
before_push_no k [] x e h = no_more k x e
before_push_no k (App m ∷ xs) x e h = absurd (omega (arith, h))
before_push_no k (Ask j l ∷ xs) x e h = before_push_no k xs x e h
before_push_no k (Reply j l ∷ xs) x e h = before_push_no k xs x e h
before_push_no k (Decide j l ∷ xs) x e h = pick (j == k) (before_push_no k xs x e) h
  where
    pick : (b : Bool) → (before k xs ≡ 0 → before k (xs ++ x ∷ []) ≡ 0) → (if b then 0 else before k xs) ≡ 0 → (if b then 0 else before k (xs ++ x ∷ [])) ≡ 0
    pick true f e = refl
    pick false f e = f e

-- behind a decision a message does not count
before_push_told : (k : ℕ) (l : List Parcel) (x : Parcel) → 0 < weigh (is_told k) l → before k l ≡ 0 → before k (l ++ x ∷ []) ≡ 0
unfolding before
before_push_told k [] x t h = absurd (let z = weigh_nil (is_told k) in omega (arith, z, t))
before_push_told k (App m ∷ xs) x t h = absurd (omega (arith, h))
before_push_told k (Ask j l ∷ xs) x t h = before_push_told k xs x (let w = weigh_cons (is_told k) (Ask j l) xs in omega (arith, w, t)) h
before_push_told k (Reply j l ∷ xs) x t h = before_push_told k xs x (let w = weigh_cons (is_told k) (Reply j l) xs in omega (arith, w, t)) h
before_push_told k (Decide j l ∷ xs) x t h = pick (j == k) (let w = weigh_cons (is_told k) (Decide j l) xs in sym w) (before_push_told k xs x) h
  where
    pick : (b : Bool) → one b + weigh (is_told k) xs ≡ weigh (is_told k) (Decide j l ∷ xs) → (0 < weigh (is_told k) xs → before k xs ≡ 0 → before k (xs ++ x ∷ []) ≡ 0) → (if b then 0 else before k xs) ≡ 0 → (if b then 0 else before k (xs ++ x ∷ [])) ≡ 0
    pick true w f e = refl
    pick false w f e = f (omega (arith, w, t)) e

before_rest : (k : ℕ) (x : Parcel) (rest : List Parcel) → is_told k x ≡ 0 → before k (x ∷ rest) ≡ 0 → before k rest ≡ 0
unfolding before
before_rest k (App m) rest e h = absurd (omega (arith, h))
before_rest k (Ask j l) rest e h = h
before_rest k (Reply j l) rest e h = h
before_rest k (Decide j l) rest e h = pick (j == k) e h
  where
    pick : (b : Bool) → one b ≡ 0 → (if b then 0 else before k rest) ≡ 0 → before k rest ≡ 0
    pick true e h = absurd (omega (arith, e))
    pick false e h = h

before_with_parcel : (k : ℕ) (channel : Lists) (p q : ℕ) (x : Parcel) → any_app x ≡ 0 → (u v : ℕ) → before k (channel u v) ≡ 0 → before k (with_parcel channel p q x u v) ≡ 0
unfolding with_parcel
before_with_parcel k channel p q x e u v h = at_if (λ l. before k l ≡ 0) (u == p && v == q) _ _ (λ _. before_push_no k (channel u v) x e h) (λ _. h)

before_sending : (k : ℕ) (channel : Lists) (p q m u v : ℕ) → (u ≡ p → v ≡ q → 0 < weigh (is_told k) (channel u v)) → before k (channel u v) ≡ 0 → before k (with_parcel channel p q (App m) u v) ≡ 0
unfolding with_parcel
before_sending k channel p q m u v f h = at_if (λ l. before k l ≡ 0) (u == p && v == q) _ _ (λ e. let z = two u p v q e in before_push_told k (channel u v) (App m) (f z.0 z.1) h) (λ _. h)

pub before_with_rest : (k : ℕ) (channel : Lists) (q p : ℕ) (x : Parcel) (rest : List Parcel) → channel q p ≡ x ∷ rest → (u v : ℕ) → (u ≡ q → v ≡ p → is_told k x ≡ 0) → before k (channel u v) ≡ 0 → before k (with_rest channel q p rest u v) ≡ 0
unfolding with_rest
before_with_rest k channel q p x rest e u v f h = at_if (λ l. before k l ≡ 0) (u == q && v == p) _ _ (λ i. let z = two u q v p i in before_rest k x rest (f z.0 z.1) (subst (λ (l : List Parcel). before k l ≡ 0) e (rw (← z.0, ← z.1) h))) (λ _. h)

before_checkpoint_asks : (i : ℕ) (channel : Lists) (last : ℕ → ℕ → ℕ) (p k u v : ℕ) → before i (channel u v) ≡ 0 → before i (with_checkpoint_asks channel last p k u v) ≡ 0
unfolding with_checkpoint_asks
before_checkpoint_asks i channel last p k u v h = at_if (λ l. before i l ≡ 0) (u == p && nat_lt 0 (last p v)) _ _ (λ _. before_push_no i (channel u v) (Ask k (last p v)) refl h) (λ _. h)

before_rollback_asks : (i : ℕ) (channel : Lists) (first last_sent : ℕ → ℕ → ℕ) (p k u v : ℕ) → before i (channel u v) ≡ 0 → before i (with_rollback_asks channel first last_sent p k u v) ≡ 0
unfolding with_rollback_asks
before_rollback_asks i channel first last_sent p k u v h = at_if (λ l. before i l ≡ 0) (u == p && nat_lt 0 (first p v)) _ _ (λ _. before_push_no i (channel u v) (Ask k (last_sent p v)) refl h) (λ _. h)

before_decisions : (i : ℕ) (channel : Lists) (asked : ℕ → ℕ → ℕ → Bool) (p k : ℕ) (c : Bool) (u v : ℕ) → before i (channel u v) ≡ 0 → before i (with_decisions channel asked p k c u v) ≡ 0
unfolding with_decisions
before_decisions i channel asked p k c u v h = at_if (λ l. before i l ≡ 0) (u == p && asked k p v) _ _ (λ _. before_push_no i (channel u v) (Decide k c) refl h) (λ _. h)

-- nothing: the whole; p: but for p
abbrev pub none_out : ℕ → Bool
none_out u = false

-- who has noted a sender takes no message of it before its decision
pub record NotedFirst (s : State) (out : ℕ → Bool) : Type 0 where
  pub left_is : (k y : ℕ) → s.so_far.joined k y ≡ true → s.so_far.open_in y ≢ k → s.has_closed k y ≡ true
  pub told_all : (k y p : ℕ) → 0 < k → s.has_closed k y ≡ true → s.asked k y p ≡ true → s.so_far.open_in p ≡ k → out p ≡ false → 0 < weigh (is_told k) (s.channel y p)
  pub noted_asked : (k p y : ℕ) → s.noted k p y ≡ true → (s.asked k y p ≡ true) × (s.so_far.joined k p ≡ true)
  pub before_is : (k p y : ℕ) → 0 < k → s.noted k p y ≡ true → s.so_far.open_in p ≡ k → out p ≡ false → before k (s.channel y p) ≡ 0

pub noted_first_opening : (n : ℕ) → NotedFirst (opening n) none_out
noted_first_opening n = record {
  left_is = λ k y a b. absurd (cc (a));
  told_all = λ k y p a b c d e. absurd (cc (b));
  noted_asked = λ k p y a. absurd (cc (a));
  before_is = λ k p y a b c d. absurd (cc (b));
}

pop_told : (k : ℕ) (channel : Lists) (q p : ℕ) (x : Parcel) (rest : List Parcel) → channel q p ≡ x ∷ rest → (u v : ℕ) → (u ≡ q → v ≡ p → is_told k x ≡ 0) → weigh (is_told k) (with_rest channel q p rest u v) ≡ weigh (is_told k) (channel u v)
pop_told k channel q p x rest e u v f = let w = weigh_with_rest (is_told k) channel q p x rest e u v in zero (u == q && v == p) refl w
  where
    zero : (b : Bool) → (u == q && v == p) ≡ b → weigh (is_told k) (with_rest channel q p rest u v) + (if b then is_told k x else 0) ≡ weigh (is_told k) (channel u v) → weigh (is_told k) (with_rest channel q p rest u v) ≡ weigh (is_told k) (channel u v)
    zero true i w = let z = two u q v p i in let y = f z.0 z.1 in omega (arith, w, y)
    zero false i w = omega (arith, w)

pub weaken : (s : State) (out : ℕ → Bool) → NotedFirst s none_out → NotedFirst s out
weaken s out t = record { left_is = t.left_is; told_all = λ k y p a b c d e. t.told_all k y p a b c d refl; noted_asked = t.noted_asked; before_is = λ k p y a b c d. t.before_is k p y a b c refl }

pub noted_first_sending : (s : State) (p q : ℕ) (body : ℤ) → s.so_far.open_in p ≡ 0 → ((k u v : ℕ) → s.asked k u v ≡ true → s.so_far.joined k u ≡ true) → NotedFirst s none_out → NotedFirst (after_sending s p q body) none_out
noted_first_sending s p q body o asked_in t = record {
  left_is = t.left_is;
  told_all = λ i y u a b c d x. rw (weigh_same_parcel (is_told i) s.channel p q (App (s.so_far.rows + 1)) refl y u) (t.told_all i y u a b c d x);
  noted_asked = t.noted_asked;
  before_is = λ i u y a b c d. before_sending i s.channel p q (s.so_far.rows + 1) y u (λ x z. let k = t.noted_asked i u y b in t.told_all i y u a (t.left_is i y (asked_in i y u k.0) (λ w. (let v : s.so_far.open_in p ≡ i = rw x at w in omega (arith, v, o, a)))) k.0 c refl) (t.before_is i u y a b c d);
}

pub noted_first_receiving : (s : State) (channel held : Lists) (p q m : ℕ) → Taking s channel held p q m → ((k u v : ℕ) → before k (s.channel u v) ≡ 0 → before k (channel u v) ≡ 0) → NotedFirst s none_out → NotedFirst (after_receiving s channel held p q m) none_out
noted_first_receiving s channel held p q m f less t = record {
  left_is = t.left_is;
  told_all = λ i y u a b c d x. rw (f.others (is_told i) (λ n. refl) y u) (t.told_all i y u a b c d x);
  noted_asked = t.noted_asked;
  before_is = λ i u y a b c d. less i y u (t.before_is i u y a b c d);
}

pub noted_first_dropping : (s : State) (channel held : Lists) (p q m : ℕ) → Taking s channel held p q m → ((k u v : ℕ) → before k (s.channel u v) ≡ 0 → before k (channel u v) ≡ 0) → NotedFirst s none_out → NotedFirst (after_dropping s channel held p q m) none_out
noted_first_dropping s channel held p q m f less t = record {
  left_is = t.left_is;
  told_all = λ i y u a b c d x. rw (f.others (is_told i) (λ n. refl) y u) (t.told_all i y u a b c d x);
  noted_asked = t.noted_asked;
  before_is = λ i u y a b c d. less i y u (t.before_is i u y a b c d);
}

pub noted_first_holding : (s : State) (p q m : ℕ) (rest : List Parcel) → s.channel q p ≡ App m ∷ rest → NotedFirst s none_out → NotedFirst (after_holding s p q m rest) none_out
noted_first_holding s p q m rest e t = record {
  left_is = t.left_is;
  told_all = λ i y u a b c d x. rw (pop_told i s.channel q p (App m) rest e y u (λ _ _. refl)) (t.told_all i y u a b c d x);
  noted_asked = t.noted_asked;
  before_is = λ i u y a b c d. before_with_rest i s.channel q p (App m) rest e y u (λ _ _. refl) (t.before_is i u y a b c d);
}

pub noted_first_failing : (s : State) (p : ℕ) → NotedFirst s none_out → NotedFirst (after_failing s p) none_out
noted_first_failing s p t = record {
  left_is = t.left_is;
  told_all = t.told_all;
  noted_asked = t.noted_asked;
  before_is = t.before_is;
}

pub noted_first_refusal : (s : State) (p : ℕ) (v : Verb) (c : Cause) → NotedFirst s none_out → NotedFirst (after_refusal s p v c) none_out
noted_first_refusal s p v c t = record {
  left_is = t.left_is;
  told_all = t.told_all;
  noted_asked = t.noted_asked;
  before_is = t.before_is;
}

pub noted_first_began : (s : State) (p : ℕ) (roll : Bool) → NotedFirst s none_out → NotedFirst (after_began s p roll) none_out
noted_first_began s p roll t = record {
  left_is = t.left_is;
  told_all = t.told_all;
  noted_asked = t.noted_asked;
  before_is = t.before_is;
}

pub noted_first_replying : (s : State) (p q k : ℕ) (l : ℕ) (w : Bool) (rest : List Parcel) → s.channel q p ≡ Ask k l ∷ rest → NotedFirst s none_out → NotedFirst (after_replying s p q k w rest) none_out
noted_first_replying s p q k l w rest e t = record {
  left_is = t.left_is;
  told_all = λ i y u a b c d x. rw (weigh_same_parcel (is_told i) (with_rest s.channel q p rest) p q (Reply k w) refl y u, pop_told i s.channel q p (Ask k l) rest e y u (λ _ _. refl)) (t.told_all i y u a b c d x);
  noted_asked = t.noted_asked;
  before_is = λ i u y a b c d. before_with_parcel i (with_rest s.channel q p rest) p q (Reply k w) refl y u (before_with_rest i s.channel q p (Ask k l) rest e y u (λ _ _. refl) (t.before_is i u y a b c d));
}

pub noted_first_unwilling : (s : State) (p q k : ℕ) (l : ℕ) (cause : Cause) (rest : List Parcel) → s.channel q p ≡ Ask k l ∷ rest → NotedFirst s none_out → NotedFirst (after_unwilling s p q k cause rest) none_out
noted_first_unwilling s p q k l cause rest e t = record {
  left_is = t.left_is;
  told_all = λ i y u a b c d x. rw (weigh_same_parcel (is_told i) (with_rest s.channel q p rest) p q (Reply k false) refl y u, pop_told i s.channel q p (Ask k l) rest e y u (λ _ _. refl)) (t.told_all i y u a b c d x);
  noted_asked = t.noted_asked;
  before_is = λ i u y a b c d. before_with_parcel i (with_rest s.channel q p rest) p q (Reply k false) refl y u (before_with_rest i s.channel q p (Ask k l) rest e y u (λ _ _. refl) (t.before_is i u y a b c d));
}

pub noted_first_reply : (s : State) (p q k : ℕ) (w : Bool) (rest : List Parcel) → s.channel q p ≡ Reply k w ∷ rest → NotedFirst s none_out → NotedFirst (after_reply s p q k w rest) none_out
noted_first_reply s p q k w rest e t = record {
  left_is = t.left_is;
  told_all = λ i y u a b c d x. rw (pop_told i s.channel q p (Reply k w) rest e y u (λ _ _. refl)) (t.told_all i y u a b c d x);
  noted_asked = t.noted_asked;
  before_is = λ i u y a b c d. before_with_rest i s.channel q p (Reply k w) rest e y u (λ _ _. refl) (t.before_is i u y a b c d);
}

pub noted_first_answering : (s : State) (p k : ℕ) → NotedFirst s none_out → NotedFirst (after_answering s p k) none_out
noted_first_answering s p k t = record {
  left_is = t.left_is;
  told_all = λ i y u a b c d x. rw (weigh_same_parcel (is_told i) s.channel p (s.parent k p) (Reply k (s.all_willing k p)) refl y u) (t.told_all i y u a b c d x);
  noted_asked = t.noted_asked;
  before_is = λ i u y a b c d. before_with_parcel i s.channel p (s.parent k p) (Reply k (s.all_willing k p)) refl y u (t.before_is i u y a b c d);
}

-- p notes an asker, whose ask has no message behind it
pub noted_first_noting : (s : State) (p q k l : ℕ) → s.so_far.joined k p ≡ true → s.asked k q p ≡ true → before k (s.channel q p) ≡ 0 → NotedFirst s none_out → NotedFirst (after_noting s p q k l) none_out
noted_first_noting s p q k l j x z t = record {
  left_is = t.left_is;
  told_all = t.told_all;
  noted_asked = λ i u y a. asked_now i u y (i == k && u == p && y == q) refl a;
  before_is = λ i u y a b c d. before_now i u y (i == k && u == p && y == q) refl a b c d;
}
  where
    asked_now : (i u y : ℕ) (b : Bool) → (i == k && u == p && y == q) ≡ b → (if b then true else s.noted i u y) ≡ true → (s.asked i y u ≡ true) × (s.so_far.joined i u ≡ true)
    asked_now i u y true e a = let w = three i k u p y q e in rw (w.0, w.1, w.2) (x, j)
    asked_now i u y false e a = t.noted_asked i u y a

    before_now : (i u y : ℕ) (b : Bool) → (i == k && u == p && y == q) ≡ b → 0 < i → (if b then true else s.noted i u y) ≡ true → s.so_far.open_in u ≡ i → none_out u ≡ false → before i (s.channel y u) ≡ 0
    before_now i u y true e a b c d = let w = three i k u p y q e in rw (w.0, w.1, w.2) z
    before_now i u y false e a b c d = t.before_is i u y a b c d

pub noted_first_deciding : (s : State) (p k : ℕ) (c roll : Bool) → NotedFirst s none_out → NotedFirst (after_deciding_as c roll s p k) none_out
noted_first_deciding s p k false roll t = record { left_is = t.left_is; told_all = t.told_all; noted_asked = t.noted_asked; before_is = t.before_is }
noted_first_deciding s p k true false t = record { left_is = t.left_is; told_all = t.told_all; noted_asked = t.noted_asked; before_is = t.before_is }
noted_first_deciding s p k true true t = record { left_is = t.left_is; told_all = t.told_all; noted_asked = t.noted_asked; before_is = t.before_is }

other_of : (k p : ℕ) (c : Bool) (i u : ℕ) → (u ≡ p → i ≢ k) → u ≡ p → is_told i (Decide k c) ≡ 0
other_of k p c i u f e = let n = is_other k i (λ x. f e (sym x)) in rw n refl

-- p takes a decision out
pub noted_first_decision : (s : State) (p q k : ℕ) (c : Bool) (rest : List Parcel) → s.channel q p ≡ Decide k c ∷ rest → (out : ℕ → Bool) → ((u : ℕ) → out u ≡ false → u ≡ p → s.so_far.open_in p ≢ k) → NotedFirst s none_out → NotedFirst (after_decision s p q rest) out
noted_first_decision s p q k c rest e out n t = record {
  left_is = t.left_is;
  told_all = λ i y u a b x d z. rw (pop_told i s.channel q p (Decide k c) rest e y u (λ _ w. other_of k p c i u (λ v m. n u z v (sym (ap s.so_far.open_in v) ∙ d ∙ m)) w)) (t.told_all i y u a b x d refl);
  noted_asked = t.noted_asked;
  before_is = λ i u y a b x z. before_with_rest i s.channel q p (Decide k c) rest e y u (λ _ w. other_of k p c i u (λ v m. n u z v (sym (ap s.so_far.open_in v) ∙ x ∙ m)) w) (t.before_is i u y a b x refl);
}

pub noted_first_closing : (s : State) (p k : ℕ) (c : Bool) → s.so_far.open_in p ≡ k → NotedFirst s (λ u. u == p) → NotedFirst (after_closing s p k c) none_out
noted_first_closing s p k c o t = go c (s.so_far.is_rollback k)
  where
    left : (i y : ℕ) → s.so_far.joined i y ≡ true → at_one p 0 s.so_far.open_in y ≢ i → at_pair k p true s.has_closed i y ≡ true
    left i y a b = at_test (i == k && y == p) refl
      where
        at_test : (x : Bool) → (i == k && y == p) ≡ x → (if x then true else s.has_closed i y) ≡ true
        at_test true e = refl
        at_test false e = t.left_is i y a (λ z. elim (cases_eq y p) [
          | inl v ↦ (let w : k ≡ i = sym o ∙ (rw v at z) in two_not i k y p e (sym w) v)
          | inr v ↦ b (at_one_other p y 0 s.so_far.open_in v ∙ z)
        ])
          where
            two_not : (a b c d : ℕ) → (a == b && c == d) ≡ false → a ≡ b → c ≡ d → ⊥
            two_not a b c d e x y = grind (arith, nat_tests, e, x, y)

    not_p : (i u : ℕ) → 0 < i → at_one p 0 s.so_far.open_in u ≡ i → u ≢ p
    not_p i u a b e = let y : 0 ≡ i = sym (at_one_here p 0 s.so_far.open_in) ∙ (rw e at b) in omega (arith, a, y)

    told : (c : Bool) (i y u : ℕ) → 0 < i → at_pair k p true s.has_closed i y ≡ true → s.asked i y u ≡ true → at_one p 0 s.so_far.open_in u ≡ i → none_out u ≡ false → 0 < weigh (is_told i) (with_decisions s.channel s.asked p k c y u)
    told c i y u a b x d z = let n = not_p i u a d in let w = weigh_decisions (is_told i) s.channel s.asked p k c y u in at_test w (i == k && y == p) refl b
      where
        at_test : weigh (is_told i) (with_decisions s.channel s.asked p k c y u) ≡ weigh (is_told i) (s.channel y u) + (if y == p && s.asked k p u then one (k == i) else 0) → (h : Bool) → (i == k && y == p) ≡ h → (if h then true else s.has_closed i y) ≡ true → 0 < weigh (is_told i) (with_decisions s.channel s.asked p k c y u)
        at_test w true e b = let v = two i k y p e in let f : s.asked k p u ≡ true = rw (v.0, v.1) at x in let one_more : (if y == p && s.asked k p u then one (k == i) else 0) ≡ 1 = rw (v.0, v.1, f, is_same p, is_same k) refl in omega (arith, w, one_more)
        at_test w false e b = let old = t.told_all i y u a b x (sym (at_one_other p u 0 s.so_far.open_in (not_p i u a d)) ∙ d) (is_other u p (not_p i u a d)) in omega (arith, w, old)

    prior : (c : Bool) (i u y : ℕ) → 0 < i → s.noted i u y ≡ true → at_one p 0 s.so_far.open_in u ≡ i → none_out u ≡ false → before i (with_decisions s.channel s.asked p k c y u) ≡ 0
    prior c i u y a b d z = let n = not_p i u a d in before_decisions i s.channel s.asked p k c y u (t.before_is i u y a b (sym (at_one_other p u 0 s.so_far.open_in n) ∙ d) (is_other u p n))

    go : (c roll : Bool) → NotedFirst (if roll then after_closing_rollback s p k c else after_closing_checkpoint s p k c) none_out
    go c true = record { left_is = left; told_all = told c; noted_asked = t.noted_asked; before_is = prior c }
    go true false = record { left_is = left; told_all = told true; noted_asked = t.noted_asked; before_is = prior true }
    go false false = record { left_is = left; told_all = told false; noted_asked = t.noted_asked; before_is = prior false }

-- p takes part in k; what it has noted is now n
module _ (s : State) (new : Lists) (x : ℕ → Bool) (n : ℕ → ℕ → ℕ → Bool) (p k : ℕ)
    (closed : s.so_far.open_in p ≡ 0) (positive : (i : ℕ) → s.so_far.joined i p ≡ true → 0 < i) (out : s.so_far.joined k p ≡ false)
    (asked_in : (i u v : ℕ) → s.asked i u v ≡ true → s.so_far.joined i u ≡ true) (shut_in : (i u : ℕ) → s.has_closed i u ≡ true → s.so_far.is_decided i ≡ true) (undecided : s.so_far.is_decided k ≡ false)
    (same : (i y u : ℕ) → weigh (is_told i) (new y u) ≡ weigh (is_told i) (s.channel y u)) (less : (i y u : ℕ) → before i (s.channel y u) ≡ 0 → before i (new y u) ≡ 0)
    (noted : (i u y : ℕ) → n i u y ≡ true → (s.noted i u y ≡ true) ⊎ ((i ≡ k) × (u ≡ p) × (y ≢ p) × (s.asked k y p ≡ true) × (before k (s.channel y p) ≡ 0))) (t : NotedFirst s none_out) where
  not_shut : (y : ℕ) → s.has_closed k y ≡ true → ⊥
  not_shut y a = let d = shut_in k y a in cc (d, undecided)

  left_now : (i y : ℕ) → at_pair k p true s.so_far.joined i y ≡ true → at_one p k s.so_far.open_in y ≢ i → s.has_closed i y ≡ true
  left_now i y a b = at_test (i == k && y == p) refl a
    where
      at_test : (h : Bool) → (i == k && y == p) ≡ h → (if h then true else s.so_far.joined i y) ≡ true → s.has_closed i y ≡ true
      at_test true e a = let v = two i k y p e in absurd (b (rw (v.0, v.1) (at_one_here p k s.so_far.open_in)))
      at_test false e a = t.left_is i y a (λ z. elim (cases_eq y p) [
        | inl v ↦ (let w : 0 ≡ i = sym closed ∙ (rw v at z) in let l = positive i (rw v at a) in omega (arith, l, w))
        | inr v ↦ b (at_one_other p y k s.so_far.open_in v ∙ z)
      ])

  was_asked : (i y u : ℕ) → (i ≡ k → y ≡ p → ⊥) → (if i == k && y == p then x u else s.asked i y u) ≡ true → s.asked i y u ≡ true
  was_asked i y u f = at_test (i == k && y == p) refl
    where
      at_test : (h : Bool) → (i == k && y == p) ≡ h → (if h then x u else s.asked i y u) ≡ true → s.asked i y u ≡ true
      at_test true e a = let v = two i k y p e in absurd (f v.0 v.1)
      at_test false e a = a

  now_asked : (i y u : ℕ) → (i ≡ k → y ≡ p → ⊥) → s.asked i y u ≡ true → (if i == k && y == p then x u else s.asked i y u) ≡ true
  now_asked i y u f = at_test (i == k && y == p) refl
    where
      at_test : (h : Bool) → (i == k && y == p) ≡ h → s.asked i y u ≡ true → (if h then x u else s.asked i y u) ≡ true
      at_test true e a = let v = two i k y p e in absurd (f v.0 v.1)
      at_test false e a = a

  told_now : (i y u : ℕ) → 0 < i → s.has_closed i y ≡ true → (if i == k && y == p then x u else s.asked i y u) ≡ true → at_one p k s.so_far.open_in u ≡ i → none_out u ≡ false → 0 < weigh (is_told i) (new y u)
  told_now i y u a b c d e =
      let f : i ≢ k = λ v. not_shut y (rw v at b) in
      let g : u ≢ p = λ v. f (sym (sym (at_one_here p k s.so_far.open_in) ∙ (rw v at d))) in
      rw (same i y u) (t.told_all i y u a b (was_asked i y u (λ v _. f v) c) (sym (at_one_other p u k s.so_far.open_in g) ∙ d) refl)

  asked_at : (i u y : ℕ) → n i u y ≡ true → ((if i == k && y == p then x u else s.asked i y u) ≡ true) × (at_pair k p true s.so_far.joined i u ≡ true)
  asked_at i u y a = elim (noted i u y a) [
    | inl b ↦ (let c = t.noted_asked i u y b in (now_asked i y u (λ v w. (let z : s.so_far.joined k p ≡ true = rw (v, w) at (asked_in i y u c.0) in cc (z, out))) c.0, grown (i == k && u == p) c.1))
    | inr b ↦ rw (b.0, b.1) (now_asked k y p (λ _ w. b.2 w) b.3, rw (is_same k, is_same p) refl)
  ]
    where
      grown : (h : Bool) → s.so_far.joined i u ≡ true → (if h then true else s.so_far.joined i u) ≡ true
      grown true e = refl
      grown false e = e

  before_now : (i u y : ℕ) → 0 < i → n i u y ≡ true → at_one p k s.so_far.open_in u ≡ i → none_out u ≡ false → before i (new y u) ≡ 0
  before_now i u y a b c d = elim (noted i u y b) [
    | inl e ↦ (
        let g : u ≢ p = λ v. (let w : i ≡ k = sym (sym (at_one_here p k s.so_far.open_in) ∙ (rw v at c)) in let z : s.so_far.joined k p ≡ true = rw (w, v) at (t.noted_asked i u y e).1 in cc (z, out)) in
        less i y u (t.before_is i u y a e (sym (at_one_other p u k s.so_far.open_in g) ∙ c) refl))
    | inr e ↦ less i y u (rw (e.0, e.1) e.4)
  ]

pub noted_first_joining_checkpoint : (s : State) (channel : Lists) (p k : ℕ) (is_first : Bool) (par lnk lbl : ℕ) → Joining s channel p k is_first par lnk lbl false → s.so_far.open_in p ≡ 0 → ((i : ℕ) → s.so_far.joined i p ≡ true → 0 < i) → s.so_far.joined k p ≡ false → ((i u v : ℕ) → s.asked i u v ≡ true → s.so_far.joined i u ≡ true) → ((i u : ℕ) → s.has_closed i u ≡ true → s.so_far.is_decided i ≡ true) → ((i y u : ℕ) → before i (s.channel y u) ≡ 0 → before i (channel y u) ≡ 0) → NotedFirst s none_out → NotedFirst (after_joining_checkpoint s channel p k is_first par lnk) none_out
noted_first_joining_checkpoint s channel p k is_first par lnk lbl j closed positive out asked_in shut_in less t = record {
  left_is = left_now s (with_checkpoint_asks channel s.last_received p k) (λ v. nat_lt 0 (s.last_received p v)) s.noted p k closed positive out asked_in shut_in j.undecided (λ i y u. same_weight_joins s channel p k is_first par lnk lbl false j (is_told i) (λ b. refl) y u) (λ i y u h. before_checkpoint_asks i channel s.last_received p k y u (less i y u h)) (λ i u y a. inl a) t;
  told_all = told_now s (with_checkpoint_asks channel s.last_received p k) (λ v. nat_lt 0 (s.last_received p v)) s.noted p k closed positive out asked_in shut_in j.undecided (λ i y u. same_weight_joins s channel p k is_first par lnk lbl false j (is_told i) (λ b. refl) y u) (λ i y u h. before_checkpoint_asks i channel s.last_received p k y u (less i y u h)) (λ i u y a. inl a) t;
  noted_asked = asked_at s (with_checkpoint_asks channel s.last_received p k) (λ v. nat_lt 0 (s.last_received p v)) s.noted p k closed positive out asked_in shut_in j.undecided (λ i y u. same_weight_joins s channel p k is_first par lnk lbl false j (is_told i) (λ b. refl) y u) (λ i y u h. before_checkpoint_asks i channel s.last_received p k y u (less i y u h)) (λ i u y a. inl a) t;
  before_is = before_now s (with_checkpoint_asks channel s.last_received p k) (λ v. nat_lt 0 (s.last_received p v)) s.noted p k closed positive out asked_in shut_in j.undecided (λ i y u. same_weight_joins s channel p k is_first par lnk lbl false j (is_told i) (λ b. refl) y u) (λ i y u h. before_checkpoint_asks i channel s.last_received p k y u (less i y u h)) (λ i u y a. inl a) t;
}

pub noted_first_joining_rollback : (s : State) (n : ℕ → ℕ → ℕ → Bool) (m : ℕ → ℕ → ℕ → ℕ) (channel : Lists) (p k : ℕ) (is_first : Bool) (par lnk lbl : ℕ) → Joining (record s { noted = n; noted_label = m }) channel p k is_first par lnk lbl true → s.so_far.open_in p ≡ 0 → ((i : ℕ) → s.so_far.joined i p ≡ true → 0 < i) → s.so_far.joined k p ≡ false → ((i u v : ℕ) → s.asked i u v ≡ true → s.so_far.joined i u ≡ true) → ((i u : ℕ) → s.has_closed i u ≡ true → s.so_far.is_decided i ≡ true) → ((i y u : ℕ) → before i (s.channel y u) ≡ 0 → before i (channel y u) ≡ 0) → ((i u y : ℕ) → n i u y ≡ true → (s.noted i u y ≡ true) ⊎ ((i ≡ k) × (u ≡ p) × (y ≢ p) × (s.asked k y p ≡ true) × (before k (s.channel y p) ≡ 0))) → NotedFirst s none_out → NotedFirst (after_joining_rollback (record s { noted = n; noted_label = m }) channel p k is_first par lnk) none_out
noted_first_joining_rollback s n m channel p k is_first par lnk lbl j closed positive out asked_in shut_in less noted t = record {
  left_is = left_now s (with_rollback_asks channel s.first_sent s.last_sent p k) (λ v. nat_lt 0 (s.first_sent p v)) n p k closed positive out asked_in shut_in j.undecided (λ i y u. same_weight_rolls (record s { noted = n; noted_label = m }) channel p k is_first par lnk lbl true j (is_told i) (λ b. refl) y u) (λ i y u h. before_rollback_asks i channel s.first_sent s.last_sent p k y u (less i y u h)) noted t;
  told_all = told_now s (with_rollback_asks channel s.first_sent s.last_sent p k) (λ v. nat_lt 0 (s.first_sent p v)) n p k closed positive out asked_in shut_in j.undecided (λ i y u. same_weight_rolls (record s { noted = n; noted_label = m }) channel p k is_first par lnk lbl true j (is_told i) (λ b. refl) y u) (λ i y u h. before_rollback_asks i channel s.first_sent s.last_sent p k y u (less i y u h)) noted t;
  noted_asked = asked_at s (with_rollback_asks channel s.first_sent s.last_sent p k) (λ v. nat_lt 0 (s.first_sent p v)) n p k closed positive out asked_in shut_in j.undecided (λ i y u. same_weight_rolls (record s { noted = n; noted_label = m }) channel p k is_first par lnk lbl true j (is_told i) (λ b. refl) y u) (λ i y u h. before_rollback_asks i channel s.first_sent s.last_sent p k y u (less i y u h)) noted t;
  before_is = before_now s (with_rollback_asks channel s.first_sent s.last_sent p k) (λ v. nat_lt 0 (s.first_sent p v)) n p k closed positive out asked_in shut_in j.undecided (λ i y u. same_weight_rolls (record s { noted = n; noted_label = m }) channel p k is_first par lnk lbl true j (is_told i) (λ b. refl) y u) (λ i y u h. before_rollback_asks i channel s.first_sent s.last_sent p k y u (less i y u h)) noted t;
}

pub before_ask : (k l : ℕ) (rest : List Parcel) → weigh any_app rest ≡ 0 → before k (Ask k l ∷ rest) ≡ 0
before_ask k l rest h = before_none k (Ask k l ∷ rest) (let w = weigh_cons any_app (Ask k l) rest in omega (arith, w, h))

-- no message of a noted sender is in front
pub quiet : (s : State) (k p q m : ℕ) (rest : List Parcel) → NotedFirst s none_out → 0 < k → s.noted k p q ≡ true → s.so_far.open_in p ≡ k → s.channel q p ≡ App m ∷ rest → ⊥
unfolding before
quiet s k p q m rest t a b c e = let x : before k (App m ∷ rest) ≡ 0 = subst (λ (l : List Parcel). before k l ≡ 0) e (t.before_is k p q a b c refl) in omega (arith, x)
