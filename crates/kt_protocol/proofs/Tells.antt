-- Decisions in transit, and what is held: kept by each transition.
use Rattle.std.specs.Prelude.{ℤ}
use Rattle.kt_base.specs.declared.words.Verb.{Verb}
use Rattle.std.proofs.Common.{◌≡◌, ◌≢◌, ℕ, ◌+◌, ◌≤◌, ◌<◌, Bool, true, false, not, List, [], ◌∷◌, ◌++◌, refl, arith, sym, inl, inr, ◌∙◌}
use Rattle.std.specs.Prelude.{◌==◌, ◌&&◌, nat_lt, if◌then◌else◌}
use Rattle.std.proofs.lemmas.Bool.{cases_eq, cases_lt}
use Rattle.std.proofs.lemmas.Bool.Decides.{nat_tests}
use Rattle.kt_base.specs.declared.words.Cause.{Cause}
use Rattle.kt_meaning.specs.Past.{at_one}
use Rattle.kt_protocol.proofs.Invariant.{one}
use Rattle.kt_protocol.proofs.JoiningCheckpoints.{same_weight as same_weight_joins}
use Rattle.kt_protocol.proofs.Joining.{Joining}
use Rattle.kt_protocol.proofs.Ordered.{Front, any_other}
use Rattle.kt_protocol.proofs.Updates.{at_one_here, at_one_other, is_other}
use Rattle.kt_protocol.proofs.Receiving.{Taking}
use Rattle.kt_protocol.proofs.Waiting.{is_told}
use Rattle.kt_protocol.proofs.JoiningRollbacks.{same_weight_rollback as same_weight_rolls}
use Rattle.kt_protocol.proofs.Weights.{weigh, weigh_append, weigh_cons, weigh_nil, weigh_decisions, weigh_same_parcel, weigh_less_rest}
use Rattle.kt_protocol.specs.Parcels.{App, Ask, Decide, Parcel, Reply, Lists, emptied, with_rest, with_parcel, put_back, messages_where, with_decisions}
use Rattle.kt_protocol.specs.States.{State, is_ready, opening}
use Rattle.kt_protocol.specs.Replies.{after_answering, after_noting, after_unwilling, after_replying, after_reply}
use Rattle.kt_protocol.specs.Messages.{after_refusal, after_failing, after_holding, after_dropping, after_receiving, after_sending}
use Rattle.kt_protocol.specs.Deciding.{after_closing, after_deciding_as, after_decision, after_closing_rollback, after_closing_checkpoint}
use Rattle.kt_protocol.specs.Joining.{after_began, after_joining_rollback, after_joining_checkpoint}
use Rattle.kt_protocol.specs.Summary.{is_undone}

pub record Tells (s : State) : Type 0 where
  -- a decision is in transit to who was asked
  pub told_is : (k u v : ℕ) → 0 < weigh (is_told k) (s.channel u v) → (s.asked k u v ≡ true) × (s.so_far.is_decided k ≡ true)
  -- messages alone are held
  pub held_apps : (u v : ℕ) → weigh any_other (s.held u v) ≡ 0
  -- who has rolled back and not closed has met nothing since
  pub fresh : (k q p : ℕ) → 0 < k → s.so_far.open_in p ≡ k → s.so_far.is_rollback k ≡ true → s.so_far.is_decided k ≡ true → s.so_far.is_committed k ≡ true → (s.received_since q p ≡ []) × (s.arrived_since q p ≡ [])

pub tells_opening : (n : ℕ) → Tells (opening n)
tells_opening n = record {
  told_is = λ k u v a. absurd (omega (arith, weigh_nil (is_told k), a));
  held_apps = λ u v. weigh_nil any_other;
  fresh = λ k q p a b c d e. (refl, refl);
}

push_other : (list : Lists) (q p : ℕ) (x : Parcel) (u v : ℕ) → v ≢ p → with_parcel list q p x u v ≡ list u v
unfolding with_parcel
push_other list q p x u v n = let e = is_other v p n in rw e (off (u == q) (list u v ++ x ∷ []) (list u v))
  where
    off : (b : Bool) (x y : List Parcel) → (if b && false then x else y) ≡ y
    off true x y = refl
    off false x y = refl

forget_nil : (member : ℕ → Bool) (list : Lists) (u v : ℕ) → (member v ≡ false → list u v ≡ []) → emptied member list u v ≡ []
unfolding emptied
forget_nil member list u v f = go (member v) refl
  where
    go : (b : Bool) → member v ≡ b → (if b then [] else list u v) ≡ []
    go true e = refl
    go false e = f e

ready_of : (s : State) (p k : ℕ) → 0 < k → s.so_far.open_in p ≡ k → s.so_far.is_rollback k ≡ true → is_ready s p ≡ false → ⊥
ready_of s p k pos o r n = let a : is_ready s p ≡ true = rw (o, r) (above k pos) in cc (a, n)
  where
    above : (k : ℕ) → 0 < k → (not (k == 0) && true) ≡ true
    above k l = grind (arith, nat_tests, l)

sieved : (t : ℕ → Bool) (l : List Parcel) → weigh any_other (messages_where t l) ≡ 0
unfolding messages_where
sieved t [] = weigh_nil any_other
sieved t (App m ∷ xs) = go (t m) (sieved t xs)
  where
    go : (b : Bool) → weigh any_other (messages_where t xs) ≡ 0 → weigh any_other (if b then App m ∷ messages_where t xs else messages_where t xs) ≡ 0
    go true h = let w = weigh_cons any_other (App m) (messages_where t xs) in omega (arith, w, h)
    go false h = h
sieved t (Ask k l ∷ xs) = sieved t xs
sieved t (Reply k l ∷ xs) = sieved t xs
sieved t (Decide k l ∷ xs) = sieved t xs

back_apps : (t member : ℕ → Bool) (kept held : Lists) → ((u v : ℕ) → weigh any_other (held u v) ≡ 0) → (u v : ℕ) → weigh any_other (put_back t member kept held u v) ≡ 0
unfolding put_back
back_apps t member kept held h u v = go (member v)
  where
    go : (b : Bool) → weigh any_other (if b then messages_where t (kept u v) ++ messages_where t (held u v) else held u v) ≡ 0
    go true = weigh_append any_other (messages_where t (kept u v)) (messages_where t (held u v)) ∙ (let a = sieved t (kept u v) in let b = sieved t (held u v) in omega (arith, a, b))
    go false = h u v

pub tells_sending : (s : State) (p q : ℕ) (body : ℤ) → Tells s → Tells (after_sending s p q body)
tells_sending s p q body t = record {
  told_is = λ i u v a. t.told_is i u v (rw (weigh_same_parcel (is_told i) s.channel p q (App (s.so_far.rows + 1)) refl u v) at a);
  held_apps = t.held_apps;
  fresh = t.fresh;
}

pub tells_receiving : (s : State) (channel held : Lists) (p q m : ℕ) → Taking s channel held p q m → Front s channel held p q m → is_ready s p ≡ false → Tells s → Tells (after_receiving s channel held p q m)
tells_receiving s channel held p q m y f idle t = record {
  told_is = λ i u v a. t.told_is i u v (rw (y.others (is_told i) (λ n. refl) u v) at a);
  held_apps = λ u v. f.others u v ∙ t.held_apps u v;
  fresh = λ k u v a b c d x. elim (cases_eq v p) [
    | inl z ↦ absurd (ready_of s p k a (rw z at b) c idle)
    | inr z ↦ (let w = t.fresh k u v a b c d x in (push_other s.received_since q p (App m) u v z ∙ w.0, push_other s.arrived_since q p (App m) u v z ∙ w.1))
  ];
}

pub tells_dropping : (s : State) (channel held : Lists) (p q m : ℕ) → Taking s channel held p q m → Front s channel held p q m → is_ready s p ≡ false → Tells s → Tells (after_dropping s channel held p q m)
tells_dropping s channel held p q m y f idle t = record {
  told_is = λ i u v a. t.told_is i u v (rw (y.others (is_told i) (λ n. refl) u v) at a);
  held_apps = λ u v. f.others u v ∙ t.held_apps u v;
  fresh = λ k u v a b c d x. elim (cases_eq v p) [
    | inl z ↦ absurd (ready_of s p k a (rw z at b) c idle)
    | inr z ↦ (let w = t.fresh k u v a b c d x in (w.0, push_other s.arrived_since q p (App m) u v z ∙ w.1))
  ];
}

pub tells_holding : (s : State) (p q m : ℕ) (rest : List Parcel) → s.channel q p ≡ App m ∷ rest → Tells s → Tells (after_holding s p q m rest)
tells_holding s p q m rest e t = record {
  told_is = λ i u v a. t.told_is i u v (weigh_less_rest (is_told i) s.channel q p (App m) rest e u v a);
  held_apps = λ u v. weigh_same_parcel any_other s.held q p (App m) refl u v ∙ t.held_apps u v;
  fresh = t.fresh;
}

pub tells_failing : (s : State) (p : ℕ) → Tells s → Tells (after_failing s p)
tells_failing s p t = record {
  told_is = t.told_is;
  held_apps = t.held_apps;
  fresh = t.fresh;
}

pub tells_refusal : (s : State) (p : ℕ) (v : Verb) (c : Cause) → Tells s → Tells (after_refusal s p v c)
tells_refusal s p v c t = record {
  told_is = t.told_is;
  held_apps = t.held_apps;
  fresh = t.fresh;
}

pub tells_noting : (s : State) (p q k l : ℕ) → Tells s → Tells (after_noting s p q k l)
tells_noting s p q k l t = record {
  told_is = t.told_is;
  held_apps = t.held_apps;
  fresh = t.fresh;
}

pub tells_replying : (s : State) (p q k l : ℕ) (w : Bool) (rest : List Parcel) → s.channel q p ≡ Ask k l ∷ rest → Tells s → Tells (after_replying s p q k w rest)
tells_replying s p q k l w rest e t = record {
  told_is = λ i u v a. t.told_is i u v (weigh_less_rest (is_told i) s.channel q p (Ask k l) rest e u v (rw (weigh_same_parcel (is_told i) (with_rest s.channel q p rest) p q (Reply k w) refl u v) at a));
  held_apps = t.held_apps;
  fresh = t.fresh;
}

pub tells_unwilling : (s : State) (p q k l : ℕ) (cause : Cause) (rest : List Parcel) → s.channel q p ≡ Ask k l ∷ rest → Tells s → Tells (after_unwilling s p q k cause rest)
tells_unwilling s p q k l cause rest e t = record {
  told_is = λ i u v a. t.told_is i u v (weigh_less_rest (is_told i) s.channel q p (Ask k l) rest e u v (rw (weigh_same_parcel (is_told i) (with_rest s.channel q p rest) p q (Reply k false) refl u v) at a));
  held_apps = t.held_apps;
  fresh = t.fresh;
}

pub tells_reply : (s : State) (p q k : ℕ) (w : Bool) (rest : List Parcel) → s.channel q p ≡ Reply k w ∷ rest → Tells s → Tells (after_reply s p q k w rest)
tells_reply s p q k w rest e t = record {
  told_is = λ i u v a. t.told_is i u v (weigh_less_rest (is_told i) s.channel q p (Reply k w) rest e u v a);
  held_apps = t.held_apps;
  fresh = t.fresh;
}

pub tells_answering : (s : State) (p k : ℕ) → Tells s → Tells (after_answering s p k)
tells_answering s p k t = record {
  told_is = λ i u v a. t.told_is i u v (rw (weigh_same_parcel (is_told i) s.channel p (s.parent k p) (Reply k (s.all_willing k p)) refl u v) at a);
  held_apps = t.held_apps;
  fresh = t.fresh;
}

pub tells_decision : (s : State) (p q k : ℕ) (c : Bool) (rest : List Parcel) → s.channel q p ≡ Decide k c ∷ rest → Tells s → Tells (after_decision s p q rest)
tells_decision s p q k c rest e t = record {
  told_is = λ i u v a. t.told_is i u v (weigh_less_rest (is_told i) s.channel q p (Decide k c) rest e u v a);
  held_apps = t.held_apps;
  fresh = t.fresh;
}

pub tells_began : (s : State) (p : ℕ) (roll : Bool) → ((i u : ℕ) → 0 < i → s.so_far.open_in u ≡ i → i ≤ s.instances) → Tells s → Tells (after_began s p roll)
tells_began s p roll begun t = record {
  told_is = t.told_is;
  held_apps = t.held_apps;
  fresh = λ i q u a b c. t.fresh i q u a b (sym (at_one_other (s.instances + 1) i roll s.so_far.is_rollback (λ e. (let l = begun i u a b in omega (arith, l, e)))) ∙ c);
}

-- who joins an instance that is not decided
fresh_joins : (s : State) (p k : ℕ) → s.so_far.is_decided k ≡ false → Tells s → (i q u : ℕ) → 0 < i → at_one p k s.so_far.open_in u ≡ i → s.so_far.is_rollback i ≡ true → s.so_far.is_decided i ≡ true → s.so_far.is_committed i ≡ true → (s.received_since q u ≡ []) × (s.arrived_since q u ≡ [])
fresh_joins s p k n t i q u a b c d e = go (u == p) b
  where
    go : (x : Bool) → (if x then k else s.so_far.open_in u) ≡ i → (s.received_since q u ≡ []) × (s.arrived_since q u ≡ [])
    go true z = let y : s.so_far.is_decided k ≡ true = rw (← z) at d in absurd (cc (y, n))
    go false z = t.fresh i q u a z c d e

asked_joins : (s : State) (p k : ℕ) (x : ℕ → Bool) → s.so_far.is_decided k ≡ false → (i u v : ℕ) → (s.asked i u v ≡ true) × (s.so_far.is_decided i ≡ true) → ((if i == k && u == p then x v else s.asked i u v) ≡ true) × (s.so_far.is_decided i ≡ true)
asked_joins s p k x n i u v a = let m : i ≢ k = λ e. (let y : s.so_far.is_decided k ≡ true = rw e at a.1 in cc (y, n)) in (rw (is_other i k m) a.0, a.1)

pub tells_joining_checkpoint : (s : State) (channel : Lists) (p k : ℕ) (is_first : Bool) (par lnk lbl : ℕ) → Joining s channel p k is_first par lnk lbl false → Tells s → Tells (after_joining_checkpoint s channel p k is_first par lnk)
tells_joining_checkpoint s channel p k is_first par lnk lbl j t = record {
  told_is = λ i u v a. asked_joins s p k (λ v. nat_lt 0 (s.last_received p v)) j.undecided i u v (t.told_is i u v (rw (same_weight_joins s channel p k is_first par lnk lbl false j (is_told i) (λ b. refl) u v) at a));
  held_apps = t.held_apps;
  fresh = fresh_joins s p k j.undecided t;
}

pub tells_joining_rollback : (s : State) (channel : Lists) (p k : ℕ) (is_first : Bool) (par lnk lbl : ℕ) → Joining s channel p k is_first par lnk lbl true → Tells s → Tells (after_joining_rollback s channel p k is_first par lnk)
tells_joining_rollback s channel p k is_first par lnk lbl j t = record {
  told_is = λ i u v a. asked_joins s p k (λ v. nat_lt 0 (s.first_sent p v)) j.undecided i u v (t.told_is i u v (rw (same_weight_rolls s channel p k is_first par lnk lbl true j (is_told i) (λ b. refl) u v) at a));
  held_apps = t.held_apps;
  fresh = fresh_joins s p k j.undecided t;
}

pub tells_deciding : (s : State) (p k : ℕ) (c roll : Bool) → s.so_far.is_rollback k ≡ roll → ((u : ℕ) → s.so_far.open_in u ≡ k → s.so_far.joined k u ≡ true) → Tells s → Tells (after_deciding_as c roll s p k)
tells_deciding s p k c roll r member t = go c roll r
  where
    now : (i u v : ℕ) → 0 < weigh (is_told i) (s.channel u v) → (s.asked i u v ≡ true) × (at_one k true s.so_far.is_decided i ≡ true)
    now i u v a = let x = t.told_is i u v a in (x.0, on (i == k) x.1)
      where
        on : (b : Bool) → s.so_far.is_decided i ≡ true → (if b then true else s.so_far.is_decided i) ≡ true
        on true e = refl
        on false e = e

    other : (i q u : ℕ) (x : Bool) → i ≢ k → 0 < i → s.so_far.open_in u ≡ i → s.so_far.is_rollback i ≡ true → at_one k true s.so_far.is_decided i ≡ true → at_one k x s.so_far.is_committed i ≡ true → (s.received_since q u ≡ []) × (s.arrived_since q u ≡ [])
    other i q u x n a b c d e = t.fresh i q u a b c (sym (at_one_other k i true s.so_far.is_decided n) ∙ d) (sym (at_one_other k i x s.so_far.is_committed n) ∙ e)

    aborted : (i q u : ℕ) → 0 < i → s.so_far.open_in u ≡ i → s.so_far.is_rollback i ≡ true → at_one k true s.so_far.is_decided i ≡ true → at_one k false s.so_far.is_committed i ≡ true → (s.received_since q u ≡ []) × (s.arrived_since q u ≡ [])
    aborted i q u a b c d e = elim (cases_eq i k) [ inl z ↦ (let y : false ≡ true = sym (at_one_here k false s.so_far.is_committed) ∙ (rw z at e) in absurd (cc (y))) | inr z ↦ other i q u false z a b c d e ]

    saved : s.so_far.is_rollback k ≡ false → (i q u : ℕ) → 0 < i → s.so_far.open_in u ≡ i → s.so_far.is_rollback i ≡ true → at_one k true s.so_far.is_decided i ≡ true → at_one k true s.so_far.is_committed i ≡ true → (s.received_since q u ≡ []) × (s.arrived_since q u ≡ [])
    saved r i q u a b c d e = elim (cases_eq i k) [ inl z ↦ (let y : s.so_far.is_rollback k ≡ true = rw z at c in absurd (cc (y, r))) | inr z ↦ other i q u true z a b c d e ]

    rolled : (i q u : ℕ) → 0 < i → s.so_far.open_in u ≡ i → s.so_far.is_rollback i ≡ true → at_one k true s.so_far.is_decided i ≡ true → at_one k true s.so_far.is_committed i ≡ true → (emptied (s.so_far.joined k) s.received_since q u ≡ []) × (emptied (s.so_far.joined k) s.arrived_since q u ≡ [])
    rolled i q u a b c d e = elim (cases_eq i k) [
      | inl z ↦ (let m = member u (b ∙ z) in (forget_nil (s.so_far.joined k) s.received_since q u (λ n. absurd (cc (m, n))), forget_nil (s.so_far.joined k) s.arrived_since q u (λ n. absurd (cc (m, n)))))
      | inr z ↦ (let w = other i q u true z a b c d e in (forget_nil (s.so_far.joined k) s.received_since q u (λ _. w.0), forget_nil (s.so_far.joined k) s.arrived_since q u (λ _. w.1)))
    ]

    go : (c roll : Bool) → s.so_far.is_rollback k ≡ roll → Tells (after_deciding_as c roll s p k)
    go false roll r = record { told_is = now; held_apps = t.held_apps; fresh = aborted }
    go true false r = record { told_is = now; held_apps = t.held_apps; fresh = saved r }
    go true true r = record { told_is = now; held_apps = back_apps (λ m. not (is_undone s.so_far k m)) (s.so_far.joined k) s.kept s.held t.held_apps; fresh = rolled }

pub tells_closing : (s : State) (p k : ℕ) (c : Bool) → s.so_far.is_decided k ≡ true → Tells s → Tells (after_closing s p k c)
tells_closing s p k c d t = go c (s.so_far.is_rollback k)
  where
    told : (c : Bool) (i u v : ℕ) → 0 < weigh (is_told i) (with_decisions s.channel s.asked p k c u v) → (s.asked i u v ≡ true) × (s.so_far.is_decided i ≡ true)
    told c i u v a = elim (cases_lt 0 (weigh (is_told i) (s.channel u v))) [
      | inl x ↦ t.told_is i u v x
      | inr x ↦ (let w = weigh_decisions (is_told i) s.channel s.asked p k c u v in let y = facts u p k i (s.asked k p v) _ _ x w a in (rw (y.0, y.1) y.2, rw y.1 d))
    ]
      where
        facts : (u p k i : ℕ) (b : Bool) (x y : ℕ) → x ≤ 0 → y ≡ x + (if u == p && b then one (k == i) else 0) → 0 < y → (u ≡ p) × (i ≡ k) × (b ≡ true)
        facts u p k i b x y e f g = grind (arith, nat_tests, e, f, g)

    fresh : (i q u : ℕ) → 0 < i → at_one p 0 s.so_far.open_in u ≡ i → s.so_far.is_rollback i ≡ true → s.so_far.is_decided i ≡ true → s.so_far.is_committed i ≡ true → (s.received_since q u ≡ []) × (s.arrived_since q u ≡ [])
    fresh i q u a b c d e = go (u == p) b
      where
        go : (x : Bool) → (if x then 0 else s.so_far.open_in u) ≡ i → (s.received_since q u ≡ []) × (s.arrived_since q u ≡ [])
        go true z = absurd (omega (arith, z, a))
        go false z = t.fresh i q u a z c d e

    go : (c roll : Bool) → Tells (if roll then after_closing_rollback s p k c else after_closing_checkpoint s p k c)
    go c true = record { told_is = told c; held_apps = t.held_apps; fresh = fresh }
    go true false = record { told_is = told true; held_apps = t.held_apps; fresh = fresh }
    go false false = record { told_is = told false; held_apps = t.held_apps; fresh = fresh }
