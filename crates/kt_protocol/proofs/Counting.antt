-- The asks, replies and decisions counted are those that were put: kept by each transition.
use Rattle.std.specs.Prelude.{ℤ}
use Rattle.kt_base.specs.declared.words.Verb.{Verb}
use Rattle.std.proofs.Common.{◌≡◌, ◌≢◌, ℕ, ◌+◌, ◌<◌, Bool, true, false, not, List, ◌∷◌, refl, arith, sym, ap, subst, inl, inr, ◌∙◌}
use Rattle.std.specs.Prelude.{◌==◌, ◌&&◌, nat_lt, if◌then◌else◌}
use Rattle.std.proofs.lemmas.Bool.{cases_eq}
use Rattle.std.proofs.lemmas.Bool.Decides.{nat_tests}
use Rattle.kt_base.specs.declared.words.Cause.{Cause}
use Rattle.kt_meaning.specs.Past.{at_one, at_pair}
use Rattle.kt_protocol.proofs.Invariant.{is_ask, is_child, one}
use Rattle.kt_protocol.proofs.Joining.{Joining}
use Rattle.kt_protocol.proofs.Updates.{at_one_here, at_one_other, is_other, is_same}
use Rattle.kt_protocol.proofs.Receiving.{Taking}
use Rattle.kt_protocol.proofs.Sums.{number_same, total, total_more, total_new, total_none, total_same}
use Rattle.kt_protocol.proofs.Weights.{weigh, weigh_checkpoint_asks, weigh_cons, weigh_nil, weigh_rollback_asks, weigh_swapped, weigh_decisions, weigh_same_parcel, weigh_same_rest}
use Rattle.kt_protocol.specs.Parcels.{App, Ask, Decide, Parcel, Reply, Lists, with_checkpoint_asks, with_rollback_asks, with_decisions}
use Rattle.kt_protocol.specs.States.{State, opening}
use Rattle.kt_protocol.specs.Replies.{after_answering, after_noting, after_unwilling, after_replying, after_reply}
use Rattle.kt_protocol.specs.Messages.{after_refusal, after_failing, after_holding, after_dropping, after_receiving, after_sending}
use Rattle.kt_protocol.specs.Deciding.{after_closing, after_deciding_as, after_decision, after_closing_rollback, after_closing_checkpoint}
use Rattle.kt_protocol.specs.Joining.{count_below, after_began, after_joining_rollback, after_joining_checkpoint}
use Rattle.kt_protocol.specs.Summary.{is_undone}
use Rattle.kt_protocol.proofs.Choices.{two}

-- asks, replies and decisions are counted
pub record Counted (s : State) : Type 0 where
  pub no_self : (m : ℕ) → s.so_far.is_sent m ≡ true → s.so_far.from m ≢ s.so_far.to m
  pub put_is : (k p q : ℕ) → weigh (is_ask k) (s.channel p q) + one (is_child s k p q) + one (s.has_reply k p q) ≡ one (s.asked k p q)
  pub asked_low : (k p q : ℕ) → s.asked k p q ≡ true → (s.so_far.joined k p ≡ true) × (p < s.processes) × (q < s.processes) × (p ≢ q)
  pub has_closed_is : (k p : ℕ) → s.has_closed k p ≡ true → (s.so_far.is_decided k ≡ true) × (s.so_far.open_in p ≢ k)
  pub asks_is : (k : ℕ) → s.asks k ≡ total s.processes s.processes (s.asked k)
  pub replies_is : (k : ℕ) → s.replies k ≡ total s.processes s.processes (s.has_reply k)
  pub decisions_is : (k : ℕ) → s.decisions k ≡ total s.processes s.processes (λ p q. s.has_closed k p && s.asked k p q)

-- one more cell
cells : (put : ℕ → ℕ → ℕ → Bool) (replies : ℕ → ℕ) (k a b n : ℕ) → a < n → b < n → put k a b ≡ false → ((i : ℕ) → replies i ≡ total n n (put i)) → (i : ℕ) → at_one k (replies k + 1) replies i ≡ total n n (λ u v. if i == k && u == a && v == b then true else put i u v)
cells put replies k a b n la lb z h i = elim (cases_eq i k) [
  | inl e ↦ rw e (at_one_here k (replies k + 1) replies ∙ ap (λ x. x + 1) (h k) ∙ sym (total_more n n (put k) (λ u v. if k == k && u == a && v == b then true else put k u v) a b la lb z
      (rw (is_same k, is_same a, is_same b) refl) (λ u v m. rw (is_same k, is_other u a m) refl) (λ v m. rw (is_same k, is_same a, is_other v b m) refl)))
  | inr m ↦ at_one_other k i (replies k + 1) replies m ∙ h i ∙ total_same n n (put i) (λ u v. if i == k && u == a && v == b then true else put i u v) (λ u v. rw (is_other i k m) refl)
]

-- a new row of asks
rows_more : (asked : ℕ → ℕ → ℕ → Bool) (asks : ℕ → ℕ) (x : ℕ → Bool) (k p n : ℕ) → ((v : ℕ) → asked k p v ≡ false) → ((v : ℕ) → x v ≡ true → p < n) → ((i : ℕ) → asks i ≡ total n n (asked i)) → (i : ℕ) → at_one k (asks k + count_below n x) asks i ≡ total n n (λ u v. if i == k && u == p then x v else asked i u v)
rows_more asked asks x k p n none low h i = elim (cases_eq i k) [
  | inl e ↦ rw e (
      let row : (v : ℕ) → (if k == k && p == p then x v else asked k p v) ≡ x v = λ v. rw (is_same k, is_same p) refl in
      let a = total_new n n (asked k) (λ u v. if k == k && u == p then x v else asked k u v) p (λ u v m. rw (is_same k, is_other u p m) refl) none (λ v y. low v (sym (row v) ∙ y)) in
      let b = number_same n (λ v. if k == k && p == p then x v else asked k p v) x row in
      let c = at_one_here k (asks k + count_below n x) asks in
      let d = h k in
      omega (arith, a, b, c, d))
  | inr m ↦ at_one_other k i (asks k + count_below n x) asks m ∙ h i ∙ total_same n n (asked i) (λ u v. if i == k && u == p then x v else asked i u v) (λ u v. rw (is_other i k m) refl)
]

-- a new row of decisions
rows_told : (asked : ℕ → ℕ → ℕ → Bool) (shut : ℕ → ℕ → Bool) (decisions : ℕ → ℕ) (k p n : ℕ) → shut k p ≡ false → ((v : ℕ) → asked k p v ≡ true → p < n) → ((i : ℕ) → decisions i ≡ total n n (λ u v. shut i u && asked i u v)) → (i : ℕ) → at_one k (decisions k + count_below n (asked k p)) decisions i ≡ total n n (λ u v. at_pair k p true shut i u && asked i u v)
rows_told asked shut decisions k p n none low h i = elim (cases_eq i k) [
  | inl e ↦ rw e (
      let row : (v : ℕ) → (at_pair k p true shut k p && asked k p v) ≡ asked k p v = λ v. rw (is_same k, is_same p) refl in
      let a = total_new n n (λ u v. shut k u && asked k u v) (λ u v. at_pair k p true shut k u && asked k u v) p (λ u v m. rw (is_same k, is_other u p m) refl) (λ v. rw none refl) (λ v y. low v (sym (row v) ∙ y)) in
      let b = number_same n (λ v. at_pair k p true shut k p && asked k p v) (asked k p) row in
      let c = at_one_here k (decisions k + count_below n (asked k p)) decisions in
      let d = h k in
      omega (arith, a, b, c, d))
  | inr m ↦ at_one_other k i (decisions k + count_below n (asked k p)) decisions m ∙ h i ∙ total_same n n (λ u v. shut i u && asked i u v) (λ u v. at_pair k p true shut i u && asked i u v) (λ u v. rw (is_other i k m) refl)
]

pub counted_opening : (n : ℕ) → Counted (opening n)
counted_opening n = record {
  no_self = λ m a. absurd (cc);
  put_is = λ k p q. rw (weigh_nil (is_ask k)) refl;
  asked_low = λ k p q a. absurd (cc);
  has_closed_is = λ k p a. absurd (cc);
  asks_is = λ k. sym (nothing n);
  replies_is = λ k. sym (nothing n);
  decisions_is = λ k. sym (nothing n);
}
  where
    nothing : (n : ℕ) → total n n (λ u v. false) ≡ 0
    nothing n = total_none n n

pub counted_sending : (s : State) (p q : ℕ) (body : ℤ) → p ≢ q → Counted s → Counted (after_sending s p q body)
counted_sending s p q body n t = record {
  no_self = λ m. new m;
  put_is = λ i u v. rw (weigh_same_parcel (is_ask i) s.channel p q (App (s.so_far.rows + 1)) refl u v) (t.put_is i u v);
  asked_low = t.asked_low;
  has_closed_is = t.has_closed_is;
  asks_is = t.asks_is;
  replies_is = t.replies_is;
  decisions_is = t.decisions_is;
}
  where
    new : (m : ℕ) → at_one (s.so_far.rows + 1) true s.so_far.is_sent m ≡ true → at_one (s.so_far.rows + 1) p s.so_far.from m ≢ at_one (s.so_far.rows + 1) q s.so_far.to m
    new m = go (m == s.so_far.rows + 1)
      where
        go : (b : Bool) → (if b then true else s.so_far.is_sent m) ≡ true → (if b then p else s.so_far.from m) ≢ (if b then q else s.so_far.to m)
        go true a = n
        go false a = t.no_self m a

pub counted_receiving : (s : State) (channel held : Lists) (p q m : ℕ) → Taking s channel held p q m → Counted s → Counted (after_receiving s channel held p q m)
counted_receiving s channel held p q m y t = record {
  no_self = t.no_self;
  put_is = λ i u v. rw (y.others (is_ask i) (λ n. refl) u v) (t.put_is i u v);
  asked_low = t.asked_low;
  has_closed_is = t.has_closed_is;
  asks_is = t.asks_is;
  replies_is = t.replies_is;
  decisions_is = t.decisions_is;
}

pub counted_dropping : (s : State) (channel held : Lists) (p q m : ℕ) → Taking s channel held p q m → Counted s → Counted (after_dropping s channel held p q m)
counted_dropping s channel held p q m y t = record {
  no_self = t.no_self;
  put_is = λ i u v. rw (y.others (is_ask i) (λ n. refl) u v) (t.put_is i u v);
  asked_low = t.asked_low;
  has_closed_is = t.has_closed_is;
  asks_is = t.asks_is;
  replies_is = t.replies_is;
  decisions_is = t.decisions_is;
}

pub counted_holding : (s : State) (p q m : ℕ) (rest : List Parcel) → s.channel q p ≡ App m ∷ rest → Counted s → Counted (after_holding s p q m rest)
counted_holding s p q m rest e t = record {
  no_self = t.no_self;
  put_is = λ i u v. rw (weigh_same_rest (is_ask i) s.channel q p (App m) rest e refl u v) (t.put_is i u v);
  asked_low = t.asked_low;
  has_closed_is = t.has_closed_is;
  asks_is = t.asks_is;
  replies_is = t.replies_is;
  decisions_is = t.decisions_is;
}

pub counted_failing : (s : State) (p : ℕ) → Counted s → Counted (after_failing s p)
counted_failing s p t = record {
  no_self = t.no_self;
  put_is = t.put_is;
  asked_low = t.asked_low;
  has_closed_is = t.has_closed_is;
  asks_is = t.asks_is;
  replies_is = t.replies_is;
  decisions_is = t.decisions_is;
}

pub counted_refusal : (s : State) (p : ℕ) (v : Verb) (c : Cause) → Counted s → Counted (after_refusal s p v c)
counted_refusal s p v c t = record {
  no_self = t.no_self;
  put_is = t.put_is;
  asked_low = t.asked_low;
  has_closed_is = t.has_closed_is;
  asks_is = t.asks_is;
  replies_is = t.replies_is;
  decisions_is = t.decisions_is;
}

pub counted_began : (s : State) (p : ℕ) (roll : Bool) → Counted s → Counted (after_began s p roll)
counted_began s p roll t = record {
  no_self = t.no_self;
  put_is = t.put_is;
  asked_low = t.asked_low;
  has_closed_is = t.has_closed_is;
  asks_is = t.asks_is;
  replies_is = t.replies_is;
  decisions_is = t.decisions_is;
}

pub counted_noting : (s : State) (p q k l : ℕ) → Counted s → Counted (after_noting s p q k l)
counted_noting s p q k l t = record {
  no_self = t.no_self;
  put_is = t.put_is;
  asked_low = t.asked_low;
  has_closed_is = t.has_closed_is;
  asks_is = t.asks_is;
  replies_is = t.replies_is;
  decisions_is = t.decisions_is;
}

-- what p of instance k asks
module _ (s : State) (channel new : Lists) (tab : ℕ → ℕ → ℕ) (lab : ℕ → ℕ) (p k : ℕ) (is_first : Bool) (par lbl : ℕ)
    (pop : (f : Parcel → ℕ) (u v : ℕ) → weigh f (channel u v) + (if not is_first && u == par && v == p then f (Ask k lbl) else 0) ≡ weigh f (s.channel u v))
    (grow : (f : Parcel → ℕ) (u v : ℕ) → weigh f (new u v) ≡ weigh f (channel u v) + (if u == p && nat_lt 0 (tab p v) then f (Ask k (lab v)) else 0))
    (out : s.so_far.joined k p ≡ false) (par_in : is_first ≡ false → s.so_far.joined k par ≡ true) (low : (v : ℕ) → nat_lt 0 (tab p v) ≡ true → (p < s.processes) × (v < s.processes) × (p ≢ v)) (undecided : s.so_far.is_decided k ≡ false) (t : Counted s) where
  asked_not : (v : ℕ) → s.asked k p v ≡ false
  asked_not v = at_test (s.asked k p v) refl
    where
      at_test : (b : Bool) → s.asked k p v ≡ b → s.asked k p v ≡ false
      at_test false e = e
      at_test true e = let a = (t.asked_low k p v e).0 in absurd (cc (a, out))

  par_other : is_first ≡ false → par ≢ p
  par_other e f = let a = par_in e in let b : s.so_far.joined k p ≡ true = subst (λ (x : ℕ). s.so_far.joined k x ≡ true) f a in absurd (cc (b, out))

  far_same : (f : Parcel → ℕ) → ((b : ℕ) → f (Ask k b) ≡ 0) → (u v : ℕ) → weigh f (new u v) ≡ weigh f (s.channel u v)
  far_same f z u v = grind (arith, nat_tests, grow f u v, pop f u v, z lbl, z (lab v))

  nothing : (v : ℕ) → (weigh (is_ask k) (s.channel p v) ≡ 0) × (is_child s k p v ≡ false) × (s.has_reply k p v ≡ false)
  nothing v = let a = asked_not v in three (weigh (is_ask k) (s.channel p v)) (is_child s k p v) (s.has_reply k p v) (t.put_is k p v ∙ ap one a)
    where
      three : (x : ℕ) (a b : Bool) → x + one a + one b ≡ 0 → (x ≡ 0) × (a ≡ false) × (b ≡ false)
      three x a b e = grind (arith, nat_tests, e)

  put_here : (v : ℕ) → weigh (is_ask k) (new p v) + one (at_pair k p true s.so_far.joined k v && at_pair k p par s.parent k v == p && not (at_pair k p is_first s.has_answered k v)) + one (s.has_reply k p v) ≡ one (nat_lt 0 (tab p v))
  put_here v =
      let n = nothing v in
      let n0 = n.0 in let n1 = n.1 in let n2 = n.2 in
      let a = grow (is_ask k) p v in
      let b = pop (is_ask k) p v in
      grind (arith, nat_tests, n0, n1, n2, a, b, par_other, is_same k, is_same p)

  put_other : (u v : ℕ) → u ≢ p → weigh (is_ask k) (new u v) + one (at_pair k p true s.so_far.joined k v && at_pair k p par s.parent k v == u && not (at_pair k p is_first s.has_answered k v)) + one (s.has_reply k u v) ≡ one (s.asked k u v)
  put_other u v n =
      let a = grow (is_ask k) u v in
      let b = pop (is_ask k) u v in
      grind (arith, nat_tests, a, b, t.put_is k u v, out, is_same k)

  put_far : (i u v : ℕ) → i ≢ k → weigh (is_ask i) (new u v) + one (at_pair k p true s.so_far.joined i v && at_pair k p par s.parent i v == u && not (at_pair k p is_first s.has_answered i v)) + one (s.has_reply i u v) ≡ one (s.asked i u v)
  put_far i u v n =
      let o' = is_other k i (λ e. n (sym e)) in
      rw (far_same (is_ask i) (λ b. ap one o') u v, is_other i k n) (t.put_is i u v)

  put_joins : (i u v : ℕ) → weigh (is_ask i) (new u v) + one (at_pair k p true s.so_far.joined i v && at_pair k p par s.parent i v == u && not (at_pair k p is_first s.has_answered i v)) + one (s.has_reply i u v) ≡ one (if i == k && u == p then nat_lt 0 (tab p v) else s.asked i u v)
  put_joins i u v = elim (cases_eq i k) [
    | inl e ↦ rw (e, is_same k) (elim (cases_eq u p) [
      | inl f ↦ rw (f, is_same p) (rw (is_same k) at (put_here v))
      | inr n ↦ rw (is_other u p n) (rw (is_same k) at (put_other u v n))
    ])
    | inr n ↦ rw (is_other i k n) (rw (is_other i k n) at (put_far i u v n))
  ]

  low_joins : (i u v : ℕ) → (if i == k && u == p then nat_lt 0 (tab p v) else s.asked i u v) ≡ true → (at_pair k p true s.so_far.joined i u ≡ true) × (u < s.processes) × (v < s.processes) × (u ≢ v)
  low_joins i u v = go (i == k && u == p) refl
    where
      same : (a b c d : ℕ) → (a == b && c == d) ≡ true → c ≡ d
      same a b c d e = grind (arith, nat_tests, e)

      go : (b : Bool) → (i == k && u == p) ≡ b → (if b then nat_lt 0 (tab p v) else s.asked i u v) ≡ true → ((if b then true else s.so_far.joined i u) ≡ true) × (u < s.processes) × (v < s.processes) × (u ≢ v)
      go true e a = let x = low v a in let y = same i k u p e in (refl, rw y x.0, x.1, rw y x.2)
      go false e a = t.asked_low i u v a

  shut_joins : (i u : ℕ) → s.has_closed i u ≡ true → (s.so_far.is_decided i ≡ true) × (at_one p k s.so_far.open_in u ≢ i)
  shut_joins i u a = let x = t.has_closed_is i u a in (x.0, λ e. go (u == p) x.0 x.1 e)
    where
      go : (b : Bool) → s.so_far.is_decided i ≡ true → s.so_far.open_in u ≢ i → (if b then k else s.so_far.open_in u) ≡ i → ⊥
      go true d n e = let y : s.so_far.is_decided k ≡ true = rw (← e) at d in absurd (cc (y, undecided))
      go false d n e = n e

  told_joins : (i : ℕ) → s.decisions i ≡ total s.processes s.processes (λ u v. s.has_closed i u && (if i == k && u == p then nat_lt 0 (tab p v) else s.asked i u v))
  told_joins i = t.decisions_is i ∙ total_same s.processes s.processes (λ u v. s.has_closed i u && s.asked i u v) (λ u v. s.has_closed i u && (if i == k && u == p then nat_lt 0 (tab p v) else s.asked i u v)) (λ u v. go u v (i == k && u == p) refl (s.has_closed i u) refl)
    where
      two : (a b c d : ℕ) → (a == b && c == d) ≡ true → a ≡ b
      two a b c d e = grind (arith, nat_tests, e)

      go : (u v : ℕ) (b : Bool) → (i == k && u == p) ≡ b → (c : Bool) → s.has_closed i u ≡ c → (c && s.asked i u v) ≡ (c && (if b then nat_lt 0 (tab p v) else s.asked i u v))
      go u v b e false f = refl
      go u v false e true f = refl
      go u v true e true f = let d = (t.has_closed_is i u f).0 in let y : s.so_far.is_decided k ≡ true = rw (two i k u p e) at d in absurd (cc (y, undecided))

  asks_joins : (i : ℕ) → at_one k (s.asks k + count_below s.processes (λ v. nat_lt 0 (tab p v))) s.asks i ≡ total s.processes s.processes (λ u v. if i == k && u == p then nat_lt 0 (tab p v) else s.asked i u v)
  asks_joins i = rows_more s.asked s.asks (λ v. nat_lt 0 (tab p v)) k p s.processes asked_not (λ v a. (low v a).0) t.asks_is i

pub counted_joining_checkpoint : (s : State) (channel : Lists) (p k : ℕ) (is_first : Bool) (par lnk lbl : ℕ) → Joining s channel p k is_first par lnk lbl false → s.so_far.joined k p ≡ false → ((v : ℕ) → nat_lt 0 (s.last_received p v) ≡ true → (p < s.processes) × (v < s.processes) × (p ≢ v)) → Counted s → Counted (after_joining_checkpoint s channel p k is_first par lnk)
counted_joining_checkpoint s channel p k is_first par lnk lbl j out low t = record {
  no_self = t.no_self;
  put_is = put_joins s channel (with_checkpoint_asks channel s.last_received p k) s.last_received (λ v. s.last_received p v) p k is_first par lbl j.pop (λ f u v. weigh_checkpoint_asks f channel s.last_received p k u v) out (λ e. (j.member e).0) low j.undecided t;
  asked_low = low_joins s channel (with_checkpoint_asks channel s.last_received p k) s.last_received (λ v. s.last_received p v) p k is_first par lbl j.pop (λ f u v. weigh_checkpoint_asks f channel s.last_received p k u v) out (λ e. (j.member e).0) low j.undecided t;
  has_closed_is = shut_joins s channel (with_checkpoint_asks channel s.last_received p k) s.last_received (λ v. s.last_received p v) p k is_first par lbl j.pop (λ f u v. weigh_checkpoint_asks f channel s.last_received p k u v) out (λ e. (j.member e).0) low j.undecided t;
  asks_is = asks_joins s channel (with_checkpoint_asks channel s.last_received p k) s.last_received (λ v. s.last_received p v) p k is_first par lbl j.pop (λ f u v. weigh_checkpoint_asks f channel s.last_received p k u v) out (λ e. (j.member e).0) low j.undecided t;
  replies_is = t.replies_is;
  decisions_is = told_joins s channel (with_checkpoint_asks channel s.last_received p k) s.last_received (λ v. s.last_received p v) p k is_first par lbl j.pop (λ f u v. weigh_checkpoint_asks f channel s.last_received p k u v) out (λ e. (j.member e).0) low j.undecided t;
}

pub counted_joining_rollback : (s : State) (channel : Lists) (p k : ℕ) (is_first : Bool) (par lnk lbl : ℕ) → Joining s channel p k is_first par lnk lbl true → s.so_far.joined k p ≡ false → ((v : ℕ) → nat_lt 0 (s.first_sent p v) ≡ true → (p < s.processes) × (v < s.processes) × (p ≢ v)) → Counted s → Counted (after_joining_rollback s channel p k is_first par lnk)
counted_joining_rollback s channel p k is_first par lnk lbl j out low t = record {
  no_self = t.no_self;
  put_is = put_joins s channel (with_rollback_asks channel s.first_sent s.last_sent p k) s.first_sent (λ v. s.last_sent p v) p k is_first par lbl j.pop (λ f u v. weigh_rollback_asks f channel s.first_sent s.last_sent p k u v) out (λ e. (j.member e).0) low j.undecided t;
  asked_low = low_joins s channel (with_rollback_asks channel s.first_sent s.last_sent p k) s.first_sent (λ v. s.last_sent p v) p k is_first par lbl j.pop (λ f u v. weigh_rollback_asks f channel s.first_sent s.last_sent p k u v) out (λ e. (j.member e).0) low j.undecided t;
  has_closed_is = shut_joins s channel (with_rollback_asks channel s.first_sent s.last_sent p k) s.first_sent (λ v. s.last_sent p v) p k is_first par lbl j.pop (λ f u v. weigh_rollback_asks f channel s.first_sent s.last_sent p k u v) out (λ e. (j.member e).0) low j.undecided t;
  asks_is = asks_joins s channel (with_rollback_asks channel s.first_sent s.last_sent p k) s.first_sent (λ v. s.last_sent p v) p k is_first par lbl j.pop (λ f u v. weigh_rollback_asks f channel s.first_sent s.last_sent p k u v) out (λ e. (j.member e).0) low j.undecided t;
  replies_is = t.replies_is;
  decisions_is = told_joins s channel (with_rollback_asks channel s.first_sent s.last_sent p k) s.first_sent (λ v. s.last_sent p v) p k is_first par lbl j.pop (λ f u v. weigh_rollback_asks f channel s.first_sent s.last_sent p k u v) out (λ e. (j.member e).0) low j.undecided t;
}

-- an ask in front: its reply is not put yet
ask_now : (s : State) (q p k l : ℕ) (rest : List Parcel) → s.channel q p ≡ Ask k l ∷ rest → Counted s → (s.asked k q p ≡ true) × (s.has_reply k q p ≡ false)
ask_now s q p k l rest e t =
    let a : weigh (is_ask k) (s.channel q p) ≡ one (k == k) + weigh (is_ask k) rest = subst (λ (l : List Parcel). weigh (is_ask k) l ≡ one (k == k) + weigh (is_ask k) rest) (sym e) (weigh_cons (is_ask k) (Ask k l) rest) in
    let b : 0 < weigh (is_ask k) (s.channel q p) = rw a (rw (is_same k) (omega arith)) in
    two (weigh (is_ask k) (s.channel q p)) (is_child s k q p) (s.has_reply k q p) (s.asked k q p) b (t.put_is k q p)
  where
    two : (x : ℕ) (a b c : Bool) → 0 < x → x + one a + one b ≡ one c → (c ≡ true) × (b ≡ false)
    two x a b c l e = grind (arith, nat_tests, l, e)

pub counted_replying : (s : State) (p q k l : ℕ) (w : Bool) (rest : List Parcel) → s.channel q p ≡ Ask k l ∷ rest → Counted s → Counted (after_replying s p q k w rest)
counted_replying s p q k l w rest e t = record {
  no_self = t.no_self;
  put_is = λ i u v. grind (arith, nat_tests, weigh_swapped (is_ask i) s.channel q p (Ask k l) (Reply k w) rest e u v, t.put_is i u v);
  asked_low = t.asked_low;
  has_closed_is = t.has_closed_is;
  asks_is = t.asks_is;
  replies_is = cells s.has_reply s.replies k q p s.processes (t.asked_low k q p (ask_now s q p k l rest e t).0).1 (t.asked_low k q p (ask_now s q p k l rest e t).0).2 (ask_now s q p k l rest e t).1 t.replies_is;
  decisions_is = t.decisions_is;
}

pub counted_unwilling : (s : State) (p q k l : ℕ) (cause : Cause) (rest : List Parcel) → s.channel q p ≡ Ask k l ∷ rest → Counted s → Counted (after_unwilling s p q k cause rest)
counted_unwilling s p q k l cause rest e t = record {
  no_self = t.no_self;
  put_is = λ i u v. grind (arith, nat_tests, weigh_swapped (is_ask i) s.channel q p (Ask k l) (Reply k false) rest e u v, t.put_is i u v);
  asked_low = t.asked_low;
  has_closed_is = t.has_closed_is;
  asks_is = t.asks_is;
  replies_is = cells s.has_reply s.replies k q p s.processes (t.asked_low k q p (ask_now s q p k l rest e t).0).1 (t.asked_low k q p (ask_now s q p k l rest e t).0).2 (ask_now s q p k l rest e t).1 t.replies_is;
  decisions_is = t.decisions_is;
}

pub counted_reply : (s : State) (p q k : ℕ) (w : Bool) (rest : List Parcel) → s.channel q p ≡ Reply k w ∷ rest → Counted s → Counted (after_reply s p q k w rest)
counted_reply s p q k w rest e t = record {
  no_self = t.no_self;
  put_is = λ i u v. rw (weigh_same_rest (is_ask i) s.channel q p (Reply k w) rest e refl u v) (t.put_is i u v);
  asked_low = t.asked_low;
  has_closed_is = t.has_closed_is;
  asks_is = t.asks_is;
  replies_is = t.replies_is;
  decisions_is = t.decisions_is;
}

-- a member that has not answered: its reply is not put yet
child_now : (s : State) (p k : ℕ) → s.so_far.joined k p ≡ true → s.has_answered k p ≡ false → Counted s → (s.asked k (s.parent k p) p ≡ true) × (s.has_reply k (s.parent k p) p ≡ false)
child_now s p k j a t = two (weigh (is_ask k) (s.channel (s.parent k p) p)) (is_child s k (s.parent k p) p) (s.has_reply k (s.parent k p) p) (s.asked k (s.parent k p) p) (rw (j, is_same (s.parent k p), a) refl) (t.put_is k (s.parent k p) p)
  where
    two : (x : ℕ) (a b c : Bool) → a ≡ true → x + one a + one b ≡ one c → (c ≡ true) × (b ≡ false)
    two x a b c l e = grind (arith, nat_tests, l, e)

pub counted_answering : (s : State) (p k : ℕ) → s.so_far.joined k p ≡ true → s.has_answered k p ≡ false → Counted s → Counted (after_answering s p k)
counted_answering s p k j a t = record {
  no_self = t.no_self;
  put_is = λ i u v. rw (weigh_same_parcel (is_ask i) s.channel p (s.parent k p) (Reply k (s.all_willing k p)) refl u v) (now i u v);
  asked_low = t.asked_low;
  has_closed_is = t.has_closed_is;
  asks_is = t.asks_is;
  replies_is = cells s.has_reply s.replies k (s.parent k p) p s.processes (t.asked_low k (s.parent k p) p (child_now s p k j a t).0).1 (t.asked_low k (s.parent k p) p (child_now s p k j a t).0).2 (child_now s p k j a t).1 t.replies_is;
  decisions_is = t.decisions_is;
}
  where
    now : (i u v : ℕ) → weigh (is_ask i) (s.channel u v) + one (s.so_far.joined i v && s.parent i v == u && not (at_pair k p true s.has_answered i v)) + one (if i == k && u == s.parent k p && v == p then true else s.has_reply i u v) ≡ one (s.asked i u v)
    now i u v = elim (cases_eq i k) [
      | inl e ↦ elim (cases_eq v p) [
        | inl f ↦ elim (cases_eq u (s.parent k p)) [
          | inl x ↦ rw (e, f, x, is_same k, is_same p, is_same (s.parent k p), j) (here (weigh (is_ask k) (s.channel (s.parent k p) p)) (s.has_reply k (s.parent k p) p) (s.asked k (s.parent k p) p) (rw (j, is_same (s.parent k p), a) at (t.put_is k (s.parent k p) p)))
          | inr x ↦ rw (e, f, is_same k, is_same p, is_other u (s.parent k p) x, is_other (s.parent k p) u (λ y. x (sym y)), j) (rw (j, is_other (s.parent k p) u (λ y. x (sym y))) at (t.put_is k u p))
        ]
        | inr f ↦ rw (e, is_same k, is_other v p f) (off (u == s.parent k p) _ _ _ (t.put_is k u v))
      ]
      | inr e ↦ rw (is_other i k e) (t.put_is i u v)
    ]
      where
        here : (x : ℕ) (b c : Bool) → x + 1 + one b ≡ one c → x + 0 + 1 ≡ one c
        here x b true h = omega (arith, h)
        here x b false h = absurd (omega (arith, h))

        off : (b y : Bool) (x z : ℕ) → x + one y ≡ z → x + one (if b && false then true else y) ≡ z
        off true y x z h = h
        off false y x z h = h

pub counted_deciding : (s : State) (p k : ℕ) (c roll : Bool) → Counted s → Counted (after_deciding_as c roll s p k)
counted_deciding s p k c roll t = go c roll
  where
    now : (i : ℕ) → s.so_far.is_decided i ≡ true → at_one k true s.so_far.is_decided i ≡ true
    now i e = grind (arith, nat_tests, e)

    was : (m : ℕ) → (s.so_far.is_sent m && not (is_undone s.so_far k m)) ≡ true → s.so_far.is_sent m ≡ true
    was m e = first (s.so_far.is_sent m) (not (is_undone s.so_far k m)) e
      where
        first : (a b : Bool) → (a && b) ≡ true → a ≡ true
        first true b e = refl
        first false b e = e

    go : (c roll : Bool) → Counted (after_deciding_as c roll s p k)
    go false roll = record {
      no_self = t.no_self;
      put_is = t.put_is;
      asked_low = t.asked_low;
      has_closed_is = λ i u a. let x = t.has_closed_is i u a in (now i x.0, x.1);
      asks_is = t.asks_is;
      replies_is = t.replies_is;
      decisions_is = t.decisions_is;
    }
    go true false = record {
      no_self = t.no_self;
      put_is = t.put_is;
      asked_low = t.asked_low;
      has_closed_is = λ i u a. let x = t.has_closed_is i u a in (now i x.0, x.1);
      asks_is = t.asks_is;
      replies_is = t.replies_is;
      decisions_is = t.decisions_is;
    }
    go true true = record {
      no_self = λ m a. t.no_self m (was m a);
      put_is = t.put_is;
      asked_low = t.asked_low;
      has_closed_is = λ i u a. let x = t.has_closed_is i u a in (now i x.0, x.1);
      asks_is = t.asks_is;
      replies_is = t.replies_is;
      decisions_is = t.decisions_is;
    }

pub counted_closing : (s : State) (p k : ℕ) (c : Bool) → 0 < k → s.so_far.open_in p ≡ k → s.so_far.is_decided k ≡ true → ((i : ℕ) → s.so_far.is_decided i ≡ true → 0 < i) → Counted s → Counted (after_closing s p k c)
counted_closing s p k c pos o d positive t = go c (s.so_far.is_rollback k)
  where
    open_not : s.has_closed k p ≡ false
    open_not = at_test (s.has_closed k p) refl
      where
        at_test : (b : Bool) → s.has_closed k p ≡ b → s.has_closed k p ≡ false
        at_test false e = e
        at_test true e = absurd ((t.has_closed_is k p e).1 o)

    told : (c : Bool) (i u v : ℕ) → weigh (is_ask i) (with_decisions s.channel s.asked p k c u v) ≡ weigh (is_ask i) (s.channel u v)
    told c i u v = grind (arith, nat_tests, weigh_decisions (is_ask i) s.channel s.asked p k c u v)

    closed : (i u : ℕ) → at_pair k p true s.has_closed i u ≡ true → (s.so_far.is_decided i ≡ true) × (at_one p 0 s.so_far.open_in u ≢ i)
    closed i u = at_test (i == k && u == p) refl
      where
        not_zero : (b : Bool) (x : ℕ) → 0 < i → x ≢ i → (if b then 0 else x) ≢ i
        not_zero true x l n e = omega (arith, l, e)
        not_zero false x l n e = n e

        at_test : (b : Bool) → (i == k && u == p) ≡ b → (if b then true else s.has_closed i u) ≡ true → (s.so_far.is_decided i ≡ true) × (at_one p 0 s.so_far.open_in u ≢ i)
        at_test true e a = let z = two i k u p e in rw (z.0, z.1) (d, λ x. (let y : 0 ≡ k = sym (at_one_here p 0 s.so_far.open_in) ∙ x in omega (arith, y, pos)))
        at_test false e a = let x = t.has_closed_is i u a in (x.0, not_zero (u == p) (s.so_far.open_in u) (positive i x.0) x.1)

    go : (c roll : Bool) → Counted (if roll then after_closing_rollback s p k c else after_closing_checkpoint s p k c)
    go c true = record {
      no_self = t.no_self;
      put_is = λ i u v. rw (told c i u v) (t.put_is i u v);
      asked_low = t.asked_low;
      has_closed_is = closed;
      asks_is = t.asks_is;
      replies_is = t.replies_is;
      decisions_is = rows_told s.asked s.has_closed s.decisions k p s.processes open_not (λ v a. (t.asked_low k p v a).1) t.decisions_is;
    }
    go true false = record {
      no_self = t.no_self;
      put_is = λ i u v. rw (told true i u v) (t.put_is i u v);
      asked_low = t.asked_low;
      has_closed_is = closed;
      asks_is = t.asks_is;
      replies_is = t.replies_is;
      decisions_is = rows_told s.asked s.has_closed s.decisions k p s.processes open_not (λ v a. (t.asked_low k p v a).1) t.decisions_is;
    }
    go false false = record {
      no_self = t.no_self;
      put_is = λ i u v. rw (told false i u v) (t.put_is i u v);
      asked_low = t.asked_low;
      has_closed_is = closed;
      asks_is = t.asks_is;
      replies_is = t.replies_is;
      decisions_is = rows_told s.asked s.has_closed s.decisions k p s.processes open_not (λ v a. (t.asked_low k p v a).1) t.decisions_is;
    }

pub counted_decision : (s : State) (p q k : ℕ) (c : Bool) (rest : List Parcel) → s.channel q p ≡ Decide k c ∷ rest → Counted s → Counted (after_decision s p q rest)
counted_decision s p q k c rest e t = record {
  no_self = t.no_self;
  put_is = λ i u v. rw (weigh_same_rest (is_ask i) s.channel q p (Decide k c) rest e refl u v) (t.put_is i u v);
  asked_low = t.asked_low;
  has_closed_is = t.has_closed_is;
  asks_is = t.asks_is;
  replies_is = t.replies_is;
  decisions_is = t.decisions_is;
}
