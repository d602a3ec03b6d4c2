-- The order of the messages between two processes: kept by each transition.
use Rattle.std.specs.Prelude.{ℤ}
use Rattle.kt_base.specs.declared.words.Verb.{Verb}
use Rattle.std.proofs.Common.{◌≡◌, ◌≢◌, ℕ, ◌+◌, ◌≤◌, ◌<◌, Bool, true, false, not, List, [], ◌∷◌, refl, arith, sym, ap, subst, inl, inr, ◌⊎◌, ◌∙◌}
use Rattle.std.specs.Prelude.{◌==◌, ◌&&◌, nat_le, if◌then◌else◌}
use Rattle.std.proofs.lemmas.Bool.{cases_eq, cases_lt}
use Rattle.std.proofs.lemmas.Bool.Decides.{nat_tests}
use Rattle.kt_base.specs.declared.words.Cause.{Cause}
use Rattle.kt_meaning.specs.Past.{at_one}
use Rattle.kt_protocol.proofs.RisingLists.{falls, falls_checkpoint_asks, falls_emptied, falls_nil, falls_with_rest, falls_with_parcel, falls_put_back, falls_rollback_asks, falls_sending, falls_decisions, falls_kept_where, front_low}
use Rattle.kt_protocol.proofs.Invariant.{is_message, one}
use Rattle.kt_protocol.proofs.JoiningCheckpoints.{same_weight as same_weight_joins}
use Rattle.kt_protocol.proofs.Joining.{Joining}
use Rattle.kt_protocol.proofs.Updates.{at_one_here, at_one_other, is_other, is_same}
use Rattle.kt_protocol.proofs.Receiving.{Taking}
use Rattle.kt_protocol.proofs.JoiningRollbacks.{same_weight_rollback as same_weight_rolls}
use Rattle.kt_protocol.proofs.Weights.{weigh, weigh_cons, weigh_emptied, weigh_nil, weigh_with_rest, weigh_with_parcel, weigh_put_back, weigh_decisions, weigh_same_parcel, weigh_same_rest}
use Rattle.kt_protocol.specs.Parcels.{App, Ask, Decide, Parcel, Reply, Lists, emptied, with_rest, with_parcel, put_back, with_decisions}
use Rattle.kt_protocol.specs.States.{State, opening}
use Rattle.kt_protocol.specs.Replies.{after_answering, after_noting, after_unwilling, after_replying, after_reply}
use Rattle.kt_protocol.specs.Messages.{after_refusal, after_failing, after_holding, after_dropping, after_receiving, after_sending}
use Rattle.kt_protocol.specs.Deciding.{after_closing, after_deciding_as, after_decision, after_closing_rollback, after_closing_checkpoint}
use Rattle.kt_protocol.specs.Joining.{after_began, after_joining_rollback, after_joining_checkpoint}
use Rattle.kt_protocol.specs.Summary.{is_undone, is_unreceived}

-- n is in transit
abbrev pub IsFlying : State → ℕ → Type 0
IsFlying s n = (s.so_far.is_sent n ≡ true) × (s.so_far.is_received n ≡ false) × (s.so_far.dropped n ≡ false)

-- messages of a sender to a receiver are received, held and in transit in order
pub record Ordered (s : State) : Type 0 where
  pub received_order : (m n : ℕ) → s.so_far.is_received m ≡ true → s.so_far.is_received n ≡ true → s.so_far.from m ≡ s.so_far.from n → s.so_far.to m ≡ s.so_far.to n → s.so_far.received_at m < s.so_far.received_at n → m < n
  pub received_first : (m n : ℕ) → s.so_far.is_received m ≡ true → IsFlying s n → s.so_far.from m ≡ s.so_far.from n → s.so_far.to m ≡ s.so_far.to n → m < n
  pub held_rises : (q p : ℕ) → falls 0 (s.held q p) ≡ 0
  pub channel_rises : (q p : ℕ) → falls 0 (s.channel q p) ≡ 0
  pub kept_rises : (q p : ℕ) → falls 0 (s.kept q p) ≡ 0
  pub held_first : (q p m n : ℕ) → 0 < weigh (is_message m) (s.held q p) → 0 < weigh (is_message n) (s.channel q p) → m < n
  pub received_since_rises : (q p : ℕ) → falls 0 (s.received_since q p) ≡ 0
  pub heard_low : (q p m : ℕ) → 0 < weigh (is_message m) (s.received_since q p) → m ≤ s.so_far.rows
  pub heard_first : (q p m n : ℕ) → 0 < weigh (is_message m) (s.received_since q p) → 0 < weigh (is_message n) (s.channel q p) + weigh (is_message n) (s.held q p) → m < n
  pub arrived_since_rises : (q p : ℕ) → falls 0 (s.arrived_since q p) ≡ 0
  pub met_low : (q p m : ℕ) → 0 < weigh (is_message m) (s.arrived_since q p) → m ≤ s.so_far.rows
  pub arrived_since_first : (q p m n : ℕ) → 0 < weigh (is_message m) (s.arrived_since q p) → 0 < weigh (is_message n) (s.channel q p) + weigh (is_message n) (s.held q p) → m < n

-- what is no message
abbrev pub any_other : Parcel → ℕ
any_other (App m) = 0
any_other _ = 1

-- m was taken out in front of all of q's to p
pub record Front (s : State) (channel held : Lists) (p q m : ℕ) : Type 0 where
  pub held_rises : (u v : ℕ) → falls 0 (held u v) ≡ 0
  pub channel_rises : (u v : ℕ) → falls 0 (channel u v) ≡ 0
  pub first : (n : ℕ) → 0 < weigh (is_message n) (channel q p) + weigh (is_message n) (held q p) → m < n
  pub there : 0 < weigh (is_message m) (s.channel q p) + weigh (is_message m) (s.held q p)
  pub others : (u v : ℕ) → weigh any_other (held u v) ≡ weigh any_other (s.held u v)

up_one : {m n : ℕ} → m ≤ n → m ≤ n + 1
up_one {m} {n} h = omega (arith, h)

pub ordered_opening : (n : ℕ) → Ordered (opening n)
ordered_opening n = record {
  received_order = λ m n a b c d e. absurd (cc (a));
  received_first = λ m n a b c d. absurd (cc (a));
  held_rises = λ q p. falls_nil 0;
  channel_rises = λ q p. falls_nil 0;
  kept_rises = λ q p. falls_nil 0;
  held_first = λ q p m n a b. absurd (omega (arith, weigh_nil (is_message m), a));
  received_since_rises = λ q p. falls_nil 0;
  heard_low = λ q p m a. absurd (omega (arith, weigh_nil (is_message m), a));
  heard_first = λ q p m n a b. absurd (omega (arith, weigh_nil (is_message m), a));
  arrived_since_rises = λ q p. falls_nil 0;
  met_low = λ q p m a. absurd (omega (arith, weigh_nil (is_message m), a));
  arrived_since_first = λ q p m n a b. absurd (omega (arith, weigh_nil (is_message m), a));
}

-- what stands in a list after a push
push_cases : (channel : Lists) (p q m u v n : ℕ) → 0 < weigh (is_message n) (with_parcel channel p q (App m) u v) → (0 < weigh (is_message n) (channel u v)) ⊎ ((u ≡ p) × (v ≡ q) × (n ≡ m))
push_cases channel p q m u v n h = elim (cases_lt 0 (weigh (is_message n) (channel u v))) [
  | inl a ↦ inl a
  | inr a ↦ inr (let w = weigh_with_parcel (is_message n) channel p q (App m) u v in facts u p v q m n (weigh (is_message n) (channel u v)) (weigh (is_message n) (with_parcel channel p q (App m) u v)) a w h)
]
  where
    facts : (u p v q m n x y : ℕ) → x ≤ 0 → y ≡ x + (if u == p && v == q then (if m == n then 1 else 0) else 0) → 0 < y → (u ≡ p) × (v ≡ q) × (n ≡ m)
    facts u p v q m n x y a w h = grind (arith, nat_tests, a, w, h)

pop_less : (channel : Lists) (q p m : ℕ) (rest : List Parcel) → channel q p ≡ App m ∷ rest → (u v n : ℕ) → weigh (is_message n) (with_rest channel q p rest u v) ≤ weigh (is_message n) (channel u v)
pop_less channel q p m rest e u v n = let w = weigh_with_rest (is_message n) channel q p (App m) rest e u v in omega (arith, w)

pub weigh_front : (channel : Lists) (q p m : ℕ) (rest : List Parcel) → channel q p ≡ App m ∷ rest → 0 < weigh (is_message m) (channel q p)
weigh_front channel q p m rest e = subst (λ (l : List Parcel). 0 < weigh (is_message m) l) (sym e) (let w = weigh_cons (is_message m) (App m) rest in let i = is_same m in grind (arith, nat_tests, w, i))

pub front_of_channel : (s : State) (p q m : ℕ) (rest : List Parcel) → s.channel q p ≡ App m ∷ rest → s.held q p ≡ [] → Ordered s → Front s (with_rest s.channel q p rest) s.held p q m
front_of_channel s p q m rest e none t = record {
  held_rises = t.held_rises;
  channel_rises = falls_with_rest s.channel q p (App m) rest e t.channel_rises;
  first = λ n w. front_low s.channel q p m rest e (t.channel_rises q p) n (let z : weigh (is_message n) (s.held q p) ≡ 0 = rw none (weigh_nil (is_message n)) in omega (arith, w, z));
  there = let w = weigh_front s.channel q p m rest e in omega (arith, w);
  others = λ u v. refl;
}

pub front_of_held : (s : State) (p q m : ℕ) (rest : List Parcel) → s.held q p ≡ App m ∷ rest → Ordered s → Front s s.channel (with_rest s.held q p rest) p q m
front_of_held s p q m rest e t = record {
  held_rises = falls_with_rest s.held q p (App m) rest e t.held_rises;
  channel_rises = t.channel_rises;
  first = λ n w. elim (cases_lt 0 (weigh (is_message n) (s.channel q p))) [
    | inl a ↦ t.held_first q p m n (weigh_front s.held q p m rest e) a
    | inr a ↦ front_low s.held q p m rest e (t.held_rises q p) n (omega (arith, w, a))
  ];
  there = let w = weigh_front s.held q p m rest e in omega (arith, w);
  others = λ u v. weigh_same_rest any_other s.held q p (App m) rest e refl u v;
}

pub ordered_sending : (s : State) (p q : ℕ) (body : ℤ) → ((u v n : ℕ) → 0 < weigh (is_message n) (s.channel u v) + weigh (is_message n) (s.held u v) → n ≤ s.so_far.rows) → ((n : ℕ) → s.so_far.is_received n ≡ true → n ≤ s.so_far.rows) → Ordered s → Ordered (after_sending s p q body)
ordered_sending s p q body low got_low t = record {
  received_order = got_order_new;
  received_first = got_first_new;
  held_rises = t.held_rises;
  channel_rises = falls_sending s.channel p q (s.so_far.rows + 1) (omega arith) (λ n w. let a = low p q n (omega (arith, w)) in omega (arith, a)) t.channel_rises;
  kept_rises = t.kept_rises;
  held_first = λ u v m n a b. elim (push_cases s.channel p q (s.so_far.rows + 1) u v n b) [ inl c ↦ t.held_first u v m n a c | inr c ↦ (let l = low u v m (omega (arith, a)) in let e = c.2 in omega (arith, l, e)) ];
  received_since_rises = t.received_since_rises;
  heard_low = λ u v m a. up_one (t.heard_low u v m a);
  heard_first = λ u v m n a b. elim (cases_lt 0 (weigh (is_message n) (s.held u v))) [ inl c ↦ t.heard_first u v m n a (omega (arith, c)) | inr c ↦ elim (push_cases s.channel p q (s.so_far.rows + 1) u v n (omega (arith, b, c))) [ inl d ↦ t.heard_first u v m n a (omega (arith, d)) | inr d ↦ (let l = t.heard_low u v m a in let e = d.2 in omega (arith, l, e)) ] ];
  arrived_since_rises = t.arrived_since_rises;
  met_low = λ u v m a. up_one (t.met_low u v m a);
  arrived_since_first = λ u v m n a b. elim (cases_lt 0 (weigh (is_message n) (s.held u v))) [ inl c ↦ t.arrived_since_first u v m n a (omega (arith, c)) | inr c ↦ elim (push_cases s.channel p q (s.so_far.rows + 1) u v n (omega (arith, b, c))) [ inl d ↦ t.arrived_since_first u v m n a (omega (arith, d)) | inr d ↦ (let l = t.met_low u v m a in let e = d.2 in omega (arith, l, e)) ] ];
}
  where
    old : {X : Type 0} (n : ℕ) (x : X) (f : ℕ → X) → s.so_far.is_received n ≡ true → at_one (s.so_far.rows + 1) x f n ≡ f n
    old n x f a = at_one_other (s.so_far.rows + 1) n x f (λ e. (let l = got_low n a in omega (arith, e, l)))

    got_order_new : (m n : ℕ) → s.so_far.is_received m ≡ true → s.so_far.is_received n ≡ true → at_one (s.so_far.rows + 1) p s.so_far.from m ≡ at_one (s.so_far.rows + 1) p s.so_far.from n → at_one (s.so_far.rows + 1) q s.so_far.to m ≡ at_one (s.so_far.rows + 1) q s.so_far.to n → s.so_far.received_at m < s.so_far.received_at n → m < n
    got_order_new m n a b c d e = t.received_order m n a b (sym (old m p s.so_far.from a) ∙ c ∙ old n p s.so_far.from b) (sym (old m q s.so_far.to a) ∙ d ∙ old n q s.so_far.to b) e

    got_first_new : (m n : ℕ) → s.so_far.is_received m ≡ true → (at_one (s.so_far.rows + 1) true s.so_far.is_sent n ≡ true) × (s.so_far.is_received n ≡ false) × (s.so_far.dropped n ≡ false) → at_one (s.so_far.rows + 1) p s.so_far.from m ≡ at_one (s.so_far.rows + 1) p s.so_far.from n → at_one (s.so_far.rows + 1) q s.so_far.to m ≡ at_one (s.so_far.rows + 1) q s.so_far.to n → m < n
    got_first_new m n a b c d = elim (cases_eq n (s.so_far.rows + 1)) [
      | inl e ↦ (let l = got_low m a in omega (arith, l, e))
      | inr e ↦ t.received_first m n a (sym (at_one_other (s.so_far.rows + 1) n true s.so_far.is_sent e) ∙ b.0, b.1, b.2) (sym (old m p s.so_far.from a) ∙ c ∙ at_one_other (s.so_far.rows + 1) n p s.so_far.from e) (sym (old m q s.so_far.to a) ∙ d ∙ at_one_other (s.so_far.rows + 1) n q s.so_far.to e)
    ]

pub ordered_receiving : (s : State) (channel held : Lists) (p q m : ℕ) → Taking s channel held p q m → Front s channel held p q m → IsFlying s m → s.so_far.from m ≡ q → s.so_far.to m ≡ p → 0 < m → m ≤ s.so_far.rows → ((n : ℕ) → s.so_far.is_received n ≡ true → s.so_far.received_at n < s.so_far.size (s.so_far.to n)) → ((n : ℕ) → IsFlying s n → s.so_far.from n ≡ q → s.so_far.to n ≡ p → 0 < weigh (is_message n) (s.channel q p) + weigh (is_message n) (s.held q p)) → ((n : ℕ) → 0 < weigh (is_message n) (s.kept q p) → (s.so_far.is_received n ≡ true) × (s.so_far.from n ≡ q) × (s.so_far.to n ≡ p)) → Ordered s → Ordered (after_receiving s channel held p q m)
ordered_receiving s channel held p q m y f air at_q at_p pos low in_low flying kept t = record {
  received_order = got_order_new;
  received_first = got_first_new;
  held_rises = f.held_rises;
  channel_rises = f.channel_rises;
  kept_rises = falls_sending s.kept q p m pos (λ n w. let k = kept n w in t.received_first n m k.0 air (k.1 ∙ sym at_q) (k.2 ∙ sym at_p)) t.kept_rises;
  held_first = λ u v i n a b. t.held_first u v i n (let c = y.less_held i u v in omega (arith, a, c)) (let c = y.less n u v in omega (arith, b, c));
  received_since_rises = falls_sending s.received_since q p m pos (λ n w. t.heard_first q p n m w f.there) t.received_since_rises;
  heard_low = λ u v i a. elim (push_cases s.received_since q p m u v i a) [ inl w ↦ up_one (t.heard_low u v i w) | inr w ↦ (let e = w.2 in omega (arith, e, low)) ];
  heard_first = λ u v i n a b. elim (push_cases s.received_since q p m u v i a) [ inl w ↦ t.heard_first u v i n w (let c = y.less n u v in let d = y.less_held n u v in omega (arith, b, c, d)) | inr w ↦ rw w.2 (f.first n (rw (← w.0, ← w.1) b)) ];
  arrived_since_rises = falls_sending s.arrived_since q p m pos (λ n w. t.arrived_since_first q p n m w f.there) t.arrived_since_rises;
  met_low = λ u v i a. elim (push_cases s.arrived_since q p m u v i a) [ inl w ↦ up_one (t.met_low u v i w) | inr w ↦ (let e = w.2 in omega (arith, e, low)) ];
  arrived_since_first = λ u v i n a b. elim (push_cases s.arrived_since q p m u v i a) [ inl w ↦ t.arrived_since_first u v i n w (let c = y.less n u v in let d = y.less_held n u v in omega (arith, b, c, d)) | inr w ↦ rw w.2 (f.first n (rw (← w.0, ← w.1) b)) ];
}
  where
    still : (n : ℕ) → n ≢ m → IsFlying s n → s.so_far.from n ≡ q → s.so_far.to n ≡ p → 0 < weigh (is_message n) (channel q p) + weigh (is_message n) (held q p)
    still n d a b c =
        let w = flying n a b c in
        let x = y.messages n q p in
        facts (weigh (is_message n) (s.channel q p)) (weigh (is_message n) (s.held q p)) (weigh (is_message n) (channel q p)) (weigh (is_message n) (held q p)) d w x
      where
        facts : (a b c d : ℕ) → n ≢ m → 0 < a + b → c + d + (if q == q && p == p then one (m == n) else 0) ≡ a + b → 0 < c + d
        facts a b c d z w x = let e = is_other m n (λ i. z (sym i)) in grind (arith, nat_tests, w, x, e)

    not_yet : (n : ℕ) → n ≢ m → at_one m true s.so_far.is_received n ≡ true → s.so_far.is_received n ≡ true
    not_yet n d a = sym (at_one_other m n true s.so_far.is_received d) ∙ a

    got_order_new : (i n : ℕ) → at_one m true s.so_far.is_received i ≡ true → at_one m true s.so_far.is_received n ≡ true → s.so_far.from i ≡ s.so_far.from n → s.so_far.to i ≡ s.so_far.to n → at_one m (s.so_far.size p) s.so_far.received_at i < at_one m (s.so_far.size p) s.so_far.received_at n → i < n
    got_order_new i n a b c d e = elim (cases_eq i m) [
      | inl x ↦ elim (cases_eq n m) [
        | inl z ↦ (let e' : s.so_far.size p < s.so_far.size p = rw (x, z, at_one_here m (s.so_far.size p) s.so_far.received_at) at e in absurd (omega (arith, e')))
        | inr z ↦ (let e' : s.so_far.size p < s.so_far.received_at n = rw (x, at_one_here m (s.so_far.size p) s.so_far.received_at, at_one_other m n (s.so_far.size p) s.so_far.received_at z) at e in let w : s.so_far.received_at n < s.so_far.size p = rw (sym d ∙ ap s.so_far.to x ∙ at_p) at (in_low n (not_yet n z b)) in absurd (omega (arith, e', w)))
      ]
      | inr x ↦ elim (cases_eq n m) [
        | inl z ↦ rw z (t.received_first i m (not_yet i x a) air (c ∙ ap s.so_far.from z) (d ∙ ap s.so_far.to z))
        | inr z ↦ t.received_order i n (not_yet i x a) (not_yet n z b) c d (rw (at_one_other m i (s.so_far.size p) s.so_far.received_at x, at_one_other m n (s.so_far.size p) s.so_far.received_at z) at e)
      ]
    ]

    got_first_new : (i n : ℕ) → at_one m true s.so_far.is_received i ≡ true → (s.so_far.is_sent n ≡ true) × (at_one m true s.so_far.is_received n ≡ false) × (s.so_far.dropped n ≡ false) → s.so_far.from i ≡ s.so_far.from n → s.so_far.to i ≡ s.so_far.to n → i < n
    got_first_new i n a b c d =
        let z : n ≢ m = λ e. (let g : at_one m true s.so_far.is_received n ≡ true = rw e (at_one_here m true s.so_far.is_received) in let b1 = b.1 in cc (g, b1)) in
        let old : IsFlying s n = (b.0, sym (at_one_other m n true s.so_far.is_received z) ∙ b.1, b.2) in
        elim (cases_eq i m) [
          | inl x ↦ rw x (f.first n (still n z old (sym c ∙ ap s.so_far.from x ∙ at_q) (sym d ∙ ap s.so_far.to x ∙ at_p)))
          | inr x ↦ t.received_first i n (not_yet i x a) old c d
        ]

pub ordered_dropping : (s : State) (channel held : Lists) (p q m : ℕ) → Taking s channel held p q m → Front s channel held p q m → 0 < m → m ≤ s.so_far.rows → Ordered s → Ordered (after_dropping s channel held p q m)
ordered_dropping s channel held p q m y f pos low t = record {
  received_order = t.received_order;
  received_first = λ i n a b c d. t.received_first i n a (b.0, b.1, undropped n (n == m) b.2) c d;
  held_rises = f.held_rises;
  channel_rises = f.channel_rises;
  kept_rises = t.kept_rises;
  held_first = λ u v i n a b. t.held_first u v i n (let c = y.less_held i u v in omega (arith, a, c)) (let c = y.less n u v in omega (arith, b, c));
  received_since_rises = t.received_since_rises;
  heard_low = λ u v m a. up_one (t.heard_low u v m a);
  heard_first = λ u v i n a b. t.heard_first u v i n a (let c = y.less n u v in let d = y.less_held n u v in omega (arith, b, c, d));
  arrived_since_rises = falls_sending s.arrived_since q p m pos (λ n w. t.arrived_since_first q p n m w f.there) t.arrived_since_rises;
  met_low = λ u v i a. elim (push_cases s.arrived_since q p m u v i a) [ inl w ↦ up_one (t.met_low u v i w) | inr w ↦ (let e = w.2 in omega (arith, e, low)) ];
  arrived_since_first = λ u v i n a b. elim (push_cases s.arrived_since q p m u v i a) [ inl w ↦ t.arrived_since_first u v i n w (let c = y.less n u v in let d = y.less_held n u v in omega (arith, b, c, d)) | inr w ↦ rw w.2 (f.first n (rw (← w.0, ← w.1) b)) ];
}
  where
    undropped : (n : ℕ) (b : Bool) → (if b then true else s.so_far.dropped n) ≡ false → s.so_far.dropped n ≡ false
    undropped n true e = absurd (cc (e))
    undropped n false e = e

pub ordered_holding : (s : State) (p q m : ℕ) (rest : List Parcel) → s.channel q p ≡ App m ∷ rest → 0 < m → Ordered s → Ordered (after_holding s p q m rest)
ordered_holding s p q m rest e pos t = record {
  received_order = t.received_order;
  received_first = t.received_first;
  held_rises = falls_sending s.held q p m pos (λ n w. t.held_first q p n m w (weigh_front s.channel q p m rest e)) t.held_rises;
  channel_rises = falls_with_rest s.channel q p (App m) rest e t.channel_rises;
  kept_rises = t.kept_rises;
  held_first = λ u v i n a b. elim (push_cases s.held q p m u v i a) [ inl w ↦ t.held_first u v i n w (let c = pop_less s.channel q p m rest e u v n in omega (arith, b, c)) | inr w ↦ (let b' : 0 < weigh (is_message n) (with_rest s.channel q p rest q p) = rw (w.0, w.1) at b in rw w.2 (front_low s.channel q p m rest e (t.channel_rises q p) n b')) ];
  received_since_rises = t.received_since_rises;
  heard_low = t.heard_low;
  heard_first = λ u v i n a b. t.heard_first u v i n a (same u v n b);
  arrived_since_rises = t.arrived_since_rises;
  met_low = t.met_low;
  arrived_since_first = λ u v i n a b. t.arrived_since_first u v i n a (same u v n b);
}
  where
    same : (u v n : ℕ) → 0 < weigh (is_message n) (with_rest s.channel q p rest u v) + weigh (is_message n) (with_parcel s.held q p (App m) u v) → 0 < weigh (is_message n) (s.channel u v) + weigh (is_message n) (s.held u v)
    same u v n h = let a = weigh_with_rest (is_message n) s.channel q p (App m) rest e u v in let b = weigh_with_parcel (is_message n) s.held q p (App m) u v in omega (arith, a, b, h)

pub ordered_failing : (s : State) (p : ℕ) → Ordered s → Ordered (after_failing s p)
ordered_failing s p t = record {
  received_order = t.received_order;
  received_first = t.received_first;
  held_rises = t.held_rises;
  channel_rises = t.channel_rises;
  kept_rises = t.kept_rises;
  held_first = t.held_first;
  received_since_rises = t.received_since_rises;
  heard_low = λ u v m a. up_one (t.heard_low u v m a);
  heard_first = t.heard_first;
  arrived_since_rises = t.arrived_since_rises;
  met_low = λ u v m a. up_one (t.met_low u v m a);
  arrived_since_first = t.arrived_since_first;
}

pub ordered_refusal : (s : State) (p : ℕ) (v : Verb) (c : Cause) → Ordered s → Ordered (after_refusal s p v c)
ordered_refusal s p v c t = record {
  received_order = t.received_order;
  received_first = t.received_first;
  held_rises = t.held_rises;
  channel_rises = t.channel_rises;
  kept_rises = t.kept_rises;
  held_first = t.held_first;
  received_since_rises = t.received_since_rises;
  heard_low = λ u v m a. up_one (t.heard_low u v m a);
  heard_first = t.heard_first;
  arrived_since_rises = t.arrived_since_rises;
  met_low = λ u v m a. up_one (t.met_low u v m a);
  arrived_since_first = t.arrived_since_first;
}

pub ordered_began : (s : State) (p : ℕ) (roll : Bool) → Ordered s → Ordered (after_began s p roll)
ordered_began s p roll t = record {
  received_order = t.received_order;
  received_first = t.received_first;
  held_rises = t.held_rises;
  channel_rises = t.channel_rises;
  kept_rises = t.kept_rises;
  held_first = t.held_first;
  received_since_rises = t.received_since_rises;
  heard_low = λ u v m a. up_one (t.heard_low u v m a);
  heard_first = t.heard_first;
  arrived_since_rises = t.arrived_since_rises;
  met_low = λ u v m a. up_one (t.met_low u v m a);
  arrived_since_first = t.arrived_since_first;
}

pub ordered_noting : (s : State) (p q k l : ℕ) → Ordered s → Ordered (after_noting s p q k l)
ordered_noting s p q k l t = record {
  received_order = t.received_order;
  received_first = t.received_first;
  held_rises = t.held_rises;
  channel_rises = t.channel_rises;
  kept_rises = t.kept_rises;
  held_first = t.held_first;
  received_since_rises = t.received_since_rises;
  heard_low = t.heard_low;
  heard_first = t.heard_first;
  arrived_since_rises = t.arrived_since_rises;
  met_low = t.met_low;
  arrived_since_first = t.arrived_since_first;
}

pub ordered_joining_checkpoint : (s : State) (channel : Lists) (p k : ℕ) (is_first : Bool) (par lnk lbl : ℕ) → Joining s channel p k is_first par lnk lbl false → ((u v : ℕ) → falls 0 (channel u v) ≡ 0) → Ordered s → Ordered (after_joining_checkpoint s channel p k is_first par lnk)
ordered_joining_checkpoint s channel p k is_first par lnk lbl j rises t = record {
  received_order = t.received_order;
  received_first = t.received_first;
  held_rises = t.held_rises;
  channel_rises = falls_checkpoint_asks channel s.last_received p k rises;
  kept_rises = t.kept_rises;
  held_first = λ u v i n a b. t.held_first u v i n a (rw (same_weight_joins s channel p k is_first par lnk lbl false j (is_message n) (λ b. refl) u v) at b);
  received_since_rises = t.received_since_rises;
  heard_low = λ u v m a. up_one (t.heard_low u v m a);
  heard_first = λ u v i n a b. t.heard_first u v i n a (rw (same_weight_joins s channel p k is_first par lnk lbl false j (is_message n) (λ b. refl) u v) at b);
  arrived_since_rises = t.arrived_since_rises;
  met_low = λ u v m a. up_one (t.met_low u v m a);
  arrived_since_first = λ u v i n a b. t.arrived_since_first u v i n a (rw (same_weight_joins s channel p k is_first par lnk lbl false j (is_message n) (λ b. refl) u v) at b);
}

pub ordered_joining_rollback : (s : State) (channel : Lists) (p k : ℕ) (is_first : Bool) (par lnk lbl : ℕ) → Joining s channel p k is_first par lnk lbl true → ((u v : ℕ) → falls 0 (channel u v) ≡ 0) → Ordered s → Ordered (after_joining_rollback s channel p k is_first par lnk)
ordered_joining_rollback s channel p k is_first par lnk lbl j rises t = record {
  received_order = t.received_order;
  received_first = t.received_first;
  held_rises = t.held_rises;
  channel_rises = falls_rollback_asks channel s.first_sent s.last_sent p k rises;
  kept_rises = t.kept_rises;
  held_first = λ u v i n a b. t.held_first u v i n a (rw (same_weight_rolls s channel p k is_first par lnk lbl true j (is_message n) (λ b. refl) u v) at b);
  received_since_rises = t.received_since_rises;
  heard_low = λ u v m a. up_one (t.heard_low u v m a);
  heard_first = λ u v i n a b. t.heard_first u v i n a (rw (same_weight_rolls s channel p k is_first par lnk lbl true j (is_message n) (λ b. refl) u v) at b);
  arrived_since_rises = t.arrived_since_rises;
  met_low = λ u v m a. up_one (t.met_low u v m a);
  arrived_since_first = λ u v i n a b. t.arrived_since_first u v i n a (rw (same_weight_rolls s channel p k is_first par lnk lbl true j (is_message n) (λ b. refl) u v) at b);
}

pub ordered_replying : (s : State) (p q k l : ℕ) (w : Bool) (rest : List Parcel) → s.channel q p ≡ Ask k l ∷ rest → Ordered s → Ordered (after_replying s p q k w rest)
ordered_replying s p q k l w rest e t = record {
  received_order = t.received_order;
  received_first = t.received_first;
  held_rises = t.held_rises;
  channel_rises = falls_with_parcel (with_rest s.channel q p rest) p q (Reply k w) refl (falls_with_rest s.channel q p (Ask k l) rest e t.channel_rises);
  kept_rises = t.kept_rises;
  held_first = λ u v i n a b. t.held_first u v i n a (rw (weigh_same_parcel (is_message n) (with_rest s.channel q p rest) p q (Reply k w) refl u v, weigh_same_rest (is_message n) s.channel q p (Ask k l) rest e refl u v) at b);
  received_since_rises = t.received_since_rises;
  heard_low = t.heard_low;
  heard_first = λ u v i n a b. t.heard_first u v i n a (rw (weigh_same_parcel (is_message n) (with_rest s.channel q p rest) p q (Reply k w) refl u v, weigh_same_rest (is_message n) s.channel q p (Ask k l) rest e refl u v) at b);
  arrived_since_rises = t.arrived_since_rises;
  met_low = t.met_low;
  arrived_since_first = λ u v i n a b. t.arrived_since_first u v i n a (rw (weigh_same_parcel (is_message n) (with_rest s.channel q p rest) p q (Reply k w) refl u v, weigh_same_rest (is_message n) s.channel q p (Ask k l) rest e refl u v) at b);
}

pub ordered_unwilling : (s : State) (p q k l : ℕ) (cause : Cause) (rest : List Parcel) → s.channel q p ≡ Ask k l ∷ rest → Ordered s → Ordered (after_unwilling s p q k cause rest)
ordered_unwilling s p q k l cause rest e t = record {
  received_order = t.received_order;
  received_first = t.received_first;
  held_rises = t.held_rises;
  channel_rises = falls_with_parcel (with_rest s.channel q p rest) p q (Reply k false) refl (falls_with_rest s.channel q p (Ask k l) rest e t.channel_rises);
  kept_rises = t.kept_rises;
  held_first = λ u v i n a b. t.held_first u v i n a (rw (weigh_same_parcel (is_message n) (with_rest s.channel q p rest) p q (Reply k false) refl u v, weigh_same_rest (is_message n) s.channel q p (Ask k l) rest e refl u v) at b);
  received_since_rises = t.received_since_rises;
  heard_low = λ u v m a. up_one (t.heard_low u v m a);
  heard_first = λ u v i n a b. t.heard_first u v i n a (rw (weigh_same_parcel (is_message n) (with_rest s.channel q p rest) p q (Reply k false) refl u v, weigh_same_rest (is_message n) s.channel q p (Ask k l) rest e refl u v) at b);
  arrived_since_rises = t.arrived_since_rises;
  met_low = λ u v m a. up_one (t.met_low u v m a);
  arrived_since_first = λ u v i n a b. t.arrived_since_first u v i n a (rw (weigh_same_parcel (is_message n) (with_rest s.channel q p rest) p q (Reply k false) refl u v, weigh_same_rest (is_message n) s.channel q p (Ask k l) rest e refl u v) at b);
}

pub ordered_reply : (s : State) (p q k : ℕ) (w : Bool) (rest : List Parcel) → s.channel q p ≡ Reply k w ∷ rest → Ordered s → Ordered (after_reply s p q k w rest)
ordered_reply s p q k w rest e t = record {
  received_order = t.received_order;
  received_first = t.received_first;
  held_rises = t.held_rises;
  channel_rises = falls_with_rest s.channel q p (Reply k w) rest e t.channel_rises;
  kept_rises = t.kept_rises;
  held_first = λ u v i n a b. t.held_first u v i n a (rw (weigh_same_rest (is_message n) s.channel q p (Reply k w) rest e refl u v) at b);
  received_since_rises = t.received_since_rises;
  heard_low = t.heard_low;
  heard_first = λ u v i n a b. t.heard_first u v i n a (rw (weigh_same_rest (is_message n) s.channel q p (Reply k w) rest e refl u v) at b);
  arrived_since_rises = t.arrived_since_rises;
  met_low = t.met_low;
  arrived_since_first = λ u v i n a b. t.arrived_since_first u v i n a (rw (weigh_same_rest (is_message n) s.channel q p (Reply k w) rest e refl u v) at b);
}

pub ordered_decision : (s : State) (p q k : ℕ) (c : Bool) (rest : List Parcel) → s.channel q p ≡ Decide k c ∷ rest → Ordered s → Ordered (after_decision s p q rest)
ordered_decision s p q k c rest e t = record {
  received_order = t.received_order;
  received_first = t.received_first;
  held_rises = t.held_rises;
  channel_rises = falls_with_rest s.channel q p (Decide k c) rest e t.channel_rises;
  kept_rises = t.kept_rises;
  held_first = λ u v i n a b. t.held_first u v i n a (rw (weigh_same_rest (is_message n) s.channel q p (Decide k c) rest e refl u v) at b);
  received_since_rises = t.received_since_rises;
  heard_low = t.heard_low;
  heard_first = λ u v i n a b. t.heard_first u v i n a (rw (weigh_same_rest (is_message n) s.channel q p (Decide k c) rest e refl u v) at b);
  arrived_since_rises = t.arrived_since_rises;
  met_low = t.met_low;
  arrived_since_first = λ u v i n a b. t.arrived_since_first u v i n a (rw (weigh_same_rest (is_message n) s.channel q p (Decide k c) rest e refl u v) at b);
}

pub ordered_answering : (s : State) (p k : ℕ) → Ordered s → Ordered (after_answering s p k)
ordered_answering s p k t = record {
  received_order = t.received_order;
  received_first = t.received_first;
  held_rises = t.held_rises;
  channel_rises = falls_with_parcel s.channel p (s.parent k p) (Reply k (s.all_willing k p)) refl t.channel_rises;
  kept_rises = t.kept_rises;
  held_first = λ u v i n a b. t.held_first u v i n a (rw (weigh_same_parcel (is_message n) s.channel p (s.parent k p) (Reply k (s.all_willing k p)) refl u v) at b);
  received_since_rises = t.received_since_rises;
  heard_low = t.heard_low;
  heard_first = λ u v i n a b. t.heard_first u v i n a (rw (weigh_same_parcel (is_message n) s.channel p (s.parent k p) (Reply k (s.all_willing k p)) refl u v) at b);
  arrived_since_rises = t.arrived_since_rises;
  met_low = t.met_low;
  arrived_since_first = λ u v i n a b. t.arrived_since_first u v i n a (rw (weigh_same_parcel (is_message n) s.channel p (s.parent k p) (Reply k (s.all_willing k p)) refl u v) at b);
}

pub ordered_deciding : (s : State) (p k : ℕ) (c roll : Bool) → ((q p n : ℕ) → 0 < weigh (is_message n) (s.kept q p) → (s.so_far.is_received n ≡ true) × (s.so_far.from n ≡ q) × (s.so_far.to n ≡ p)) → ((q p n : ℕ) → 0 < weigh (is_message n) (s.channel q p) + weigh (is_message n) (s.held q p) → IsFlying s n × (s.so_far.from n ≡ q) × (s.so_far.to n ≡ p)) → Ordered s → Ordered (after_deciding_as c roll s p k)
ordered_deciding s p k c roll kept air t = go c roll
  where
    before_held : (q p m n : ℕ) → 0 < weigh (is_message m) (s.kept q p) → 0 < weigh (is_message n) (s.held q p) → m < n
    before_held q p m n a b = let x = kept q p m a in let y = air q p n (omega (arith, b)) in t.received_first m n x.0 y.0 (x.1 ∙ sym y.1) (x.2 ∙ sym y.2)

    before_chan : (q p m n : ℕ) → 0 < weigh (is_message m) (s.kept q p) → 0 < weigh (is_message n) (s.channel q p) → m < n
    before_chan q p m n a b = let x = kept q p m a in let y = air q p n (omega (arith, b)) in t.received_first m n x.0 y.0 (x.1 ∙ sym y.1) (x.2 ∙ sym y.2)

    test : ℕ → Bool
    test m = not (is_undone s.so_far k m)

    back_cases : (q p m : ℕ) → 0 < weigh (is_message m) (put_back test (s.so_far.joined k) s.kept s.held q p) → (0 < weigh (is_message m) (s.kept q p)) ⊎ (0 < weigh (is_message m) (s.held q p))
    back_cases q p m h = facts (s.so_far.joined k p) (test m) (weigh (is_message m) (s.kept q p)) (weigh (is_message m) (s.held q p)) (weigh (is_message m) (put_back test (s.so_far.joined k) s.kept s.held q p)) (weigh_put_back m test (s.so_far.joined k) s.kept s.held q p) h
      where
        facts : (a b : Bool) (x y z : ℕ) → z ≡ (if a then (if b then x + y else 0) else y) → 0 < z → (0 < x) ⊎ (0 < y)
        facts a b x y z e l = elim (cases_lt 0 x) [ inl i ↦ inl i | inr i ↦ inr (grind (arith, nat_tests, e, l, i)) ]

    held_first_after : (q p m n : ℕ) → 0 < weigh (is_message m) (put_back test (s.so_far.joined k) s.kept s.held q p) → 0 < weigh (is_message n) (s.channel q p) → m < n
    held_first_after q p m n a b = elim (back_cases q p m a) [ inl x ↦ before_chan q p m n x b | inr x ↦ t.held_first q p m n x b ]

    -- of what is emptied nothing is left; the others' lists stay
    first_after : (list : Lists) → ((q p m n : ℕ) → 0 < weigh (is_message m) (list q p) → 0 < weigh (is_message n) (s.channel q p) + weigh (is_message n) (s.held q p) → m < n) → (q p m n : ℕ) → 0 < weigh (is_message m) (emptied (s.so_far.joined k) list q p) → 0 < weigh (is_message n) (s.channel q p) + weigh (is_message n) (put_back test (s.so_far.joined k) s.kept s.held q p) → m < n
    first_after list h q p m n a b = facts (s.so_far.joined k p) (test n) _ _ _ _ _ _ (weigh_emptied m (s.so_far.joined k) list q p) (weigh_put_back n test (s.so_far.joined k) s.kept s.held q p) a b (h q p m n)
      where
        facts : (a b : Bool) (x y z u v w : ℕ) → x ≡ (if a then 0 else y) → z ≡ (if a then (if b then u + v else 0) else v) → 0 < x → 0 < w + z → (0 < y → 0 < w + v → m < n) → m < n
        facts true b x y z u v w e f l i g = absurd (omega (arith, e, l))
        facts false b x y z u v w e f l i g = g (omega (arith, e, l)) (omega (arith, f, i))

    low_after : (list : Lists) → ((q p m : ℕ) → 0 < weigh (is_message m) (list q p) → m ≤ s.so_far.rows) → (q p m : ℕ) → 0 < weigh (is_message m) (emptied (s.so_far.joined k) list q p) → m ≤ s.so_far.rows + 1
    low_after list h q p m a = up_one (h q p m (facts (s.so_far.joined k p) _ _ (weigh_emptied m (s.so_far.joined k) list q p) a))
      where
        facts : (a : Bool) (x y : ℕ) → x ≡ (if a then 0 else y) → 0 < x → 0 < y
        facts true x y e l = absurd (omega (arith, e, l))
        facts false x y e l = omega (arith, e, l)

    both : (a b : Bool) → (a && not b) ≡ true → (a ≡ true) × (b ≡ false)
    both true true e = absurd (cc (e))
    both true false e = (refl, refl)
    both false b e = absurd (cc (e))

    got_order_after : (m n : ℕ) → (s.so_far.is_received m && not (is_unreceived s.so_far k m)) ≡ true → (s.so_far.is_received n && not (is_unreceived s.so_far k n)) ≡ true → s.so_far.from m ≡ s.so_far.from n → s.so_far.to m ≡ s.so_far.to n → s.so_far.received_at m < s.so_far.received_at n → m < n
    got_order_after m n a b = t.received_order m n (both (s.so_far.is_received m) (is_unreceived s.so_far k m) a).0 (both (s.so_far.is_received n) (is_unreceived s.so_far k n) b).0

    -- what is received again was received later
    got_first_after : (m n : ℕ) → (s.so_far.is_received m && not (is_unreceived s.so_far k m)) ≡ true → ((s.so_far.is_sent n && not (is_undone s.so_far k n)) ≡ true) × ((s.so_far.is_received n && not (is_unreceived s.so_far k n)) ≡ false) × (s.so_far.dropped n ≡ false) → s.so_far.from m ≡ s.so_far.from n → s.so_far.to m ≡ s.so_far.to n → m < n
    got_first_after m n a b c d = at_test (s.so_far.is_received n) refl
      where
        x : (s.so_far.is_received m ≡ true) × (is_unreceived s.so_far k m ≡ false)
        x = both (s.so_far.is_received m) (is_unreceived s.so_far k m) a

        later : (j : ℕ → Bool) (f : ℕ → ℕ) (u v i i' : ℕ) → u ≡ v → (j u && nat_le (f u) i) ≡ false → (g : Bool) → g ≡ true → (g && not (j v && nat_le (f v) i')) ≡ false → i < i'
        later j f u v i i' e a g h b = let a' : (j v && nat_le (f v) i) ≡ false = rw (← e) a in plain (j v) (f v) i i' g a' h b
          where
            plain : (j : Bool) (f i i' : ℕ) (g : Bool) → (j && nat_le f i) ≡ false → g ≡ true → (g && not (j && nat_le f i')) ≡ false → i < i'
            plain j f i i' g a h b = grind (arith, nat_tests, a, h, b)

        at_test : (g : Bool) → s.so_far.is_received n ≡ g → m < n
        at_test true e = t.received_order m n x.0 e c d (later (s.so_far.joined k) s.so_far.permanent (s.so_far.to m) (s.so_far.to n) (s.so_far.received_at m) (s.so_far.received_at n) d x.1 (s.so_far.is_received n) e b.1)
        at_test false e = t.received_first m n x.0 ((both (s.so_far.is_sent n) (is_undone s.so_far k n) b.0).0, e, b.2) c d

    go : (c roll : Bool) → Ordered (after_deciding_as c roll s p k)
    go false roll = record {
      received_order = t.received_order;
      received_first = t.received_first;
      held_rises = t.held_rises;
      channel_rises = t.channel_rises;
      kept_rises = t.kept_rises;
      held_first = t.held_first;
      received_since_rises = t.received_since_rises;
      heard_low = λ u v m a. up_one (t.heard_low u v m a);
      heard_first = t.heard_first;
      arrived_since_rises = t.arrived_since_rises;
      met_low = λ u v m a. up_one (t.met_low u v m a);
      arrived_since_first = t.arrived_since_first;
    }
    go true false = record {
      received_order = t.received_order;
      received_first = t.received_first;
      held_rises = t.held_rises;
      channel_rises = t.channel_rises;
      kept_rises = falls_kept_where (λ m. nat_le (s.so_far.new k (s.so_far.to m)) (s.so_far.received_at m)) (s.so_far.joined k) s.kept t.kept_rises;
      held_first = t.held_first;
      received_since_rises = t.received_since_rises;
      heard_low = λ u v m a. up_one (t.heard_low u v m a);
      heard_first = t.heard_first;
      arrived_since_rises = t.arrived_since_rises;
      met_low = λ u v m a. up_one (t.met_low u v m a);
      arrived_since_first = t.arrived_since_first;
    }
    go true true = record {
      received_order = got_order_after;
      received_first = got_first_after;
      held_rises = falls_put_back test (s.so_far.joined k) s.kept s.held before_held t.kept_rises t.held_rises;
      channel_rises = t.channel_rises;
      kept_rises = falls_emptied (s.so_far.joined k) s.kept t.kept_rises;
      held_first = held_first_after;
      received_since_rises = falls_emptied (s.so_far.joined k) s.received_since t.received_since_rises;
      heard_low = low_after s.received_since t.heard_low;
      heard_first = first_after s.received_since t.heard_first;
      arrived_since_rises = falls_emptied (s.so_far.joined k) s.arrived_since t.arrived_since_rises;
      met_low = low_after s.arrived_since t.met_low;
      arrived_since_first = first_after s.arrived_since t.arrived_since_first;
    }

pub ordered_closing : (s : State) (p k : ℕ) (c : Bool) → Ordered s → Ordered (after_closing s p k c)
ordered_closing s p k c t = go c (s.so_far.is_rollback k)
  where
    told : (c : Bool) (n u v : ℕ) → weigh (is_message n) (with_decisions s.channel s.asked p k c u v) ≡ weigh (is_message n) (s.channel u v)
    told c n u v = grind (arith, nat_tests, weigh_decisions (is_message n) s.channel s.asked p k c u v)

    go : (c roll : Bool) → Ordered (if roll then after_closing_rollback s p k c else after_closing_checkpoint s p k c)
    go c true = record {
      received_order = t.received_order;
      received_first = t.received_first;
      held_rises = t.held_rises;
      channel_rises = falls_decisions s.channel s.asked p k c t.channel_rises;
      kept_rises = t.kept_rises;
      held_first = λ u v i n a b. t.held_first u v i n a (rw (told c n u v) at b);
      received_since_rises = t.received_since_rises;
      heard_low = λ u v m a. up_one (t.heard_low u v m a);
      heard_first = λ u v i n a b. t.heard_first u v i n a (rw (told c n u v) at b);
      arrived_since_rises = t.arrived_since_rises;
      met_low = λ u v m a. up_one (t.met_low u v m a);
      arrived_since_first = λ u v i n a b. t.arrived_since_first u v i n a (rw (told c n u v) at b);
    }
    go true false = record {
      received_order = t.received_order;
      received_first = t.received_first;
      held_rises = t.held_rises;
      channel_rises = falls_decisions s.channel s.asked p k true t.channel_rises;
      kept_rises = t.kept_rises;
      held_first = λ u v i n a b. t.held_first u v i n a (rw (told true n u v) at b);
      received_since_rises = t.received_since_rises;
      heard_low = λ u v m a. up_one (t.heard_low u v m a);
      heard_first = λ u v i n a b. t.heard_first u v i n a (rw (told true n u v) at b);
      arrived_since_rises = t.arrived_since_rises;
      met_low = λ u v m a. up_one (t.met_low u v m a);
      arrived_since_first = λ u v i n a b. t.arrived_since_first u v i n a (rw (told true n u v) at b);
    }
    go false false = record {
      received_order = t.received_order;
      received_first = t.received_first;
      held_rises = t.held_rises;
      channel_rises = falls_decisions s.channel s.asked p k false t.channel_rises;
      kept_rises = t.kept_rises;
      held_first = λ u v i n a b. t.held_first u v i n a (rw (told false n u v) at b);
      received_since_rises = t.received_since_rises;
      heard_low = λ u v m a. up_one (t.heard_low u v m a);
      heard_first = λ u v i n a b. t.heard_first u v i n a (rw (told false n u v) at b);
      arrived_since_rises = t.arrived_since_rises;
      met_low = λ u v m a. up_one (t.met_low u v m a);
      arrived_since_first = λ u v i n a b. t.arrived_since_first u v i n a (rw (told false n u v) at b);
    }
