-- What an ask in front says, and what a reply to it leaves.
use Rattle.std.proofs.Common.{◌≡◌, ◌≢◌, ℕ, ◌+◌, ◌≤◌, ◌<◌, Bool, true, false, List, ◌∷◌, arith, sym, subst, inl, inr, ◌⊎◌, ◌∙◌}
use Rattle.std.specs.Prelude.{◌==◌, ◌&&◌}
use Rattle.std.proofs.lemmas.Bool.{cases_eq}
use Rattle.std.proofs.lemmas.Bool.Decides.{nat_tests}
use Rattle.kt_meaning.specs.Past.{at_one}
use Rattle.kt_protocol.proofs.Askers.{no_app}
use Rattle.kt_protocol.proofs.Invariant.{Invariant, is_message, is_ask, is_ask_with, is_unwilling_reply, is_unwilling_member, one}
use Rattle.kt_protocol.proofs.Updates.{at_one_other, is_same}
use Rattle.kt_protocol.proofs.Weights.{behind, front_ask, weigh, weigh_cons, weigh_swapped}
use Rattle.kt_protocol.specs.Parcels.{Ask, Parcel, Reply, with_rest, with_parcel}
use Rattle.kt_protocol.specs.States.{State}

-- what an ask at the front says
pub ask_facts : (s : State) (q p k l : ℕ) (rest : List Parcel) → s.channel q p ≡ Ask k l ∷ rest → Invariant s → (s.awaits k q p ≡ true) × (s.so_far.joined k q ≡ true) × (s.so_far.is_decided k ≡ false) × (0 < k) × (k ≤ s.instances)
ask_facts s q p k l rest e g =
    let a : weigh (is_ask k) (s.channel q p) ≡ one (k == k) + weigh (is_ask k) rest = subst (λ (l : List Parcel). weigh (is_ask k) l ≡ one (k == k) + weigh (is_ask k) rest) (sym e) (weigh_cons (is_ask k) (Ask k l) rest) in
    let b : s.awaits k q p ≡ true = grind (arith, nat_tests, a, g.asks.one_each k q p, is_same k) in
    let c = g.asks.awaits_joined k q p b in
    let d = g.positions.joined_instance k q c.0 in
    (b, c.0, c.1, d.0, d.1)

pub ask_label_facts : (s : State) (q p k l : ℕ) (rest : List Parcel) → s.channel q p ≡ Ask k l ∷ rest → Invariant s → (s.so_far.is_rollback k ≡ false → (s.so_far.is_received l ≡ true) × (s.so_far.to l ≡ q) × (s.so_far.from l ≡ p) × (s.so_far.received_at l < s.so_far.new k q)) × (s.so_far.is_rollback k ≡ true → l ≡ s.last_sent q p)
ask_label_facts s q p k l rest e g =
    let a : weigh (is_ask_with k l) (s.channel q p) ≡ one (k == k && l == l) + weigh (is_ask_with k l) rest = subst (λ (x : List Parcel). weigh (is_ask_with k l) x ≡ one (k == k && l == l) + weigh (is_ask_with k l) rest) (sym e) (weigh_cons (is_ask_with k l) (Ask k l) rest) in
    g.asks.ask_label k l q p (grind (arith, nat_tests, a, is_same k, is_same l))

-- no message is in transit where an ask is in front
pub no_message : (s : State) (q p k l : ℕ) (rest : List Parcel) → s.channel q p ≡ Ask k l ∷ rest → Invariant s → (n : ℕ) → weigh (is_message n) (s.channel q p) ≡ 0
no_message s q p k l rest e g n =
    let a = front_ask k l rest (subst (λ (x : List Parcel). behind x ≡ 0) e (g.messages.messages_first q p)) in
    let b = no_app n rest a in
    let c : weigh (is_message n) (s.channel q p) ≡ 0 + weigh (is_message n) rest = subst (λ (x : List Parcel). weigh (is_message n) x ≡ 0 + weigh (is_message n) rest) (sym e) (weigh_cons (is_message n) (Ask k l) rest) in
    omega (arith, b, c)

pub undone_swapped : (s : State) (p q k l : ℕ) (w : Bool) (rest : List Parcel) → s.channel q p ≡ Ask k l ∷ rest → Invariant s → (i n : ℕ) →
    (i ≡ k → s.so_far.from n ≡ q → s.so_far.to n ≡ p → ((s.so_far.joined k p ≡ true) × (s.noted k p q ≡ true)) ⊎ ((s.so_far.is_received n ≡ false) × (weigh (is_message n) (s.held q p) ≡ 0))) →
    (0 < weigh (is_ask i) (s.channel (s.so_far.from n) (s.so_far.to n))) ⊎ ((weigh (is_message n) (s.channel (s.so_far.from n) (s.so_far.to n)) ≡ 0) × (((s.so_far.joined i (s.so_far.to n) ≡ true) × (s.noted i (s.so_far.to n) (s.so_far.from n) ≡ true)) ⊎ ((s.so_far.is_received n ≡ false) × (weigh (is_message n) (s.held (s.so_far.from n) (s.so_far.to n)) ≡ 0)))) →
    (0 < weigh (is_ask i) (with_parcel (with_rest s.channel q p rest) p q (Reply k w) (s.so_far.from n) (s.so_far.to n))) ⊎ ((weigh (is_message n) (with_parcel (with_rest s.channel q p rest) p q (Reply k w) (s.so_far.from n) (s.so_far.to n)) ≡ 0) × (((s.so_far.joined i (s.so_far.to n) ≡ true) × (s.noted i (s.so_far.to n) (s.so_far.from n) ≡ true)) ⊎ ((s.so_far.is_received n ≡ false) × (weigh (is_message n) (s.held (s.so_far.from n) (s.so_far.to n)) ≡ 0))))
undone_swapped s p q k l w rest e g i n safe h =
    let x = weigh_swapped (is_ask i) s.channel q p (Ask k l) (Reply k w) rest e (s.so_far.from n) (s.so_far.to n) in
    let y = weigh_swapped (is_message n) s.channel q p (Ask k l) (Reply k w) rest e (s.so_far.from n) (s.so_far.to n) in
    elim h [
      | inl o ↦ elim (cases_eq i k) [
        | inl a ↦ elim (cases_eq (s.so_far.from n) q) [
          | inl b ↦ elim (cases_eq (s.so_far.to n) p) [
            | inl c ↦ inr (let z = no_message s q p k l rest e g n in let z' : weigh (is_message n) (s.channel (s.so_far.from n) (s.so_far.to n)) ≡ 0 = rw (b, c) z in grind (arith, nat_tests, y, z'), rw (a, b, c) (safe a b c))
            | inr c ↦ inl (grind (arith, nat_tests, x, o))
          ]
          | inr b ↦ inl (grind (arith, nat_tests, x, o))
        ]
        | inr a ↦ inl (grind (arith, nat_tests, x, o))
      ]
      | inr o ↦ inr (grind (arith, nat_tests, y, o.0), o.1)
    ]

pub unwilling_before : (s : State) (p q k l : ℕ) (rest : List Parcel) → s.channel q p ≡ Ask k l ∷ rest → Invariant s → (j : ℕ) → j ≢ k → at_one k true s.so_far.has_unwilling j ≡ true → s.so_far.is_decided j ≡ false → (u : ℕ) × (v : ℕ) × (0 < weigh (is_unwilling_reply j) (with_parcel (with_rest s.channel q p rest) p q (Reply k false) u v) + one (is_unwilling_member s j u))
unwilling_before s p q k l rest e g j n a b = let z = g.willing.somewhere j (sym (at_one_other k j true s.so_far.has_unwilling n) ∙ a) b in (z.0, z.1, grind (arith, nat_tests, weigh_swapped (is_unwilling_reply j) s.channel q p (Ask k l) (Reply k false) rest e z.0 z.1, z.2))
