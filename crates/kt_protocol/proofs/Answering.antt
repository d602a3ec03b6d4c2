-- What a reply that comes says, and what an answer leaves.
use Rattle.std.proofs.Common.{◌≡◌, ◌≢◌, ℕ, ◌+◌, ◌<◌, Bool, true, false, not, List, ◌∷◌, arith, sym, subst, inl, inr}
use Rattle.std.specs.Prelude.{◌==◌, ◌&&◌, ◌||◌}
use Rattle.std.proofs.lemmas.Bool.{cases_eq}
use Rattle.std.proofs.lemmas.Bool.Decides.{nat_tests}
use Rattle.kt_meaning.specs.Past.{at_pair}
use Rattle.kt_protocol.proofs.Invariant.{Invariant, is_unwilling_reply, is_reply, is_unwilling_member, one}
use Rattle.kt_protocol.proofs.Updates.{is_same}
use Rattle.kt_protocol.proofs.Weights.{weigh, weigh_cons, weigh_with_rest, weigh_with_parcel}
use Rattle.kt_protocol.specs.Parcels.{Parcel, Reply, with_rest, with_parcel}
use Rattle.kt_protocol.specs.States.{State}

pub reply_facts : (s : State) (q p k : ℕ) (w : Bool) (rest : List Parcel) → s.channel q p ≡ Reply k w ∷ rest → Invariant s → (s.awaits k p q ≡ true) × (s.so_far.joined k p ≡ true) × (s.so_far.is_decided k ≡ false)
reply_facts s q p k w rest e g =
    let a : weigh (is_reply k) (s.channel q p) ≡ one (k == k) + weigh (is_reply k) rest = subst (λ (l : List Parcel). weigh (is_reply k) l ≡ one (k == k) + weigh (is_reply k) rest) (sym e) (weigh_cons (is_reply k) (Reply k w) rest) in
    let b : s.awaits k p q ≡ true = grind (arith, nat_tests, a, g.asks.one_each k p q, is_same k) in
    let c = g.asks.awaits_joined k p q b in
    (b, c.0, c.1)

pub unwilling_reply_facts : (s : State) (q p k : ℕ) (rest : List Parcel) → s.channel q p ≡ Reply k false ∷ rest → Invariant s → s.so_far.has_unwilling k ≡ true
unwilling_reply_facts s q p k rest e g =
    let a : weigh (is_unwilling_reply k) (s.channel q p) ≡ one (k == k && true) + weigh (is_unwilling_reply k) rest = subst (λ (l : List Parcel). weigh (is_unwilling_reply k) l ≡ one (k == k && true) + weigh (is_unwilling_reply k) rest) (sym e) (weigh_cons (is_unwilling_reply k) (Reply k false) rest) in
    g.willing.unwilling_reply k q p (grind (arith, nat_tests, a, is_same k))

pub unwilling_member_taken : (s : State) (q p k : ℕ) (w : Bool) (rest : List Parcel) → s.channel q p ≡ Reply k w ∷ rest → Invariant s → (j u : ℕ) → at_pair k p (s.all_willing k p && w) s.all_willing j u ≡ false → s.so_far.has_unwilling j ≡ true
unwilling_member_taken s q p k true rest e g j u a = grind (arith, nat_tests, g.willing.unwilling_member j u)
unwilling_member_taken s q p k false rest e g j u a = grind (arith, nat_tests, g.willing.unwilling_member j u, unwilling_reply_facts s q p k rest e g)

pub not_answered : (s : State) (k p q : ℕ) → s.awaits k p q ≡ true → Invariant s → (not (s.has_answered k p) || p == s.initiator k) ≡ true
not_answered s k p q a g = grind (arith, nat_tests, g.asks.answered_awaits k p q)

pub somewhere_taken : (s : State) (q p k : ℕ) (w : Bool) (rest : List Parcel) → s.channel q p ≡ Reply k w ∷ rest → Invariant s → (j : ℕ) → s.so_far.has_unwilling j ≡ true → s.so_far.is_decided j ≡ false → (u : ℕ) × (v : ℕ) × (0 < weigh (is_unwilling_reply j) (with_rest s.channel q p rest u v) + one (s.so_far.joined j u && not (at_pair k p (s.all_willing k p && w) s.all_willing j u) && (not (s.has_answered j u) || u == s.initiator j)))
somewhere_taken s q p k true rest e g j a b = let z = g.willing.somewhere j a b in (z.0, z.1, grind (arith, nat_tests, weigh_with_rest (is_unwilling_reply j) s.channel q p (Reply k true) rest e z.0 z.1, z.2))
somewhere_taken s q p k false rest e g j a b = elim (cases_eq j k) [
  | inl c ↦ (p, q, sour_now j c)
  | inr n ↦ (let z = g.willing.somewhere j a b in (z.0, z.1, old j n z.0 z.1 z.2))
]
  where
    sour_now : (j : ℕ) → j ≡ k → 0 < weigh (is_unwilling_reply j) (with_rest s.channel q p rest p q) + one (s.so_far.joined j p && not (at_pair k p (s.all_willing k p && false) s.all_willing j p) && (not (s.has_answered j p) || p == s.initiator j))
    sour_now j c = let f = reply_facts s q p k false rest e g in let n = not_answered s k p q f.0 g in let f1 = f.1 in grind (arith, nat_tests, n, f1)

    old : (j : ℕ) → j ≢ k → (u v : ℕ) → 0 < weigh (is_unwilling_reply j) (s.channel u v) + one (is_unwilling_member s j u) → 0 < weigh (is_unwilling_reply j) (with_rest s.channel q p rest u v) + one (s.so_far.joined j u && not (at_pair k p (s.all_willing k p && false) s.all_willing j u) && (not (s.has_answered j u) || u == s.initiator j))
    old j n u v h = grind (arith, nat_tests, weigh_with_rest (is_unwilling_reply j) s.channel q p (Reply k false) rest e u v, h)

pub answers_somewhere : (s : State) (p k : ℕ) → Invariant s → (j : ℕ) → s.so_far.has_unwilling j ≡ true → s.so_far.is_decided j ≡ false → (b : Bool) → s.all_willing k p ≡ b → (u : ℕ) × (v : ℕ) × (0 < weigh (is_unwilling_reply j) (with_parcel s.channel p (s.parent k p) (Reply k b) u v) + one (s.so_far.joined j u && not (s.all_willing j u) && (not (at_pair k p true s.has_answered j u) || u == s.initiator j)))
answers_somewhere s p k g j a b true e = let z = g.willing.somewhere j a b in (z.0, z.1, grind (arith, nat_tests, weigh_with_parcel (is_unwilling_reply j) s.channel p (s.parent k p) (Reply k true) z.0 z.1, z.2, e))
answers_somewhere s p k g j a b false e = elim (cases_eq j k) [
  | inl c ↦ (p, s.parent k p, now c)
  | inr n ↦ (let z = g.willing.somewhere j a b in (z.0, z.1, old n z.0 z.1 z.2))
]
  where
    now : j ≡ k → 0 < weigh (is_unwilling_reply j) (with_parcel s.channel p (s.parent k p) (Reply k false) p (s.parent k p)) + one (s.so_far.joined j p && not (s.all_willing j p) && (not (at_pair k p true s.has_answered j p) || p == s.initiator j))
    now c = grind (arith, nat_tests, weigh_with_parcel (is_unwilling_reply j) s.channel p (s.parent k p) (Reply k false) p (s.parent k p))

    old : j ≢ k → (u v : ℕ) → 0 < weigh (is_unwilling_reply j) (s.channel u v) + one (is_unwilling_member s j u) → 0 < weigh (is_unwilling_reply j) (with_parcel s.channel p (s.parent k p) (Reply k false) u v) + one (s.so_far.joined j u && not (s.all_willing j u) && (not (at_pair k p true s.has_answered j u) || u == s.initiator j))
    old n u v h = grind (arith, nat_tests, weigh_with_parcel (is_unwilling_reply j) s.channel p (s.parent k p) (Reply k false) u v, h)
