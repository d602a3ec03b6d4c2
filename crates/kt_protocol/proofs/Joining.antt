-- A new member of an instance: what it asks, and who waits for whom.
use Rattle.std.proofs.Common.{◌≡◌, ◌≢◌, ℕ, ◌+◌, ◌≤◌, ◌<◌, Bool, true, false, not, arith, refl, sym, ap, subst, inl, inr}
use Rattle.std.specs.Prelude.{◌==◌, ◌&&◌, if◌then◌else◌}
use Rattle.std.proofs.lemmas.Bool.{cases_eq}
use Rattle.std.proofs.lemmas.Bool.Decides.{nat_tests}
use Rattle.kt_meaning.specs.Past.{at_pair}
use Rattle.kt_protocol.specs.Parcels.{Ask, Parcel, Lists}
use Rattle.kt_protocol.specs.States.{State}
use Rattle.kt_protocol.proofs.Invariant.{Invariant, is_message, is_ask, is_child, is_reply, one}
use Rattle.kt_protocol.proofs.Updates.{is_other, is_same}
use Rattle.kt_protocol.proofs.Weights.{behind, weigh}

-- p takes part in k: by its own beginning (`is_first`), or by the ask of par that was taken out of the channels
pub record Joining (s : State) (channel : Lists) (p k : ℕ) (is_first : Bool) (par lnk lbl : ℕ) (roll : Bool) : Type 0 where
  pub closed : s.so_far.open_in p ≡ 0
  pub positive : 0 < k
  pub undecided : s.so_far.is_decided k ≡ false
  pub begun : k ≤ s.instances
  pub kind : s.so_far.is_rollback k ≡ roll
  pub pop : (f : Parcel → ℕ) (u v : ℕ) → weigh f (channel u v) + (if not is_first && u == par && v == p then f (Ask k lbl) else 0) ≡ weigh f (s.channel u v)
  pub front : (u v : ℕ) → behind (channel u v) ≡ 0
  pub initial : is_first ≡ true → (p ≡ s.initiator k) × ((q : ℕ) → s.so_far.joined k q ≡ false)
  pub member : is_first ≡ false → (s.so_far.joined k par ≡ true) × (s.so_far.joined k (s.initiator k) ≡ true) × (s.has_answered k (s.initiator k) ≡ true) × (s.awaits k par p ≡ true)

pub record Label (s : State) (p k : ℕ) (is_first : Bool) (par lnk : ℕ) : Type 0 where
  pub label : is_first ≡ false → (s.so_far.is_received lnk ≡ true) × (s.so_far.from lnk ≡ p) × (s.so_far.to lnk ≡ par) × (s.so_far.permanent p ≤ s.so_far.sent_at lnk) × (s.so_far.received_at lnk < s.so_far.new k par)

pub record RollbackLabel (s : State) (p k : ℕ) (is_first : Bool) (par lnk : ℕ) : Type 0 where
  pub label : is_first ≡ false → (s.so_far.is_received lnk ≡ true) × (s.so_far.from lnk ≡ par) × (s.so_far.to lnk ≡ p) × (s.so_far.permanent par ≤ s.so_far.sent_at lnk)
  pub noted : is_first ≡ false → s.noted k p par ≡ true
  pub clear : is_first ≡ false → (n : ℕ) → weigh (is_message n) (s.channel par p) ≡ 0

pub no_asks : (s : State) (k p q : ℕ) → Invariant s → s.so_far.joined k p ≡ false → s.awaits k p q ≡ false
no_asks s k p q g h = at_test (s.awaits k p q) refl
  where
    at_test : (b : Bool) → s.awaits k p q ≡ b → s.awaits k p q ≡ false
    at_test false e = e
    at_test true e = grind (arith, nat_tests, g.asks.awaits_joined k p q e)

-- p joins, and puts asks with these labels to those that pass the test
module _ (s : State) (channel asking : Lists) (p k : ℕ) (is_first : Bool) (par lnk lbl : ℕ) (roll : Bool) (test : ℕ → Bool) (label : ℕ → ℕ) (j : Joining s channel p k is_first par lnk lbl roll)
    (asks : (f : Parcel → ℕ) (u v : ℕ) → weigh f (asking u v) ≡ weigh f (channel u v) + (if u == p && test v then f (Ask k (label v)) else 0)) where
  -- what is no ask weighs as before
  pub weigh_no_ask : (f : Parcel → ℕ) → ((b : ℕ) → f (Ask k b) ≡ 0) → (u v : ℕ) → weigh f (asking u v) ≡ weigh f (s.channel u v)
  weigh_no_ask f z u v = grind (arith, nat_tests, asks f u v, j.pop f u v, z lbl, z (label v))

  module _ (out : s.so_far.joined k p ≡ false) (g : Invariant s) where
    -- nothing of k is at p before
    nothing : (v : ℕ) → (weigh (is_ask k) (s.channel p v) ≡ 0) × (is_child s k p v ≡ false) × (weigh (is_reply k) (s.channel v p) ≡ 0)
    nothing v = let a = no_asks s k p v g out in grind (arith, nat_tests, g.asks.one_each k p v, a)

    other_parent : is_first ≡ false → par ≢ p
    other_parent e f = let a = (j.member e).0 in let b : s.so_far.joined k p ≡ true = subst (λ (x : ℕ). s.so_far.joined k x ≡ true) f a in absurd (cc (b, out))

    here : (v : ℕ) → weigh (is_ask k) (asking p v) + one (at_pair k p true s.so_far.joined k v && at_pair k p par s.parent k v == p && not (at_pair k p is_first s.has_answered k v)) + weigh (is_reply k) (asking v p) ≡ one (test v)
    here v =
        let n = nothing v in
        let n0 = n.0 in let n1 = n.1 in let n2 = n.2 in
        let r = weigh_no_ask (is_reply k) (λ b. refl) v p in
        let a = asks (is_ask k) p v in
        let b = j.pop (is_ask k) p v in
        grind (arith, nat_tests, n0, n1, n2, r, a, b, other_parent, is_same k, is_same p)

    elsewhere : (u v : ℕ) → u ≢ p → weigh (is_ask k) (asking u v) + one (at_pair k p true s.so_far.joined k v && at_pair k p par s.parent k v == u && not (at_pair k p is_first s.has_answered k v)) + weigh (is_reply k) (asking v u) ≡ one (s.awaits k u v)
    elsewhere u v n =
        let r = weigh_no_ask (is_reply k) (λ b. refl) v u in
        let a = asks (is_ask k) u v in
        let b = j.pop (is_ask k) u v in
        grind (arith, nat_tests, r, a, b, g.asks.one_each k u v, out, is_same k)

    of_another : (i u v : ℕ) → i ≢ k → weigh (is_ask i) (asking u v) + one (at_pair k p true s.so_far.joined i v && at_pair k p par s.parent i v == u && not (at_pair k p is_first s.has_answered i v)) + weigh (is_reply i) (asking v u) ≡ one (s.awaits i u v)
    of_another i u v n =
        let o = is_other k i (λ e. n (sym e)) in
        rw (weigh_no_ask (is_ask i) (λ b. ap one o) u v, weigh_no_ask (is_reply i) (λ b. refl) v u, is_other i k n) (g.asks.one_each i u v)

    -- each process that is awaited has an ask, a reply or an answer to come
    pub one_each_joins : (i u v : ℕ) →
        weigh (is_ask i) (asking u v) + one (at_pair k p true s.so_far.joined i v && at_pair k p par s.parent i v == u && not (at_pair k p is_first s.has_answered i v)) + weigh (is_reply i) (asking v u) ≡ one (if i == k && u == p then test v else s.awaits i u v)
    one_each_joins i u v = elim (cases_eq i k) [
      | inl e ↦ rw (e, is_same k) (elim (cases_eq u p) [
        | inl f ↦ rw (f, is_same p) (rw (is_same k) at (here v))
        | inr n ↦ rw (is_other u p n) (rw (is_same k) at (elsewhere u v n))
      ])
      | inr n ↦ rw (is_other i k n) (rw (is_other i k n) at (of_another i u v n))
    ]
