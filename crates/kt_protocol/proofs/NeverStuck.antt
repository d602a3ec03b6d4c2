-- Where nothing can be taken, nothing is left.
use Rattle.std.proofs.Common.{◌≡◌, ◌≢◌, ℕ, zero, suc, ◌+◌, ◌≤◌, ◌<◌, Bool, true, false, not, List, [], ◌∷◌, refl, arith, ap, inl, inr, ◌⊎◌, ◌∙◌}
use Rattle.std.specs.Prelude.{◌==◌, ◌&&◌, ◌||◌, if◌then◌else◌}
use Rattle.std.proofs.lemmas.Bool.{cases_eq}
use Rattle.std.proofs.lemmas.Bool.Decides.{nat_tests}
use Rattle.kt_protocol.proofs.Replying.{ask_facts}
use Rattle.kt_protocol.proofs.Invariant.{Invariant, is_message, is_ask, is_child, is_reply, one}
use Rattle.kt_protocol.proofs.Ordered.{any_other, weigh_front}
use Rattle.kt_protocol.proofs.Updates.{is_other, is_same}
use Rattle.kt_protocol.proofs.Answering.{reply_facts}
use Rattle.kt_protocol.proofs.Waiting.{is_told}
use Rattle.kt_protocol.proofs.Weights.{weigh, weigh_cons, weigh_nil}
use Rattle.kt_protocol.proofs.WholeSteps.{AfterStep, in_transit_facts}
use Rattle.kt_protocol.specs.AtRest.{IsAtRest}
use Rattle.kt_protocol.specs.Parcels.{App, Ask, Decide, Parcel, Reply, has_parcel}
use Rattle.kt_protocol.specs.States.{State, Take, can_take, is_ready}
use Rattle.kt_protocol.specs.Steps.{after_step, after_front, after_take}

one_true : (a b : Bool) (x y : ℕ) → x ≡ 0 → y ≡ 0 → x + one b + y ≡ one a → a ≡ true → b ≡ true
one_true a b x y e f h i = grind (arith, nat_tests, e, f, h, i)

three : (a : Bool) (b c : ℕ) (d : Bool) → (a && b == c && not d) ≡ true → (a ≡ true) × (b ≡ c) × (d ≡ false)
three a b c d e = grind (arith, nat_tests, e)

or_true : (a b : Bool) → b ≡ false → (a || not b) ≡ true
or_true true b e = refl
or_true false b e = rw e refl

open_now : (w a k : ℕ) → w ≡ 0 → 0 < w + one (a == k) → a ≡ k
open_now w a k e h = elim (cases_eq a k) [ inl x ↦ x | inr n ↦ (let y = rw (is_other a k n) at h in absurd (omega (arith, e, y))) ]

-- where no channel has a parcel
module _ (s : State) (g : Invariant s) (h : AfterStep s) (none : (p q : ℕ) → s.channel p q ≡ []) where
  no_weight : (f : Parcel → ℕ) (p q : ℕ) → weigh f (s.channel p q) ≡ 0
  no_weight f p q = ap (weigh f) (none p q) ∙ weigh_nil f

  -- a member that has to answer awaits one that joined later
  stuck : (n k q : ℕ) → s.so_far.rows ≤ s.so_far.joined_at k q + n → s.so_far.joined k q ≡ true → s.so_far.is_decided k ≡ false → (q == s.initiator k || not (s.has_answered k q)) ≡ true → ⊥
  stuck zero k q l j d a = let r = g.asks.joined_low k q j in omega (arith, l, r)
  stuck (suc n) k q l j d a =
      let w = (h.waiting k q).waits j d a in
      let c = three (s.so_far.joined k w.0) (s.parent k w.0) q (s.has_answered k w.0) (one_true (s.awaits k q w.0) (is_child s k q w.0) _ _ (no_weight (is_ask k) q w.0) (no_weight (is_reply k) w.0 q) (g.asks.one_each k q w.0) w.1) in
      let i = g.positions.joined_instance k q j in
      let ne : w.0 ≢ s.initiator k = λ e. (let y : s.has_answered k (s.initiator k) ≡ false = rw e at c.2 in let z = i.3 in absurd (cc (y, z))) in
      let t = (g.asks.parent_first k w.0 c.0 ne).1 in
      let t' : s.so_far.joined_at k q < s.so_far.joined_at k w.0 = rw c.1 at t in
      stuck n k w.0 (omega (arith, l, t')) c.0 d (or_true (w.0 == s.initiator k) (s.has_answered k w.0) c.2)

  decided : (k : ℕ) → 0 < k → k ≤ s.instances → s.so_far.is_decided k ≡ true
  decided k pos low = at_test (s.so_far.is_decided k) refl
    where
      at_test : (b : Bool) → s.so_far.is_decided k ≡ b → s.so_far.is_decided k ≡ true
      at_test true e = e
      at_test false e = absurd (stuck s.so_far.rows k (s.initiator k) (omega arith) (h.always.begun k pos low) e (rw (is_same (s.initiator k)) refl))

  -- a member that is open has an earlier one that is
  shut : (n k q : ℕ) → s.so_far.joined_at k q < n → 0 < k → s.so_far.open_in q ≡ k → ⊥
  shut zero k q l pos o = omega (arith, l)
  shut (suc n) k q l pos o =
      let j = g.positions.open_joined k q pos o in
      let x = (h.waiting k q).told pos o (decided k pos (g.positions.joined_instance k q j).1) in
      let t = (g.asks.parent_first k q j x.0).1 in
      shut n k (s.parent k q) (omega (arith, t, l)) pos (open_now _ _ k (no_weight (is_told k) (s.parent k q) q) x.1)

  closed : (p : ℕ) → s.so_far.open_in p ≡ 0
  closed p = elim (cases_eq (s.so_far.open_in p) 0) [
    | inl e ↦ e
    | inr n ↦ absurd (shut (suc (s.so_far.joined_at (s.so_far.open_in p) p)) (s.so_far.open_in p) p (omega arith) (omega (arith, n)) refl)
  ]

empty_of : (l : List Parcel) → has_parcel l ≡ false → l ≡ []
empty_of [] e = refl
empty_of (x ∷ xs) e = absurd (cc (e))

neither : (a b : Bool) → (a || b) ≡ false → (a ≡ false) × (b ≡ false)
neither true b e = absurd (cc (e))
neither false b e = (refl, e)

-- parcels stand between processes below the bound alone
module _ (s : State) (g : Invariant s) (h : AfterStep s) where
  abbrev Below : ℕ → ℕ → Type 0
  Below u v = (u < s.processes) × (v < s.processes)

  asked_below : (k u v : ℕ) → s.asked k u v ≡ true → Below u v
  asked_below k u v a = let x = h.always.counted.asked_low k u v a in (x.1, x.2)

  air_below : (u v m : ℕ) → 0 < weigh (is_message m) (s.channel u v) + weigh (is_message m) (s.held u v) → Below u v
  air_below u v m w = let x = in_transit_facts s g u v m w in let y = g.messages.sent_low m x.0.0 in (rw x.1 at y.3, rw x.2 at y.4)

  chan_below : (u v : ℕ) (l : List Parcel) → s.channel u v ≡ l → has_parcel l ≡ true → Below u v
  chan_below u v [] e a = absurd (cc (a))
  chan_below u v (App m ∷ rest) e a = let w = weigh_front s.channel u v m rest e in air_below u v m (omega (arith, w))
  chan_below u v (Ask k l ∷ rest) e a = asked_below k u v (h.always.asked.asked_awaits k u v (ask_facts s u v k l rest e g).0)
  chan_below u v (Reply k w ∷ rest) e a = let x = asked_below k v u (h.always.asked.asked_awaits k v u (reply_facts s u v k w rest e g).0) in (x.1, x.0)
  chan_below u v (Decide k c ∷ rest) e a = asked_below k u v (h.always.tells.told_is k u v (front k c rest (s.channel u v) e)).0
    where
      front : (k : ℕ) (c : Bool) (rest l : List Parcel) → l ≡ Decide k c ∷ rest → 0 < weigh (is_told k) l
      front k c rest l e = rw e (let w = weigh_cons (is_told k) (Decide k c) rest in rw w (rw (is_same k) (omega arith)))

  held_below : (u v : ℕ) (l : List Parcel) → s.held u v ≡ l → has_parcel l ≡ true → Below u v
  held_below u v [] e a = absurd (cc (a))
  held_below u v (App m ∷ rest) e a = let w = weigh_front s.held u v m rest e in air_below u v m (omega (arith, w))
  held_below u v (Ask k l ∷ rest) e a = absurd (let w = weigh_cons any_other (Ask k l) rest in let z : weigh any_other (Ask k l ∷ rest) ≡ 0 = rw e at (h.always.tells.held_apps u v) in omega (arith, w, z))
  held_below u v (Reply k l ∷ rest) e a = absurd (let w = weigh_cons any_other (Reply k l) rest in let z : weigh any_other (Reply k l ∷ rest) ≡ 0 = rw e at (h.always.tells.held_apps u v) in omega (arith, w, z))
  held_below u v (Decide k l ∷ rest) e a = absurd (let w = weigh_cons any_other (Decide k l) rest in let z : weigh any_other (Decide k l ∷ rest) ≡ 0 = rw e at (h.always.tells.held_apps u v) in omega (arith, w, z))

  pub take_below : (p q : ℕ) → can_take s p q ≡ true → (p < s.processes) × (q < s.processes)
  take_below p q e = elim (either (has_parcel (s.channel q p)) (is_ready s p) (has_parcel (s.held q p)) e) [
    | inl a ↦ (let x = chan_below q p (s.channel q p) refl a in (x.1, x.0))
    | inr a ↦ (let x = held_below q p (s.held q p) refl a in (x.1, x.0))
  ]
    where
      either : (a b c : Bool) → (a || not b && c) ≡ true → (a ≡ true) ⊎ (c ≡ true)
      either true b c e = inl refl
      either false true c e = absurd (cc (e))
      either false false c e = inr e

pub none_below : (s : State) → Invariant s → AfterStep s → ((p q : ℕ) → p < s.processes → q < s.processes → can_take s p q ≡ false) → (p q : ℕ) → can_take s p q ≡ false
none_below s g h n p q = at_test (can_take s p q) refl
  where
    at_test : (b : Bool) → can_take s p q ≡ b → can_take s p q ≡ false
    at_test false e = e
    at_test true e = let x = take_below s g h p q e in n p q x.0 x.1

pub at_rest : (s : State) → Invariant s → AfterStep s → ((p q : ℕ) → can_take s p q ≡ false) → IsAtRest s
at_rest s g h n =
    let none : (p q : ℕ) → s.channel p q ≡ [] = λ p q. empty_of (s.channel p q) (neither (has_parcel (s.channel p q)) _ (n q p)).0 in
    record {
      decided = decided s g h none;
      closed = closed s g h none;
      no_parcel = none;
      none_held = λ p q. empty_of (s.held p q) (unheld (is_ready s q) (has_parcel (s.held p q)) (idle q (closed s g h none q)) (neither (has_parcel (s.channel p q)) _ (n q p)).1);
    }
  where
    idle : (q : ℕ) → s.so_far.open_in q ≡ 0 → is_ready s q ≡ false
    idle q o = rw o refl

    unheld : (r x : Bool) → r ≡ false → (not r && x) ≡ false → x ≡ false
    unheld true x e f = absurd (cc (e))
    unheld false x e f = f

pub take_nothing : (s : State) (p q : ℕ) (able : Bool) → can_take s p q ≡ false → after_step s (Take p q able) ≡ s
take_nothing s p q able e = go (s.held q p) (s.channel q p) (neither (has_parcel (s.channel q p)) _ e).0 (neither (has_parcel (s.channel q p)) _ e).1
  where
    front : (l : List Parcel) → has_parcel l ≡ false → after_front s p q able l ≡ s
    front [] a = refl
    front (x ∷ xs) a = absurd (cc (a))

    pick : (r : Bool) (x y : State) → x ≡ s → (not r && true) ≡ false → (if r then x else y) ≡ s
    pick true x y a b = a
    pick false x y a b = absurd (cc (b))

    go : (held channel : List Parcel) → has_parcel (s.channel q p) ≡ false → (not (is_ready s p) && has_parcel held) ≡ false → after_take s p q able held ≡ s
    go [] channel a b = front (s.channel q p) a
    go (App m ∷ rest) channel a b = pick (is_ready s p) _ _ (front (s.channel q p) a) b
    go (Ask k l ∷ rest) channel a b = refl
    go (Reply k w ∷ rest) channel a b = refl
    go (Decide k c ∷ rest) channel a b = refl
