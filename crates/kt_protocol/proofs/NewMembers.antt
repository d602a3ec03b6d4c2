-- What a new member changes of who is in an instance, who asked whom, and in which order.
use Rattle.std.proofs.Common.{◌≡◌, ◌≢◌, ℕ, ◌≤◌, ◌<◌, Bool, true, false, refl, sym, ◌∙◌}
use Rattle.std.specs.Prelude.{◌==◌, ◌&&◌, if◌then◌else◌}
use Rattle.kt_meaning.specs.Past.{at_pair}
use Rattle.kt_protocol.proofs.Updates.{is_same}
use Rattle.kt_protocol.proofs.Choices.{two}

-- who is a member is not the new one
old_member : (joined : ℕ → ℕ → Bool) (k p i u : ℕ) → joined k p ≡ false → joined i u ≡ true → (i == k && u == p) ≡ false
old_member joined k p i u out a = go (i == k && u == p) refl
  where
    go : (b : Bool) → (i == k && u == p) ≡ b → (i == k && u == p) ≡ false
    go false e = e
    go true e = let x = two i k u p e in let y : joined k p ≡ true = rw (x.0, x.1) at a in absurd (cc (y, out))

-- a parent is a member, and joined before
pub parent_joins : (joined : ℕ → ℕ → Bool) (parent joined_at : ℕ → ℕ → ℕ) (initiator : ℕ → ℕ) (k p par n : ℕ) (is_first : Bool) → joined k p ≡ false →
    (is_first ≡ true → p ≡ initiator k) → (is_first ≡ false → joined k par ≡ true) → ((q : ℕ) → joined k q ≡ true → joined_at k q < n) →
    ((i q : ℕ) → joined i q ≡ true → q ≢ initiator i → (joined i (parent i q) ≡ true) × (joined_at i (parent i q) < joined_at i q)) →
    (i q : ℕ) → at_pair k p true joined i q ≡ true → q ≢ initiator i →
    (at_pair k p true joined i (at_pair k p par parent i q) ≡ true) × (at_pair k p n joined_at i (at_pair k p par parent i q) < at_pair k p n joined_at i q)
parent_joins joined parent joined_at initiator k p par n is_first out first member low old i q a b = go (i == k && q == p) refl a
  where
    asked : i ≡ k → q ≡ p → (f : Bool) → is_first ≡ f → joined k par ≡ true
    asked x y false e = member e
    asked x y true e = absurd (b (y ∙ first e ∙ sym (rw x refl)))

    go : (t : Bool) → (i == k && q == p) ≡ t → (if t then true else joined i q) ≡ true →
        ((if i == k && (if t then par else parent i q) == p then true else joined i (if t then par else parent i q)) ≡ true) × ((if i == k && (if t then par else parent i q) == p then n else joined_at i (if t then par else parent i q)) < (if t then n else joined_at i q))
    go true e c =
        let x = two i k q p e in
        let y = asked x.0 x.1 is_first refl in
        rw (x.0, old_member joined k p k par out y) (y, low par y)
    go false e c = let z = old i q c b in rw (old_member joined k p i (parent i q) out z.0) z

-- an instance with a member has begun, and its initiator is a member that owes no answer
pub instance_joins : (joined answered : ℕ → ℕ → Bool) (initiator : ℕ → ℕ) (k p n : ℕ) (is_first : Bool) → joined k p ≡ false → 0 < k → k ≤ n →
    (is_first ≡ true → p ≡ initiator k) → (is_first ≡ false → (joined k (initiator k) ≡ true) × (answered k (initiator k) ≡ true)) →
    ((i u : ℕ) → joined i u ≡ true → (0 < i) × (i ≤ n) × (joined i (initiator i) ≡ true) × (answered i (initiator i) ≡ true)) →
    (i u : ℕ) → at_pair k p true joined i u ≡ true → (0 < i) × (i ≤ n) × (at_pair k p true joined i (initiator i) ≡ true) × (at_pair k p is_first answered i (initiator i) ≡ true)
instance_joins joined answered initiator k p n is_first out positive begun first member old i u a = go (i == k && u == p) refl a
  where
    new : i ≡ k → (f : Bool) → is_first ≡ f → (0 < i) × (i ≤ n) × (at_pair k p true joined i (initiator i) ≡ true) × (at_pair k p is_first answered i (initiator i) ≡ true)
    new x true e = rw (x, ← first e, is_same k, is_same p) (positive, begun, refl, e)
    new x false e = let m = member e in rw (x, old_member joined k p k (initiator k) out m.0) (positive, begun, m.0, m.1)

    go : (t : Bool) → (i == k && u == p) ≡ t → (if t then true else joined i u) ≡ true → (0 < i) × (i ≤ n) × (at_pair k p true joined i (initiator i) ≡ true) × (at_pair k p is_first answered i (initiator i) ≡ true)
    go true e c = new (two i k u p e).0 is_first refl
    go false e c = let z = old i u c in rw (old_member joined k p i (initiator i) out z.2) z
