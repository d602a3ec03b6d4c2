-- Orphans by lists of messages that rise.
use Rattle.std.proofs.Common.{◌≡◌, ℕ, zero, suc, ◌+◌, ◌-◌, ◌<◌, ◌≤◌, not, nat_le, cond, if◌then◌else◌, Bool, true, false, Option, Some, None, IfSome, List, [], ◌∷◌, ◌++◌, length, get_or, refl, sym, ap, ◌∙◌, arith, length-append}
use Rattle.std.specs.List.{slice_get, filter}
use Rattle.std.proofs.lemmas.Bool.Decides.{nat_tests}
use Rattle.std.proofs.lemmas.List.{get_or-append-add}
use Rattle.std.proofs.lemmas.Option.{slice_get_within, slice_get-get_or, get_or_from_slice_get}
use Rattle.std.proofs.Math.ListN.{get_or-append}
use Rattle.kt_spacetime.specs.declared.deeds.Deed.{Deed}
use Rattle.kt_spacetime.specs.declared.deeds.Deed.TheVariants as deed
use Rattle.kt_meaning.specs.Past.{Past}
use Rattle.kt_meaning.specs.Legal.{has_deed}
use Rattle.kt_meaning.specs.Cuts.{part, is_unsent, unsent_receives, IsOrphan}
use Rattle.kt_rules.specs.Lists.{sent_in, NumbersRise}
use Rattle.kt_rules.specs.Orphans.{IsOrphanBetween, IsAtMost, earlier}
use Rattle.kt_meaning.proofs.Items.{get_take, in_take, some_same}
use Rattle.kt_meaning.proofs.Consistency.{filter_keeps}

-- rising lists, one after the other
pub rises_across : (xs ys : List ℕ) (k j a b : ℕ) → NumbersRise (xs ++ ys) → slice_get xs k ≡ Some a → slice_get ys j ≡ Some b → a < b
rises_across xs ys k j a b r e f =
    let low = slice_get_within xs k a e in
    let low_b = slice_get_within ys j b f in
    let one : get_or (xs ++ ys) k 0 ≡ a = get_or-append xs ys 0 k low ∙ get_or_from_slice_get xs k a 0 e in
    let two : get_or (xs ++ ys) (length xs + j) 0 ≡ b = get_or-append-add xs ys j 0 ∙ get_or_from_slice_get ys j b 0 f in
    omega (arith, one, two, r k (length xs + j) 0 (omega (arith, low)) (omega (arith, length-append xs ys, low_b)))

-- sends of a history, by place
pub sent_place : (l : List Deed) (i m to : ℕ) → slice_get l i ≡ Some (deed.Sent m to) → (k : ℕ) × (slice_get (sent_in l) k ≡ Some m)
sent_place [] i m to e = absurd (cc)
sent_place (deed.Received n f ∷ l) zero m to e = absurd (cc)
sent_place (deed.Received n f ∷ l) (suc i) m to e = sent_place l i m to e
sent_place (deed.Sent n q ∷ l) zero m to e = (0, first_sent n q m to l (some_same e))
  where
    first_sent : (n q m to : ℕ) (l : List Deed) → deed.Sent n q ≡ deed.Sent m to → slice_get (sent_in (deed.Sent n q ∷ l)) 0 ≡ Some m
    first_sent n q m to l e =
        let number : n ≡ m = cc in
        ap Some number
sent_place (deed.Sent n q ∷ l) (suc i) m to e =
    let there = sent_place l i m to e in
    (suc there.0, there.1)

-- the orphans of a receiver and a sender, found by the first send past the sender's part
pub received_of : (s : Past) (cut : ℕ → ℕ) (p q m : ℕ) (o : IsOrphanBetween s cut p q m) → (slice_get (s.live p) o.place ≡ Some (deed.Received m q)) × (o.place < cut p)
received_of s cut p q m o = (get_take (cut p) (s.live p) o.place (deed.Received m q) o.received, in_take (cut p) (s.live p) o.place (deed.Received m q) o.received)

-- the lesser of two
pub at_most_first : (a b : Option ℕ) (m : ℕ) → IsAtMost a m → IsAtMost (earlier a b) m
at_most_first None b m h = absurd h
at_most_first (Some n) None m h = h
at_most_first (Some n) (Some k) m h = at_test (nat_le n k) refl
  where
    at_test : (t : Bool) → nat_le n k ≡ t → (if t then n else k) ≤ m
    at_test true e = h
    at_test false e =
        let low : k < n = grind (arith, nat_tests, e) in
        omega (arith, low, h)

pub at_most_second : (a b : Option ℕ) (m : ℕ) → IsAtMost b m → IsAtMost (earlier a b) m
at_most_second None b m h = h
at_most_second (Some n) None m h = absurd h
at_most_second (Some n) (Some k) m h = at_test (nat_le n k) refl
  where
    at_test : (t : Bool) → nat_le n k ≡ t → (if t then n else k) ≤ m
    at_test true e =
        let low : n ≤ k = grind (arith, nat_tests, e) in
        omega (arith, low, h)
    at_test false e = h

pub some_earlier : (P : ℕ → Type 0) (a b : Option ℕ) → IfSome a P → IfSome b P → IfSome (earlier a b) P
some_earlier P None b h k = k
some_earlier P (Some n) None h k = h
some_earlier P (Some n) (Some m) h k = at_test (nat_le n m)
  where
    at_test : (t : Bool) → P (if t then n else m)
    at_test true = h
    at_test false = k

pub some_weaker : (P Q : ℕ → Type 0) (o : Option ℕ) → ((m : ℕ) → P m → Q m) → IfSome o P → IfSome o Q
some_weaker P Q None f h = tt
some_weaker P Q (Some m) f h = f m h

-- an orphan is one of a receiver and a sender
filter_source : (test : Deed → Bool) (l : List Deed) (k : ℕ) (x : Deed) → slice_get (filter test l) k ≡ Some x → (i : ℕ) × (slice_get l i ≡ Some x) × (test x ≡ true)
filter_source test [] k x e = absurd (cc)
filter_source test (y ∷ l) k x e = at_test (test y) refl k e (filter_source test l)
  where
    at_test : (b : Bool) → test y ≡ b → (k : ℕ) → slice_get (cond b (y ∷ filter test l) (filter test l)) k ≡ Some x → ((k : ℕ) (x : Deed) → slice_get (filter test l) k ≡ Some x → (i : ℕ) × (slice_get l i ≡ Some x) × (test x ≡ true)) → (i : ℕ) × (slice_get (y ∷ l) i ≡ Some x) × (test x ≡ true)
    at_test true t zero e rest =
        let same : y ≡ x = some_same e in
        (0, ap Some same, ap test (sym same) ∙ t)
    at_test true t (suc k) e rest =
        let there = rest k x e in
        (suc there.0, there.1, there.2)
    at_test false t k e rest =
        let there = rest k x e in
        (suc there.0, there.1, there.2)

pub between_of : (s : Past) (cut : ℕ → ℕ) (m : ℕ) → IsOrphan s cut m → (p : ℕ) × (q : ℕ) × IsOrphanBetween s cut p q m
between_of s cut m (p, q, (k, l, e)) =
    let at = slice_get-get_or (unsent_receives s cut p) k (deed.Received m q) l ∙ ap Some e in
    let there = filter_source (is_unsent s cut p) (part s cut p) k (deed.Received m q) at in
    (p, q, record { place = there.0; received = there.1; unsent = not_true (has_deed (deed.Sent m p) (part s cut q)) there.2 })
  where
    not_true : (b : Bool) → not b ≡ true → b ≡ false
    not_true true e = absurd (cc)
    not_true false e = refl

pub orphan_of : (s : Past) (cut : ℕ → ℕ) (p q m : ℕ) → IsOrphanBetween s cut p q m → IsOrphan s cut m
orphan_of s cut p q m o =
    let there = filter_keeps (is_unsent s cut p) (part s cut p) o.place (deed.Received m q) o.received (ap not o.unsent) in
    (p, q, (there.0, slice_get_within (unsent_receives s cut p) there.0 (deed.Received m q) there.1, get_or_from_slice_get (unsent_receives s cut p) there.0 (deed.Received m q) (deed.Received m q) there.1))
