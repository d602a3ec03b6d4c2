-- Deeds of histories and lists of messages.
use Rattle.std.proofs.Common.{◌≡◌, ℕ, zero, suc, ◌-◌, ◌<◌, ◌==◌, Bool, true, false, Some, List, [], ◌∷◌, ◌++◌, length, get_or, take, drop, refl, ap, arith, length-append}
use Rattle.std.specs.List.{slice_get, list_all}
use Rattle.std.proofs.lemmas.Bool.Decides.{nat_tests}
use Rattle.std.proofs.lemmas.List.{take-append-drop}
use Rattle.std.proofs.lemmas.List.Quantifiers.{all_pairs_push}
use Rattle.std.proofs.lemmas.Option.{slice_get-get_or}
use Rattle.std.proofs.Math.ListN.{get_or-append}
use Rattle.kt_spacetime.specs.declared.deeds.Deed.{Deed}
use Rattle.kt_spacetime.specs.declared.deeds.Deed.TheVariants as deed
use Rattle.kt_meaning.specs.Legal.{is_deed, has_deed, is_later}
use Rattle.kt_rules.specs.Lists.{sent_in, received_in, last_of, NumbersRise}
use Rattle.kt_meaning.proofs.Items.{get_seam, some_same}
use Rattle.kt_rules.proofs.SortedFacts.{sent_more, received_more}

pub is_same : (d : Deed) → is_deed d d ≡ true
is_same (deed.Sent m p) = grind (arith, nat_tests)
is_same (deed.Received m p) = grind (arith, nat_tests)

pub has_at : (d : Deed) (l : List Deed) (i : ℕ) → slice_get l i ≡ Some d → has_deed d l ≡ true
has_at d [] i e = absurd (cc)
has_at d (x ∷ l) zero e =
    let same : x ≡ d = some_same e in
    rw (same, is_same d) refl
has_at d (x ∷ l) (suc i) e = grind (arith, nat_tests, has_at d l i e)

-- a send of a history is one of its deeds, and a receive likewise
pub sent_source : (l : List Deed) (k x : ℕ) → slice_get (sent_in l) k ≡ Some x → (i : ℕ) × (to : ℕ) × (slice_get l i ≡ Some (deed.Sent x to))
sent_source [] k x e = absurd (cc)
sent_source (deed.Sent m to ∷ l) zero x e = (0, to, ap (λ (n : ℕ). Some (deed.Sent n to)) (some_same e))
sent_source (deed.Sent m to ∷ l) (suc k) x e =
    let there = sent_source l k x e in
    (suc there.0, there.1, there.2)
sent_source (deed.Received m f ∷ l) k x e =
    let there = sent_source l k x e in
    (suc there.0, there.1, there.2)

received_here : (q m f : ℕ) (l : List Deed) (b : Bool) → (f == q) ≡ b → (k x : ℕ) → slice_get (received_in q (deed.Received m f ∷ l)) k ≡ Some x
    → ((k : ℕ) → slice_get (received_in q l) k ≡ Some x → (i : ℕ) × (slice_get l i ≡ Some (deed.Received x q)))
    → (i : ℕ) × (slice_get (deed.Received m f ∷ l) i ≡ Some (deed.Received x q))
received_here q m f l true is zero x h later =
    let from : f ≡ q = grind (arith, nat_tests, is) in
    let same : m ≡ x = some_same (rw is at h) in
    (0, rw (from, same) refl)
received_here q m f l true is (suc k) x h later =
    let there = later k (rw is at h) in
    (suc there.0, there.1)
received_here q m f l false is k x h later =
    let there = later k (rw is at h) in
    (suc there.0, there.1)

pub received_source : (q : ℕ) (l : List Deed) (k x : ℕ) → slice_get (received_in q l) k ≡ Some x → (i : ℕ) × (slice_get l i ≡ Some (deed.Received x q))
received_source q [] k x e = absurd (cc)
received_source q (deed.Sent m to ∷ l) k x e =
    let there = received_source q l k x e in
    (suc there.0, there.1)
received_source q (deed.Received m f ∷ l) k x e = received_here q m f l (f == q) refl k x e (λ k' h. received_source q l k' x h)

-- rising lists
pub rises_push : (xs : List ℕ) (m : ℕ) → NumbersRise xs → ((k x : ℕ) → slice_get xs k ≡ Some x → x < m) → NumbersRise (xs ++ m ∷ [])
rises_push xs m r below = all_pairs_push (λ x y. x < y) xs m r (λ k d l. below k (get_or xs k d) (slice_get-get_or xs k d l))

pub rises_front : (xs ys : List ℕ) → NumbersRise (xs ++ ys) → NumbersRise xs
rises_front xs ys r i j d low l =
    let a = get_or-append xs ys d i (omega (arith, low, l)) in
    let b = get_or-append xs ys d j l in
    rw (← a, ← b) (r i j d low (omega (arith, l, length-append xs ys)))

pub sent_rises_take : (n : ℕ) (l : List Deed) → NumbersRise (sent_in l) → NumbersRise (sent_in (take n l))
sent_rises_take n l r = rises_front (sent_in (take n l)) (sent_in (drop n l)) (rw (← sent_more (take n l) (drop n l), take-append-drop n l) r)

pub received_rises_take : (q n : ℕ) (l : List Deed) → NumbersRise (received_in q l) → NumbersRise (received_in q (take n l))
received_rises_take q n l r = rises_front (received_in q (take n l)) (received_in q (drop n l)) (rw (← received_more q (take n l) (drop n l), take-append-drop n l) r)

-- what is later than all deeds is later than each receive
pub later_than : (q m : ℕ) (l : List Deed) → list_all (is_later q m) l ≡ true → (i x : ℕ) → slice_get l i ≡ Some (deed.Received x q) → x < m
later_than q m [] h i x e = absurd (cc)
later_than q m (d ∷ l) h zero x e =
    let same : d ≡ deed.Received x q = some_same e in
    grind (arith, nat_tests, rw same at h)
later_than q m (d ∷ l) h (suc i) x e = later_than q m l (grind (arith, nat_tests, h)) i x e

pub last_push : (xs : List ℕ) (m : ℕ) → last_of (xs ++ m ∷ []) ≡ Some m
last_push xs m =
    let at : length (xs ++ m ∷ []) - 1 ≡ length xs = omega (arith, length-append xs (m ∷ [])) in
    rw at (get_seam xs m [])

pub has_front : (d : Deed) (xs ys : List Deed) → has_deed d (xs ++ ys) ≡ false → has_deed d xs ≡ false
has_front d [] ys h = refl
has_front d (x ∷ xs) ys h = grind (arith, nat_tests, has_front d xs ys, h)
