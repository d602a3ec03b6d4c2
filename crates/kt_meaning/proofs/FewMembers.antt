-- An instance has at most 64 members.
use Rattle.std.proofs.Common.{◌≡◌, ℕ, zero, suc, ◌==◌, if◌then◌else◌, ◌<◌, ◌≤◌, Bool, true, false, Option, Some, None, List, [], ◌∷◌, length, refl, sym, ap, subst, ◌∙◌, arith}
use Rattle.std.specs.List.{slice_get, cons_option, All, AllByRecursion, IsDistinct}
use Rattle.std.specs.Prelude.{eqb}
use Rattle.std.proofs.lemmas.Bool.Decides.{nat_tests}
use Rattle.std.proofs.lemmas.Map.Steps.{length-le_from_distinct_below}
use Rattle.std.proofs.lemmas.Option.{slice_get_within, get_or_from_slice_get}
use Rattle.kt_spacetime.specs.Events.{IsRowInRange}
use Rattle.kt_spacetime.specs.declared.event.Event.{Event}
use Rattle.kt_spacetime.specs.declared.event.Event.TheVariants.{Sent, Received, Dropped, Began, Took, Ready, Unwilling, Decided, Closed, Failed, Refused}
use Rattle.kt_meaning.specs.Legal.{IsLegal}
use Rattle.kt_meaning.specs.Chains.{joins, members}
use Rattle.kt_meaning.proofs.Items.{some_same}
use Rattle.kt_meaning.proofs.Lists.{any_at}
use Rattle.kt_meaning.proofs.Members.{joins_once}

-- numbers that each stand once
abbrev pub StandOnce : List ℕ → Type 0
StandOnce xs = (i j x : ℕ) → slice_get xs i ≡ Some x → slice_get xs j ≡ Some x → i ≡ j

unlike : (x : ℕ) (ys : List ℕ) → ((j : ℕ) → slice_get ys j ≡ Some x → ⊥) → AllByRecursion (λ y. eqb x y ≡ false) ys
unlike x [] never = tt
unlike x (y ∷ ys) never = (apart (λ e. never 0 (ap Some (sym e))), unlike x ys (λ j e. never (suc j) e))
  where
    apart : (x ≡ y → ⊥) → eqb x y ≡ false
    apart n = grind (arith, nat_tests, n)

distinct : (xs : List ℕ) → StandOnce xs → IsDistinct eqb xs
unfolding IsDistinct
distinct [] once = tt
distinct (x ∷ xs) once = (unlike x xs (λ j e. never j (once 0 (suc j) x refl e)), distinct xs (λ i j y e f. omega (arith, once (suc i) (suc j) y e f)))
  where
    never : (j : ℕ) → 0 ≡ suc j → ⊥
    never j e = omega (arith, e)

pub few : (xs : List ℕ) (n : ℕ) → StandOnce xs → ((i x : ℕ) → slice_get xs i ≡ Some x → x < n) → length xs ≤ n
few xs n once low = length-le_from_distinct_below xs n (distinct xs once) (λ q h. at_place q (any_at (eqb q) xs h))
  where
    at_place : (q : ℕ) → (i : ℕ) × (x : ℕ) × (slice_get xs i ≡ Some x) × (eqb q x ≡ true) → q < n
    at_place q h =
        let same : q ≡ h.1 = grind (arith, nat_tests, h.3) in
        omega (arith, same, low h.0 h.1 h.2)

-- a member has a row
member_row : (log : List Event) (k i p : ℕ) → slice_get (members log k) i ≡ Some p → (n : ℕ) × (row : Event) × (slice_get log n ≡ Some row) × (joins k row ≡ Some p)
member_row [] k i p e = absurd (cc)
member_row (row ∷ rows) k i p e = from (joins k row) refl i e (λ j f. member_row rows k j p f)
  where
    Row : Type 0
    Row = (n : ℕ) × (x : Event) × (slice_get (row ∷ rows) n ≡ Some x) × (joins k x ≡ Some p)

    later : ((n : ℕ) × (x : Event) × (slice_get rows n ≡ Some x) × (joins k x ≡ Some p)) → Row
    later h = (suc h.0, h.1, h.2, h.3)

    from : (o : Option ℕ) → joins k row ≡ o → (i : ℕ) → slice_get (cons_option o (members rows k)) i ≡ Some p
        → ((j : ℕ) → slice_get (members rows k) j ≡ Some p → (n : ℕ) × (x : Event) × (slice_get rows n ≡ Some x) × (joins k x ≡ Some p)) → Row
    from None f i e rest = later (rest i e)
    from (Some q) f zero e rest = (0, row, refl, f ∙ e)
    from (Some q) f (suc i) e rest = later (rest i e)

joins_low : (k : ℕ) (row : Event) (p : ℕ) → IsRowInRange row → joins k row ≡ Some p → p < 64
joins_low k (Took q j) p r e = at_test (j == k) e
  where
    at_test : (b : Bool) → (if b then Some q else None) ≡ Some p → p < 64
    at_test true e = omega (arith, r.0, some_same e)
    at_test false e = absurd (cc)
joins_low k (Ready q j) p r e = at_test (j == k) e
  where
    at_test : (b : Bool) → (if b then Some q else None) ≡ Some p → p < 64
    at_test true e = omega (arith, r.0, some_same e)
    at_test false e = absurd (cc)
joins_low k (Sent q to body) p r e = absurd (cc)
joins_low k (Received q from msg) p r e = absurd (cc)
joins_low k (Dropped q from msg) p r e = absurd (cc)
joins_low k (Began q j kind) p r e = absurd (cc)
joins_low k (Unwilling q j cause) p r e = absurd (cc)
joins_low k (Decided q j commit) p r e = absurd (cc)
joins_low k (Closed q j) p r e = absurd (cc)
joins_low k (Failed q) p r e = absurd (cc)
joins_low k (Refused q verb cause) p r e = absurd (cc)

pub member_low : (log : List Event) (k i p : ℕ) → All IsRowInRange log → slice_get (members log k) i ≡ Some p → p < 64
member_low log k i p all e =
    let row = member_row log k i p e in
    joins_low k row.1 p (subst IsRowInRange (get_or_from_slice_get log row.0 row.1 row.1 row.2) (all row.0 row.1 (slice_get_within log row.0 row.1 row.2))) row.3

pub few_members : (log : List Event) (k : ℕ) → IsLegal log → All IsRowInRange log → length (members log k) ≤ 64
few_members log k l all = few (members log k) 64 (λ i j x e f. (joins_once log l).once k i j x e f) (λ i x e. member_low log k i x all e)
