-- What is later than the last is later than all.
use Rattle.std.proofs.Common.{◌≡◌, ℕ, zero, suc, ◌-◌, ◌<◌, ◌≤◌, ◌==◌, ◌&&◌, nat_lt, Bool, true, false, Option, Some, None, List, [], ◌∷◌, length, get_or, refl, sym, ap, ◌∙◌, arith, inl, inr}
use Rattle.std.specs.Prelude.{◌↔◌}
use Rattle.std.specs.List.{slice_get, list_all}
use Rattle.std.proofs.lemmas.Bool.{cases_lt, cases_eq}
use Rattle.std.proofs.lemmas.Bool.Decides.{nat_tests}
use Rattle.std.proofs.lemmas.Option.{slice_get_within, slice_get-get_or, get_or_from_slice_get}
use Rattle.kt_spacetime.specs.declared.deeds.Deed.{Deed}
use Rattle.kt_spacetime.specs.declared.deeds.Deed.TheVariants as deed
use Rattle.kt_meaning.specs.Legal.{is_later}
use Rattle.kt_rules.specs.Lists.{received_in, last_of, NumbersRise}
use Rattle.kt_rules.specs.Tests.{is_after}
use Rattle.kt_meaning.proofs.Items.{some_same}
use Rattle.kt_rules.proofs.DeedFacts.{later_than, received_source}

pub all_later : (q m : ℕ) (l : List Deed) → ((i x : ℕ) → slice_get l i ≡ Some (deed.Received x q) → x < m) → list_all (is_later q m) l ≡ true
all_later q m [] h = refl
all_later q m (deed.Sent n to ∷ l) h = all_later q m l (λ i x e. h (suc i) x e)
all_later q m (deed.Received n f ∷ l) h =
    let rest = all_later q m l (λ i x e. h (suc i) x e) in
    elim (cases_eq f q) [
      | inl same ↦
          let low : n < m = h 0 n (ap (λ (y : ℕ). Some (deed.Received n y)) same) in
          grind (arith, nat_tests, rest, low)
      | inr other ↦ grind (arith, nat_tests, rest, other)
    ]

pub received_place : (q : ℕ) (l : List Deed) (i x : ℕ) → slice_get l i ≡ Some (deed.Received x q) → (k : ℕ) × (slice_get (received_in q l) k ≡ Some x)
received_place q [] i x e = absurd (cc)
received_place q (deed.Sent n to ∷ l) zero x e = absurd (cc)
received_place q (deed.Sent n to ∷ l) (suc i) x e = received_place q l i x e
received_place q (deed.Received n f ∷ l) zero x e = (0, first_received q n f l x (some_same e))
  where
    first_received : (q n f : ℕ) (l : List Deed) (x : ℕ) → deed.Received n f ≡ deed.Received x q → slice_get (received_in q (deed.Received n f ∷ l)) 0 ≡ Some x
    first_received q n f l x e =
        let number : n ≡ x = cc in
        let from : f ≡ q = cc in
        grind (arith, nat_tests, number, from)
received_place q (deed.Received n f ∷ l) (suc i) x e =
    let there = received_place q l i x e in
    later_received q n f l x there.0 there.1 (f == q) refl
  where
    later_received : (q n f : ℕ) (l : List Deed) (x k : ℕ) → slice_get (received_in q l) k ≡ Some x → (b : Bool) → (f == q) ≡ b → (k : ℕ) × (slice_get (received_in q (deed.Received n f ∷ l)) k ≡ Some x)
    later_received q n f l x k e true is = (suc k, rw is e)
    later_received q n f l x k e false is = (k, rw is e)

last_greatest : (xs : List ℕ) (k x y : ℕ) → NumbersRise xs → slice_get xs k ≡ Some x → last_of xs ≡ Some y → x ≤ y
last_greatest xs k x y r e l =
    let low = slice_get_within xs k x e in
    let a = get_or_from_slice_get xs k x 0 e in
    let b = get_or_from_slice_get xs (length xs - 1) y 0 l in
    elim (cases_eq k (length xs - 1)) [
      | inl same ↦
          let z : x ≡ y = some_same (sym e ∙ (ap (slice_get xs) same ∙ l)) in
          omega (arith, z)
      | inr other ↦ omega (arith, a, b, r k (length xs - 1) 0 (omega (arith, low, other)) (omega (arith, low)))
    ]

some_last : (xs : List ℕ) (k x : ℕ) → slice_get xs k ≡ Some x → (y : ℕ) × (last_of xs ≡ Some y)
some_last xs k x e =
    let low = slice_get_within xs k x e in
    (get_or xs (length xs - 1) 0, slice_get-get_or xs (length xs - 1) 0 (omega (arith, low)))

below_test : (y m : ℕ) → y < m → true ≡ nat_lt y m
below_test y m l = grind (arith, nat_tests, l)

above_test : (y m : ℕ) → m ≤ y → false ≡ nat_lt y m
above_test y m l = grind (arith, nat_tests, l)

-- later than all deeds is after the last
pub later_is_after : (q m : ℕ) (l : List Deed) → NumbersRise (received_in q l) → list_all (is_later q m) l ≡ is_after m (last_of (received_in q l))
later_is_after q m l r = go (list_all (is_later q m) l) refl (last_of (received_in q l)) refl
  where
    go : (b : Bool) → list_all (is_later q m) l ≡ b → (o : Option ℕ) → last_of (received_in q l) ≡ o → list_all (is_later q m) l ≡ is_after m (last_of (received_in q l))
    go b is None last = all_later q m l (λ i x e.
        let there = received_place q l i x e in
        let some = some_last (received_in q l) there.0 x there.1 in
        absurd (cc (sym last ∙ some.1))) ∙ ap (is_after m) (sym last)
    go true is (Some y) last =
        let there = received_source q l (length (received_in q l) - 1) y last in
        let low : y < m = later_than q m l is there.0 y there.1 in
        is ∙ (below_test y m low ∙ ap (is_after m) (sym last))
    go false is (Some y) last = elim (cases_lt y m) [
      | inl low ↦
          let all = all_later q m l (λ i x e.
          let there = received_place q l i x e in
          omega (arith, low, last_greatest (received_in q l) there.0 x y r there.1 last)) in
          absurd (cc (sym is ∙ all))
      | inr high ↦ is ∙ (above_test y m high ∙ ap (is_after m) (sym last))
    ]
