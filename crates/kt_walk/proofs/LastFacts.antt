-- What was received last, when something is received, and when histories are cut back or come to be permanent.
use Rattle.std.proofs.Common.{◌≡◌, ◌≢◌, ℕ, ◌<◌, ◌≤◌, Bool, true, false, Option, Some, None, List, [], ◌∷◌, ◌++◌, length, take, refl, sym, ◌∙◌, arith, inl, inr}
use Rattle.std.specs.Prelude.{nat_lt, nat_le, if◌then◌else◌, IfSome}
use Rattle.std.specs.List.{slice_get, list_all}
use Rattle.std.proofs.lemmas.Bool.{cases_lt}
use Rattle.std.proofs.lemmas.Bool.Decides.{nat_tests}
use Rattle.kt_spacetime.specs.declared.deeds.Deed.{Deed}
use Rattle.kt_spacetime.specs.declared.deeds.Deed.TheVariants as deed
use Rattle.kt_meaning.specs.Legal.{is_later}
use Rattle.kt_rules.specs.Tests.{is_after}
use Rattle.kt_rules.proofs.DeedFacts.{later_than}
use Rattle.kt_rules.proofs.LatestFacts.{all_later}
use Rattle.kt_meaning.proofs.Lists.{get_push, get_kept, get_last, get_take, get_in_take}
use Rattle.kt_walk.specs.LastReceived.{IsAtLeast, IsLastFrom, latest}

-- a number is among those received, if there is one
abbrev pub IsFound : Option ℕ → ℕ → List Deed → Type 0
IsFound o q deeds = IfSome o (λ m. (j : ℕ) × (slice_get deeds j ≡ Some (deed.Received m q)))

-- what is at least as great as one number is so too of another
abbrev pub IsNoLess : Option ℕ → Option ℕ → Type 0
IsNoLess next last = (m : ℕ) → IsAtLeast last m → IsAtLeast next m

-- what comes after the last is greater than all
pub after_all : (last : Option ℕ) (q msg m j : ℕ) (deeds : List Deed) → IsLastFrom last q deeds → is_after msg last ≡ true → slice_get deeds j ≡ Some (deed.Received m q) → m < msg
after_all None q msg m j deeds h e there = absurd (h.most m j there)
after_all (Some n) q msg m j deeds h e there =
    let most : m ≤ n = h.most m j there in
    let low : n < msg = below n msg e in
    omega (arith, most, low)
  where
    below : (a b : ℕ) → nat_lt a b ≡ true → a < b
    below a b e = grind (arith, nat_tests)

-- one message more is received, which comes after the last
pub last_received : (last : Option ℕ) (q msg : ℕ) (deeds : List Deed) → IsLastFrom last q deeds → is_after msg last ≡ true → IsLastFrom (Some msg) q (deeds ++ deed.Received msg q ∷ [])
last_received last q msg deeds h e = record {
  there = (length deeds, get_last deeds (deed.Received msg q));
  most = λ m j at. elim (get_push deeds (deed.Received msg q) j (deed.Received m q) at) [
    | inl old ↦
        let low : m < msg = after_all last q msg m j deeds h e old in
        omega (arith, low)
    | inr new ↦
        let same : msg ≡ m = cc new.1 in
        omega (arith, same)
  ];
}

-- another deed
pub last_stays : (last : Option ℕ) (q : ℕ) (deeds : List Deed) (d : Deed) → ((m : ℕ) → d ≢ deed.Received m q) → IsLastFrom last q deeds → IsLastFrom last q (deeds ++ d ∷ [])
last_stays last q deeds d other h = record {
  there = still last h.there;
  most = λ m j at. elim (get_push deeds d j (deed.Received m q) at) [
    | inl old ↦ h.most m j old
    | inr new ↦ absurd (other m new.1)
  ];
}
  where
    still : (o : Option ℕ) → IsFound o q deeds → IsFound o q (deeds ++ d ∷ [])
    still None t = tt
    still (Some m) t = (t.0, get_kept deeds d t.0 (deed.Received m q) t.1)

-- whether a message is later than all that were received
pub later_than_last : (last : Option ℕ) (q msg : ℕ) (deeds : List Deed) → IsLastFrom last q deeds → list_all (is_later q msg) deeds ≡ is_after msg last
later_than_last last q msg deeds h = at_test (list_all (is_later q msg) deeds) refl (is_after msg last) refl
  where
    not_below : (a b : ℕ) → nat_lt a b ≡ false → b ≤ a
    not_below a b e = grind (arith, nat_tests)

    not_after : (o : Option ℕ) → IsFound o q deeds → is_after msg o ≡ false → list_all (is_later q msg) deeds ≡ true → ⊥
    not_after None t f e = cc f
    not_after (Some m) t f e = omega (arith, not_below m msg f, later_than q msg deeds e t.0 m t.1)

    at_test : (b : Bool) → list_all (is_later q msg) deeds ≡ b → (c : Bool) → is_after msg last ≡ c → list_all (is_later q msg) deeds ≡ is_after msg last
    at_test b e true f = all_later q msg deeds (λ j m at. after_all last q msg m j deeds h f at) ∙ sym f
    at_test false e false f = e ∙ sym f
    at_test true e false f = absurd (not_after last h.there f e)

-- more of a history comes to be permanent: of the last one until then and those since, the greatest
pub last_grows : (last next : Option ℕ) (q n k : ℕ) (deeds : List Deed) → n ≤ k → IsLastFrom last q (take n deeds) → IsFound next q (take k deeds) → IsNoLess next last → ((m j : ℕ) → n ≤ j → j < k → slice_get deeds j ≡ Some (deed.Received m q) → IsAtLeast next m) → IsLastFrom next q (take k deeds)
last_grows last next q n k deeds le h there no_less since = record {
  there = there;
  most = λ m j at.
      let whole = get_take k deeds j (deed.Received m q) at in
      elim (cases_lt j n) [
        | inl low ↦ no_less m (h.most m j (get_in_take n deeds j (deed.Received m q) whole.0 low))
        | inr high ↦ since m j high whole.1 whole.0
      ];
}

-- the greater of two numbers is no less than either
pub latest_first : (a b : Option ℕ) (m : ℕ) → IsAtLeast a m → IsAtLeast (latest a b) m
latest_first None b m h = absurd h
latest_first (Some x) None m h = h
latest_first (Some x) (Some y) m h = at_test (nat_le x y) refl
  where
    greater : (x y m : ℕ) → m ≤ x → nat_le x y ≡ true → m ≤ y
    greater x y m l e = grind (arith, nat_tests)

    at_test : (b : Bool) → nat_le x y ≡ b → IsAtLeast (if b then Some y else Some x) m
    at_test true e = greater x y m h e
    at_test false e = h

pub latest_second : (a b : Option ℕ) (m : ℕ) → IsAtLeast b m → IsAtLeast (latest a b) m
latest_second None b m h = h
latest_second (Some x) None m h = absurd h
latest_second (Some x) (Some y) m h = at_test (nat_le x y) refl
  where
    less : (x y m : ℕ) → m ≤ y → nat_le x y ≡ false → m ≤ x
    less x y m l e = grind (arith, nat_tests)

    at_test : (b : Bool) → nat_le x y ≡ b → IsAtLeast (if b then Some y else Some x) m
    at_test true e = h
    at_test false e = less x y m h e

-- and it is one of them
pub latest_one : (P : ℕ → Type 0) (a b : Option ℕ) → IfSome a P → IfSome b P → IfSome (latest a b) P
latest_one P None b f g = g
latest_one P (Some x) None f g = f
latest_one P (Some x) (Some y) f g = at_test (nat_le x y)
  where
    at_test : (b : Bool) → IfSome (if b then Some y else Some x) P
    at_test true = g
    at_test false = f

pub at_least_if : (b : Bool) (m : ℕ) → b ≡ true → IsAtLeast (if b then Some m else None) m
at_least_if true m e = omega arith
at_least_if false m e = absurd (cc)
