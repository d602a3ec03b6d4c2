-- Lists that are the same at each place.
use Rattle.std.proofs.Common.{◌≡◌, ℕ, suc, ◌<◌, ◌≤◌, Bool, true, false, Option, Some, None, option_map, List, [], ◌∷◌, map, length, refl, sym, ap, ◌∙◌, inl, inr, arith}
use Rattle.kt_chain.specs.Spelling.{Member}
use Rattle.kt_explain.specs.Compared.{SameAt, SameMembers, counted}
use Rattle.std.specs.List.{slice_get}
use Rattle.std.proofs.lemmas.Bool.{cases_lt}
use Rattle.std.proofs.lemmas.Option.{slice_get_past}
use Rattle.kt_meaning.proofs.Items.{some_same}

pub all_same : {X : Type 0} (xs ys : List X) → ((n : ℕ) → slice_get xs n ≡ slice_get ys n) → xs ≡ ys
all_same [] [] h = refl
all_same [] (y ∷ ys) h =
    let e : None ≡ Some y = h 0 in
    absurd (cc)
all_same (x ∷ xs) [] h =
    let e : Some x ≡ None = h 0 in
    absurd (cc)
all_same (x ∷ xs) (y ∷ ys) h = (λ i. some_same (h 0) i ∷ all_same xs ys (λ n. h (suc n)) i)

-- lists of at most so many members that are the same at each place are the same
pub same_members : (chains : Bool) (xs ys : List Member) (count : ℕ) → length xs ≤ count → length ys ≤ count → ((n : ℕ) → n < count → SameAt chains xs ys n) → SameMembers chains xs ys
same_members chains xs ys count short also h n = elim (cases_lt n count) [
  | inl low ↦ h n low
  | inr high ↦
      ap (option_map (counted chains)) (slice_get_past xs n (omega (arith, short, high)) ∙ sym (slice_get_past ys n (omega (arith, also, high))))
]

itself : (o : Option Member) → option_map (counted true) o ≡ o
itself None = refl
itself (Some m) = refl

-- with their chains they are equal
pub members_equal : (xs ys : List Member) → SameMembers true xs ys → xs ≡ ys
members_equal xs ys h = all_same xs ys (λ n. sym (itself (slice_get xs n)) ∙ (h n ∙ itself (slice_get ys n)))

-- and without them the processes are
pub processes_equal : (xs ys : List Member) → SameMembers false xs ys → map (λ (m : Member). m.0) xs ≡ map (λ (m : Member). m.0) ys
processes_equal [] [] h = refl
processes_equal [] (y ∷ ys) h =
    let e : None ≡ Some (counted false y) = h 0 in
    absurd (cc)
processes_equal (x ∷ xs) [] h =
    let e : Some (counted false x) ≡ None = h 0 in
    absurd (cc)
processes_equal (x ∷ xs) (y ∷ ys) h = (λ i. (some_same (h 0) i).0 ∷ processes_equal xs ys (λ n. h (suc n)) i)
