-- Where the first certificate of each instance stands.
use Rattle.std.proofs.Common.{◌≡◌, ℕ, ◌+◌, ◌<◌, is_some, true, false, Option, Some, None, List, length, get_or, set, refl, sym, ap, ◌∙◌, subst, arith, inl, inr}
use Rattle.std.specs.List.{slice_get}
use Rattle.std.proofs.lemmas.Bool.{cases_eq, cases_order}
use Rattle.std.proofs.lemmas.List.{length-set}
use Rattle.std.proofs.lemmas.Option.{slice_get-get_or, slice_get_within, get_or_from_slice_get}
use Rattle.std.proofs.lemmas.List.Elements.{All-get_or}
use Rattle.std.specs.Prelude.{All}
use Rattle.kt_meaning.proofs.Items.{get_set_same, get_set_other, some_same}
use Rattle.kt_spacetime.specs.declared.certificate.Certificate.{Certificate}
use Rattle.kt_meaning.specs.Passing.{IsSecond}
use Rattle.kt_checker.specs.Judged.{IsFirstOfInstance, AreFirsts, IsFirstCertificate}

-- one more certificate, which is not the first of this instance
first_next : (certificates : List Certificate) (n k : ℕ) (place : Option ℕ) (c : Certificate) → IsFirstOfInstance certificates n k place → slice_get certificates n ≡ Some c → (place ≡ None → c.inst ≡ k → ⊥) → IsFirstOfInstance certificates (n + 1) k place
first_next certificates n k None c h at other = λ i v low e inst. elim (cases_eq i n) [
  | inl same ↦
      let item : c ≡ v = some_same (sym at ∙ (ap (slice_get certificates) (sym same) ∙ e)) in
      other refl (ap (λ (x : Certificate). x.inst) item ∙ inst)
  | inr before ↦ h i v (omega (arith, low, before)) e inst
]
first_next certificates n k (Some i) c h at other = (h.0, h.1, h.2, omega (arith, h.3), h.4)

pub none_of : {X : Type 0} (o : Option X) → is_some o ≡ false → o ≡ None
none_of None e = refl
none_of (Some i) e = absurd (cc)

pub some_of : {X : Type 0} (o : Option X) → is_some o ≡ true → o ≡ None → ⊥
some_of None e n =
    let never : false ≡ true = e in
    cc
some_of (Some i) e n = cc

-- the first certificate of its instance
pub entered : (places : List (Option ℕ)) (certificates : List Certificate) (n i : ℕ) (c : Certificate) → AreFirsts places certificates n → slice_get certificates n ≡ Some c → c.inst ≡ i + 1 → i < length places
    → is_some (get_or places i None) ≡ false → AreFirsts (set places i (Some n)) certificates (n + 1)
entered places certificates n i c h at inst within none = record {
  each = λ k place e. elim (cases_eq k i) [
    | inl same ↦
        let new : Some n ≡ place = some_same (sym (get_set_same places i (Some n) within) ∙ (ap (slice_get (set places i (Some n))) (sym same) ∙ e)) in
        let was : slice_get places i ≡ Some None = slice_get-get_or places i None within ∙ ap (λ (o : Option ℕ). Some o) (none_of (get_or places i None) none) in
        let number : c.inst ≡ k + 1 = omega (arith, inst, same) in
        subst (IsFirstOfInstance certificates (n + 1) (k + 1)) new (c, at, number, omega arith, λ second. h.each i None was second.0 second.1 second.2 second.3 (second.4 ∙ inst))
    | inr other ↦ first_next certificates n (k + 1) place c (h.each k place (sym (get_set_other places i k (Some n) other) ∙ e)) at (λ gone same. other (omega (arith, inst, same)))
  ];
  all = length-set places i (Some n) ∙ h.all;
}

-- a later certificate of its instance
pub passed_over : (places : List (Option ℕ)) (certificates : List Certificate) (n i : ℕ) (c : Certificate) → AreFirsts places certificates n → slice_get certificates n ≡ Some c → c.inst ≡ i + 1 → i < length places
    → is_some (get_or places i None) ≡ true → AreFirsts places certificates (n + 1)
passed_over places certificates n i c h at inst within there = record {
  each = λ k place e. first_next certificates n (k + 1) place c (h.each k place e) at (λ gone same.
      let here : k ≡ i = omega (arith, inst, same) in
      let is : get_or places i None ≡ place = some_same (sym (slice_get-get_or places i None within) ∙ (ap (slice_get places) (sym here) ∙ e)) in
      some_of (get_or places i None) there (is ∙ gone));
  all = h.all;
}

-- a certificate that is the first of its instance stands at the place that is found
pub the_first : (certificates : List Certificate) (n k place i : ℕ) (c : Certificate) → IsFirstOfInstance certificates n k (Some place) → slice_get certificates i ≡ Some c → c.inst ≡ k → (IsSecond certificates i c → ⊥) → slice_get certificates place ≡ Some c
the_first certificates n k place i c h at inst first = elim (cases_order i place) [
  | inl same ↦ ap (slice_get certificates) (sym same) ∙ at
  | inr other ↦ elim other [
    | inl low ↦ absurd (h.4 (i, c, low, at, inst ∙ sym h.2))
    | inr high ↦ absurd (first (place, h.0, high, h.1, h.2 ∙ sym inst))
  ]
]

-- before the first certificate no instance has one
pub none_yet : (places : List (Option ℕ)) (certificates : List Certificate) → All (λ place. place ≡ None) places → length places ≡ 4096 → AreFirsts places certificates 0
none_yet places certificates none all = record {
  each = λ k place e.
      let within = slice_get_within places k place e in
      let is : place ≡ get_or places k place = sym (get_or_from_slice_get places k place place e) in
      subst (IsFirstOfInstance certificates 0 (k + 1)) (sym (is ∙ All-get_or (λ o. o ≡ None) places k place within none)) (λ i c low at inst. absurd (omega (arith, low)));
  all = all;
}

-- a clone of none is none
pub none_cloned : (is_clone : Option ℕ → Type 0) → ((n : ℕ) → is_clone (Some n) → ⊥) → (place : Option ℕ) → is_clone place → place ≡ None
none_cloned is_clone never None h = refl
none_cloned is_clone never (Some n) h = absurd (never n h)

-- the certificate at the place of an instance's first one is this
pub first_of : (certificates : List Certificate) (k place : ℕ) (o : Option Certificate) → o ≡ slice_get certificates place → IsFirstOfInstance certificates (length certificates) k (Some place) → IsFirstCertificate certificates k o
first_of certificates k place o is first = subst (IsFirstCertificate certificates k) (sym (is ∙ first.1)) (place, first.1, first.2, first.4)
