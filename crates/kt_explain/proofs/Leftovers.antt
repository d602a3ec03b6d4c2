-- What is told of a log that passes.
use Rattle.std.proofs.Common.{◌≡◌, ◌+◌, ◌∙◌, ◌++◌, ℕ, Option, Some, None, List, [], ◌∷◌, take, refl, sym, ap, subst, append-nil, inl, inr}
use Rattle.std.specs.List.{AllZip, cons_option, filter_map, slice_get}
use Rattle.std.proofs.lemmas.List.Elements.{filter_map-append}
use Rattle.kt_meaning.proofs.Items.{take_item}
use Rattle.kt_explain.specs.declared.judged.OpenInstance.{OpenInstance}
use Rattle.kt_meaning.specs.Past.{Past}
use Rattle.kt_explain.specs.Judged.{IsOpenInstance, begun_open}
use Rattle.kt_spacetime.specs.declared.event.Event.{Event}
use Rattle.kt_meaning.specs.Legal.{IsLegal}
use Rattle.kt_spacetime.specs.declared.certificate.Certificate.{Certificate}
use Rattle.kt_spacetime.specs.declared.verdict.Verdict.{Verdict}
use Rattle.kt_spacetime.specs.declared.verdict.Verdict.TheVariants.{Yes, No}
use Rattle.kt_spacetime.specs.declared.verdict.Why.TheVariants as why
use Rattle.kt_meaning.specs.Answers.{IsCheckerAnswer}

zip_push : {X Y : Type 0} (R : X → Y → Type 0) (xs : List X) (ys : List Y) (x : X) (y : Y) → AllZip R xs ys → R x y → AllZip R (xs ++ x ∷ []) (ys ++ y ∷ [])
zip_push R [] [] x y h r = (r, tt)
zip_push R [] (b ∷ ys) x y h r = absurd h
zip_push R (a ∷ xs) [] x y h r = absurd h
zip_push R (a ∷ xs) (b ∷ ys) x y h r = (h.0, zip_push R xs ys x y h.1 r)

-- the open instances that one row more begins
open_more : (s : Past) (rows : List Event) (i : ℕ) (row : Event) → slice_get rows i ≡ Some row
    → filter_map (begun_open s) (take (i + 1) rows) ≡ filter_map (begun_open s) (take i rows) ++ filter_map (begun_open s) (row ∷ [])
open_more s rows i row at = ap (filter_map (begun_open s)) (take_item rows i (i + 1) row refl at) ∙ filter_map-append (begun_open s) (take i rows) (row ∷ [])

-- a row that begins one
pub told_with : (s : Past) (rows : List Event) (i : ℕ) (row : Event) (list : List OpenInstance) (k : ℕ) (o : OpenInstance) → slice_get rows i ≡ Some row → begun_open s row ≡ Some k
    → IsOpenInstance s k o → AllZip (IsOpenInstance s) (filter_map (begun_open s) (take i rows)) list
    → AllZip (IsOpenInstance s) (filter_map (begun_open s) (take (i + 1) rows)) (list ++ o ∷ [])
told_with s rows i row list k o at is told before =
    let one : filter_map (begun_open s) (row ∷ []) ≡ k ∷ [] = ap (λ (b : Option ℕ). cons_option b []) is in
    subst (λ (l : List ℕ). AllZip (IsOpenInstance s) l (list ++ o ∷ [])) (sym (open_more s rows i row at ∙ ap (λ (l : List ℕ). filter_map (begun_open s) (take i rows) ++ l) one))
    (zip_push (IsOpenInstance s) (filter_map (begun_open s) (take i rows)) list k o before told)

-- and one that begins none
pub told_without : (s : Past) (rows : List Event) (i : ℕ) (row : Event) (list : List OpenInstance) → slice_get rows i ≡ Some row → begun_open s row ≡ None
    → AllZip (IsOpenInstance s) (filter_map (begun_open s) (take i rows)) list → AllZip (IsOpenInstance s) (filter_map (begun_open s) (take (i + 1) rows)) list
told_without s rows i row list at is before =
    let none : filter_map (begun_open s) (row ∷ []) ≡ [] = ap (λ (b : Option ℕ). cons_option b []) is in
    subst (λ (l : List ℕ). AllZip (IsOpenInstance s) l list)
    (sym (open_more s rows i row at ∙ (ap (λ (l : List ℕ). filter_map (begun_open s) (take i rows) ++ l) none ∙ append-nil (filter_map (begun_open s) (take i rows))))) before

-- a log that passes is legal
pub yes_legal : (rows : List Event) (certificates : List Certificate) (verdict : Verdict) → IsCheckerAnswer rows certificates verdict → verdict ≡ Yes → IsLegal rows
yes_legal rows certificates verdict answer passes = elim answer [
  | inl passed ↦ passed.1.legal
  | inr fault ↦ elim fault [
    | inl bad ↦ (let never : Yes ≡ No None (Some bad.0) (why.BadLog bad.1) = sym passes ∙ bad.2 in absurd (cc))
    | inr legal ↦ legal.0
  ]
]
