-- The lines of objects, gathered one by one.
use Rattle.std.proofs.Common.{arith, ◌≡◌, ◌∙◌, ◌<◌, ◌+◌, ℕ, ℤ, List, [], ◌∷◌, ◌++◌, Option, length, sym, ap, take, get_or, append_assoc, length-take}
use Rattle.std.proofs.lemmas.List.{take_more, append-nil}
use Rattle.kt_report.specs.Lines.{object_line}
use Rattle.kt_report.specs.Report.{object_lines}

-- one more line
pub lines-more : (names : List (List ℕ)) (offers : List (Option ℤ)) (name : List ℕ) (offer : Option ℤ) → length offers ≡ length names
    → object_lines (names ++ name ∷ []) (offers ++ offer ∷ []) ≡ object_lines names offers ++ object_line name offer
lines-more [] [] name offer e = append-nil (object_line name offer)
lines-more [] (first ∷ offers) name offer e = absurd (omega arith)
lines-more (first ∷ names) [] name offer e = absurd (omega arith)
lines-more (first ∷ names) (next ∷ offers) name offer e =
    ap (λ (x : List ℕ). object_line first next ++ x) (lines-more names offers name offer (omega arith)) ∙ sym (append_assoc (object_line first next) (object_lines names offers) (object_line name offer))

-- the line of one more name is gathered
pub gathers_object : (names : List (List ℕ)) (offers : List (Option ℤ)) (i : ℕ) (name before old new : List ℕ) (offer : Option ℤ) → length offers ≡ length names → i < length names
    → get_or names i name ≡ name → get_or offers i offer ≡ offer → old ≡ before ++ object_lines (take i names) (take i offers) → new ≡ old ++ object_line name offer
    → new ≡ before ++ object_lines (take (i + 1) names) (take (i + 1) offers)
gathers_object names offers i name before old new offer one_each within at at_offer was more =
    let more_names : take (i + 1) names ≡ take i names ++ name ∷ [] = take_more names i name within ∙ ap (λ (m : List ℕ). take i names ++ m ∷ []) at in
    let more_offers : take (i + 1) offers ≡ take i offers ++ offer ∷ [] = take_more offers i offer (omega (arith, one_each, within)) ∙ ap (λ (m : Option ℤ). take i offers ++ m ∷ []) at_offer in
    let same : length (take i offers) ≡ length (take i names) = omega (arith, length-take i offers, length-take i names, one_each, within) in
    more ∙ ap (λ (x : List ℕ). x ++ object_line name offer) was ∙ append_assoc before (object_lines (take i names) (take i offers)) (object_line name offer)
    ∙ ap (λ (x : List ℕ). before ++ x) (sym (lines-more (take i names) (take i offers) name offer same) ∙ (λ j. object_lines (sym more_names j) (sym more_offers j)))
