-- The legend, mark by mark.
use Rattle.std.proofs.Common.{◌≡◌, ◌∙◌, ◌+◌, ◌≤◌, ℕ, Bool, Some, List, [], ◌∷◌, ◌++◌, length, take, refl, sym, ap, append_assoc, arith}
use Rattle.std.specs.Prelude.{filter, not, slice_get}
use Rattle.std.proofs.lemmas.List.{append-nil, length-take-le}
use Rattle.std.proofs.lemmas.Option.{slice_get_within}
use Rattle.std.proofs.lemmas.List.Filters.{length-filter_both}
use Rattle.kt_meaning.proofs.Items.{take_item}
use Rattle.kt_picture.specs.declared.legend.Sign.{Sign}
use Rattle.kt_picture.specs.declared.legend.TheConstants.{SIGNS}
use Rattle.kt_picture.specs.Legend.{legend_from, sign_at}

-- one more mark
legend_push : (top place : ℕ) (signs : List Sign) (sign : Sign)
    → legend_from top place (signs ++ sign ∷ []) ≡ legend_from top place signs ++ sign_at top (place + length signs) sign
legend_push top place [] sign = let e : place ≡ place + 0 = omega arith in append-nil (sign_at top place sign) ∙ ap (λ (n : ℕ). sign_at top n sign) e
legend_push top place (x ∷ signs) sign =
    let e : place + 1 + length signs ≡ place + length (x ∷ signs) = omega arith in
    ap (λ (l : List ℕ). sign_at top place x ++ l) (legend_push top (place + 1) signs sign ∙ ap (λ (n : ℕ). legend_from top (place + 1) signs ++ sign_at top n sign) e)
    ∙ sym (append_assoc (sign_at top place x) (legend_from top (place + 1) signs) (sign_at top (place + length (x ∷ signs)) sign))

-- one more sign of a list
pub legend_more : (top : ℕ) (signs : List Sign) (i : ℕ) (sign : Sign) (before old new : List ℕ) → slice_get signs i ≡ Some sign
    → old ≡ before ++ legend_from top 0 (take i signs) → new ≡ old ++ sign_at top i sign
    → new ≡ before ++ legend_from top 0 (take (i + 1) signs)
legend_more top signs i sign before old new at was more =
    let place : 0 + length (take i signs) ≡ i = omega (arith, length-take-le i signs (omega (arith, slice_get_within signs i sign at))) in
    let here = legend_from top 0 (take i signs) in
    let next : legend_from top 0 (take (i + 1) signs) ≡ here ++ sign_at top i sign =
    ap (legend_from top 0) (take_item signs i (i + 1) sign refl at) ∙ legend_push top 0 (take i signs) sign ∙ ap (λ (n : ℕ). here ++ sign_at top n sign) place in
    more ∙ ap (λ (l : List ℕ). l ++ sign_at top i sign) was ∙ append_assoc before here (sign_at top i sign) ∙ ap (λ (l : List ℕ). before ++ l) (sym next)

-- there are no more than thirteen
pub few_signs : (has : Sign → Bool) → length (filter has SIGNS) ≤ 13
few_signs has =
    let all : length SIGNS ≡ 13 = refl in
    omega (arith, all, length-filter_both has (λ (s : Sign). not (has s)) (λ s. refl) SIGNS)
