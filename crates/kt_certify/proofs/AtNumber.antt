-- An item at a number, and another one in its place.
use Rattle.std.proofs.Common.{◌≡◌, ℕ, zero, suc, ◌+◌, ◌-◌, ◌≤◌, Some, None, List, [], ◌∷◌, ◌++◌, length, take, set, refl, sym, ap, ◌∙◌, arith}
use Rattle.std.specs.List.{slice_get, filter_map, cons_option}
use Rattle.std.proofs.lemmas.Option.{slice_get_past}
use Rattle.std.proofs.lemmas.List.Elements.{filter_map-append}
use Rattle.kt_rules.specs.Standing.{at_number}
use Rattle.kt_meaning.proofs.Items.{take_item}
use Rattle.kt_spacetime.specs.declared.certificate.Certificate.{Certificate}
use Rattle.kt_certify.specs.Instances.{InstanceParts, changed_at, changed}
use Rattle.kt_certify.proofs.Changed.{changed_set}

-- where it is there, it is set at its index
pub set_number : {X : Type 0} (xs : List X) (g k : ℕ) (f : X → X) (x y : X) → g ≡ k → 1 ≤ g → slice_get xs (g - 1) ≡ Some x → y ≡ f x → set xs (g - 1) y ≡ changed k f xs
set_number xs g zero f x y same few at is = absurd (omega (arith, same, few))
set_number xs g (suc n) f x y same few at is =
    let index : g - 1 ≡ n = omega (arith, same) in
    (λ i. set xs (index i) (is i)) ∙ sym (changed_set n f xs x (sym (ap (slice_get xs) index) ∙ at))

past_end : {X : Type 0} (n : ℕ) (f : X → X) (xs : List X) → length xs ≤ n → xs ≡ changed_at n f xs
past_end n f [] high = refl
past_end zero f (x ∷ xs) high = absurd (omega (arith, high))
past_end {X = X} (suc n) f (x ∷ xs) high = ap (λ (l : List X). x ∷ l) (past_end n f xs (omega (arith, high)))

-- where it is not, nothing changes
pub left_number : {X : Type 0} (xs : List X) (g k : ℕ) (f : X → X) → g ≡ k → 1 ≤ g → length xs ≤ g - 1 → xs ≡ changed k f xs
left_number xs g zero f same few high = absurd (omega (arith, same, few))
left_number xs g (suc n) f same few high = past_end n f xs (omega (arith, same, high))

pub number_there : {X : Type 0} (xs : List X) (g k : ℕ) (x : X) → g ≡ k → 1 ≤ g → slice_get xs (g - 1) ≡ Some x → at_number xs k ≡ Some x
number_there xs g zero x same few at = absurd (omega (arith, same, few))
number_there xs g (suc n) x same few at =
    let index : g - 1 ≡ n = omega (arith, same) in
    sym (ap (slice_get xs) index) ∙ at

pub number_past : {X : Type 0} (xs : List X) (g k : ℕ) (x : X) → g ≡ k → 1 ≤ g → length xs ≤ g - 1 → at_number xs k ≡ Some x → ⊥
number_past xs g zero x same few high at = absurd (cc)
number_past xs g (suc n) x same few high at = clash (sym (slice_get_past xs n (omega (arith, same, high))) ∙ at)
  where
    clash : None ≡ Some x → ⊥
    clash e = cc

-- one more entry is looked at for its certificate
pub found_more : (es : List InstanceParts) (i : ℕ) (e : InstanceParts) (list more : List Certificate) → slice_get es i ≡ Some e → list ≡ filter_map (λ e. e.certificate) (take i es) → more ≡ list ++ cons_option e.certificate []
    → more ≡ filter_map (λ e. e.certificate) (take (i + 1) es)
found_more es i e list more at so_far is =
    is
    ∙ (ap (λ (l : List Certificate). l ++ cons_option e.certificate []) so_far
    ∙ (sym (filter_map-append (λ e. e.certificate) (take i es) (e ∷ []))
    ∙ ap (filter_map (λ e. e.certificate)) (sym (take_item es i (i + 1) e refl at))))
