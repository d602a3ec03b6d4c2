-- What is told is noted of one process.
use Rattle.std.proofs.Common.{arith, ◌≡◌, ◌≢◌, ◌∙◌, ◌<◌, ℕ, List, [], ◌∷◌, ◌++◌, append-nil, length, map, set, sym, ap, refl, get_or, Bool, true, false}
use Rattle.std.specs.Prelude.{◌==◌, if◌then◌else◌}
use Rattle.std.proofs.lemmas.Bool.{eqb-true, eqb-false}
use Rattle.std.proofs.lemmas.List.{map-set, length-map, length-set, get_or-map, get_or-set_same, get_or-set_other}
use Rattle.kt_promises.specs.Steps.{process_of_step}
use Rattle.kt_plan.specs.declared.steps.Told.{Told}
use Rattle.kt_run.specs.Telling.{IsNoted}

-- its list goes on by this
pub noted_there : {X : Type 0} (f : X → List Told) (xs : List X) (k : ℕ) (old new : X) (told : Told) → k < length xs → k ≡ process_of_step told.step
    → old ≡ get_or xs k old → f new ≡ f old ++ told ∷ [] → IsNoted told (map f xs) (map f (set xs k new))
noted_there f xs k old new told within place at more = record {
  count = length-map (set xs k new) f ∙ length-set xs k new ∙ sym (length-map xs f);
  each = λ p l. ap (λ (lists : List (List Told)). get_or lists p []) (map-set f xs k new) ∙ go p (p == process_of_step told.step) refl;
}
  where
    inside : k < length (map f xs)
    inside = simp length-map within

    was : f old ≡ get_or (map f xs) k []
    was = ap f at ∙ sym (get_or-map f xs k old [] within)

    go : (p : ℕ) (b : Bool) → (p == process_of_step told.step) ≡ b → get_or (set (map f xs) k (f new)) p [] ≡ get_or (map f xs) p [] ++ (if b then told ∷ [] else [])
    go p true h = let here : p ≡ k = omega (arith, eqb-true p (process_of_step told.step) h, place) in
        ap (λ (j : ℕ). get_or (set (map f xs) k (f new)) j []) here ∙ get_or-set_same (map f xs) k (f new) [] inside ∙ more
        ∙ ap (λ (list : List Told). list ++ told ∷ []) (was ∙ ap (λ (j : ℕ). get_or (map f xs) j []) (sym here))
    go p false h = let there : p ≢ k = λ q. eqb-false p (process_of_step told.step) h (omega (arith, q, place)) in
        get_or-set_other (map f xs) k p (f new) [] there ∙ sym (append-nil (get_or (map f xs) p []))

-- there is no list for it
pub noted_nowhere : (lists : List (List Told)) (told : Told) → (process_of_step told.step < length lists → false ≡ true) → IsNoted told lists lists
noted_nowhere lists told past = record { count = refl; each = λ p l. go p l (p == process_of_step told.step) refl }
  where
    go : (p : ℕ) → p < length lists → (b : Bool) → (p == process_of_step told.step) ≡ b → get_or lists p [] ≡ get_or lists p [] ++ (if b then told ∷ [] else [])
    go p l true h = let e = eqb-true p (process_of_step told.step) h in let n = past (omega (arith, l, e)) in absurd (cc (n))
    go p l false h = sym (append-nil (get_or lists p []))
