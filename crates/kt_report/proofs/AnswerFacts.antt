-- The answers of those who were unwilling, kept by instance.
use Rattle.std.proofs.Common.{arith, ◌≡◌, ◌≢◌, ◌∙◌, ◌<◌, ◌≤◌, ◌+◌, ◌-◌, ℕ, zero, suc, List, [], ◌∷◌, ◌++◌, length, map, set, sym, ap, refl, get_or, Bool, true, false}
use Rattle.std.specs.Prelude.{◌==◌, if◌then◌else◌, codes}
use Rattle.std.specs.List.{flat_map}
use Rattle.std.proofs.lemmas.Grind.{flat_map-append}
use Rattle.std.proofs.lemmas.Bool.{eqb-true, eqb-false}
use Rattle.std.proofs.lemmas.List.{map-append, map-set, length-map, get_or-map, get_or-set_same, get_or-set_other, append-nil}
use Rattle.kt_spacetime.specs.declared.event.Event.{Event}
use Rattle.kt_spacetime.specs.declared.event.Event.TheVariants.{Unwilling}
use Rattle.kt_spacetime.specs.declared.certificate.Certificate.{Certificate}
use Rattle.kt_log_text.specs.Spelling.{cause_word}
use Rattle.kt_report.specs.Lines.{line, name_of, member_line, unwilling_line}
use Rattle.kt_report.specs.Unwilling.{UnwillingAnswer, answer_line, unwilling_in, unwilling_of, answers_to}

-- a row has the line of its answer, where it is one to this instance
line_at : (names : List (List ℕ)) (inst : ℕ) (row : Event) → flat_map (answer_line names) (unwilling_in inst row) ≡ unwilling_line names inst row
line_at names inst (Unwilling p other cause) = go (other == inst)
  where
    words : List (List ℕ)
    words = codes "unwilling" ∷ name_of names p ∷ cause_word cause ∷ []

    go : (b : Bool) → flat_map (answer_line names) (if b then (p, cause) ∷ [] else []) ≡ (if b then line words else [])
    go true = append-nil (line words)
    go false = refl
line_at names inst _ = refl

-- the lines of the answers to an instance are those of the rows
pub answer_lines : (names : List (List ℕ)) (inst : ℕ) (rows : List Event) → flat_map (answer_line names) (unwilling_of inst rows) ≡ flat_map (unwilling_line names inst) rows
answer_lines names inst [] = refl
answer_lines names inst (row ∷ rows) =
    flat_map-append (answer_line names) (unwilling_in inst row) (unwilling_of inst rows)
    ∙ ap (λ (l : List ℕ). l ++ flat_map (answer_line names) (unwilling_of inst rows)) (line_at names inst row)
    ∙ ap (λ (l : List ℕ). unwilling_line names inst row ++ l) (answer_lines names inst rows)

-- the lines of an instance but its own
abbrev pub part_lines : List (List ℕ) → List Event → Certificate → List ℕ
part_lines names rows c = if c.commit then flat_map (member_line names rows) c.members else flat_map (unwilling_line names c.inst) rows

-- one more empty list
pub get_or-empty : (lists : List (List UnwillingAnswer)) (k : ℕ) → get_or (lists ++ [] ∷ []) k [] ≡ get_or lists k []
get_or-empty [] zero = refl
get_or-empty [] (suc k) = refl
get_or-empty (list ∷ lists) zero = refl
get_or-empty (list ∷ lists) (suc k) = get_or-empty lists k

pub answers_kept : {X : Type 0} (f : X → List UnwillingAnswer) (xs ys : List X) (new : X) (other : ℕ) → ys ≡ xs ++ new ∷ [] → f new ≡ [] → answers_to (map f ys) other ≡ answers_to (map f xs) other
answers_kept f xs ys new other more none =
    ap (λ (l : List (List UnwillingAnswer)). answers_to l other) (ap (map f) more ∙ map-append f xs (new ∷ []) ∙ ap (λ (a : List UnwillingAnswer). map f xs ++ a ∷ []) none)
    ∙ get_or-empty (map f xs) (other - 1)

-- one more answer to an instance
pub answers-more : {X : Type 0} (f : X → List UnwillingAnswer) (xs : List X) (k : ℕ) (old new : X) (inst other : ℕ) (a : UnwillingAnswer) → k < length xs → k + 1 ≡ inst → 1 ≤ other
    → old ≡ get_or xs k old → f new ≡ f old ++ a ∷ [] → answers_to (map f (set xs k new)) other ≡ answers_to (map f xs) other ++ (if inst == other then a ∷ [] else [])
answers-more f xs k old new inst other a within place positive at more =
    let inside : k < length (map f xs) = simp length-map within in
    let written : answers_to (map f (set xs k new)) other ≡ get_or (set (map f xs) k (f new)) (other - 1) [] = ap (λ (l : List (List UnwillingAnswer)). get_or l (other - 1) []) (map-set f xs k new) in
    let was : f old ≡ get_or (map f xs) k [] = ap f at ∙ sym (get_or-map f xs k old [] within) in
    let P : Bool → Type 0 = λ b. (inst == other) ≡ b → answers_to (map f (set xs k new)) other ≡ answers_to (map f xs) other ++ (if b then a ∷ [] else []) in
    (elim (inst == other) as P [
      | true ↦ λ h. let here : other - 1 ≡ k = omega (arith, eqb-true inst other h) in
          written ∙ ap (λ (j : ℕ). get_or (set (map f xs) k (f new)) j []) here ∙ get_or-set_same (map f xs) k (f new) [] inside ∙ more
          ∙ ap (λ (x : List UnwillingAnswer). x ++ a ∷ []) (was ∙ ap (λ (j : ℕ). get_or (map f xs) j []) (sym here))
      | false ↦ λ h. let there : other - 1 ≢ k = λ q. eqb-false inst other h (omega (arith, q)) in
          written ∙ get_or-set_other (map f xs) k (other - 1) (f new) [] there ∙ sym (append-nil (get_or (map f xs) (other - 1) []))
    ]) refl
