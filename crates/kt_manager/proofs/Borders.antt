-- A list of messages with a border in it.
use Rattle.std.specs.Prelude.{nat_lt, min, filter}
use Rattle.std.proofs.Common.{◌≡◌, ℕ, zero, suc, ◌+◌, ◌-◌, Option, Some, None, List, [], ◌∷◌, ◌++◌, length, take, drop, refl, arith, sym, ap, ◌∙◌, inl, inr}
use Rattle.std.proofs.Math.Seq.{take-add}
use Rattle.std.proofs.Math.ListN.{drop_of_length-le, length-take}
use Rattle.std.proofs.lemmas.List.{take-append-drop, drop-drop, drop-take}
use Rattle.std.proofs.lemmas.List.Elements.{filter-append}
use Rattle.std.proofs.lemmas.Bool.{cases_lt}
use Rattle.std.proofs.lemmas.Bool.Decides.{nat_tests}
use Rattle.kt_manager.specs.declared.received.Item.{Item}
use Rattle.kt_manager.specs.Messages.{Messages, has_some, is_within, within}

-- the first k are kept, and the others are held
abbrev pub parted : ℕ → List Item → ℕ → Messages
parted k xs space = record { kept = take k xs; held = drop k xs; space = space }

pub held_past : (k : ℕ) (xs : List Item) → nat_lt k (length xs) ≡ has_some (drop k xs)
held_past zero [] = refl
held_past zero (x ∷ xs) = grind (arith, nat_tests)
held_past (suc k) [] = grind (arith, nat_tests)
held_past (suc k) (x ∷ xs) = grind (arith, nat_tests, held_past k xs)

-- the border moves up by one
pub border_up : (k : ℕ) (xs : List Item) (space : ℕ) →
    parted (k + 1) xs space ≡ record { kept = take k xs ++ take 1 (drop k xs); held = drop 1 (drop k xs); space = space }
border_up k xs space = rw (take-add k 1 xs, drop-drop 1 k xs) refl

-- the first g go
gone_below : (g m : ℕ) (xs : List Item) (space : ℕ) →
    parted m (drop g xs) space ≡ record { kept = drop g (take (g + m) xs); held = drop (g + m) xs; space = space }
gone_below g m xs space = rw (drop-take g m xs, drop-drop m g xs) refl

pub forgotten : (count g k : ℕ) (xs : List Item) (space : ℕ) → g ≡ min count k →
    parted (k - g) (drop g xs) space ≡ record { kept = drop count (take k xs); held = drop k xs; space = space }
forgotten count g k xs space e = elim (cases_lt k count) [
  | inl l ↦
      let all : g ≡ k = omega arith in
      let none : k - g ≡ 0 = omega arith in
      let past : drop count (take k xs) ≡ [] = drop_of_length-le (take k xs) (omega (arith, length-take k xs)) in
      rw (none, all, past) refl
  | inr l ↦
      let it : g ≡ count = omega arith in
      let rest : k ≡ count + (k - count) = omega arith in
      rw it (gone_below count (k - count) xs space ∙ ap (λ (n : ℕ). record { kept = drop count (take n xs); held = drop n xs; space = space }) (sym rest))
]

within_parts : (k : ℕ) (xs : List Item) (most : Option ℕ) → within most xs ≡ within most (take k xs) ++ within most (drop k xs)
within_parts k xs None = sym (take-append-drop k xs)
within_parts k xs (Some m) =
    ap (λ (l : List Item). filter (is_within m) l) (sym (take-append-drop k xs)) ∙ filter-append (is_within m) (take k xs) (drop k xs)

-- all are held, without what is above a label
pub border_down : (k : ℕ) (xs : List Item) (most : Option ℕ) (space : ℕ) →
    parted 0 (within most xs) space ≡ record { kept = []; held = within most (take k xs) ++ within most (drop k xs); space = space }
border_down k xs most space = ap (λ (l : List Item). record { kept = []; held = l; space = space }) (within_parts k xs most)
