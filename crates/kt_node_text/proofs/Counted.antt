-- A list has a number at least for each of its elements.
use Rattle.std.specs.List.{flat_map}
use Rattle.std.proofs.Common.{ℕ, ◌≤◌, List, [], ◌∷◌, ◌++◌, length, arith, length-append}
use Rattle.kt_manager.specs.declared.received.Item.{Item}
use Rattle.kt_node_text.specs.Form.{of_pair, of_item}

pub as_many : (xs after : List ℕ) → length xs ≤ length (xs ++ after)
as_many xs after = omega (arith, length-append xs after)

enough : {X : Type 0} (f : X → List ℕ) → ((x : X) → 1 ≤ length (f x)) → (xs : List X) (after : List ℕ) → length xs ≤ length (flat_map f xs ++ after)
enough f some [] after = omega arith
enough f some (x ∷ xs) after =
    let h = enough f some xs after in
    let s = some x in
    omega (arith, h, s, length-append (f x) (flat_map f xs), length-append (f x ++ flat_map f xs) after, length-append (flat_map f xs) after)

some_pair : (x : ℕ × ℕ) → 1 ≤ length (of_pair x)
some_pair x = omega arith

some_item : (x : Item) → 1 ≤ length (of_item x)
some_item x = omega arith

pub enough_pairs : (xs : List (ℕ × ℕ)) (after : List ℕ) → length xs ≤ length (flat_map of_pair xs ++ after)
enough_pairs = enough of_pair some_pair

pub enough_items : (xs : List Item) (after : List ℕ) → length xs ≤ length (flat_map of_item xs ++ after)
enough_items = enough of_item some_item
