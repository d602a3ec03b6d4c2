-- Texts of lists of items, gathered item by item.
use Rattle.std.proofs.Common.{◌≡◌, ◌∙◌, ◌<◌, ◌≤◌, ◌+◌, ℕ, List, [], ◌∷◌, ◌++◌, length, map, refl, sym, ap, take, get_or, append_assoc, Result}
use Rattle.std.proofs.lemmas.List.{append-nil, map_more, take_all}
use Rattle.std.proofs.lemmas.Result.{on_ok_weaker}
use Rattle.std.specs.Result.{OnOk}
use Rattle.std.specs.List.{flat_map}
use Rattle.kt_text.proofs.PieceFacts.{items_more}

-- the text of one more item is gathered
pub gathers_item : {A : Type 0} (f : A → List ℕ) (before old new : List ℕ) (items : List A) (i : ℕ) (item : A) → i < length items → get_or items i item ≡ item
    → old ≡ before ++ flat_map f (take i items) → new ≡ old ++ f item → new ≡ before ++ flat_map f (take (i + 1) items)
gathers_item f before old new items i item within at was more =
    more ∙ ap (λ (x : List ℕ). x ++ f item) was ∙ append_assoc before (flat_map f (take i items)) (f item)
    ∙ ap (λ (x : List ℕ). before ++ x) (sym (items_more f items i item within at))

-- a piece, said in other words
pub same_piece : (t u a b : List ℕ) → u ≡ t ++ a → a ≡ b → u ≡ t ++ b
same_piece t u a b e same = e ∙ ap (λ (x : List ℕ). t ++ x) same

-- what follows from a gathered text
pub gathered : {T E P Q : Type 0} (r : Result T E) → OnOk r P → (P → Q) → OnOk r Q
gathered r p f = on_ok_weaker r f p

-- one more piece
pub then_piece : (t u v a b : List ℕ) → u ≡ t ++ a → v ≡ u ++ b → v ≡ t ++ (a ++ b)
then_piece t u v a b first next = next ∙ ap (λ (x : List ℕ). x ++ b) first ∙ append_assoc t a b

-- no item is left to gather
pub gathers_all : {A : Type 0} (f : A → List ℕ) (before new : List ℕ) (items : List A) (i : ℕ) → length items ≤ i
    → new ≡ before ++ flat_map f (take i items) → new ≡ before ++ flat_map f items
gathers_all {A = A} f before new items i all e = e ∙ ap (λ (x : List A). before ++ flat_map f x) (take_all i items all)

-- what is made of one more item is gathered
pub maps_item : {A B : Type 0} (f : A → B) (before old new : List B) (x : B) (items : List A) (i : ℕ) (item : A) → i < length items → get_or items i item ≡ item
    → old ≡ before ++ map f (take i items) → new ≡ old ++ x ∷ [] → x ≡ f item → new ≡ before ++ map f (take (i + 1) items)
maps_item {A = A} {B = B} f before old new x items i item within at was more same =
    more ∙ (λ j. was j ++ same j ∷ []) ∙ append_assoc before (map f (take i items)) (f item ∷ [])
    ∙ ap (λ (l : List B). before ++ l) (ap (λ (y : A). map f (take i items) ++ f y ∷ []) (sym at) ∙ sym (map_more f items i item within))

-- no item is left to make anything of
pub maps_all : {A B : Type 0} (f : A → B) (before new : List B) (items : List A) (i : ℕ) → length items ≤ i → new ≡ before ++ map f (take i items) → new ≡ before ++ map f items
maps_all {A = A} f before new items i all e = e ∙ ap (λ (l : List A). before ++ map f l) (take_all i items all)

-- three pieces
pub three_pieces : (t u a b c : List ℕ) → u ≡ t ++ a ++ b ++ c → u ≡ t ++ (a ++ b ++ c)
three_pieces t u a b c e = e ∙ ap (λ (x : List ℕ). x ++ c) (append_assoc t a b) ∙ append_assoc t (a ++ b) c

-- three pieces more
pub then_three : (t u v s a b c : List ℕ) → u ≡ t ++ s → v ≡ u ++ a ++ b ++ c → v ≡ t ++ (s ++ a ++ b ++ c)
then_three t u v s a b c first next =
    next ∙ ap (λ (x : List ℕ). x ++ a ++ b ++ c) first ∙ ap (λ (x : List ℕ). x ++ b ++ c) (append_assoc t s a) ∙ three_pieces t (t ++ (s ++ a) ++ b ++ c) (s ++ a) b c refl

-- two pieces more, after an empty one
pub then_two : (t u v s b c : List ℕ) → u ≡ t ++ s → v ≡ u ++ [] ++ b ++ c → v ≡ t ++ (s ++ b ++ c)
then_two t u v s b c first next =
    next ∙ ap (λ (x : List ℕ). x ++ b ++ c) (append-nil u) ∙ ap (λ (x : List ℕ). x ++ b ++ c) first ∙ three_pieces t (t ++ s ++ b ++ c) s b c refl

-- two pieces more
pub then_pair : (t u v s a b : List ℕ) → u ≡ t ++ s → v ≡ u ++ a ++ b → v ≡ t ++ (s ++ a ++ b)
then_pair t u v s a b first next = next ∙ ap (λ (x : List ℕ). x ++ a ++ b) first ∙ three_pieces t (t ++ s ++ a ++ b) s a b refl

-- two pieces, before an empty one
pub two_pieces : (t u a b : List ℕ) → u ≡ t ++ a ++ b ++ [] → u ≡ t ++ (a ++ b)
two_pieces t u a b e = e ∙ append-nil (t ++ a ++ b) ∙ append_assoc t a b
