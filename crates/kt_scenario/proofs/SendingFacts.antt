-- Texts of lists of items, sent item by item.
use Rattle.std.proofs.Common.{◌≡◌, ◌∙◌, ◌<◌, ◌≤◌, ◌+◌, ℕ, List, [], ◌++◌, length, sym, ap, subst, take, get_or, Option}
use Rattle.std.proofs.lemmas.List.{take_all}
use Rattle.std.specs.List.{flat_map}
use Rattle.kt_text.specs.Writing.{Sends, WritesFront}
use Rattle.kt_text.proofs.PieceFacts.{sends_gathered, sends_nothing, items_more, items_front, front_after, front_last}

-- one more item is gathered, and what is full goes out
pub sends_pushed : {A : Type 0} (f : A → List ℕ) (a b d : Option (List ℕ)) (x y z u : List ℕ) (items : List A) (i : ℕ) (item : A) → i < length items → get_or items i item ≡ item
    → Sends a b x y (flat_map f (take i items)) → z ≡ y ++ f item → Sends b d z u [] → Sends a d x u (flat_map f (take (i + 1) items))
sends_pushed f a b d x y z u items i item within at p e out =
    subst (λ (text : List ℕ). Sends a d x u text) (sym (items_more f items i item within at))
    (sends_nothing a b d x z u (flat_map f (take i items) ++ f item) (sends_gathered a b x y z (flat_map f (take i items)) (f item) p e) out)

-- no item is left to send
pub sends_all : {A : Type 0} (f : A → List ℕ) (a b : Option (List ℕ)) (x y : List ℕ) (items : List A) (i : ℕ) → length items ≤ i
    → Sends a b x y (flat_map f (take i items)) → Sends a b x y (flat_map f items)
sends_all f a b x y items i all p = subst (λ (text : List ℕ). Sends a b x y text) (ap (flat_map f) (take_all i items all)) p

-- it stops at an item
pub stops_at_item : {A : Type 0} (f : A → List ℕ) (a b d : Option (List ℕ)) (x y : List ℕ) (items : List A) (i : ℕ) (item : A) → i < length items → get_or items i item ≡ item
    → Sends a b x y (flat_map f (take i items)) → WritesFront b d (y ++ f item) → WritesFront a d (x ++ flat_map f items)
stops_at_item f a b d x y items i item within at p q = front_after a b d x y (flat_map f (take i items)) (f item) (flat_map f items) p q (items_front f items i item within at)

-- the same, once the item is gathered
pub stops_pushed : {A : Type 0} (f : A → List ℕ) (a b d : Option (List ℕ)) (x y z : List ℕ) (items : List A) (i : ℕ) (item : A) → i < length items → get_or items i item ≡ item
    → Sends a b x y (flat_map f (take i items)) → z ≡ y ++ f item → WritesFront b d z → WritesFront a d (x ++ flat_map f items)
stops_pushed f a b d x y z items i item within at p e q = stops_at_item f a b d x y items i item within at p (subst (λ (u : List ℕ). WritesFront b d u) e q)

-- it stops once all items are gathered
pub stops_at_end : {A : Type 0} (f : A → List ℕ) (a b d : Option (List ℕ)) (x y : List ℕ) (items : List A) (i : ℕ) → length items ≤ i
    → Sends a b x y (flat_map f (take i items)) → WritesFront b d y → WritesFront a d (x ++ flat_map f items)
stops_at_end f a b d x y items i all p q = front_last a b d x y (flat_map f items) (sends_all f a b x y items i all p) q
