-- Texts of lists of items, sent item by item.
use Rattle.std.proofs.Common.{◌≡◌, ◌∙◌, ◌<◌, ◌≤◌, ◌+◌, ℕ, List, [], ◌++◌, length, sym, ap, subst, take, get_or, Option, append_assoc}
use Rattle.std.proofs.lemmas.List.{take_all, append-nil}
use Rattle.std.specs.List.{flat_map}
use Rattle.kt_text.specs.Writing.{Sends, WritesFront}
use Rattle.kt_text.proofs.PieceFacts.{sends_more, sends_gathered, sends_nothing, starts, items_more, items_front, front_after, front_longer}

-- one more item is sent
pub sends_item : {A : Type 0} (f : A → List ℕ) (a b d : Option (List ℕ)) (x y z : List ℕ) (items : List A) (i : ℕ) (item : A) → i < length items → get_or items i item ≡ item
    → Sends a b x y (flat_map f (take i items)) → Sends b d y z (f item) → Sends a d x z (flat_map f (take (i + 1) items))
sends_item f a b d x y z items i item within at p q =
    subst (λ (text : List ℕ). Sends a d x z text) (sym (items_more f items i item within at)) (sends_more a b d x y z (flat_map f (take i items)) (f item) p q)

-- one more item is gathered, and what is full goes out
pub sends_pushed : {A : Type 0} (f : A → List ℕ) (a b d : Option (List ℕ)) (x y z u : List ℕ) (items : List A) (i : ℕ) (item : A) → i < length items → get_or items i item ≡ item
    → Sends a b x y (flat_map f (take i items)) → z ≡ y ++ f item → Sends b d z u [] → Sends a d x u (flat_map f (take (i + 1) items))
sends_pushed f a b d x y z u items i item within at p e out =
    subst (λ (text : List ℕ). Sends a d x u text) (sym (items_more f items i item within at))
    (sends_nothing a b d x z u (flat_map f (take i items) ++ f item) (sends_gathered a b x y z (flat_map f (take i items)) (f item) p e) out)

-- no item is left to send
pub sends_all : {A : Type 0} (f : A → List ℕ) (a b : Option (List ℕ)) (x y : List ℕ) (items : List A) (i : ℕ) → length items ≤ i
    → Sends a b x y (flat_map f (take i items)) → Sends a b x y (flat_map f items)
sends_all f a b x y items i all p = subst (λ (text : List ℕ). Sends a b x y text) (ap (flat_map f) (take_all i items all)) p

-- a text is sent after what was gathered
pub sends_after : (a b : Option (List ℕ)) (x y z s t : List ℕ) → y ≡ x ++ s → Sends a b y z t → Sends a b x z (s ++ t)
sends_after a b x y z s t e p = record {
  gone = p.gone;
  written = p.written;
  is = p.is ∙ ap (λ (u : List ℕ). u ++ t) e ∙ append_assoc x s t;
}

-- it stops at an item
pub stops_at_item : {A : Type 0} (f : A → List ℕ) (a b d : Option (List ℕ)) (x y : List ℕ) (items : List A) (i : ℕ) (item : A) → i < length items → get_or items i item ≡ item
    → Sends a b x y (flat_map f (take i items)) → WritesFront b d (y ++ f item) → WritesFront a d (x ++ flat_map f items)
stops_at_item f a b d x y items i item within at p q = front_after a b d x y (flat_map f (take i items)) (f item) (flat_map f items) p q (items_front f items i item within at)

-- the same, once the item is gathered
pub stops_pushed : {A : Type 0} (f : A → List ℕ) (a b d : Option (List ℕ)) (x y z : List ℕ) (items : List A) (i : ℕ) (item : A) → i < length items → get_or items i item ≡ item
    → Sends a b x y (flat_map f (take i items)) → z ≡ y ++ f item → WritesFront b d z → WritesFront a d (x ++ flat_map f items)
stops_pushed f a b d x y z items i item within at p e q = stops_at_item f a b d x y items i item within at p (subst (λ (u : List ℕ). WritesFront b d u) e q)

-- it stops in the second of two texts
pub stops_in_second : (a b d : Option (List ℕ)) (x y s t : List ℕ) → Sends a b x y s → WritesFront b d (y ++ t) → WritesFront a d (x ++ (s ++ t))
stops_in_second a b d x y s t p q = front_after a b d x y s t (s ++ t) p q (starts (s ++ t) (s ++ t) [] (sym (append-nil (s ++ t))))

-- it stops in the first of two texts
pub stops_in_first : (a d : Option (List ℕ)) (x s t : List ℕ) → WritesFront a d (x ++ s) → WritesFront a d (x ++ (s ++ t))
stops_in_first a d x s t q = subst (λ (u : List ℕ). WritesFront a d u) (append_assoc x s t) (front_longer a d (x ++ s) t q)

-- it stops in a text after what was gathered
pub stops_after : (b d : Option (List ℕ)) (x y s t : List ℕ) → y ≡ x ++ s → WritesFront b d (y ++ t) → WritesFront b d (x ++ (s ++ t))
stops_after b d x y s t e q = subst (λ (u : List ℕ). WritesFront b d u) (ap (λ (u : List ℕ). u ++ t) e ∙ append_assoc x s t) q
