-- Texts gathered and written piece by piece.
use Rattle.std.proofs.Common.{◌≡◌, ◌∙◌, ◌<◌, ◌+◌, ◌-◌, ℕ, List, [], ◌∷◌, ◌++◌, Option, Some, None, Result, Ok, Err, OnErr, refl, sym, ap, length, map, take, drop, get_or, append_assoc}
use Rattle.std.proofs.Math.Seq.{take-append_seam}
use Rattle.std.proofs.lemmas.List.{append-nil, map-append, take_more, take-append-drop, take_rest}
use Rattle.std.proofs.lemmas.List.Concat.{flat_map-append}
use Rattle.csv.proofs.WriteFacts.{appends-more}
use Rattle.std.specs.Io.{StartsWith}
use Rattle.std.specs.Io.KnownBytes.{Appends}
use Rattle.std.specs.List.{flat_map}
use Rattle.kt_text.specs.Writing.{line_of, text_of, Sends, WritesFront}

-- one text is sent after another
pub sends_more : (a b c : Option (List ℕ)) (x y z s t : List ℕ) → Sends a b x y s → Sends b c y z t → Sends a c x z (s ++ t)
sends_more a b c x y z s t p q = record {
  gone = p.gone ++ q.gone;
  written = appends-more a b c p.gone q.gone p.written q.written;
  is = append_assoc p.gone q.gone z ∙ ap (λ (u : List ℕ). p.gone ++ u) q.is ∙ sym (append_assoc p.gone y t) ∙ ap (λ (u : List ℕ). u ++ t) p.is ∙ append_assoc x s t;
}

-- a text is gathered after what was sent
pub sends_gathered : (a b : Option (List ℕ)) (x y z s t : List ℕ) → Sends a b x y s → z ≡ y ++ t → Sends a b x z (s ++ t)
sends_gathered a b x y z s t p e = record {
  gone = p.gone;
  written = p.written;
  is = ap (λ (u : List ℕ). p.gone ++ u) e ∙ sym (append_assoc p.gone y t) ∙ ap (λ (u : List ℕ). u ++ t) p.is ∙ append_assoc x s t;
}

-- nothing more is sent
pub sends_nothing : (a b c : Option (List ℕ)) (x y z s : List ℕ) → Sends a b x y s → Sends b c y z [] → Sends a c x z s
sends_nothing a b c x y z s p q = rw append-nil at (sends_more a b c x y z s [] p q)

-- what is left goes out last
pub sends_rest : (a b c : Option (List ℕ)) (y s : List ℕ) → Sends a b [] y s → Appends b c y → Appends a c s
sends_rest a b c y s p out = rw p.is at (appends-more a b c p.gone y p.written out)

-- a text with one more record
pub text_more : (before : List (List (List ℕ))) (fields : List (List ℕ)) → text_of (before ++ fields ∷ []) ≡ text_of before ++ line_of fields
text_more before fields = flat_map-append line_of before (fields ∷ []) ∙ ap (λ (x : List ℕ). text_of before ++ x) (append-nil (line_of fields))

-- a part of what is left goes out
pub sends_part : (a b c : Option (List ℕ)) (rest text : List ℕ) (n : ℕ) → Sends a b [] rest text → Appends b c (take n rest) → Sends a c [] (take (length rest - n) (drop n rest)) text
sends_part a b c rest text n p out = record {
  gone = p.gone ++ take n rest;
  written = appends-more a b c p.gone (take n rest) p.written out;
  is = ap (λ (u : List ℕ). (p.gone ++ take n rest) ++ u) (take_rest rest n) ∙ append_assoc p.gone (take n rest) (drop n rest) ∙ ap (λ (u : List ℕ). p.gone ++ u) (take-append-drop n rest) ∙ p.is;
}

-- what a text begins with, and what follows it
pub starts : (text part rest : List ℕ) → text ≡ part ++ rest → StartsWith text part
starts text part rest e = ap (take (length part)) e ∙ take-append_seam part rest

parted : (text part : List ℕ) → StartsWith text part → text ≡ part ++ drop (length part) text
parted text part h = sym (take-append-drop (length part) text) ∙ ap (λ (u : List ℕ). u ++ drop (length part) text) h

-- a front part of a text is one of a longer text
pub front_longer : (a b : Option (List ℕ)) (text more : List ℕ) → WritesFront a b text → WritesFront a b (text ++ more)
front_longer a b text more q = record {
  part = q.part;
  written = q.written;
  front = starts (text ++ more) q.part (drop (length q.part) text ++ more) (ap (λ (u : List ℕ). u ++ more) (parted text q.part q.front) ∙ append_assoc q.part (drop (length q.part) text) more);
}

-- no byte is written
appends_none : (a : Option (List ℕ)) → Appends a a []
appends_none None = tt
appends_none (Some bytes) = sym (append-nil bytes)

pub front_none : (a : Option (List ℕ)) (text : List ℕ) → WritesFront a a text
front_none a text = record { part = []; written = appends_none a; front = refl }

-- all of a text is a front part of it
pub front_all : (a b : Option (List ℕ)) (text : List ℕ) → Appends a b text → WritesFront a b text
front_all a b text out = record { part = text; written = out; front = starts text text [] (sym (append-nil text)) }

-- after what was sent, a front part goes out of what is gathered and of what comes next
pub front_after : (a b c : Option (List ℕ)) (x y s t whole : List ℕ) → Sends a b x y s → WritesFront b c (y ++ t) → StartsWith whole (s ++ t) → WritesFront a c (x ++ whole)
front_after a b c x y s t whole p q begins =
    let left = drop (length q.part) (y ++ t) in
    let later = drop (length (s ++ t)) whole in
    let sent : x ++ (s ++ t) ≡ (p.gone ++ q.part) ++ left =
    sym (append_assoc x s t) ∙ ap (λ (u : List ℕ). u ++ t) (sym p.is) ∙ append_assoc p.gone y t ∙ ap (λ (u : List ℕ). p.gone ++ u) (parted (y ++ t) q.part q.front)
    ∙ sym (append_assoc p.gone q.part left) in
    let all : x ++ whole ≡ (p.gone ++ q.part) ++ (left ++ later) =
    ap (λ (u : List ℕ). x ++ u) (parted whole (s ++ t) begins) ∙ sym (append_assoc x (s ++ t) later) ∙ ap (λ (u : List ℕ). u ++ later) sent ∙ append_assoc (p.gone ++ q.part) left later in
    record {
      part = p.gone ++ q.part;
      written = appends-more a b c p.gone q.part p.written q.written;
      front = starts (x ++ whole) (p.gone ++ q.part) (left ++ later) all;
    }

-- the same, where nothing comes next
pub front_last : (a b c : Option (List ℕ)) (x y s : List ℕ) → Sends a b x y s → WritesFront b c y → WritesFront a c (x ++ s)
front_last a b c x y s p q =
    front_after a b c x y s [] s p (front_longer b c y [] q) (starts s (s ++ []) [] (sym (append-nil (s ++ []) ∙ append-nil s)))

-- the first items and one more
items_to : {A : Type 0} (items : List A) (i : ℕ) (item : A) → i < length items → get_or items i item ≡ item → take (i + 1) items ≡ take i items ++ item ∷ []
items_to items i item within at = take_more items i item within ∙ ap (λ m. take i items ++ m ∷ []) at

-- what is made of them
pub items_more : {A B : Type 0} (f : A → List B) (items : List A) (i : ℕ) (item : A) → i < length items → get_or items i item ≡ item
    → flat_map f (take (i + 1) items) ≡ flat_map f (take i items) ++ f item
items_more f items i item within at =
    ap (flat_map f) (items_to items i item within at) ∙ flat_map-append f (take i items) (item ∷ []) ∙ ap (λ r. flat_map f (take i items) ++ r) (append-nil (f item))

-- it is what the text of all begins with
pub items_front : {A : Type 0} (f : A → List ℕ) (items : List A) (i : ℕ) (item : A) → i < length items → get_or items i item ≡ item → StartsWith (flat_map f items) (flat_map f (take i items) ++ f item)
items_front f items i item within at =
    starts (flat_map f items) (flat_map f (take i items) ++ f item) (flat_map f (drop (i + 1) items))
    (ap (flat_map f) (sym (take-append-drop (i + 1) items)) ∙ flat_map-append f (take (i + 1) items) (drop (i + 1) items) ∙ ap (λ r. r ++ flat_map f (drop (i + 1) items)) (items_more f items i item within at))

-- the same of records after a first one
records_joined : {A : Type 0} (first : List (List ℕ)) (f : A → List (List ℕ)) (xs ys : List A) → text_of (first ∷ map f (xs ++ ys)) ≡ text_of (first ∷ map f xs) ++ text_of (map f ys)
records_joined first f xs ys = ap (λ (r : List (List (List ℕ))). text_of (first ∷ r)) (map-append f xs ys) ∙ flat_map-append line_of (first ∷ map f xs) (map f ys)

pub records_front : {A : Type 0} (first : List (List ℕ)) (f : A → List (List ℕ)) (items : List A) (i : ℕ) (item : A) → i < length items → get_or items i item ≡ item
    → StartsWith (text_of (first ∷ map f items)) (text_of (first ∷ map f (take i items)) ++ line_of (f item))
records_front first f items i item within at =
    let step : text_of (first ∷ map f (take (i + 1) items)) ≡ text_of (first ∷ map f (take i items)) ++ line_of (f item) =
    ap (λ xs. text_of (first ∷ map f xs)) (items_to items i item within at) ∙ records_joined first f (take i items) (item ∷ [])
    ∙ ap (λ (u : List ℕ). text_of (first ∷ map f (take i items)) ++ u) (append-nil (line_of (f item))) in
    starts (text_of (first ∷ map f items)) (text_of (first ∷ map f (take i items)) ++ line_of (f item)) (text_of (map f (drop (i + 1) items)))
    (ap (λ xs. text_of (first ∷ map f xs)) (sym (take-append-drop (i + 1) items)) ∙ records_joined first f (take (i + 1) items) (drop (i + 1) items) ∙ ap (λ (u : List ℕ). u ++ text_of (map f (drop (i + 1) items))) step)

-- what holds anyway holds at a fault
pub at_fault : {T E P : Type 0} (r : Result T E) → P → OnErr r P
at_fault (Ok x) p = tt
at_fault (Err e) p = p
