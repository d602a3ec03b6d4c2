-- Words joined by blanks.
use Rattle.std.proofs.Common.{◌≡◌, ◌∙◌, ◌<◌, ◌+◌, ◌-◌, ℕ, List, [], ◌∷◌, ◌++◌, length, map, sym, ap, take, drop, get_or, append_assoc, arith}
use Rattle.std.proofs.lemmas.List.{take_more, take_all, append-nil, flat_map_more, length-drop}
use Rattle.std.proofs.lemmas.List.Concat.{flat_map-append}
use Rattle.std.specs.List.{flat_map, join_with_byte}

-- a word and the words of a list, each with a blank before it
joined : (f : ℕ → List ℕ) (word : List ℕ) (items : List ℕ) → join_with_byte 32 (word ∷ map f items) ≡ word ++ flat_map (λ (m : ℕ). 32 ∷ f m) items
joined f word [] = sym (append-nil word)
joined f word (item ∷ items) = ap (λ (x : List ℕ). word ++ 32 ∷ x) (joined f (f item) items)

-- two words and the words of a list are gathered, and the line is ended
pub gathers_line : (f : ℕ → List ℕ) (text one two three four first second items : List ℕ) → one ≡ text ++ first → two ≡ one ++ 32 ∷ second
    → three ≡ two ++ flat_map (λ (m : ℕ). 32 ∷ f m) items → four ≡ three ++ 10 ∷ []
    → four ≡ text ++ (join_with_byte 32 (first ∷ second ∷ map f items) ++ 10 ∷ [])
gathers_line f text one two three four first second items a b c d =
    let words = flat_map (λ (m : ℕ). 32 ∷ f m) items in
    d ∙ ap (λ (x : List ℕ). x ++ 10 ∷ []) (c ∙ ap (λ (x : List ℕ). x ++ words) (b ∙ ap (λ (x : List ℕ). x ++ 32 ∷ second) a))
    ∙ ap (λ (x : List ℕ). (x ++ words) ++ 10 ∷ []) (append_assoc text first (32 ∷ second))
    ∙ ap (λ (x : List ℕ). x ++ 10 ∷ []) (append_assoc text (first ++ 32 ∷ second) words)
    ∙ ap (λ (x : List ℕ). (text ++ x) ++ 10 ∷ []) (append_assoc first (32 ∷ second) words)
    ∙ ap (λ (x : List ℕ). (text ++ (first ++ 32 ∷ x)) ++ 10 ∷ []) (sym (joined f second items))
    ∙ append_assoc text (join_with_byte 32 (first ∷ second ∷ map f items)) (10 ∷ [])

-- one more word of a list is gathered
pub words_more : (f : ℕ → List ℕ) (text items old new : List ℕ) (i item : ℕ) → i < length items → get_or items i item ≡ item
    → old ≡ text ++ flat_map f (take i items) → new ≡ old ++ f item → new ≡ text ++ flat_map f (take (i + 1) items)
words_more f text items old new i item within at was more =
    let step : take (i + 1) items ≡ take i items ++ item ∷ [] = take_more items i item within ∙ ap (λ (m : ℕ). take i items ++ m ∷ []) at in
    more ∙ ap (λ (x : List ℕ). x ++ f item) was ∙ flat_map_more f text (take i items) item
    ∙ ap (λ (x : List ℕ). text ++ flat_map f x) (sym step)

-- the words of a list are those of one that it goes on from, and the others
pub words_on : (f : ℕ → List ℕ) (told items old new : List ℕ) → items ≡ told ++ drop (length told) items → old ≡ flat_map f told
    → new ≡ old ++ flat_map f (take (length items - length told) (drop (length told) items)) → new ≡ flat_map f items
words_on f told items old new on was more =
    let rest = drop (length told) items in
    let all : take (length items - length told) rest ≡ rest = take_all (length items - length told) rest (omega (arith, length-drop (length told) items)) in
    more ∙ ap (λ (x : List ℕ). old ++ flat_map f x) all ∙ ap (λ (x : List ℕ). x ++ flat_map f rest) was
    ∙ sym (flat_map-append f told rest) ∙ ap (flat_map f) (sym on)
