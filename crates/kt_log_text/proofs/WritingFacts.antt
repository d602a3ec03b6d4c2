-- The text of a log gathered and written piece by piece.
use Rattle.std.proofs.Common.{◌≡◌, ◌∙◌, ◌<◌, ◌≤◌, ◌+◌, ℕ, List, [], ◌∷◌, ◌++◌, length, map, sym, ap, subst, take, get_or, Option}
use Rattle.std.proofs.lemmas.List.{take_more, take_all, map-append}
use Rattle.kt_spacetime.specs.declared.event.Event.{Event}
use Rattle.kt_text.specs.Writing.{line_of, text_of, Sends, WritesFront}
use Rattle.kt_text.proofs.PieceFacts.{sends_gathered, sends_nothing, text_more, front_after, front_last, records_front}
use Rattle.kt_log_text.specs.Spelling.{spelling}
use Rattle.kt_log_text.specs.Texts.{header}

-- the text of some rows
abbrev pub text_to : List Event → List ℕ
text_to rows = text_of (header ∷ map spelling rows)

-- the text of one more row
one_more : (rows : List Event) (row : Event) → text_to (rows ++ row ∷ []) ≡ text_to rows ++ line_of (spelling row)
one_more rows row = ap (λ (r : List (List (List ℕ))). text_of (header ∷ r)) (map-append spelling rows (row ∷ [])) ∙ text_more (header ∷ map spelling rows) (spelling row)

-- one more row is gathered, and what is full goes out
pub sends_row : (a b d : Option (List ℕ)) (y z u : List ℕ) (rows : List Event) (i : ℕ) (row : Event) → i < length rows → get_or rows i row ≡ row
    → Sends a b [] y (text_to (take i rows)) → z ≡ y ++ line_of (spelling row) → Sends b d z u [] → Sends a d [] u (text_to (take (i + 1) rows))
sends_row a b d y z u rows i row within at p e out =
    let step : take (i + 1) rows ≡ take i rows ++ row ∷ [] = take_more rows i row within ∙ ap (λ (r : Event). take i rows ++ r ∷ []) at in
    let gathered = sends_gathered a b [] y z (text_to (take i rows)) (line_of (spelling row)) p e in
    subst (λ (text : List ℕ). Sends a d [] u text) (sym (ap text_to step ∙ one_more (take i rows) row))
    (sends_nothing a b d [] z u (text_to (take i rows) ++ line_of (spelling row)) gathered out)

-- at a row it stops
pub stops_at_row : (a b d : Option (List ℕ)) (y : List ℕ) (rows : List Event) (i : ℕ) (row : Event) → i < length rows → get_or rows i row ≡ row
    → Sends a b [] y (text_to (take i rows)) → WritesFront b d (y ++ line_of (spelling row)) → WritesFront a d (text_to rows)
stops_at_row a b d y rows i row within at p q =
    front_after a b d [] y (text_to (take i rows)) (line_of (spelling row)) (text_to rows) p q (records_front header spelling rows i row within at)

-- it stops after the last row
pub stops_at_end : (a b d : Option (List ℕ)) (y : List ℕ) (rows : List Event) (i : ℕ) → length rows ≤ i → Sends a b [] y (text_to (take i rows)) → WritesFront b d y → WritesFront a d (text_to rows)
stops_at_end a b d y rows i all p q =
    front_last a b d [] y (text_to rows) (subst (λ (r : List Event). Sends a b [] y (text_to r)) (take_all i rows all) p) q
