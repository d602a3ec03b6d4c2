-- The text of a part gathered and written piece by piece.
use Rattle.std.proofs.Common.{◌≡◌, ◌∙◌, ◌<◌, ◌≤◌, ◌+◌, ℕ, List, [], ◌∷◌, ◌++◌, length, map, sym, ap, subst, take, drop, get_or, Option}
use Rattle.std.proofs.lemmas.List.{take_more, take_all, map-append, take-append-drop}
use Rattle.std.proofs.lemmas.List.Concat.{flat_map-append}
use Rattle.std.specs.Io.{StartsWith}
use Rattle.kt_text.specs.Writing.{line_of, text_of, Sends, WritesFront}
use Rattle.kt_text.proofs.PieceFacts.{sends_gathered, sends_nothing, text_more, front_after, front_last, starts}
use Rattle.kt_spacetime.specs.declared.named_rows.ClockedRow.{ClockedRow}
use Rattle.kt_merge.specs.Spelling.{part_spelling}

-- the text of some rows
abbrev pub text_to : List ClockedRow → List ℕ
text_to rows = text_of (map part_spelling rows)

-- the text of one more row
one_more : (rows : List ClockedRow) (row : ClockedRow) → text_to (rows ++ row ∷ []) ≡ text_to rows ++ line_of (part_spelling row)
one_more rows row = ap text_of (map-append part_spelling rows (row ∷ [])) ∙ text_more (map part_spelling rows) (part_spelling row)

to_next : (rows : List ClockedRow) (i : ℕ) (row : ClockedRow) → i < length rows → get_or rows i row ≡ row → take (i + 1) rows ≡ take i rows ++ row ∷ []
to_next rows i row within at = take_more rows i row within ∙ ap (λ (r : ClockedRow). take i rows ++ r ∷ []) at

-- the text of the first rows is what the text begins with
rows_front : (rows : List ClockedRow) (i : ℕ) (row : ClockedRow) → i < length rows → get_or rows i row ≡ row → StartsWith (text_to rows) (text_to (take i rows) ++ line_of (part_spelling row))
rows_front rows i row within at =
    starts (text_to rows) (text_to (take i rows) ++ line_of (part_spelling row)) (text_to (drop (i + 1) rows))
    (ap text_to (sym (take-append-drop (i + 1) rows)) ∙ (ap text_of (map-append part_spelling (take (i + 1) rows) (drop (i + 1) rows))
    ∙ (flat_map-append line_of (map part_spelling (take (i + 1) rows)) (map part_spelling (drop (i + 1) rows))
    ∙ ap (λ (x : List ℕ). x ++ text_to (drop (i + 1) rows)) (ap text_to (to_next rows i row within at) ∙ one_more (take i rows) row))))

-- one more row is gathered, and what is full goes out
pub sends_row : (a b d : Option (List ℕ)) (y z u : List ℕ) (rows : List ClockedRow) (i : ℕ) (row : ClockedRow) → i < length rows → get_or rows i row ≡ row
    → Sends a b [] y (text_to (take i rows)) → z ≡ y ++ line_of (part_spelling row) → Sends b d z u [] → Sends a d [] u (text_to (take (i + 1) rows))
sends_row a b d y z u rows i row within at p e out =
    let gathered = sends_gathered a b [] y z (text_to (take i rows)) (line_of (part_spelling row)) p e in
    subst (λ (text : List ℕ). Sends a d [] u text) (sym (ap text_to (to_next rows i row within at) ∙ one_more (take i rows) row))
    (sends_nothing a b d [] z u (text_to (take i rows) ++ line_of (part_spelling row)) gathered out)

-- at a row it stops
pub stops_at_row : (a b d : Option (List ℕ)) (y : List ℕ) (rows : List ClockedRow) (i : ℕ) (row : ClockedRow) → i < length rows → get_or rows i row ≡ row
    → Sends a b [] y (text_to (take i rows)) → WritesFront b d (y ++ line_of (part_spelling row)) → WritesFront a d (text_to rows)
stops_at_row a b d y rows i row within at p q =
    front_after a b d [] y (text_to (take i rows)) (line_of (part_spelling row)) (text_to rows) p q (rows_front rows i row within at)

-- it stops after the last row
pub stops_at_end : (a b d : Option (List ℕ)) (y : List ℕ) (rows : List ClockedRow) (i : ℕ) → length rows ≤ i → Sends a b [] y (text_to (take i rows)) → WritesFront b d y → WritesFront a d (text_to rows)
stops_at_end a b d y rows i all p q =
    front_last a b d [] y (text_to rows) (subst (λ (r : List ClockedRow). Sends a b [] y (text_to r)) (take_all i rows all) p) q
