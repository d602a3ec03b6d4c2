-- Texts of others, written so that nothing in them is read as a mark.
use Rattle.std.specs.Prelude.{ℕ, ◌==◌, ◌||◌, not, Bool, if◌then◌else◌, List, [], ◌∷◌, codes}
use Rattle.std.specs.List.{flat_map}

-- whether a byte neither begins nor ends a mark or a value in quotes
abbrev pub is_no_mark : ℕ → Bool
is_no_mark byte = not (byte == 60 || (byte == 62 || (byte == 34 || byte == 39)))

-- a byte as it may stand between marks, or in quotes
abbrev pub escaped_byte : ℕ → List ℕ
escaped_byte byte =
    if byte == 34 then codes "&quot;"
    else if byte == 38 then codes "&amp;"
    else if byte == 39 then codes "&apos;"
    else if byte == 60 then codes "&lt;"
    else if byte == 62 then codes "&gt;"
    else byte ∷ []

-- a text, byte by byte
abbrev pub escaped : List ℕ → List ℕ
escaped text = flat_map escaped_byte text
