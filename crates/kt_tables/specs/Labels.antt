-- Lists of labels.
use Rattle.std.specs.Prelude.{ℕ, ◌<◌, if◌then◌else◌, Bool, true, false, List, [], ◌∷◌, min, max}

-- whether there is a label
abbrev pub has_label : List ℕ → Bool
has_label [] = false
has_label (x ∷ xs) = true

-- the least label, 0 for none
abbrev pub least : List ℕ → ℕ
least [] = 0
least (x ∷ xs) = if has_label xs then min x (least xs) else x

-- the greatest label, 0 for none
abbrev pub greatest : List ℕ → ℕ
greatest [] = 0
greatest (x ∷ xs) = max x (greatest xs)

-- labels above `low` that rise
abbrev pub LabelsRise : ℕ → List ℕ → Type 0
LabelsRise low [] = Unit {0}
LabelsRise low (x ∷ xs) = (low < x) × LabelsRise x xs
