-- How marks look, and where they stand; an outline begins at the middle of its place.
use Rattle.std.specs.Prelude.{ℕ, ◌+◌, ◌-◌, ◌*◌, ◌%◌, if◌then◌else◌, Bool, true, false, Option, Some, None, List, [], ◌∷◌, ◌++◌, codes}
use Rattle.std.specs.List.{concat}
use Rattle.std.specs.Fmt.{decimal}
use Rattle.kt_picture.specs.declared.looks.Look.{Look}
use Rattle.kt_picture.specs.declared.looks.Look.TheVariants as look
use Rattle.kt_picture.specs.declared.looks.Outline.{Outline}
use Rattle.kt_picture.specs.declared.looks.Outline.TheVariants as outline
use Rattle.kt_picture.specs.declared.looks.Path.{Path}
use Rattle.kt_picture.specs.declared.looks.Place.{Place}

-- the class of a mark, as the style sheet names it
abbrev pub class_text : Look → List ℕ
class_text look.Up = codes "lane"
class_text look.Down = codes "lane down"
class_text look.Bar = codes "in"
class_text look.Message = codes "m"
class_text look.Unsent = codes "m gone"
class_text look.Unreceived = codes "m back"
class_text look.Vanished = codes "m gone back"
class_text look.Linked = codes "m link"
class_text look.Orphan = codes "m orphan"
class_text look.Way = codes "m way"
class_text look.Dot = codes "dot"
class_text look.PaleDot = codes "dot pale"
class_text look.Tick = codes "open"
class_text look.PaleTick = codes "open faint"
class_text look.Dropped = codes "x"
class_text look.Failed = codes "bolt"
class_text look.Refused = codes "w"
class_text look.Open = codes "f"
class_text look.Full = codes "f full"
class_text look.Cut = codes "cut"

-- where a column and a lane are, in units of the picture
abbrev pub x_of : ℕ → ℕ
x_of column = 136 + 26 * column

abbrev pub y_of : ℕ → ℕ
y_of lane = 90 + 64 * lane

-- the outline of a mark: of a checkpoint, of a rollback, which points back, and of a decision it is crossed after an abort
abbrev pub outline_text : Outline → List ℕ
outline_text outline.Dot = codes "m-3 0a3 3 0 1 0 6 0a3 3 0 1 0 -6 0"
outline_text outline.Tick = codes "m0 -4v8"
outline_text outline.Cross = codes "m-5 -5l10 10m0 -10l-10 10"
outline_text outline.Bolt = codes "m3 -11l-9 12h5l-2 10l9 -12h-5z"
outline_text outline.Ban = codes "m-6 0a6 6 0 1 0 12 0a6 6 0 1 0 -12 0m2 -4l8 8"
outline_text outline.Line = codes "m-12 0h24"
outline_text outline.Beginning = codes "m-5 0h10"
outline_text outline.Ending = codes "m0 -5v10"
outline_text (outline.Square false) = codes "m-7 -7h14v14h-14z"
outline_text (outline.Square true) = codes "m-7 -7h14v14h-14zl14 14"
outline_text (outline.Triangle false) = codes "m7 -8v16l-15 -8z"
outline_text (outline.Triangle true) = codes "m7 -8v16l-15 -8zm-10 3l8 10"
outline_text (outline.Diamond false) = codes "m0 -8l8 8l-8 8l-8 -8z"
outline_text (outline.Diamond true) = codes "m0 -8l8 8l-8 8l-8 -8zm-4 4l8 8"
outline_text (outline.Way true) = codes "l9 11"
outline_text (outline.Way false) = codes "l9 -11"
outline_text (outline.To to) = concat (codes "L" ∷ decimal to.x ∷ codes " " ∷ decimal to.y ∷ [])
outline_text (outline.Along column) = codes "H" ++ decimal (x_of column)

-- what is drawn from a place on, in an instance's colour, one of six, or in none
abbrev pub drawn_path : Place → Look → Option ℕ → Outline → List ℕ
drawn_path from look None outline = concat (
    codes "<path class='" ∷ class_text look ∷ codes "' d='M" ∷ decimal from.x ∷ codes " " ∷ decimal from.y ∷ outline_text outline ∷ codes "'/>" ∷ [])
drawn_path from look (Some inst) outline = concat (
    codes "<path class='" ∷ class_text look ∷ codes " c" ∷ decimal (inst % 6) ∷ codes "' d='M" ∷ decimal from.x ∷ codes " " ∷ decimal from.y
    ∷ outline_text outline ∷ codes "'/>" ∷ [])

abbrev pub path_text : Path → List ℕ
path_text path = drawn_path path.from path.look path.inst path.outline

abbrev pub path_at : Place → Look → Option ℕ → Outline → Path
path_at from look inst outline = record { from = from; look = look; inst = inst; outline = outline }

-- where a word stands: in one of four lines between two lanes, the next column's in the next line, so that no two words
-- cover each other
abbrev pub word_y : ℕ → Bool → ℕ → ℕ
word_y lane below column = (if below then y_of lane + 20 else y_of lane - 44) + 10 * (column % 4)
