-- The layers of a picture.
use Rattle.std.specs.Prelude.{ℕ, ◌+◌, ◌-◌, ◌*◌, ◌/◌, ◌%◌, max, min, if◌then◌else◌, Option, Some, None, List, [], ◌∷◌, ◌++◌, codes, length, slice_index, slice_get}
use Rattle.std.specs.List.{flat_map, concat}
use Rattle.std.specs.Fmt.{decimal}
use Rattle.std.specs.Option.{option_map}
use Rattle.kt_spacetime.specs.Events.{process_of}
use Rattle.kt_text.specs.Writing.{joined}
use Rattle.kt_log_text.specs.Spelling.{spelling}
use Rattle.kt_picture.specs.declared.window.BrokenRow.{BrokenRow}
use Rattle.kt_picture.specs.declared.layers.Layer.{Layer}
use Rattle.kt_picture.specs.declared.layers.Layer.TheVariants as layer
use Rattle.kt_picture.specs.declared.layers.Thread.{Thread}
use Rattle.kt_picture.specs.declared.layers.Thread.TheVariants as thread
use Rattle.kt_picture.specs.declared.looks.TheConstants.{STYLE, HEADS}
use Rattle.kt_picture.specs.declared.legend.Sign.{Sign}
use Rattle.kt_picture.specs.declared.looks.Look.{Look}
use Rattle.kt_picture.specs.declared.looks.Look.TheVariants as look
use Rattle.kt_picture.specs.declared.looks.Outline.TheVariants.{Along}
use Rattle.kt_picture.specs.declared.looks.Path.{Path}
use Rattle.kt_picture.specs.declared.looks.Place.{Place}
use Rattle.kt_picture.specs.declared.window.CutMark.{CutMark}
use Rattle.kt_picture.specs.declared.window.Shown.{Shown}
use Rattle.kt_picture.specs.declared.window.Stretch.{Stretch}
use Rattle.kt_picture.specs.declared.words.Saying.TheVariants as say
use Rattle.kt_picture.specs.declared.words.Word.{Word}
use Rattle.kt_picture.specs.BrokenRow.{breach_shown}
use Rattle.kt_picture.specs.Escaping.{escaped}
use Rattle.kt_picture.specs.Lanes.{lane_of}
use Rattle.kt_picture.specs.Legend.{legend_from, signs_of}
use Rattle.kt_picture.specs.Looks.{path_at, path_text, x_of, y_of}
use Rattle.kt_picture.specs.Marks.{arrow_of, figure_of, number_at, place_at, word_at}
use Rattle.kt_picture.specs.Texts.{drawn, name_text}
use Rattle.kt_picture.specs.View.{View}

-- how wide a picture is: no narrower than its columns, and than a line of text of this length, of which no more than 4096
-- bytes count
abbrev pub width_of : ℕ → ℕ → ℕ
width_of columns line = max (x_of columns + 120) (max (24 + 8 * min line 4096) 560)

-- where the legend begins, below the line of text
abbrev pub top_of : View → ℕ
top_of view = y_of (length view.lanes) + 34

-- how high a picture is
abbrev pub height_of : View → ℕ
height_of view = top_of view + 18 * ((length (signs_of view) + 1) / 2)

-- how a document begins, with a line of text of this length below: its size, its style, and its background
abbrev pub opening_text : ℕ → ℕ → List ℕ
opening_text width height =
    concat (codes "<svg xmlns='http://www.w3.org/2000/svg' viewBox='0 0 " ∷ decimal width ∷ codes " " ∷ decimal height ∷ codes "' width='" ∷ decimal width ∷ codes "'>\n" ∷ [])
    ++ (concat (STYLE.now ∷ HEADS.now ∷ codes "\n" ∷ [])
    ++ concat (codes "<rect class='paper' width='" ∷ decimal width ∷ codes "' height='" ∷ decimal height ∷ codes "' fill='#fff'/>\n" ∷ []))

abbrev pub opening : View → ℕ → List ℕ
opening view line = opening_text (width_of view.columns line) (height_of view)

-- what is drawn of a row, under its tooltip: its number and its text, and why its process took part
abbrev pub titled_text : View → Shown → Path → List ℕ
titled_text view s path =
    (codes "<g><title>row " ++ (decimal s.row ++ (codes ": " ++ joined (spelling s.event)))) ++ (view.reason s.event
    ++ concat (codes "</title>" ∷ path_text path ∷ codes "</g>\n" ∷ []))

abbrev pub titled_if : View → Shown → Option Path → List ℕ
titled_if view s None = []
titled_if view s (Some path) = titled_text view s path

-- the arrow of a row, and what shows it at its place
abbrev pub arrow_text : View → Shown → List ℕ
arrow_text view s = titled_if view s (arrow_of view s)

abbrev pub figure_text : View → Shown → List ℕ
figure_text view s = titled_text view s (figure_of view s)

-- a stretch of a lane from a place on to a column, dashed while its process is down, and over a bar while it is in an instance
abbrev pub lane_text : Look → Option ℕ → Place → ℕ → List ℕ
lane_text up None from until = path_text (path_at from up None (Along until)) ++ codes "\n"
lane_text up (Some inst) from until = concat (
    path_text (path_at from look.Bar (Some inst) (Along until)) ∷ codes "\n" ∷ path_text (path_at from up None (Along until)) ∷ codes "\n" ∷ [])

abbrev pub stretch_text : Stretch → Place → ℕ → List ℕ
stretch_text s from until = lane_text (if s.up then look.Up else look.Down) s.open_in from until

-- the marks of a row in a layer
abbrev pub row_mark : Layer → View → Shown → List ℕ
row_mark layer.Stretches view s = stretch_text s.stretch (place_at view s.stretch.since (process_of s.event)) s.column
row_mark layer.Arrows view s = arrow_text view s
row_mark layer.Figures view s = figure_text view s
row_mark layer.Words view s = drawn (number_at s.row s.column) ++ drawn (word_at view s s.event)

-- so of all rows of the window
abbrev pub rows_text : Layer → View → List ℕ
rows_text layer view = flat_map (row_mark layer view) view.shown

-- the last stretch of a process's lane
abbrev pub end_text : View → ℕ → Option Stretch → List ℕ
end_text view p None = []
end_text view p (Some s) = stretch_text s (place_at view s.since p) view.right

-- where a cut crosses a lane: at a column, a little to the left for one instance or another
abbrev pub cut_x : CutMark → ℕ → ℕ
cut_x c p = x_of (slice_index c.columns p) - 3 * (c.inst % 4)

abbrev pub crossing_text : ℕ → ℕ → List ℕ
crossing_text x y = concat (decimal x ∷ codes "," ∷ decimal (y - 15) ∷ codes " " ∷ decimal x ∷ codes "," ∷ decimal (y + 15) ∷ codes " " ∷ [])

-- the marks of a process's lane: its last stretch, where a cut crosses it, or its name
abbrev pub lane_mark : Thread → View → ℕ → List ℕ
lane_mark thread.Ends view p = end_text view p (slice_get view.ends p)
lane_mark (thread.Cut c) view p = crossing_text (cut_x c p) (y_of (lane_of view.lanes p))
lane_mark thread.Names view p =
    concat (codes "<text class='name' x='124' y='" ∷ decimal (y_of (lane_of view.lanes p)) ∷ codes "' dy='4'>" ∷ []) ++ (name_text view.names p ++ codes "</text>\n")

-- so of all lanes
abbrev pub lanes_text : Thread → View → List ℕ
lanes_text thread view = flat_map (lane_mark thread view) view.lanes

-- a permanent cut, drawn where it differs from the one before
abbrev pub cut_line : View → CutMark → List ℕ
cut_line view c =
    concat (codes "<polyline class='cut c" ∷ decimal (c.inst % 6) ∷ codes "' points='" ∷ [])
    ++ (lanes_text (thread.Cut c) view ++ concat (codes "'><title>permanent cut after instance " ∷ decimal c.inst ∷ codes "</title></polyline>\n" ∷ []))

abbrev pub cut_text : View → CutMark → List ℕ
cut_text view c = if c.is_new then cut_line view c else []

-- the row that breaks a rule, as what it says, in the colour of a warning
abbrev pub wrong_text : View → Shown → List ℕ
wrong_text view s = codes "<g class='wrong'>" ++ (arrow_text view s ++ (figure_text view s ++ codes "</g>\n"))

abbrev pub broken_text : View → Option BrokenRow → List ℕ
broken_text view None = []
broken_text view (Some b) = wrong_text view (breach_shown (view.before + view.columns) view.columns b)

abbrev pub breach_text : View → List ℕ
breach_text view = broken_text view view.breach

-- which rule it breaks, above the lanes
abbrev pub rule_of : View → Option Word
rule_of view = option_map (λ b. record { x = x_of view.columns; y = 34; saying = say.Rule b.rule }) view.breach

-- the lanes of a picture, its cuts, arrows, and over them what shows each row at its place
abbrev pub marks_text : View → List ℕ
marks_text view =
    codes "<g fill='none' stroke='#1d232b'>\n" ++ (rows_text layer.Stretches view ++ (lanes_text thread.Ends view
    ++ (flat_map (cut_text view) view.cuts ++ (rows_text layer.Arrows view ++ (rows_text layer.Figures view ++ breach_text view)))))

-- the legend of these marks, below this height
abbrev pub legend_text : List Sign → ℕ → List ℕ
legend_text signs top = legend_from top 0 signs

-- over them its words, the legend of the marks that it has, and where the line of text begins
abbrev pub words_text : View → List ℕ
words_text view =
    codes "</g>\n<g fill='#1d232b'>\n" ++ (lanes_text thread.Names view ++ (rows_text layer.Words view ++ (drawn (rule_of view)
    ++ (legend_text (signs_of view) (top_of view) ++ concat (codes "<text x='12' y='" ∷ decimal (y_of (length view.lanes)) ∷ codes "' dy='10'>" ∷ [])))))

-- a picture: its size and style, its layers, and what is said below
abbrev pub picture_text : View → List ℕ → List ℕ
picture_text view caption =
    opening view (length caption) ++ (marks_text view ++ (words_text view ++ (escaped caption ++ codes "</text>\n</g>\n</svg>\n")))
