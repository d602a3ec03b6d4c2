-- Which marks show a row.
use Rattle.std.specs.Prelude.{ℕ, ℤ, ◌-◌, ◌%◌, ◌==◌, ◌||◌, min, nat_lt, nat_le, is_some, slice_get, if◌then◌else◌, Bool, true, false, not, Option, Some, None}
use Rattle.kt_spacetime.specs.declared.event.Event.{Event}
use Rattle.kt_spacetime.specs.declared.event.Event.TheVariants.{Sent, Received, Dropped, Began, Took, Ready, Unwilling, Decided, Closed, Failed, Refused}
use Rattle.kt_spacetime.specs.Events.{process_of}
use Rattle.kt_picture.specs.declared.looks.Look.{Look}
use Rattle.kt_picture.specs.declared.looks.Look.TheVariants as look
use Rattle.kt_picture.specs.declared.looks.Outline.TheVariants as outline
use Rattle.kt_picture.specs.declared.looks.Path.{Path}
use Rattle.kt_picture.specs.declared.looks.Place.{Place}
use Rattle.kt_picture.specs.declared.window.Shown.{Shown}
use Rattle.kt_picture.specs.declared.words.Saying.{Saying}
use Rattle.kt_picture.specs.declared.words.Saying.TheVariants as say
use Rattle.kt_picture.specs.declared.words.Word.{Word}
use Rattle.kt_picture.specs.Lanes.{lane_of}
use Rattle.kt_picture.specs.Looks.{path_at, word_y, x_of, y_of}
use Rattle.kt_picture.specs.View.{View}

-- where a column crosses the lane of a process
abbrev pub place_at : View → ℕ → ℕ → Place
place_at view column p = record { x = x_of column; y = y_of (lane_of view.lanes p) }

-- the place of a row
abbrev pub place_of : View → Shown → Place
place_of view s = place_at view s.column (process_of s.event)

-- how an arrow looks whose send is undone, whose receive is, which is the orphan that stands out, which is in a chain
abbrev pub arrow_look : Bool → Bool → Bool → Bool → Look
arrow_look true true stands_out linked = look.Vanished
arrow_look false true stands_out linked = look.Unreceived
arrow_look undone false true linked = look.Orphan
arrow_look true false false linked = look.Unsent
arrow_look false false false true = look.Linked
arrow_look false false false false = look.Message

-- whether an arrow is grey
abbrev pub is_grey : Look → Bool
is_grey look.Unsent = true
is_grey look.Unreceived = true
is_grey look.Vanished = true
is_grey _ = false

-- whether a message is the orphan that stands out
abbrev pub stands_out : Option ℕ → ℕ → Bool
stands_out None msg = false
stands_out (Some orphan) msg = orphan == msg

-- the instance whose colour an arrow has: that of the chain, where it is drawn as a message of one
abbrev pub colour_for : Look → Option ℕ → Option ℕ
colour_for look.Linked link = link
colour_for _ link = None

-- how the arrow of a row is drawn that takes a message
abbrev pub look_of : View → Shown → ℕ → Look
look_of view s msg = arrow_look s.is_undone s.is_taken_back (stands_out view.orphan msg) (is_some (view.link msg))

-- the column of the row that sent a message, where so many rows come before the window; 0 is the left end
abbrev pub column_of : ℕ → ℕ → ℕ
column_of before msg = msg - before

-- where an arrow begins: there, but not behind its head
abbrev pub tail_of : ℕ → ℕ → ℕ → ℕ
tail_of before msg column = min column (column_of before msg)

-- an arrow from where a message was sent to where it was taken
abbrev pub arrow : View → Shown → ℕ → ℕ → Path
arrow view s from msg =
    path_at (place_at view (tail_of view.before msg s.column) from) (look_of view s msg) (colour_for (look_of view s msg) (view.link msg)) (outline.To (place_of view s))

-- the short arrow of a message in transit, which points to its receiver's lane
abbrev pub short_arrow : View → Shown → ℕ → ℕ → Path
short_arrow view s p to = path_at (place_of view s) look.Way None (outline.Way (nat_lt (lane_of view.lanes p) (lane_of view.lanes to)))

-- the arrow of a row that takes a message, or that sends one which is in transit at the window's end
abbrev pub arrow_at : View → Shown → Event → Option Path
arrow_at view s (Sent p to body) = if s.is_in_transit then Some (short_arrow view s p to) else None
arrow_at view s (Received p from msg) = Some (arrow view s from msg)
arrow_at view s (Dropped p from msg) = Some (arrow view s from msg)
arrow_at view s _ = None

abbrev pub arrow_of : View → Shown → Option Path
arrow_of view s = arrow_at view s s.event

-- pale where it is undone
abbrev pub dot_look : Bool → Look
dot_look true = look.PaleDot
dot_look false = look.Dot

abbrev pub tick_look : Bool → Look
tick_look true = look.PaleTick
tick_look false = look.Tick

-- filled after a commit, else open, and crossed after an abort
abbrev pub fill_look : Option Bool → Look
fill_look (Some true) = look.Full
fill_look (Some false) = look.Open
fill_look None = look.Open

abbrev pub is_crossed : Option Bool → Bool
is_crossed (Some commit) = not commit
is_crossed None = false

-- what shows a row at its place
abbrev pub figure_at : Place → Shown → Event → Path
figure_at at s (Sent p to body) = path_at at (dot_look s.is_undone) None outline.Dot
figure_at at s (Received p from msg) = path_at at (tick_look (s.is_undone || s.is_taken_back)) None outline.Tick
figure_at at s (Dropped p from msg) = path_at at look.Dropped None outline.Cross
figure_at at s (Began p inst kind) = path_at at look.Bar (Some inst) outline.Beginning
figure_at at s (Took p inst) = path_at at (fill_look s.decision) (Some inst) (outline.Square (is_crossed s.decision))
figure_at at s (Ready p inst) = path_at at (fill_look s.decision) (Some inst) (outline.Triangle (is_crossed s.decision))
figure_at at s (Unwilling p inst cause) = path_at at look.Refused None outline.Ban
figure_at at s (Decided p inst commit) = path_at at (fill_look (Some commit)) (Some inst) (outline.Diamond (not commit))
figure_at at s (Closed p inst) = path_at at look.Open (Some inst) outline.Ending
figure_at at s (Failed p) = path_at at look.Failed None outline.Bolt
figure_at at s (Refused p verb cause) = path_at at look.Refused None outline.Ban

abbrev pub figure_of : View → Shown → Path
figure_of view s = figure_at (place_of view s) s s.event

-- the number of the row of each fifth column
abbrev pub number_at : ℕ → ℕ → Option Word
number_at row column = if column % 5 == 0 then Some (record { x = x_of column; y = 20; saying = say.Column row }) else None

-- the body of a message that a row sends
abbrev pub body_sent : Event → Option ℤ
body_sent (Sent p to body) = Some body
body_sent _ = None

abbrev pub body_shown : Option Shown → Option ℤ
body_shown None = None
body_shown (Some s) = body_sent s.event

-- the body of a message that a row of the window sent
abbrev pub body_of : View → ℕ → Option ℤ
body_of view msg = if nat_lt view.before msg then body_shown (slice_get view.shown (msg - view.before - 1)) else None

-- a word below or above the place of a row
abbrev pub word : View → Shown → Bool → Saying → Word
word view s below saying = record {
  x = x_of s.column;
  y = word_y (lane_of view.lanes (process_of s.event)) below s.column;
  saying = saying;
}

-- the word beside the arrow of a message between a process and another one, on the other one's side, where the window is so
-- short that it is legible
abbrev pub label : View → Shown → ℕ → ℕ → Saying → Option Word
label view s p other saying =
    if nat_le view.columns 64 then Some (word view s (nat_lt (lane_of view.lanes p) (lane_of view.lanes other)) saying) else None

-- the word beside the mark of a row, or beside its arrow
abbrev pub word_at : View → Shown → Event → Option Word
word_at view s (Sent p to body) = if s.is_in_transit then label view s p to (say.Message s.row (Some body)) else None
word_at view s (Received p from msg) = label view s p from (say.Message msg (body_of view msg))
word_at view s (Dropped p from msg) = label view s p from (say.Message msg (body_of view msg))
word_at view s (Began p inst kind) = Some (word view s false (say.Instance kind inst))
word_at view s (Decided p inst commit) = Some (word view s true (say.Row s.row))
word_at view s (Unwilling p inst cause) = Some (word view s true (say.Why cause))
word_at view s (Refused p verb cause) = Some (word view s true (say.Why cause))
word_at view s _ = None
