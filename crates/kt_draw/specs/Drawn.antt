-- Which rows of a stored log are drawn, and what the picture is.
use Rattle.std.specs.Prelude.{◌≡◌, ◌≤◌, ◌<◌, ◌+◌, ◌-◌, ℕ, if◌then◌else◌, nat_lt, Bool, true, false, List, [], ◌++◌, take, length, slice_get, Option, Some, None, IfSome, codes}
use Rattle.kt_spacetime.specs.declared.event.Event.{Event}
use Rattle.kt_meaning.specs.Legal.{IsLegal, first_broken}
use Rattle.kt_log_text.specs.declared.fault.LogFault.TheVariants as log
use Rattle.kt_log_text.specs.Reading.{rows_unread}
use Rattle.kt_log_text.specs.Texts.{IsFirstLogFault}
use Rattle.kt_spacetime.specs.declared.certificate.Certificate.{Certificate}
use Rattle.kt_spacetime.specs.declared.verdict.Verdict.{Verdict}
use Rattle.kt_spacetime.specs.declared.verdict.Verdict.TheVariants.{No}
use Rattle.kt_spacetime.specs.declared.verdict.Why.TheVariants as why
use Rattle.kt_meaning.specs.Answers.{IsCheckerAnswer}
use Rattle.kt_checker.specs.Streamed.{SaysRows}
use Rattle.kt_spacetime.specs.Verdicts.{verdict_words}
use Rattle.kt_explain.specs.declared.explanation.Explanation.{Explanation}
use Rattle.kt_explain.specs.declared.explanation.Explanation.TheVariants.{Orphan}
use Rattle.kt_explain.specs.Told.{IsExplanation}
use Rattle.kt_picture.specs.declared.window.BrokenRow.{BrokenRow}
use Rattle.kt_picture.specs.BrokenRow.{breach_columns, caption_of}
use Rattle.kt_picture.specs.Picture.{picture_of}
use Rattle.kt_draw.specs.declared.span.DrawFault.{DrawFault}
use Rattle.kt_draw.specs.declared.span.DrawFault.TheVariants as draw
use Rattle.kt_draw.specs.declared.span.PictureFault.{PictureFault}
use Rattle.kt_draw.specs.declared.span.PictureFault.TheVariants.{NoRows, TooLong}
use Rattle.kt_draw.specs.declared.span.Span.{Span}

-- how many rows a picture has at most
abbrev pub most_columns : ℕ
most_columns = 4096

-- the first row that is drawn
abbrev pub first_row : Option ℕ → ℕ
first_row None = 1
first_row (Some number) = number

-- the last row that is drawn of a log of which so many rows are read
abbrev pub last_row : ℕ → Option ℕ → ℕ
last_row seen None = seen
last_row seen (Some number) = if nat_lt number seen then number else seen

-- a log with so many rows has the last one that is asked for
abbrev pub HasLast : ℕ → Option ℕ → Type 0
HasLast count None = Unit {0}
HasLast count (Some number) = number ≤ count

-- the rows that are asked for are there, of a log with so many rows, of which so many are read
pub record HasRows (count seen : ℕ) (span : Span) : Type 0 where
  pub within : HasLast count span.to
  pub positive : 0 < first_row span.from
  pub some : first_row span.from ≤ last_row seen span.to

-- they are no more than a picture has
abbrev pub IsShort : ℕ → Span → Type 0
IsShort seen span = last_row seen span.to < first_row span.from + most_columns

-- why they are not drawn
abbrev pub IsNoWindow : ℕ → ℕ → Span → PictureFault → Type 0
IsNoWindow count seen span NoRows = ¬ HasRows count seen span
IsNoWindow count seen span TooLong = HasRows count seen span × ¬ IsShort seen span

-- where reading a log as rows stops: behind its last row, or at the first row that breaks a rule
abbrev pub EndsReading : List Event → ℕ → Option BrokenRow → Type 0
EndsReading log kept None = kept ≡ length log
EndsReading log kept (Some b) = (first_broken log ≡ Some (kept + 1, b.rule)) × (slice_get log kept ≡ Some b.event)

-- so many rows of a log are legal, and there reading it as rows stops
pub record IsReadTo (log : List Event) (kept : ℕ) (breach : Option BrokenRow) : Type 0 where
  pub legal : IsLegal (take kept log)
  pub within : kept ≤ length log
  pub stops : EndsReading log kept breach

-- how many rows are read: those that are legal, and the one that breaks a rule
abbrev pub rows_seen : ℕ → Option BrokenRow → ℕ
rows_seen kept breach = kept + breach_columns breach

-- how many rows are drawn as rows where the last one of the picture has this number, and so many are legal
abbrev pub rows_drawn : ℕ → ℕ → ℕ
rows_drawn kept last = if nat_lt kept last then kept else last

-- the row that breaks a rule, where it is one of the picture
abbrev pub breach_drawn : ℕ → ℕ → Option BrokenRow → Option BrokenRow
breach_drawn kept last breach = if nat_lt kept last then breach else None

-- the picture of a log from one row to another, with the names of processes, what certificates tell of it, the orphan that
-- stands out, and the line below
abbrev pub drawn_text : List (List ℕ) → List Event → ℕ → Option BrokenRow → ℕ → ℕ → List Certificate → Option ℕ → List ℕ → List ℕ
drawn_text names log kept breach first last certificates orphan line =
    picture_of names (take (rows_drawn kept last) log) (first - 1) (breach_drawn kept last breach) certificates orphan line

-- a text is the picture of the rows that are asked for, of a log that is read so far
pub record IsPictureTo (names : List (List ℕ)) (span : Span) (log : List Event) (kept : ℕ) (breach : Option BrokenRow) (certificates : List Certificate) (orphan : Option ℕ) (line text : List ℕ) : Type 0 where
  pub there : HasRows (length log) (rows_seen kept breach) span
  pub short : IsShort (rows_seen kept breach) span
  pub text_is : text ≡ drawn_text names log kept breach (first_row span.from) (last_row (rows_seen kept breach) span.to) certificates orphan line

-- the line below a picture: this one, if there is one, else that the log is legal, or which row breaks which rule
abbrev pub line_below : ℕ → Option BrokenRow → Option (List ℕ) → List ℕ
line_below kept breach None = caption_of (kept + 1) breach
line_below kept breach (Some line) = line

-- a text is the picture of the rows that are asked for, with these certificates, this orphan, and this line below, if there
-- is one
pub record IsDrawn (names : List (List ℕ)) (span : Span) (log : List Event) (certificates : List Certificate) (orphan : Option ℕ) (line : Option (List ℕ)) (text : List ℕ) : Type 0 where
  pub kept : ℕ
  pub breach : Option BrokenRow
  pub read : IsReadTo log kept breach
  pub drawn : IsPictureTo names span log kept breach certificates orphan (line_below kept breach line) text

-- a text is the picture of the rows that are asked for, without certificates
abbrev pub IsPicture : List (List ℕ) → Span → List Event → List ℕ → Type 0
IsPicture names span log text = IsDrawn names span log [] None None text

-- the orphan that is told of an answer
abbrev pub orphan_told : Explanation → Option ℕ
orphan_told (Orphan inst orphan) = Some orphan.msg
orphan_told _ = None

-- whether an answer is that there is an orphan
abbrev pub names_orphan : Verdict → Bool
names_orphan (No inst row why.Orphan) = true
names_orphan _ = false

-- an orphan is the one that is told of the checker's answer to a log and certificates; there is none where the answer is another
abbrev pub IsOrphanIf : Bool → List Event → List Certificate → Verdict → Option ℕ → Type 0
IsOrphanIf true log certificates verdict orphan = (told : Explanation) × IsExplanation log certificates verdict told × (orphan ≡ orphan_told told)
IsOrphanIf false log certificates verdict orphan = orphan ≡ None

abbrev pub IsOrphanDrawn : List Event → List Certificate → Verdict → Option ℕ → Type 0
IsOrphanDrawn log certificates verdict orphan = IsOrphanIf (names_orphan verdict) log certificates verdict orphan

-- the line below a picture with certificates: what the checker answers
abbrev pub answer_sentence : Verdict → List ℕ
answer_sentence verdict = codes "The checker answers: " ++ verdict_words verdict ++ codes "."

-- the same with certificates: their chains are drawn, the least orphan stands out where the checker's answer is that there
-- is one, and below stands that answer
pub record IsCertifiedPicture (names : List (List ℕ)) (span : Span) (log : List Event) (certificates : List Certificate) (text : List ℕ) : Type 0 where
  pub verdict : Verdict
  pub answer : IsCheckerAnswer log certificates verdict
  pub orphan : Option ℕ
  pub told : IsOrphanDrawn log certificates verdict orphan
  pub drawn : IsDrawn names span log certificates orphan (Some (answer_sentence verdict)) text

-- why a log has no such picture
pub record IsNoPicture (span : Span) (log : List Event) (why : PictureFault) : Type 0 where
  pub kept : ℕ
  pub breach : Option BrokenRow
  pub read : IsReadTo log kept breach
  pub window : IsNoWindow (length log) (rows_seen kept breach) span why

-- why the rows of a log are not drawn: it has no such picture, or there was no memory
abbrev pub IsUndrawnLog : Span → List Event → DrawFault → Type 0
IsUndrawnLog span read (draw.Picture why) = IsNoPicture span read why
IsUndrawnLog span read (draw.Log fault) = fault ≡ log.Memory

-- a text is the picture of the rows that are asked for, of the log that the bytes say
abbrev pub IsPictureOf : List (List ℕ) → Span → Option (List ℕ) → List ℕ → Type 0
IsPictureOf names span bytes text = (read : List Event) × SaysRows bytes read × IsPicture names span read text

-- why the bytes of a log are not drawn: the first fault of their text, or why the log has no such picture; nothing is
-- said of want of memory
abbrev pub IsNoPictureOf : Span → Option (List ℕ) → DrawFault → Type 0
IsNoPictureOf span bytes (draw.Log log.Memory) = Unit {0}
IsNoPictureOf span bytes (draw.Log fault) = IfSome (rows_unread bytes).left (λ text. IsFirstLogFault text fault)
IsNoPictureOf span bytes (draw.Picture why) = (read : List Event) × SaysRows bytes read × IsNoPicture span read why

-- the words of a fault of a picture
abbrev pub picture_fault_text : PictureFault → List ℕ
picture_fault_text NoRows = codes "no such rows"
picture_fault_text TooLong = codes "picture too long"
