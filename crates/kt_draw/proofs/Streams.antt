-- A log drawn while its rows are read.
use Rattle.std.proofs.Common.{◌≡◌, ◌<◌, ◌^◌, ◌∷◌, ◌++◌, [], ℕ, List, Option, length, sym, subst, arith}
use Rattle.kt_spacetime.specs.declared.event.Event.{Event}
use Rattle.kt_log_text.specs.Reading.{RowsRead, GivesRow, MeetsEnd, rows_unread}
use Rattle.kt_log_text.specs.Progress.{GathersRows}
use Rattle.kt_log_text.proofs.GatherFacts.{gathers_more, gathers_none, gathered_all, most_rows_le}
use Rattle.kt_checker.specs.Streamed.{SaysRows}
use Rattle.kt_draw.specs.declared.drawing.Reading.{Reading}
use Rattle.kt_draw.specs.declared.span.Span.{Span}
use Rattle.kt_draw.specs.Followed.{ReadingOf}

-- what is known while rows are read: these were, and what is drawn stands for them
pub record HasDrawn (source : Option (List ℕ)) (reader : RowsRead) (reading : Reading) (span : Span) : Type 0 where
  pub seen : List Event
  pub gathers : GathersRows source reader seen
  pub shows : ReadingOf reading span seen

pub drawn_none : (source : Option (List ℕ)) (reader : RowsRead) (reading : Reading) (span : Span) → reader ≡ rows_unread source → ReadingOf reading span [] → HasDrawn source reader reading span
drawn_none source reader reading span e h = record {
  seen = [];
  gathers = subst (λ (r : RowsRead). GathersRows source r []) (sym e) (gathers_none source);
  shows = h;
}

-- there is room for one more row
pub drawn_few : {source : Option (List ℕ)} {span : Span} (old new : RowsRead) (reading : Reading) (row : Event) (h : HasDrawn source old reading span) → GivesRow old new row → length h.seen < 2 ^ 24
drawn_few old new reading row h s = omega (arith, h.gathers.count, s.few, most_rows_le s.format)

pub drawn_more : {source : Option (List ℕ)} {span : Span} (old new : RowsRead) (was now : Reading) (row : Event) → HasDrawn source old was span → GivesRow old new row
    → ((rows : List Event) → ReadingOf was span rows → ReadingOf now span (rows ++ row ∷ [])) → HasDrawn source new now span
drawn_more {source} {span} old new was now row h s fed = record {
  seen = h.seen ++ row ∷ [];
  gathers = gathers_more source old new h.seen row h.gathers s;
  shows = fed h.seen h.shows;
}

-- at the end these are the rows that the bytes say
pub drawn_all : {source : Option (List ℕ)} {span : Span} (old new : RowsRead) (reading : Reading) (h : HasDrawn source old reading span) → MeetsEnd old new → SaysRows source h.seen
drawn_all {source} {span} old new reading h s = gathered_all source old new h.seen h.gathers s
