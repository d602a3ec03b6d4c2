-- A walk that is fed the rows of a text while they are read.
use Rattle.std.proofs.Common.{◌≡◌, ◌<◌, ◌^◌, ◌++◌, ◌∷◌, [], ℕ, List, Option, sym, subst, arith}
use Rattle.kt_spacetime.specs.declared.event.Event.{Event}
use Rattle.kt_meaning.specs.Legal.{IsLegal}
use Rattle.kt_log_text.specs.Reading.{RowsRead, GivesRow, MeetsEnd, rows_unread}
use Rattle.kt_log_text.specs.Progress.{GathersRows}
use Rattle.kt_log_text.proofs.GatherFacts.{gathers_more, gathers_none, gathered_all, most_rows_le}
use Rattle.kt_walk.specs.WalkOf.{WalkOf}
use Rattle.kt_walk.specs.WalkParts.{WalkParts}
use Rattle.worked_runs.specs.Walked.{IsWalkedText}

-- the rows that were read so far are those that the walk was fed
pub record HasFed (text : Option (List ℕ)) (reader : RowsRead) (walk : WalkParts) : Type 0 where
  pub fed : List Event
  pub gathers : GathersRows text reader fed
  pub stands : WalkOf walk fed

pub fed_none : (text : Option (List ℕ)) (reader : RowsRead) (walk : WalkParts) → reader ≡ rows_unread text → WalkOf walk [] → HasFed text reader walk
fed_none text reader walk e h = record {
  fed = [];
  gathers = subst (λ (r : RowsRead). GathersRows text r []) (sym e) (gathers_none text);
  stands = h;
}

-- there is room for one more row
pub fed_few : (text : Option (List ℕ)) (old new : RowsRead) (walk : WalkParts) (row : Event) → HasFed text old walk → GivesRow old new row → walk.rows < 2 ^ 24
fed_few text old new walk row h s = omega (arith, h.stands.control.number, h.gathers.count, s.few, most_rows_le s.format)

-- one more row
pub fed_more : (text : Option (List ℕ)) (old new : RowsRead) (was now : WalkParts) (row : Event) → HasFed text old was → GivesRow old new row
    → ((rows : List Event) → WalkOf was rows → IsLegal (rows ++ row ∷ []) × WalkOf now (rows ++ row ∷ [])) → HasFed text new now
fed_more text old new was now row h s fed = record {
  fed = h.fed ++ row ∷ [];
  gathers = gathers_more text old new h.fed row h.gathers s;
  stands = (fed h.fed h.stands).1;
}

-- all rows
pub fed_all : (text : Option (List ℕ)) (old new : RowsRead) (walk : WalkParts) → HasFed text old walk → MeetsEnd old new → IsWalkedText text walk
fed_all text old new walk h s = record {
  rows = h.fed;
  says = gathered_all text old new h.fed h.gathers s;
  legal = h.stands.control.legal;
  stands = h.stands;
}
