-- Names put back.
use Rattle.std.proofs.Common.{◌≡◌, ◌∙◌, ℕ, Bool, true, false, Option, Some, List, [], ◌∷◌, refl, sym, ap}
use Rattle.std.specs.Prelude.{◌==◌, cond, filter}
use Rattle.kt_spacetime.specs.declared.event.Event.{Event}
use Rattle.kt_spacetime.specs.declared.named_rows.NamedRow.{NamedRow}
use Rattle.kt_meaning.specs.Names.{named, numbered}
use Rattle.kt_spacetime.specs.declared.named_rows.ClockedRow.{ClockedRow}
use Rattle.kt_spacetime.specs.ClockedRows.{rows_of, without_clocks}
use Rattle.kt_merge.specs.Reading.{PartRead}
use Rattle.kt_merge.specs.Merging.{IsRowwise, WritesMerge}

kept_or_not : (b : Bool) (x : ClockedRow) (rows : List ClockedRow) → without_clocks (cond b (x ∷ rows) rows) ≡ cond b (x.row ∷ without_clocks rows) (without_clocks rows)
kept_or_not true x rows = refl
kept_or_not false x rows = refl

-- a process's rows have no clocks where all have none
without_each : (p : ℕ) (rows : List ClockedRow) → filter (λ (r : NamedRow). r.p == p) (without_clocks rows) ≡ without_clocks (rows_of p rows)
without_each p [] = refl
without_each p (x ∷ rows) =
    ap (λ (l : List NamedRow). cond (x.row.p == p) (x.row ∷ l) l) (without_each p rows) ∙ sym (kept_or_not (x.row.p == p) x (rows_of p rows))

pub put_back : ((rows : List NamedRow) (log : List Event) → numbered rows ≡ Some log → named log ≡ Some rows) → (parts : List PartRead) (old new : Option (List ℕ))
    → WritesMerge parts old new → IsRowwise parts old new
put_back back parts old new w = record {
  log = w.log;
  written = w.written;
  rows = without_clocks w.rows;
  names = back (without_clocks w.rows) w.log w.numbers;
  each = λ p text part. (rows_of p w.rows, w.merged.whole p text part, without_each p w.rows);
}
