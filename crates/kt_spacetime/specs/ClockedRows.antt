-- Rows by names with clocks.
use Rattle.std.specs.Prelude.{◌==◌, ℕ, List, filter, map}
use Rattle.kt_spacetime.specs.declared.named_rows.NamedRow.{NamedRow}
use Rattle.kt_spacetime.specs.declared.named_rows.ClockedRow.{ClockedRow}

-- the rows of a process among all
abbrev pub rows_of : ℕ → List ClockedRow → List ClockedRow
rows_of p rows = filter (λ r. r.row.p == p) rows

-- the rows without their clocks
abbrev pub without_clocks : List ClockedRow → List NamedRow
without_clocks rows = map (λ r. r.row) rows
