-- The parts that nodes of a net write.
use Rattle.std.specs.Prelude.{◌≡◌, ◌-◌, ℕ, List, map}
use Rattle.kt_spacetime.specs.declared.named_rows.ClockedRow.{ClockedRow}
use Rattle.kt_spacetime.specs.ClockedRows.{rows_of}
use Rattle.kt_protocol.specs.States.{ProtocolStep}
use Rattle.kt_node.specs.Erasing.{relabelled}
use Rattle.kt_node.specs.Clocks.{clocked_row, clocked_run, opening_clocked, opening_clocked_from}

-- the rows of each process are those of its node, after these steps of a net of n nodes that count on from 0
abbrev pub AreRowsOfNet : ℕ → List ProtocolStep → List ClockedRow → Type 0
AreRowsOfNet n steps rows =
    (p : ℕ) → rows_of p rows ≡ rows_of p (clocked_run (opening_clocked n 0) steps).rows

-- rows with clocks where labels count on from 0, which were told where those of each process count on from one of its own
abbrev pub clocked_from_each : (ℕ → ℕ) → List ClockedRow → List ClockedRow
clocked_from_each first rows = map (λ r. clocked_row r.row.p r.clock (relabelled (λ q label. label - first q) r.row.p r.row.event)) rows

-- so they are those of nodes of which each counts on from a label of its own, with labels that count on from 0
abbrev pub AreRowsOfNetFrom : ℕ → (ℕ → ℕ) → List ProtocolStep → List ClockedRow → Type 0
AreRowsOfNetFrom n first steps rows =
    (p : ℕ) → rows_of p rows ≡ clocked_from_each first (rows_of p (clocked_run (opening_clocked_from n first) steps).rows)
