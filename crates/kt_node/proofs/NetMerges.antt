-- The merge of nodes' parts is in the order of a run of theirs.
use Rattle.std.proofs.Common.{◌≡◌, ◌∙◌, ◌-◌, ◌<◌, ◌≤◌, ◌⊎◌, ℕ, zero, suc, Bool, true, false, Some, List, [], ◌∷◌, refl, sym, ap, ap₂, arith, inl, inr}
use Rattle.std.specs.Prelude.{◌==◌, if◌then◌else◌, AllPairs}
use Rattle.kt_spacetime.specs.declared.event.Event.{Event}
use Rattle.kt_spacetime.specs.declared.named_rows.NamedEvent.{NamedEvent}
use Rattle.kt_spacetime.specs.declared.named_rows.NamedEvent.TheVariants.{Sent, Received, Dropped, Began, Took, Ready, Unwilling, Decided, Closed, Failed, Refused}
use Rattle.kt_spacetime.specs.declared.named_rows.NamedRow.{NamedRow}
use Rattle.kt_meaning.specs.Names.{numbered, row_of}
use Rattle.kt_meaning.specs.Promised.{IsPromised, IsCertified}
use Rattle.kt_protocol.specs.States.{ProtocolStep, opening}
use Rattle.kt_protocol.specs.LateSteps.{late_run}
use Rattle.kt_node.specs.Nets.{net_run, opening_from}
use Rattle.kt_spacetime.specs.declared.named_rows.ClockedRow.{ClockedRow}
use Rattle.kt_node.specs.Clocks.{clocked_row, clocked_run, opening_clocked_from, AreByClock}
use Rattle.kt_node.specs.Erasing.{relabelled, rows_from_each}
use Rattle.kt_spacetime.specs.ClockedRows.{rows_of, without_clocks}
use Rattle.kt_merge.specs.Heads.{IsNotLater}
use Rattle.kt_merge.proofs.OneMerge.{rest_sorted}
use Rattle.kt_node.specs.NetParts.{AreRowsOfNet, AreRowsOfNetFrom, clocked_from_each}
use Rattle.kt_node.proofs.Merged.{one_order}
use Rattle.kt_node.proofs.RaisedRuns.{numbered_from_each}
use Rattle.kt_node.proofs.Sorting.{sorted_run}
use Rattle.kt_node.proofs.Unclocked.{rows_unclocked}

-- sorted row by row is sorted by clocks
after_it : (r : ClockedRow) (rows : List ClockedRow) → AllPairs IsNotLater (r ∷ rows) → AreByClock r.clock r.row.p rows
after_it r [] s = tt
after_it r (x ∷ rows) s = (s 0 1 r (omega arith) (omega arith), after_it x rows (rest_sorted r (x ∷ rows) s))

first_of : (clock p : ℕ) → (0 < clock) ⊎ ((0 ≡ clock) × (0 ≤ p))
first_of zero p = inr (refl, omega arith)
first_of (suc clock) p = inl (omega arith)

by_clock : (rows : List ClockedRow) → AllPairs IsNotLater rows → AreByClock 0 0 rows
by_clock [] s = tt
by_clock (r ∷ rows) s = (first_of r.clock r.row.p, after_it r rows s)

-- labels that count on from 0 are as they are
from_none : (p : ℕ) (event : NamedEvent) → relabelled (λ q label. label - 0) p event ≡ event
from_none p (Sent to body label) = ap (Sent to body) (omega arith)
from_none p (Received from label) = ap (Received from) (omega arith)
from_none p (Dropped from label) = ap (Dropped from) (omega arith)
from_none p (Began inst kind) = refl
from_none p (Took inst) = refl
from_none p (Ready inst) = refl
from_none p (Unwilling inst cause) = refl
from_none p (Decided inst commit) = refl
from_none p (Closed inst) = refl
from_none p Failed = refl
from_none p (Refused verb cause) = refl

rows_as_they_are : (rows : List ClockedRow) → clocked_from_each (λ p. 0) rows ≡ rows
rows_as_they_are [] = refl
rows_as_they_are (r ∷ rows) = ap₂ (λ (e : NamedEvent) (l : List ClockedRow). clocked_row r.row.p r.clock e ∷ l) (from_none r.row.p r.row.event) (rows_as_they_are rows)

module _ (first : ℕ → ℕ) where
  -- rows keep their clocks and processes
  still_by_clock : (k p : ℕ) (rows : List ClockedRow) → AreByClock k p rows → AreByClock k p (clocked_from_each first rows)
  still_by_clock k p [] h = tt
  still_by_clock k p (r ∷ rows) h = (h.0, still_by_clock r.clock r.row.p rows h.1)

  rows_without_clocks : (rows : List ClockedRow) → without_clocks (clocked_from_each first rows) ≡ rows_from_each first (without_clocks rows)
  rows_without_clocks [] = refl
  rows_without_clocks (r ∷ rows) = ap (λ (l : List NamedRow). row_of r.row.p (relabelled (λ q label. label - first q) r.row.p r.row.event) ∷ l) (rows_without_clocks rows)

  abbrev row_from_each : ClockedRow → ClockedRow
  row_from_each r = clocked_row r.row.p r.clock (relabelled (λ q label. label - first q) r.row.p r.row.event)

  part_from_each : (p : ℕ) (rows : List ClockedRow) → rows_of p (clocked_from_each first rows) ≡ clocked_from_each first (rows_of p rows)
  part_from_each p [] = refl
  part_from_each p (r ∷ rows) = at_test (r.row.p == p) (part_from_each p rows)
    where
      at_test : (b : Bool) → rows_of p (clocked_from_each first rows) ≡ clocked_from_each first (rows_of p rows)
          → (if b then row_from_each r ∷ rows_of p (clocked_from_each first rows) else rows_of p (clocked_from_each first rows)) ≡ clocked_from_each first (if b then r ∷ rows_of p rows else rows_of p rows)
      at_test true h = ap (λ (l : List ClockedRow). row_from_each r ∷ l) h
      at_test false h = h

-- of the log of a net all is promised
abbrev pub Has : (List Event → Type 0) → Type 0
Has P = (n : ℕ) (first : ℕ → ℕ) (steps : List ProtocolStep) (log : List Event) → numbered (rows_from_each first (net_run (opening_from n first) steps).rows) ≡ Some log → P log

abbrev pub IsGood : List ClockedRow → Type 0
IsGood rows = (log : List Event) × (numbered (without_clocks rows) ≡ Some log) × IsPromised log × IsCertified log

pub merged_from : Has IsPromised → Has IsCertified → (n : ℕ) (first : ℕ → ℕ) (steps : List ProtocolStep) (rows : List ClockedRow) → AllPairs IsNotLater rows → AreRowsOfNetFrom n first steps rows → IsGood rows
merged_from promised certified n first steps rows s of =
    let run = sorted_run n first steps in
    let own = (clocked_run (opening_clocked_from n first) run.0).rows in
    let is : rows ≡ clocked_from_each first own
    = one_order rows (clocked_from_each first own) 0 0 (by_clock rows s) (still_by_clock first 0 0 own run.1) (λ p. of p ∙ (ap (clocked_from_each first) (sym (run.2 p)) ∙ sym (part_from_each first p own))) in
    let same : rows_from_each first (net_run (opening_from n first) run.0).rows ≡ without_clocks rows
    = ap (rows_from_each first) (sym (rows_unclocked n first run.0)) ∙ (sym (rows_without_clocks first own) ∙ ap without_clocks (sym is)) in
    let log = (late_run (opening n) run.0).log in
    let there = numbered_from_each n first run.0 in
    (log, ap numbered (sym same) ∙ there, promised n first run.0 log there, certified n first run.0 log there)

pub merged : Has IsPromised → Has IsCertified → (n : ℕ) (steps : List ProtocolStep) (rows : List ClockedRow) → AllPairs IsNotLater rows → AreRowsOfNet n steps rows → IsGood rows
merged promised certified n steps rows s of = merged_from promised certified n (λ p. 0) steps rows s (λ p. of p ∙ sym (rows_as_they_are (rows_of p (clocked_run (opening_clocked_from n (λ p. 0)) steps).rows)))
