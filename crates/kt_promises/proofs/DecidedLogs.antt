-- Logs that are decided well: their certificates are fit and just, and so are those of every run.
use Rattle.std.proofs.Common.{ℕ, List}
use Rattle.kt_protocol.specs.States.{ProtocolStep, opening}
use Rattle.kt_protocol.specs.Steps.{run}
use Rattle.kt_protocol.proofs.LawfulSteps.{lawful_after_run}
use Rattle.kt_protocol.proofs.LogMeaning.{all_consistent, all_linked, aborts}
use Rattle.kt_protocol.proofs.Walk.{invariant_after_run}
use Rattle.kt_meaning.specs.DecidedWell.{IsDecidedWell}

-- the log of every run is one
pub decided_well : (n : ℕ) (steps : List ProtocolStep) → IsDecidedWell (run (opening n) steps).log
decided_well n steps = record {
  legal = (lawful_after_run n steps).legal;
  consistent = all_consistent (run (opening n) steps).log (lawful_after_run n steps).legal (invariant_after_run n steps).consistent.rows_hold;
  linked = all_linked (run (opening n) steps).log (lawful_after_run n steps).legal (invariant_after_run n steps).consistent.rows_hold;
  aborts = aborts (run (opening n) steps).log (invariant_after_run n steps).consistent.rows_hold;
}
