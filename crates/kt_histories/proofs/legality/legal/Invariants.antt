use Rattle.std.proofs.Common.{take}
use Rattle.kt_meaning.specs.Legal.{IsLegal}
use Rattle.kt_histories.specs.Standing.{ReplayStandsFor}
use Rattle.kt_histories.proofs.legality.legal.Given as goal

abbrev pub invariant-loop-row : goal.invariant-loop-row
invariant-loop-row l = record {
  stands : ReplayStandsFor l.replay (take l.row-index l.row-items);
  legal : IsLegal (take l.row-index l.row-items);
}
