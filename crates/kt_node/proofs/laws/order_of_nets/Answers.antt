use Rattle.std.proofs.Common.{List, sym, ap, ◌∙◌}
use Rattle.kt_spacetime.specs.declared.named_rows.NamedRow.{NamedRow}
use Rattle.kt_meaning.specs.Names.{numbered}
use Rattle.kt_node.specs.Erasing.{rows_from_each}
use Rattle.kt_node.proofs.Merged.{merged, merged_rows}
use Rattle.kt_node.proofs.Sorting.{sorted_run}
use Rattle.kt_node.proofs.Unclocked.{rows_unclocked}
use Rattle.kt_node.proofs.laws.order_of_nets.Goals as goal

pub returns-clause-unclocked : goal.returns-clause-unclocked
returns-clause-unclocked c = rows_unclocked

pub returns-clause-sorted : goal.returns-clause-sorted
returns-clause-sorted c = sorted_run

pub returns-clause-merged : goal.returns-clause-merged
returns-clause-merged c = merged

pub returns-clause-promised : goal.returns-clause-promised
returns-clause-promised c = λ n first steps rows log a e h.
    let run = merged n first steps rows a e in
    c.logs_of_nets.ensures.promised n first run.0 log (ap (λ (l : List NamedRow). numbered (rows_from_each first l)) (sym (merged_rows n first run.0 rows run.1)) ∙ h)
