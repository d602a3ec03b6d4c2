use Rattle.std.proofs.Common.{◌≡◌, ◌∙◌, List, Some, ap, sym}
use Rattle.kt_spacetime.specs.declared.named_rows.NamedRow.{NamedRow}
use Rattle.kt_spacetime.specs.ClockedRows.{without_clocks}
use Rattle.kt_protocol.specs.States.{opening}
use Rattle.kt_protocol.specs.LateSteps.{late_run}
use Rattle.kt_meaning.specs.Names.{numbered}
use Rattle.kt_node.specs.Nets.{net_run, opening_net}
use Rattle.kt_node.specs.Erasing.{rows_from}
use Rattle.kt_kills.proofs.Law.{held_run}
use Rattle.kt_kills.proofs.OpeningHeld.{opening_held}
use Rattle.kt_kills.proofs.ByClock.{rows_by_clock}
use Rattle.kt_kills.proofs.Chosen.{as_they_are}
use Rattle.kt_kills.proofs.laws.killed_nets_are_runs.Goals as goal

pub returns-clause-runs : goal.returns-clause-runs
returns-clause-runs c n first es right back = as_they_are n first _ (held_run n first _ es right (opening_held n first)) back

pub returns-clause-some_order : goal.returns-clause-some_order
returns-clause-some_order c n first es right back = let r = as_they_are n first _ (held_run n first _ es right (opening_held n first)) back in
    let e : numbered (rows_from first (net_run (opening_net n first) r.0).rows) ≡ Some (late_run (opening n) r.0).log = c.nets_are_runs.ensures.numbered n (λ p. first) r.0 in
    ((net_run (opening_net n first) r.0).rows, (λ p. sym (r.1.rows p)), (late_run (opening n) r.0).log, e, c.logs_of_nets.ensures.promised n (λ p. first) r.0 _ e, c.logs_of_nets.ensures.certified n (λ p. first) r.0 _ e)

pub returns-clause-sorted : goal.returns-clause-sorted
returns-clause-sorted c n first es rows right back = rows_by_clock n first es rows right back

pub returns-clause-promised : goal.returns-clause-promised
returns-clause-promised c n first es rows right back order parts = let r = rows_by_clock n first es rows right back order parts in
    let e : numbered (rows_from first (without_clocks rows)) ≡ Some (late_run (opening n) r.0).log = ap (λ (l : List NamedRow). numbered (rows_from first l)) r.1 ∙ c.nets_are_runs.ensures.numbered n (λ p. first) r.0 in
    let f : numbered (rows_from first (net_run (opening_net n first) r.0).rows) ≡ Some (late_run (opening n) r.0).log = c.nets_are_runs.ensures.numbered n (λ p. first) r.0 in
    ((late_run (opening n) r.0).log, e, c.logs_of_nets.ensures.promised n (λ p. first) r.0 _ f, c.logs_of_nets.ensures.certified n (λ p. first) r.0 _ f)
