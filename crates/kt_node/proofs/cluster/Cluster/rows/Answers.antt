use Rattle.std.proofs.Common.{◌≡◌, ◌∙◌, Some, length, map, sym, ap, subst}
use Rattle.kt_spacetime.specs.ClockedRows.{rows_of}
use Rattle.kt_meaning.specs.Names.{numbered}
use Rattle.kt_node.specs.Erasing.{rows_from}
use Rattle.kt_node.specs.Clusters.{ClusterState, ArePromised}
use Rattle.kt_node.proofs.Clustering.{promised_rows}
use Rattle.kt_node.proofs.cluster.Cluster.rows.Goals as goal

pub returns-clause-promised : goal.returns-clause-promised
returns-clause-promised c =
    let inside = c.self.inside in
    let s : ClusterState = record { nodes = inside.nodes.items; on_way = inside.on_way.items; rows = inside.rows.items; first = inside.first } in
    subst (λ (s : ClusterState). ArePromised s.first c.as_slice.result.now) c.self.view_is (subst (ArePromised inside.first) (sym c.as_slice.ensures.value)
    (promised_rows (λ n first. c.nets_are_runs.ensures.numbered n (λ p. first)) (λ n first. c.logs_of_nets.ensures.promised n (λ p. first)) (λ n first. c.logs_of_nets.ensures.certified n (λ p. first)) s c.self.invariant.steps c.self.invariant.reached))

pub returns-clause-merged : goal.returns-clause-merged
returns-clause-merged c = λ rows log a parts e.
    c.order_of_nets.ensures.promised (length c.self.inside.nodes.items) (λ p. c.self.inside.first) c.self.invariant.steps rows log a (λ p. parts p ∙ ap (rows_of p) (c.as_slice.ensures.value ∙ c.self.invariant.reached.rows))
    (subst (λ (s : ClusterState). numbered (rows_from s.first (map (λ r. r.row) rows)) ≡ Some log) (sym c.self.view_is) e)
