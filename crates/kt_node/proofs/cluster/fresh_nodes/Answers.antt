use Rattle.std.proofs.Common.{◌∙◌, ℕ, ◌+◌, List, ap, sym, subst, length}
use Rattle.std.proofs.lemmas.List.{length_push}
use Rattle.kt_node.specs.Clusters.{AreFresh, ShowsClocked}
use Rattle.kt_node.specs.Links.{NodeLinks}
use Rattle.kt_node.specs.Nets.{opening_net}
use Rattle.kt_node.proofs.Clustering.{fresh_push}
use Rattle.kt_node.proofs.cluster.fresh_nodes.Goals as goal

pub loop-number-preserved : goal.loop-number-preserved
loop-number-preserved c = record {
  length = ap (λ (l : List NodeLinks). length l) c.in_ok-push.ensures.items ∙ (length_push c.loop-number.nodes.items c.in_ok-new.field-0 ∙ ap (λ (m : ℕ). m + 1) c.loop-number.invariant.length);
  fresh = subst (λ (l : List NodeLinks). AreFresh l c.args.processes c.args.first) (sym c.in_ok-push.ensures.items)
      (fresh_push c.loop-number.nodes.items c.args.processes c.args.first c.in_ok-new.field-0 c.loop-number.invariant.fresh
      (subst (λ (n : ℕ). ShowsClocked c.in_ok-new.field-0 ((opening_net c.args.processes c.args.first).nodes n) 0) (c.nth.ensures ∙ sym c.loop-number.invariant.length)
      (record { node = c.in_ok-new.ensures.shows; ticks = c.in_ok-new.ensures.clock })));
}
