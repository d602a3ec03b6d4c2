use Rattle.std.proofs.Common.{◌≡◌, ◌<◌, ◌∙◌, Some, length, sym, ap, subst, take, get_or, arith, rules}
use Rattle.std.proofs.lemmas.List.Folds.{list_all_more}
use Rattle.std.proofs.lemmas.Option.{slice_get-get_or}
use Rattle.kt_meaning.specs.Past.{past}
use Rattle.kt_histories.specs.declared.breach.demands.Demand.{Demand}
use Rattle.kt_histories.specs.Demands.{IsDemandOn, ask_all, asks}
use Rattle.kt_histories.specs.Breaches.{IsJudgedOf}
use Rattle.kt_histories.proofs.Demands.{and_true, demand_on}
use Rattle.kt_histories.proofs.breach.before.Before.broken.Goals as goal

pub returns-in-Some-clause-unmet : goal.returns-in-Some-clause-unmet
returns-in-Some-clause-unmet c =
    let long : length c.demands.result ≡ 7 = search rules in
    let low : c.loop-demand.demand-index < length c.demands.result = omega (arith, long, c.loop-demand-test.true) in
    let there = slice_get-get_or c.demands.result c.loop-demand.demand-index c.demand-item.result low ∙ ap (λ (d : Demand). Some d) (sym c.demand-item.is) in
    let row = c.args.row.now in
    let on = demand_on row c.demands.result c.loop-demand.demand-index c.demand-item.result c.demands.ensures.on there in
    record {
      demands = c.demands.result;
      are_rule = c.demands.ensures.rule;
      place = c.loop-demand.demand-index;
      demand = c.demand-item.result;
      there = there;
      met = c.loop-demand.invariant;
      unmet = subst (λ (d : Demand). IsJudgedOf c.args.self.now.rows.now row (asks d) (Some c.in-Some.breach)) (sym c.demand-item.is) (c.in-Some.ensures row (subst (IsDemandOn row) c.demand-item.is on));
    }

pub loop-demand-preserved : goal.loop-demand-preserved
loop-demand-preserved c =
    let long : length c.demands.result ≡ 7 = search rules in
    let low : c.loop-demand.demand-index < length c.demands.result = omega (arith, long, c.loop-demand-test.true) in
    let there = slice_get-get_or c.demands.result c.loop-demand.demand-index c.demand-item.result low ∙ ap (λ (d : Demand). Some d) (sym c.demand-item.is) in
    let row = c.args.row.now in
    let on = demand_on row c.demands.result c.loop-demand.demand-index c.demand-item.result c.demands.ensures.on there in
    let met = c.in_default.ensures row (subst (IsDemandOn row) c.demand-item.is on) in
    let s = past c.args.self.now.rows.now in
    list_all_more (λ (d : Demand). asks d s) c.demands.result c.loop-demand.demand-index c.demand-item.result low
    ∙ and_true (ask_all (take c.loop-demand.demand-index c.demands.result) s) (asks (get_or c.demands.result c.loop-demand.demand-index c.demand-item.result) s) c.loop-demand.invariant met
