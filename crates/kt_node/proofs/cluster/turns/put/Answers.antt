use Rattle.std.proofs.Common.{◌∙◌, ◌+◌, List, arith, rules, sym, ap, subst}
use Rattle.kt_node.specs.declared.cluster.OnWay.{OnWay}
use Rattle.kt_node.specs.Clusters.{link}
use Rattle.kt_manager.specs.declared.effects.Parcels.{Parcels}
use Rattle.kt_manager.specs.Effects.{put_to}
use Rattle.kt_node.proofs.OnWay.{HasPut, HasKept, put_one, put_none, one_of, none_of}
use Rattle.kt_node.proofs.cluster.turns.put.Goals as goal
use Rattle.kt_node.proofs.cluster.turns.put.Goals.{in-Some, in_default}

pub loop-number-preserved : goal.loop-number-preserved
loop-number-preserved c =
    let n = c.loop-number.number in
    let p = c.args.p in
    let clock = c.args.output.now.clock in
    let puts = put_to c.args.output.now.effects.parcels in
    let before = c.args.on_way.now.items in
    let was = c.to.ensures ∙ (ap (λ (l : Parcels). put_to l c.nth-to.result) c.parcels.ensures ∙ ap puts c.nth-to.ensures) in
    let h = c.loop-number.invariant in
    elim c.match-to.branch [
      | in-Some w ↦
          (let x : OnWay = record { from = p; to = c.nth-to.result; clock = clock; parcel = w.in-Some.parcel } in
          let all = put_one before c.loop-number.on_way.items x p clock n puts (search rules) c.nth-to.ensures (search rules) (one_of c.to.result w.in-Some.parcel (puts n) was w.in-Some.is) h.puts h.others in
          let items = ap (λ v. v.items) w.on_way-is ∙ w.push_reserved.ensures.items in
          record {
            puts = subst (λ (l : List OnWay). HasPut (n + 1) (link before) (link l) p clock puts) (sym items) all.0;
            others = subst (λ (l : List OnWay). HasKept (n + 1) (link before) (link l)) (sym items) all.1;
            room = first_of (omega arith, search rules);
          })
      | in_default w ↦
          (let all = put_none before c.loop-number.on_way.items p clock n puts (none_of c.to.result (puts n) was w.in_default.is) h.puts h.others in
          let items = ap (λ v. v.items) w.on_way-is in
          record {
            puts = subst (λ (l : List OnWay). HasPut (n + 1) (link before) (link l) p clock puts) (sym items) all.0;
            others = subst (λ (l : List OnWay). HasKept (n + 1) (link before) (link l)) (sym items) all.1;
            room = first_of (omega arith, search rules);
          })
    ]
