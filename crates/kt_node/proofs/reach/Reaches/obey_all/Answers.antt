use Rattle.std.proofs.Common.{List, ◌++◌, take, sym, subst, rules}
use Rattle.std.specs.List.{flat_map}
use Rattle.kt_tables.specs.Calls.{Call}
use Rattle.kt_manager.specs.ShownActs.{act_shown, acts_shown}
use Rattle.kt_node.specs.NodeHistories.{call_of_act}
use Rattle.kt_node.specs.Reaches.{HasReaches}
use Rattle.kt_node.proofs.Reaching.{act_next, has_both}
use Rattle.kt_node.proofs.reach.Reaches.obey_all.Goals as goal

pub loop-act-preserved : goal.loop-act-preserved
loop-act-preserved c = λ calls h.
    let front = flat_map call_of_act (acts_shown (take c.loop-act.act-index c.args.acts.now)) in
    let rest = flat_map call_of_act (act_shown c.act-item.result) in
    subst (λ (l : List Call). HasReaches c.obey.new.self (calls ++ l)) (sym (act_next c.args.acts.now c.loop-act.act-index c.act-item.result (search rules) c.act-item.is))
    (has_both c.obey.new.self calls front rest (c.obey.ensures (calls ++ front) (c.loop-act.invariant calls h)))
