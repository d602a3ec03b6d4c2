use Rattle.std.proofs.Common.{List, ◌++◌, take}
use Rattle.std.specs.List.{flat_map}
use Rattle.kt_tables.specs.Calls.{Call}
use Rattle.kt_node.specs.NodeHistories.{call_of_act}
use Rattle.kt_manager.specs.ShownActs.{acts_shown}
use Rattle.kt_node.specs.Reaches.{HasReaches}
use Rattle.kt_node.proofs.reach.Reaches.obey_all.Given as goal

abbrev pub invariant-loop-act : goal.invariant-loop-act
invariant-loop-act l = (calls : List Call) → HasReaches l.initial.self calls → HasReaches l.self (calls ++ flat_map call_of_act (acts_shown (take l.act-index l.acts)))
