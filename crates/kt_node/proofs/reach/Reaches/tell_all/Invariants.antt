use Rattle.std.proofs.Common.{List, ◌++◌, take}
use Rattle.std.specs.List.{flat_map}
use Rattle.kt_tables.specs.Calls.{Call}
use Rattle.kt_node.specs.NodeHistories.{call_of_row}
use Rattle.kt_node.specs.Reaches.{HasReaches}
use Rattle.kt_node.proofs.reach.Reaches.tell_all.Given as goal

abbrev pub invariant-loop-row : goal.invariant-loop-row
invariant-loop-row l = (calls : List Call) → HasReaches l.initial.self calls → HasReaches l.self (calls ++ flat_map call_of_row (take l.row-index l.rows))
