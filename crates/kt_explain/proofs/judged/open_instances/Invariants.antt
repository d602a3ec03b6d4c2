use Rattle.std.proofs.Common.{take}
use Rattle.std.specs.List.{AllZip, filter_map}
use Rattle.kt_meaning.specs.Past.{past}
use Rattle.kt_explain.specs.Judged.{IsOpenInstance, begun_open}
use Rattle.kt_explain.proofs.judged.open_instances.Given as goal

abbrev pub invariant-loop-row : goal.invariant-loop-row
invariant-loop-row l = AllZip (IsOpenInstance (past l.rows)) (filter_map (begun_open (past l.rows)) (take l.row-index l.rows)) l.list.items
