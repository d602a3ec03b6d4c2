use Rattle.std.proofs.Common.{◌≡◌, ◌++◌, take, map}
use Rattle.kt_report.specs.Report.{object_lines}
use Rattle.kt_report.proofs.objects.push_objects.Given as goal

abbrev pub invariant-loop-place : goal.invariant-loop-place
invariant-loop-place l = l.text.items ≡ l.fn.text.items ++ object_lines (take l.place l.names) (take l.place (map (λ o. o.now) l.objects))
