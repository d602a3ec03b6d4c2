use Rattle.std.proofs.Common.{take}
use Rattle.std.specs.List.{flat_map}
use Rattle.kt_text.specs.Writing.{Sends}
use Rattle.kt_report.specs.Lines.{instance_lines}
use Rattle.kt_report.proofs.instances.write_instances.Given as goal

abbrev pub invariant-loop-certificate : goal.invariant-loop-certificate
invariant-loop-certificate g l = Sends (g.W.Write.contents l.fn.writer) (g.W.Write.contents l.writer) l.fn.text.items l.text.items (flat_map (instance_lines l.names l.rows) (take l.certificate-index l.certificates))
