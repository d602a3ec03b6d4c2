use Rattle.kt_program.proofs.FaultLines.{line_made}
use Rattle.kt_program.proofs.ending.whole_line.Goals as goal

pub returns-in-Ok : goal.returns-in-Ok
returns-in-Ok g c = line_made _ (λ s. s.bytes) (λ w bytes v took. took) c.new-line.result c.writeln.new.self (g.D.Display.output c.args.words) c.new-line.ensures c.in-Ok.ensures.writes
