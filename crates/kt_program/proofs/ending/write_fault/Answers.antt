use Rattle.std.proofs.Common.{rules, ◌≡◌}
use Rattle.std.specs.Io.KnownBytes.{Appends}
use Rattle.kt_text.specs.Writing.{WritesFront}
use Rattle.kt_program.proofs.FaultLines.{line_written, line_stopped, line_unwritten}
use Rattle.kt_program.proofs.ending.write_fault.Goals as goal

pub returns-in_default-clause-stopped : goal.returns-in_default-clause-stopped
returns-in_default-clause-stopped g c = line_unwritten (g.W.Write.contents c.args.writer.now) (g.D.Display.output c.args.words)

pub returns-clause-written : goal.returns-clause-written
returns-clause-written g c =
    let same : c.as_bytes.result.now ≡ c.in-Some.line.bytes = search rules in
    line_written c.write_whole.result (λ bytes. Appends (g.W.Write.contents c.args.writer.now) (g.W.Write.contents c.write_whole.new.writer) bytes) (g.D.Display.output c.args.words) c.in-Some.line.bytes c.in-Some.ensures
    (rw same at c.write_whole.ensures.written)

pub returns-clause-stopped : goal.returns-clause-stopped
returns-clause-stopped g c =
    let same : c.as_bytes.result.now ≡ c.in-Some.line.bytes = search rules in
    line_stopped c.write_whole.result (λ bytes. WritesFront (g.W.Write.contents c.args.writer.now) (g.W.Write.contents c.write_whole.new.writer) bytes) (g.D.Display.output c.args.words) c.in-Some.line.bytes c.in-Some.ensures
    (rw same at c.write_whole.ensures.stopped)
