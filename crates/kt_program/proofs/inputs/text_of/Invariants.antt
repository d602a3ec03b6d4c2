use Rattle.std.specs.Io.KnownBytes.{Consumes}
use Rattle.kt_program.proofs.inputs.text_of.Given as goal

abbrev pub invariant-loop-read : goal.invariant-loop-read
invariant-loop-read g l = Consumes (g.R.Read.remaining l.fn.input.source) (g.R.Read.remaining l.input.source) l.text.items
