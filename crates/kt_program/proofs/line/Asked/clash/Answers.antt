use Rattle.std.proofs.Common.{◌∙◌, ap, sym}
use Rattle.kt_program.specs.Names.{inputs_of}
use Rattle.kt_program.proofs.Clashes.{clash_of, few_inputs}
use Rattle.kt_program.proofs.line.Asked.clash.Goals as goal

pub returns-in-Merge : goal.returns-in-Merge
returns-in-Merge c = clash_of c.args.self.now _ _ c.is_twice.result (c.as_slice.ensures.value ∙ ap inputs_of (sym c.in-Merge.is)) c.names.ensures.outputs c.is_twice.ensures

pub returns-in_default : goal.returns-in_default
returns-in_default c = clash_of c.args.self.now _ _ c.is_twice-in_default.result (few_inputs c.args.self.now _ c.in_default.not-Merge c.names.ensures.inputs) c.names.ensures.outputs c.is_twice-in_default.ensures
