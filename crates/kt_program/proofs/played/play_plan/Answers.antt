use Rattle.std.proofs.Common.{◌∙◌, refl, sym}
use Rattle.kt_program.proofs.NewObjects.{object_of_run, step_of_run}
use Rattle.kt_program.proofs.played.play_plan.Goals as goal

pub returns-in-Err-clause-refused : goal.returns-in-Err-clause-refused
returns-in-Err-clause-refused g c = λ done why e. c.in-Err.ensures.default_refused refl done why (step_of_run c.in-Err.stop.fault done why (sym c.from.ensures ∙ e))

pub returns-in-Err-clause-object : goal.returns-in-Err-clause-object
returns-in-Err-clause-object g c = λ p e. c.in-Err.ensures.default_object refl p (object_of_run c.in-Err.stop.fault p (sym c.from.ensures ∙ e))
