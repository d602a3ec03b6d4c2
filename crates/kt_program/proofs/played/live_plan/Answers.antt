use Rattle.std.proofs.lemmas.Result.{err_from_is_err_and}
use Rattle.kt_program.proofs.NewObjects.{object_of_live}
use Rattle.kt_program.proofs.played.live_plan.Goals as goal

pub returns-in_err-run-clause-object : goal.returns-in_err-run-clause-object
returns-in_err-run-clause-object g c =
    let p = err_from_is_err_and c.from_residual.result c.from_residual.ensures.1 in
    rw (p.1, p.2) (λ q e. c.in_err-run.ensures.object q (object_of_live c.in_err-run.field-0.0 q e))
