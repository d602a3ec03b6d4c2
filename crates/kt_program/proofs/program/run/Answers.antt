use Rattle.std.proofs.Common.{[], inl, refl}
use Rattle.std.specs.Prelude.{Err}
use Rattle.kt_program.specs.declared.told.Told.TheVariants.{Nothing}
use Rattle.kt_program.proofs.program.run.Goals as goal

pub returns-in-Err : goal.returns-in-Err
returns-in-Err g c = ([], record { outcome = Err (record { fault = c.in-Err.fault; told = Nothing }); status_is = c.end.ensures.status; output = λ w. inl refl; quiet = tt })
