use Rattle.kt_program.proofs.RunFacts.{chained_of}
use Rattle.kt_program.proofs.runs.write_recorded.Goals as goal

pub certificates_of_run-requires-clause-chained : goal.certificates_of_run-requires-clause-chained
certificates_of_run-requires-clause-chained g c = chained_of c.args.log.now.rows c.requires.certified
