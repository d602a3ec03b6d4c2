use Rattle.kt_program.proofs.RunFacts.{none_lost}
use Rattle.kt_program.proofs.laws.no_message_is_lost.Goals as goal

pub returns : goal.returns
returns c = λ plan log follows. none_lost log follows.quiet_end
