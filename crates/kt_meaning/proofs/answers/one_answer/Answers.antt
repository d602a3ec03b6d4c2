use Rattle.kt_meaning.proofs.OneAnswer as one
use Rattle.kt_meaning.proofs.answers.one_answer.Goals as goal

pub returns : goal.returns
returns c = one.one_answer
