use Rattle.std.proofs.Common.{refl}
use Rattle.kt_meaning.specs.Past.{past}
use Rattle.kt_meaning.proofs.LegalLogs.{legal_last}
use Rattle.kt_certify.proofs.Changed.{changed_set}
use Rattle.kt_certify.proofs.PassSteps.{step, listed_of}
use Rattle.kt_certify.proofs.WholePass.{seen_none, seen_next, found_of, in_one_pass, instance_there}
use Rattle.kt_certify.proofs.laws.certificates_in_one_pass.Goals as goal

pub returns-clause-one_pass : goal.returns-clause-one_pass
returns-clause-one_pass c = in_one_pass

pub returns-clause-none : goal.returns-clause-none
returns-clause-none c = seen_none

pub returns-clause-next : goal.returns-clause-next
returns-clause-next c = λ log row pass l h. seen_next log row pass (legal_last log row l).0 (legal_last log row l).1 h

pub returns-clause-found : goal.returns-clause-found
returns-clause-found c = found_of

pub returns-clause-instances : goal.returns-clause-instances
returns-clause-instances c = λ log row vs l h. step log row vs (past log) (legal_last log row l).0 (legal_last log row l).1 refl h

pub returns-clause-listed : goal.returns-clause-listed
returns-clause-listed c = listed_of

pub returns-clause-there : goal.returns-clause-there
returns-clause-there c = instance_there

pub returns-clause-set : goal.returns-clause-set
returns-clause-set c = λ n f vs v e. changed_set n f vs v e
