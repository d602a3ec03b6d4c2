use Rattle.std.proofs.Common.{arith}
use Rattle.kt_meaning.specs.Unwilling.{has_unwilling}
use Rattle.kt_meaning.proofs.Answering.{no_broken, not_both}
use Rattle.kt_meaning.proofs.Claims.{cut_right}
use Rattle.kt_meaning.proofs.DecidedLogs.{not_without_chain, fit_of, just_of, only_memory}
use Rattle.kt_meaning.proofs.promised.certificates_of_well_decided_logs.Goals as goal

pub returns-clause-no_bad_log : goal.returns-clause-no_bad_log
returns-clause-no_bad_log c = λ log v h bad. no_broken log bad.0 bad.1 h.legal bad.3

pub returns-clause-no_unknown : goal.returns-clause-no_unknown
returns-clause-no_unknown c = λ log i d v e unknown.
    let said = c.certificates_of_legal_logs.ensures.stated log i d e in
    unknown.1 said.0 said.1 (λ second.
    let low = c.certificates_of_logs.ensures.rising log second.0 i second.1 d second.2 second.3 e in
    absurd (omega (arith, low, second.4)))

pub returns-clause-no_cause : goal.returns-clause-no_cause
returns-clause-no_cause c = λ log i n d h e said wrong. not_both (has_unwilling log d.inst) d.commit wrong ((just_of log h).causes n said.process d.inst d.commit said.decided)

pub returns-clause-no_members : goal.returns-clause-no_members
returns-clause-no_members c = λ log i n d h e said wrong. wrong.2 (c.certificates_of_legal_logs.ensures.listed log i n d h.legal e said wrong.1)

pub returns-clause-no_chain : goal.returns-clause-no_chain
returns-clause-no_chain c = λ log i n d h e said wrong. wrong.3 (c.certificates_of_legal_logs.ensures.chains log i n d h.legal (fit_of log h).chained e said wrong.1)

pub returns-clause-no_orphan : goal.returns-clause-no_orphan
returns-clause-no_orphan c = λ log i n d h e said wrong. wrong.4 (cut_right log d n h.consistent said wrong.1)

pub returns-clause-no_missing : goal.returns-clause-no_missing
returns-clause-no_missing c = λ log v h missing. missing.7 (c.certificates_of_legal_logs.ensures.complete log h.legal missing.1 missing.2 missing.3 missing.4 missing.6)

pub returns-clause-passed : goal.returns-clause-passed
returns-clause-passed c = λ log h. (c.certificates_of_fit_logs.ensures.passed log (fit_of log h)).1 (just_of log h)

pub returns-clause-yes : goal.returns-clause-yes
returns-clause-yes c = λ log v h answer. (c.certificates_of_fit_logs.ensures.yes log v (fit_of log h) answer).1 (just_of log h)

pub returns-clause-chained : goal.returns-clause-chained
returns-clause-chained c = λ log k p h. not_without_chain log k p h.linked

pub returns-clause-certified : goal.returns-clause-certified
returns-clause-certified c = only_memory
