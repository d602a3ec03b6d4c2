use Rattle.std.proofs.Common.{refl, inl}
use Rattle.kt_meaning.specs.Past.{start}
use Rattle.kt_meaning.proofs.LegalLogs.{legal_unbroken}
use Rattle.kt_protocol.specs.States.{opening}
use Rattle.kt_protocol.specs.Steps.{run}
use Rattle.kt_promises.proofs.DecidedLogs.{decided_well}
use Rattle.kt_promises.proofs.certificates.certificates_of_protocol_runs.Goals as goal

pub returns-clause-well : goal.returns-clause-well
returns-clause-well c = decided_well

pub returns-clause-unbroken : goal.returns-clause-unbroken
returns-clause-unbroken c = λ n steps. legal_unbroken start (run (opening n) steps).log (decided_well n steps).legal

pub returns-clause-chained : goal.returns-clause-chained
returns-clause-chained c = λ n steps k p. c.certificates_of_well_decided_logs.ensures.chained (run (opening n) steps).log k p (decided_well n steps)

pub returns-clause-certified : goal.returns-clause-certified
returns-clause-certified c = λ n steps f. c.certificates_of_well_decided_logs.ensures.certified (run (opening n) steps).log f (decided_well n steps)

pub returns-clause-passed : goal.returns-clause-passed
returns-clause-passed c = λ n steps. c.certificates_of_well_decided_logs.ensures.passed (run (opening n) steps).log (decided_well n steps)

pub returns-clause-answer : goal.returns-clause-answer
returns-clause-answer c = λ n steps. inl (refl, c.certificates_of_well_decided_logs.ensures.passed (run (opening n) steps).log (decided_well n steps))

pub returns-clause-yes : goal.returns-clause-yes
returns-clause-yes c = λ n steps v. c.certificates_of_well_decided_logs.ensures.yes (run (opening n) steps).log v (decided_well n steps)
