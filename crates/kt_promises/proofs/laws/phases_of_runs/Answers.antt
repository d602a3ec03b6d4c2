use Rattle.kt_promises.proofs.OpenPhase.{ahead_seen, shut_seen, attained_seen, in_phase_seen, quiet_seen}
use Rattle.kt_promises.proofs.laws.phases_of_runs.Goals as goal

pub returns-clause-ahead : goal.returns-clause-ahead
returns-clause-ahead c = ahead_seen

pub returns-clause-shut : goal.returns-clause-shut
returns-clause-shut c = shut_seen

pub returns-clause-in_phase : goal.returns-clause-in_phase
returns-clause-in_phase c = in_phase_seen

pub returns-clause-forward : goal.returns-clause-forward
returns-clause-forward c = λ plan first w x give i r e. (quiet_seen plan first w x give i r e).0

pub returns-clause-quiet : goal.returns-clause-quiet
returns-clause-quiet c = λ plan first w x give i r e. (quiet_seen plan first w x give i r e).1

pub returns-clause-attained : goal.returns-clause-attained
returns-clause-attained c = attained_seen
