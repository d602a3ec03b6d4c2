use Rattle.kt_promises.proofs.ProtocolSteps.{one_step, steps_at_start, steps_next, steps_seen, steps_acts, seen_acts_are}
use Rattle.kt_promises.proofs.laws.protocol_of_runs.Goals as goal

pub returns-clause-start : goal.returns-clause-start
returns-clause-start c = steps_at_start

pub returns-clause-next : goal.returns-clause-next
returns-clause-next c = steps_next

pub returns-clause-one : goal.returns-clause-one
returns-clause-one c = λ plan w x give e. let d = one_step plan w x give e in (d.step, d.alone)

pub returns-clause-seen : goal.returns-clause-seen
returns-clause-seen c = steps_seen

pub returns-clause-acts : goal.returns-clause-acts
returns-clause-acts c = steps_acts

pub returns-clause-seen_acts : goal.returns-clause-seen_acts
returns-clause-seen_acts c = seen_acts_are
