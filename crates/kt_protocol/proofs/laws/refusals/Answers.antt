use Rattle.kt_protocol.proofs.laws.refusals.Goals as goal
use Rattle.kt_protocol.proofs.AddedRows.{refused_added, unwilling_added}

pub returns-clause-unwilling : goal.returns-clause-unwilling
returns-clause-unwilling c = λ n steps t p k x h. unwilling_added n steps t p k x h

pub returns-clause-refused : goal.returns-clause-refused
returns-clause-refused c = λ n steps t p v x h. refused_added n steps t p v x h
