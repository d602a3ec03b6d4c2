use Rattle.kt_promises.proofs.WholeLogs.{rested}
use Rattle.kt_promises.proofs.RunSteps.{rest_seen}
use Rattle.kt_promises.proofs.DefaultSteps.{quiet_seen_at_rest, done_seen, rest_default, nothing_default}
use Rattle.kt_promises.proofs.RestIs.{rest_is}
use Rattle.kt_promises.proofs.laws.never_stuck.Goals as goal

pub returns-clause-at_rest : goal.returns-clause-at_rest
returns-clause-at_rest c = rest_seen

pub returns-clause-done : goal.returns-clause-done
returns-clause-done c = done_seen

pub returns-clause-quiet : goal.returns-clause-quiet
returns-clause-quiet c = quiet_seen_at_rest

pub returns-clause-exactly : goal.returns-clause-exactly
returns-clause-exactly c = λ plan first w i r. (λ a. rest_default plan first w i r a, λ e. rest_seen plan first w i r (nothing_default plan first w i r e))

pub returns-clause-rested_done : goal.returns-clause-rested_done
returns-clause-rested_done c = λ plan first w p i r a. (rested plan first w i r a).1 p

pub returns-clause-rested_quiet : goal.returns-clause-rested_quiet
returns-clause-rested_quiet c = λ plan first w i r a. (rested plan first w i r a).0

pub returns-clause-rests : goal.returns-clause-rests
returns-clause-rests c = rest_is
