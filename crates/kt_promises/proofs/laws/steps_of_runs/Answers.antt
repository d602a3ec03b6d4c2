use Rattle.kt_promises.proofs.OnlyDefault.{only_first, exact_first}
use Rattle.kt_promises.proofs.OthersStep.{waits}
use Rattle.kt_promises.proofs.RunSteps.{stays_on, stays_seen}
use Rattle.kt_promises.proofs.DefaultSteps.{nothing_default, default_nothing, default_on, default_first, gives_same, unwilling_seen}
use Rattle.kt_promises.proofs.IdleLooks.{idle_exactly}
use Rattle.kt_promises.proofs.OffersSent.{up_seen}
use Rattle.kt_promises.proofs.TakesOfOthers.{of_another}
use Rattle.kt_promises.proofs.laws.steps_of_runs.Goals as goal
use Rattle.kt_promises.proofs.DefaultOrder.{some_is}

pub returns-clause-none : goal.returns-clause-none
returns-clause-none c = λ plan first w i r. (λ e. nothing_default plan first w i r e, λ n. default_nothing plan first w i r n)

pub returns-clause-on : goal.returns-clause-on
returns-clause-on c = default_on

pub returns-clause-first : goal.returns-clause-first
returns-clause-first c = default_first

pub returns-clause-stays : goal.returns-clause-stays
returns-clause-stays c = stays_on

pub returns-clause-looks : goal.returns-clause-looks
returns-clause-looks c = stays_seen

pub returns-clause-gives : goal.returns-clause-gives
returns-clause-gives c = gives_same

pub returns-clause-unwilling : goal.returns-clause-unwilling
returns-clause-unwilling c = unwilling_seen

pub returns-clause-waits : goal.returns-clause-waits
returns-clause-waits c = λ plan first w v x moves i r e others leads. (waits plan first w v x moves i r e others leads).0

pub returns-clause-waits_looks : goal.returns-clause-waits_looks
returns-clause-waits_looks c = λ plan first w v x moves i r e others leads. (waits plan first w v x moves i r e others leads).1

pub returns-clause-only : goal.returns-clause-only
returns-clause-only c = only_first

pub returns-clause-of_another : goal.returns-clause-of_another
returns-clause-of_another c = of_another

pub returns-clause-idle : goal.returns-clause-idle
returns-clause-idle c = idle_exactly

pub returns-clause-up : goal.returns-clause-up
returns-clause-up c = up_seen

pub returns-clause-exact : goal.returns-clause-exact
returns-clause-exact c = λ plan w x. (some_is plan w x, exact_first plan w x)
