use Rattle.kt_protocol.proofs.laws.in_order.Goals as goal
use Rattle.kt_protocol.proofs.NotedFirst.{quiet}
use Rattle.kt_protocol.proofs.MessageOrder.{apps_rise, live_rises, arrived_since_rises}
use Rattle.kt_protocol.proofs.Walk.{invariant_after_run}
use Rattle.kt_protocol.proofs.WholeSteps.{all_after_run}
use Rattle.kt_protocol.specs.States.{opening}
use Rattle.kt_protocol.specs.Steps.{run}

pub returns-clause-live : goal.returns-clause-live
returns-clause-live c = λ n steps q p. live_rises (run (opening n) steps) (invariant_after_run n steps) (all_after_run n steps).always.ordered q p

pub returns-clause-received : goal.returns-clause-received
returns-clause-received c = λ n steps q p. apps_rise 0 ((run (opening n) steps).received_since q p) ((all_after_run n steps).always.ordered.received_since_rises q p)

pub returns-clause-arrived : goal.returns-clause-arrived
returns-clause-arrived c = λ n steps q p. arrived_since_rises (run (opening n) steps) (invariant_after_run n steps) (all_after_run n steps).always.ordered q p

pub returns-clause-fresh : goal.returns-clause-fresh
returns-clause-fresh c = λ n steps k q p a b d e f. ((all_after_run n steps).always.tells.fresh k q p a b d e f).0

pub returns-clause-quiet : goal.returns-clause-quiet
returns-clause-quiet c = λ n steps k q p a b d m rest e. quiet (run (opening n) steps) k p q m rest (all_after_run n steps).noted a d b e
