use Rattle.std.proofs.Common.{subst, sym}
use Rattle.kt_protocol.proofs.laws.numbers_of_runs.Goals as goal
use Rattle.kt_protocol.proofs.LawfulSteps.{lawful_after_run}
use Rattle.kt_protocol.proofs.Lawful.{tie}
use Rattle.kt_meaning.specs.Past.{past}
use Rattle.kt_protocol.proofs.KeptMessages.{kept_past_permanent}
use Rattle.kt_protocol.proofs.StandsOnce.{stands_once}
use Rattle.kt_protocol.proofs.MessageOrder.{live_rises}
use Rattle.kt_protocol.proofs.WholeSteps.{all_after_run}
use Rattle.kt_protocol.proofs.LogMeaning.{placed_in, in_transit}
use Rattle.kt_protocol.proofs.Walk.{invariant_after_run}
use Rattle.kt_protocol.proofs.SummaryTies.{ranked}
use Rattle.kt_protocol.specs.States.{opening}
use Rattle.kt_protocol.specs.Steps.{run}
use Rattle.kt_protocol.specs.SummaryMeaning.{OrdersMembers}
use Rattle.kt_protocol.specs.Summary.{Summary}

pub returns-clause-known : goal.returns-clause-known
returns-clause-known c = λ n steps. (invariant_after_run n steps).histories.of_log

pub returns-clause-agrees : goal.returns-clause-agrees
returns-clause-agrees c = λ n steps. tie _ (run (opening n) steps) (invariant_after_run n steps) (lawful_after_run n steps)

pub returns-clause-ordered : goal.returns-clause-ordered
returns-clause-ordered c = λ n steps. subst (λ (h : Summary). OrdersMembers h (run (opening n) steps).log) (sym (invariant_after_run n steps).histories.of_log) (ranked (run (opening n) steps).log (lawful_after_run n steps).legal)

pub returns-clause-placed : goal.returns-clause-placed
returns-clause-placed c = λ n steps. placed_in (run (opening n) steps) (invariant_after_run n steps) (tie _ (run (opening n) steps) (invariant_after_run n steps) (lawful_after_run n steps))

pub returns-clause-in_transit : goal.returns-clause-in_transit
returns-clause-in_transit c = λ n steps. in_transit (run (opening n) steps) (invariant_after_run n steps) (tie _ (run (opening n) steps) (invariant_after_run n steps) (lawful_after_run n steps))

pub returns-clause-stands_once : goal.returns-clause-stands_once
returns-clause-stands_once c = λ n steps. let s = run (opening n) steps in let t = tie _ s (invariant_after_run n steps) (lawful_after_run n steps) in
    stands_once (past s.log) s t.live (in_transit s (invariant_after_run n steps) t) (λ q p. live_rises s (invariant_after_run n steps) (all_after_run n steps).always.ordered q p)

pub returns-clause-up : goal.returns-clause-up
returns-clause-up c = λ n steps p. (lawful_after_run n steps).is_up p

pub returns-clause-instances : goal.returns-clause-instances
returns-clause-instances c = λ n steps. (lawful_after_run n steps).count

pub returns-clause-initiators : goal.returns-clause-initiators
returns-clause-initiators c = λ n steps k a b. (lawful_after_run n steps).first k a b

pub returns-clause-kept : goal.returns-clause-kept
returns-clause-kept c = λ n steps. let s = run (opening n) steps in kept_past_permanent s (invariant_after_run n steps) (tie _ s (invariant_after_run n steps) (lawful_after_run n steps))
