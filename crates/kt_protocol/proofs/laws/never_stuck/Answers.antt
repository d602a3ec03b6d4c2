use Rattle.std.proofs.Common.{ℕ, ◌<◌, subst}
use Rattle.kt_protocol.proofs.laws.never_stuck.Goals as goal
use Rattle.kt_protocol.proofs.Bounds.{same_processes}
use Rattle.kt_protocol.proofs.Walk.{invariant_after_run}
use Rattle.kt_protocol.proofs.NeverStuck.{at_rest, none_below, take_nothing}
use Rattle.kt_protocol.proofs.WholeSteps.{all_after_run}
use Rattle.kt_protocol.specs.States.{opening}
use Rattle.kt_protocol.specs.Steps.{run}

pub returns-clause-at_rest : goal.returns-clause-at_rest
returns-clause-at_rest c = λ n steps h. at_rest (run (opening n) steps) (invariant_after_run n steps) (all_after_run n steps) (none_below (run (opening n) steps) (invariant_after_run n steps) (all_after_run n steps)
    (λ p q a b. h p q (subst (λ (x : ℕ). p < x) (same_processes n steps) a) (subst (λ (x : ℕ). q < x) (same_processes n steps) b)))

pub returns-clause-idle : goal.returns-clause-idle
returns-clause-idle c = λ n steps p q able h. take_nothing (run (opening n) steps) p q able h
