use Rattle.kt_core.proofs.InPhase.{IsInPhaseUpTo}
use Rattle.kt_core.proofs.agenda.in_phase.Given as goal

-- the commands before are looked at
abbrev pub invariant-loop-place : goal.invariant-loop-place
invariant-loop-place l = IsInPhaseUpTo l.commands l.next l.fn.first l.fn.phase l.place l.set
