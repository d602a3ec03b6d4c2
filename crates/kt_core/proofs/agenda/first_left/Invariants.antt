use Rattle.kt_core.specs.Agendas.{AreDoneBefore}
use Rattle.kt_core.proofs.agenda.first_left.Given as goal

-- the commands before are done
abbrev pub invariant-loop-place : goal.invariant-loop-place
invariant-loop-place l = AreDoneBefore l.commands l.next l.place
