use Rattle.kt_core.proofs.Opens.{IsJoined}
use Rattle.kt_core.proofs.agenda.Agenda.with_open.Given as goal

abbrev pub invariant-loop-number : goal.invariant-loop-number
invariant-loop-number l = IsJoined l.fn.set l.initial.left l.all l.left l._number
