-- What is promised of the log of every run.
use Rattle.std.specs.Prelude.{◌≡◌, ℕ, List, take}
use Rattle.kt_spacetime.specs.declared.event.Event.{Event}
use Rattle.kt_meaning.specs.Past.{past}
use Rattle.kt_meaning.specs.Legal.{IsLegal}
use Rattle.kt_meaning.specs.Cuts.{IsConsistent, permanent_cut, present_cut}
use Rattle.kt_meaning.specs.Passing.{IsPassed}
use Rattle.kt_meaning.specs.Answers.{IsCheckerAnswer}
use Rattle.kt_spacetime.specs.declared.verdict.Verdict.TheVariants.{Yes}
use Rattle.kt_meaning.specs.Certificates.{certificates}
use Rattle.kt_meaning.specs.Fitness.{IsFaultOf}
use Rattle.kt_spacetime.specs.declared.unfit.CertFault.{CertFault}
use Rattle.kt_spacetime.specs.declared.unfit.CertFault.TheVariants.{Memory}
use Rattle.kt_meaning.specs.Decided.{HasLeastDecisions, HasLinkedDecisions, AbortsWhereUnwilling, AbortsChangeNothing, JustifiesUnwilling}

-- each row keeps every rule; the members of each committed instance are the least set, and each but the initiator has a
-- linking message with an earlier one; at no row the permanent cut or the present cut has an orphan; an instance is aborted
-- exactly where a process was unwilling, which a message asked for; and an abort changes no live history and no permanent
-- position
pub record IsPromised (log : List Event) : Type 0 where
  pub legal : IsLegal log
  pub least_decisions : HasLeastDecisions log
  pub linked_decisions : HasLinkedDecisions log
  pub permanent_cuts : (t : ℕ) → IsConsistent (past (take t log)) (permanent_cut (past (take t log)))
  pub present_cuts : (t : ℕ) → IsConsistent (past (take t log)) (present_cut (past (take t log)))
  pub aborts : AbortsWhereUnwilling log
  pub justified : JustifiesUnwilling log
  pub unchanged : AbortsChangeNothing log

-- it has certificates, which are made but for want of memory; they pass, and the checker's answer to them is yes
pub record IsCertified (log : List Event) : Type 0 where
  pub certified : (f : CertFault) → IsFaultOf log f → f ≡ Memory
  pub passed : IsPassed log (certificates log)
  pub answer : IsCheckerAnswer log (certificates log) Yes
