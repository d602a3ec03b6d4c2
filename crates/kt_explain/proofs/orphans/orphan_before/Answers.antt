use Rattle.std.proofs.Common.{List, take, sym, subst}
use Rattle.std.specs.Prelude.{IfNone, IfOk, IfSome}
use Rattle.kt_spacetime.specs.declared.event.Event.{Event}
use Rattle.kt_meaning.specs.Past.{past}
use Rattle.kt_meaning.specs.Cuts.{IsConsistent}
use Rattle.kt_meaning.specs.Legal.{IsLegal}
use Rattle.kt_meaning.proofs.LegalLogs.{legal_take}
use Rattle.kt_meaning.specs.Passing.{decided_cut}
use Rattle.kt_explain.specs.Told.{IsOrphanTold}
use Rattle.kt_explain.proofs.orphans.orphan_before.Goals as goal

pub least_orphan-requires-clause-legal : goal.least_orphan-requires-clause-legal
least_orphan-requires-clause-legal c =
    subst (λ (l : List Event). IsLegal (take c.args.before l)) (sym c.rows.ensures.rows) (legal_take c.args.before c.args.log.now.rows c.requires.legal)

pub returns-clause-orphan : goal.returns-clause-orphan
returns-clause-orphan c =
    subst (λ (l : List Event). IfOk c.least_orphan.result (λ found. IfSome found (IsOrphanTold (take c.args.before l) c.args.inst c.args.kind))) c.rows.ensures.rows c.least_orphan.ensures.orphan

pub returns-clause-none : goal.returns-clause-none
returns-clause-none c =
    subst (λ (l : List Event). IfOk c.least_orphan.result (λ found. IfNone found (IsConsistent (past (take c.args.before l)) (decided_cut (past (take c.args.before l)) c.args.inst c.args.kind)))) c.rows.ensures.rows c.least_orphan.ensures.none
