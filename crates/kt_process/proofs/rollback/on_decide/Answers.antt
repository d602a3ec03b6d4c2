use Rattle.std.proofs.Common.{sym, subst, List}
use Rattle.std.proofs.lemmas.List.{append-nil}
use Rattle.kt_tables.specs.Calls.{Call}
use Rattle.kt_tables.specs.Standing.{TablesStandFor}
use Rattle.kt_process.proofs.rollback.on_decide.Goals as goal
use Rattle.kt_process.proofs.rollback.on_decide.Goals.{then-commit, else-commit}

pub returns-clause-stands : goal.returns-clause-stands
returns-clause-stands c = λ calls h. elim c.if-commit.branch [
  | then-commit w ↦ rw (w.tables-is, w.if-commit.true) (w.on_rollback.ensures.stands calls h)
  | else-commit w ↦ rw (w.tables-is, w.if-commit.false) (subst (λ (l : List Call). TablesStandFor c.args.tables.now l) (sym (append-nil calls)) h)
]
