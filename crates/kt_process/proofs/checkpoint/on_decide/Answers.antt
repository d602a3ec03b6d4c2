use Rattle.kt_process.proofs.checkpoint.on_decide.Goals as goal
use Rattle.kt_process.proofs.checkpoint.on_decide.Goals.{then-commit, else-commit}

pub returns-clause-stands : goal.returns-clause-stands
returns-clause-stands c = λ calls h. elim c.if-commit.branch [
  | then-commit w ↦ rw (w.tables-is, w.if-commit.true) (w.on_commit.ensures.stands calls h)
  | else-commit w ↦ rw (w.tables-is, w.if-commit.false) (w.on_abort.ensures.stands calls h)
]
