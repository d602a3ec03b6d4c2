use Rattle.kt_histories.proofs.KnownRows.{unfailed}
use Rattle.kt_histories.proofs.Demands.{met}
use Rattle.kt_meaning.specs.Past.{Past}
use Rattle.kt_histories.proofs.breach.before.Before.up.Goals as goal

pub returns-in_err-row : goal.returns-in_err-row
returns-in_err-row c =
    met c.args.self.now.rows.now (λ (s : Past). s.up c.args.p) c.from_residual.result c.from_residual.ensures
    (unfailed c.args.p c.args.self.now.rows.now c.in_err-row.ensures)
