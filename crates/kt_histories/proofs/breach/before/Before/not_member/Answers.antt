use Rattle.kt_histories.proofs.Demands.{not_from_false, met}
use Rattle.kt_histories.proofs.KnownRows.{unjoined}
use Rattle.kt_meaning.specs.Past.{Past}
use Rattle.std.specs.Prelude.{not}
use Rattle.kt_meaning.specs.Legal.{is_in}
use Rattle.kt_histories.proofs.breach.before.Before.not_member.Goals as goal

pub returns-in_err-row : goal.returns-in_err-row
returns-in_err-row c =
    met c.args.self.now.rows.now (λ (s : Past). not (is_in s c.args.p c.args.inst)) c.from_residual.result c.from_residual.ensures
    (not_from_false (unjoined c.args.p c.args.inst c.args.self.now.rows.now c.in_err-row.ensures))
