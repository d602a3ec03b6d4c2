use Rattle.kt_histories.proofs.Demands.{not_false, not_from_false, met}
use Rattle.kt_histories.proofs.KnownRows.{no_member, member_by_row}
use Rattle.kt_meaning.specs.Past.{Past, is_member}
use Rattle.std.specs.Prelude.{not}
use Rattle.kt_histories.proofs.breach.before.Before.not_joined.Goals as goal

pub returns-in_err-row : goal.returns-in_err-row
returns-in_err-row c =
    met c.args.self.now.rows.now (λ (s : Past). not (is_member s c.args.inst c.args.p)) c.from_residual.result c.from_residual.ensures
    (not_from_false (no_member c.args.p c.args.inst c.args.self.now.rows.now c.in_err-row.ensures))

pub returns : goal.returns
returns c =
    let last = c.in_ok-row.ensures in
    record {
      so = (member_by_row c.args.p c.args.inst c.args.self.now.rows.now last.1.place last.0 last.1.row_is last.1.passes, last);
      against = λ log legal so. not_false so.0;
    }
