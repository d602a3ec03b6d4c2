use Rattle.kt_histories.proofs.Demands.{not_false, not_from_false, met}
use Rattle.kt_histories.proofs.KnownRows.{undropped, dropped_by_row}
use Rattle.kt_meaning.specs.Past.{Past}
use Rattle.std.specs.Prelude.{not}
use Rattle.kt_histories.proofs.breach.before.Before.not_dropped.Goals as goal

pub returns-in_err-row : goal.returns-in_err-row
returns-in_err-row c =
    met c.args.self.now.rows.now (λ (s : Past). not (s.dropped c.args.msg)) c.from_residual.result c.from_residual.ensures
    (not_from_false (undropped c.args.msg c.args.self.now.rows.now c.in_err-row.ensures))

pub returns : goal.returns
returns c =
    let last = c.in_ok-row.ensures in
    record {
      so = (dropped_by_row c.args.msg c.args.self.now.rows.now last.1.place last.0 last.1.row_is last.1.passes, last);
      against = λ log legal so. not_false so.0;
    }
