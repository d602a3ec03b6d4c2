use Rattle.std.proofs.Common.{◌∙◌, sym}
use Rattle.kt_meaning.specs.Past.{past, Past}
use Rattle.kt_histories.proofs.Delivered.{after_some, not_after_some, later_than_none, later_than_latest, not_later}
use Rattle.kt_histories.proofs.ReceivedRows.{no_lost_receive}
use Rattle.kt_histories.proofs.Demands.{met}
use Rattle.std.specs.List.{list_all}
use Rattle.kt_meaning.specs.Legal.{is_later}
use Rattle.kt_histories.proofs.breach.before.Before.after_received.Goals as goal

pub returns-in_err-latest : goal.returns-in_err-latest
returns-in_err-latest c =
    met c.args.self.now.rows.now (λ (s : Past). list_all (is_later c.args.from c.args.msg) (s.live c.args.p)) c.from_residual.result c.from_residual.ensures
    (later_than_none c.args.from c.args.msg ((past c.args.self.now.rows.now).live c.args.p) c.in_err-latest.ensures.none)

pub returns-then-is_after : goal.returns-then-is_after
returns-then-is_after c =
    later_than_latest c.args.from c.args.msg c.in_ok-latest.latest ((past c.args.self.now.rows.now).live c.args.p) c.in_ok-latest.ensures.latest
    (after_some c.args.msg c.in_ok-latest.latest (sym c.is_after.ensures ∙ c.if-is_after.true))

pub returns : goal.returns
returns c = record {
  so = (c.in_ok-latest.ensures.latest, c.in_ok-row.ensures);
  against = λ log legal so. not_later c.args.from c.args.msg c.in_ok-latest.latest ((past log).live c.args.p) so.0
      (not_after_some c.args.msg c.in_ok-latest.latest (sym c.is_after.ensures ∙ c.if-is_after.false));
}

pub returns-in_err-row : goal.returns-in_err-row
returns-in_err-row c = absurd (no_lost_receive c.args.self.now.rows.now c.args.p c.args.from c.in_ok-latest.latest c.requires.before.legal c.in_ok-latest.ensures.latest.there c.in_err-row.ensures)
