use Rattle.std.proofs.Common.{◌≡◌, Bool, true, false, Option, Some, None, refl}
use Rattle.std.specs.Prelude.{is_some, is_none}
use Rattle.kt_meaning.specs.Past.{past, Past}
use Rattle.kt_histories.proofs.KnownRows.{undecided, decided_by_row}
use Rattle.kt_histories.proofs.Demands.{met}
use Rattle.kt_histories.proofs.breach.before.Before.undecided.Goals as goal

none_of : (o : Option Bool) → is_some o ≡ false → is_none o ≡ true
none_of None e = refl
none_of (Some x) e = absurd (cc)

some_of : (o : Option Bool) → is_some o ≡ true → is_none o ≡ false
some_of None e = absurd (cc)
some_of (Some x) e = refl

pub returns-in_err-row : goal.returns-in_err-row
returns-in_err-row c =
    met c.args.self.now.rows.now (λ (s : Past). is_none (s.decision c.args.inst)) c.from_residual.result c.from_residual.ensures
    (none_of ((past c.args.self.now.rows.now).decision c.args.inst) (undecided c.args.inst c.args.self.now.rows.now c.in_err-row.ensures))

pub returns : goal.returns
returns c =
    let last = c.in_ok-row.ensures in
    record {
      so = (decided_by_row c.args.inst c.args.self.now.rows.now last.1.place last.0 last.1.row_is last.1.passes, last);
      against = λ log legal so. some_of ((past log).decision c.args.inst) so.0;
    }
