use Rattle.std.proofs.Common.{◌++◌, ◌∷◌, [], refl}
use Rattle.kt_meaning.specs.Past.{start}
use Rattle.kt_meaning.proofs.LegalLogs.{legal_unbroken}
use Rattle.kt_report.proofs.losses.is_fed.Goals as goal

pub returns-in-Err-Broken-clause-broken : goal.returns-in-Err-Broken-clause-broken
returns-in-Err-Broken-clause-broken c = λ e rows w legal.
    let first = (c.in-Err-Broken.ensures.broken c.in-Err-Broken.field-0-0 c.in-Err-Broken.field-0-1 (rw c.in-Err-Broken.field-0-is refl) rows w).1 in
    let none = legal_unbroken start (rows ++ c.args.row.now ∷ []) legal in
    absurd (cc (first, none))
