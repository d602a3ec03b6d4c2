use Rattle.std.proofs.Common.{rules}
use Rattle.std.specs.Prelude.{FitsSigned}
use Rattle.std.specs.Int.{w64}
use Rattle.std.proofs.lemmas.Int.{to_z-of_z}
use Rattle.kt_report.proofs.offers.Offers.act.Goals as goal

pub returns-in-Apply : goal.returns-in-Apply
returns-in-Apply c = λ kind d h.
    let body : FitsSigned w64 c.in-Apply.body = search rules in
    rw c.in-Apply.is (rw (to_z-of_z w64 c.in-Apply.body body) at (c.take_in.ensures kind d c.in-Apply.from h))
