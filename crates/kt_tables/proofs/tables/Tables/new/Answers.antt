use Rattle.std.proofs.Common.{refl}
use Rattle.kt_tables.proofs.Keeping.{keeps_nothing}
use Rattle.kt_tables.proofs.tables.Tables.new.Goals as goal

pub returns-clause-stands : goal.returns-clause-stands
returns-clause-stands c =
    keeps_nothing _ refl c.in_ok-new.ensures.empty c.in_ok-new-2.ensures.empty c.in_ok-new-3.ensures.empty c.in_ok-new-4.ensures.empty c.in_ok-new-5.ensures.empty c.in_ok-new-6.ensures.empty
