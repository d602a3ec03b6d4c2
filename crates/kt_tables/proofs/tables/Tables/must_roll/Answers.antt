use Rattle.std.proofs.Common.{sym, ◌∙◌, subst}
use Rattle.kt_tables.specs.Calls.{parts, receiveds}
use Rattle.kt_tables.specs.States.{State}
use Rattle.kt_tables.specs.Standing.{TablesStandFor}
use Rattle.kt_tables.proofs.Keeping.{roll_decides}
use Rattle.kt_tables.proofs.Tests.{above_test}
use Rattle.kt_tables.proofs.tables.Tables.must_roll.Goals as goal

pub returns-clause-decides : goal.returns-clause-decides
returns-clause-decides c = λ calls h.
    let stood = subst (λ (t : State). TablesStandFor t calls) (sym c.self.view_is) h in
    roll_decides _ calls c.args.from c.args.last_sent _ _ stood (c.get.ensures.value ∙ c.label.ensures) c.get-2.ensures.value

pub returns-clause-test : goal.returns-clause-test
returns-clause-test c = λ calls h. above_test _ (receiveds c.args.from (parts calls).since) c.args.last_sent (returns-clause-decides c calls h)
