use Rattle.std.proofs.Common.{sym, ◌∙◌, subst}
use Rattle.kt_tables.specs.Calls.{parts, sents}
use Rattle.kt_tables.specs.States.{State}
use Rattle.kt_tables.specs.Standing.{TablesStandFor}
use Rattle.kt_tables.proofs.Keeping.{take_decides, take_none}
use Rattle.kt_tables.proofs.Tests.{up_to_test}
use Rattle.kt_tables.proofs.tables.Tables.must_take.Goals as goal

pub returns-then-first-gt0-clause-decides : goal.returns-then-first-gt0-clause-decides
returns-then-first-gt0-clause-decides c = λ calls h.
    let stood = subst (λ (t : State). TablesStandFor t calls) (sym c.self.view_is) h in
    take_decides _ calls c.args.from c.args.last _ _ stood (c.get-first.ensures.value ∙ c.label.ensures) c.get.ensures.value c.if-first-gt0.true

pub returns-else-first-gt0-clause-decides : goal.returns-else-first-gt0-clause-decides
returns-else-first-gt0-clause-decides c = λ calls h.
    let stood = subst (λ (t : State). TablesStandFor t calls) (sym c.self.view_is) h in
    take_none _ calls c.args.from c.args.last _ stood (c.get-first.ensures.value ∙ c.label.ensures) c.if-first-gt0.false

pub returns-then-first-gt0-clause-test : goal.returns-then-first-gt0-clause-test
returns-then-first-gt0-clause-test c = λ calls h. up_to_test _ (sents c.args.from (parts calls).since) c.args.last (returns-then-first-gt0-clause-decides c calls h)

pub returns-else-first-gt0-clause-test : goal.returns-else-first-gt0-clause-test
returns-else-first-gt0-clause-test c = λ calls h. up_to_test _ (sents c.args.from (parts calls).since) c.args.last (returns-else-first-gt0-clause-decides c calls h)
