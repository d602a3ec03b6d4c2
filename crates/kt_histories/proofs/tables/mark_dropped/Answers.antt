use Rattle.std.proofs.Common.{◌-◌, arith, ap, ◌∙◌}
use Rattle.kt_histories.specs.Standing.{parties}
use Rattle.kt_histories.proofs.MessageTables.{marked_parties, dropped_parties, dropped_past}
use Rattle.kt_histories.proofs.tables.mark_dropped.Goals as goal

pub returns-then-index-messages-clause-parties : goal.returns-then-index-messages-clause-parties
returns-then-index-messages-clause-parties c =
    marked_parties c.args.messages.now (c.get.result - 1) c.index-messages-index.result c.dropped.result c.if-index-messages.true c.index-messages-index.is (ap parties c.dropped.ensures ∙ dropped_parties c.index-messages-index.result)

pub returns-else-index-messages-clause-marked : goal.returns-else-index-messages-clause-marked
returns-else-index-messages-clause-marked c = dropped_past c.args.messages.now c.args.msg (omega (arith, c.if-index-messages.false, c.get.ensures.value))
