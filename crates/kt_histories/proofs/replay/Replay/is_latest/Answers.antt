use Rattle.std.proofs.Common.{sym, ap, ◌∙◌}
use Rattle.kt_rules.specs.Tests.{is_after}
use Rattle.kt_histories.proofs.LatestFacts.{latest_known, and_then, and_else}
use Rattle.kt_histories.proofs.replay.Replay.is_latest.Goals as goal

pub returns-then-is_after : goal.returns-then-is_after
returns-then-is_after c = λ s h.
    let known = latest_known c.process-process.result.now s c.args.p c.args.from c.args.msg c.last_dropped-dropped.result (h.of_processes.each c.args.p _ c.process-process.ensures) (h.in_order.received c.args.p c.args.from) (h.in_order.dropped c.args.p c.args.from) c.last_dropped-dropped.ensures.in_range c.last_dropped-dropped.ensures.there in
    and_then _ _ _ (ap (is_after c.args.msg) (sym c.last_received-received.ensures) ∙ (sym c.is_after.ensures ∙ c.if-is_after.true)) c.is_after-then-is_after.ensures ∙ sym known

pub returns-else-is_after : goal.returns-else-is_after
returns-else-is_after c = λ s h.
    let known = latest_known c.process-process.result.now s c.args.p c.args.from c.args.msg c.last_dropped-dropped.result (h.of_processes.each c.args.p _ c.process-process.ensures) (h.in_order.received c.args.p c.args.from) (h.in_order.dropped c.args.p c.args.from) c.last_dropped-dropped.ensures.in_range c.last_dropped-dropped.ensures.there in
    let same = c.is_after.ensures ∙ ap (is_after c.args.msg) c.last_received-received.ensures in
    and_else _ _ _ same (sym same ∙ c.if-is_after.false) ∙ sym known
