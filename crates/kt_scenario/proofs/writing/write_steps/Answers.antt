use Rattle.std.proofs.Common.{rules, arith, ◌≡◌, ◌<◌, ◌++◌, [], length, get_or}
use Rattle.std.proofs.lemmas.Result.{on_err_weaker, on_ok_weaker}
use Rattle.kt_text.proofs.PieceFacts.{front_none, at_fault, sends_rest}
use Rattle.kt_scenario.specs.Written.{step_line}
use Rattle.kt_scenario.proofs.SendingFacts.{sends_pushed, sends_all, stops_at_item, stops_pushed, stops_at_end}
use Rattle.kt_scenario.proofs.writing.write_steps.Goals as goal

pub loop-step-preserved : goal.loop-step-preserved
loop-step-preserved g c =
    let contents = g.W.Write.contents in
    let items = c.args.steps.now in
    let within : c.loop-step.step-index < length items = omega arith in
    let at : get_or items c.loop-step.step-index c.step-item.result ≡ c.step-item.result = search rules in
    sends_pushed (step_line c.args.names.now) (contents c.args.writer.now) (contents c.loop-step.writer) (contents c.write_full.new.writer) []
    c.loop-step.text.items c.push_step.new.text.items c.write_full.new.text.items items c.loop-step.step-index c.step-item.result within at c.loop-step.invariant
    c.in_ok-push_step.ensures c.in_ok-write_full.ensures.sent

pub returns-in_err-push_step-clause-stopped : goal.returns-in_err-push_step-clause-stopped
returns-in_err-push_step-clause-stopped g c =
    let contents = g.W.Write.contents in
    let f = step_line c.args.names.now in
    let d = contents c.loop-step.writer in
    let items = c.args.steps.now in
    let item = c.step-item.result in
    let within : c.loop-step.step-index < length items = omega arith in
    let at : get_or items c.loop-step.step-index item ≡ item = search rules in
    at_fault c.from_residual.result
    (stops_at_item f (contents c.args.writer.now) d d [] c.loop-step.text.items items c.loop-step.step-index item within at c.loop-step.invariant
    (front_none d (c.loop-step.text.items ++ f item)))

pub returns-in_err-write_full-clause-stopped : goal.returns-in_err-write_full-clause-stopped
returns-in_err-write_full-clause-stopped g c =
    let contents = g.W.Write.contents in
    let f = step_line c.args.names.now in
    let b = contents c.loop-step.writer in
    let d = contents c.write_full.new.writer in
    let items = c.args.steps.now in
    let item = c.step-item.result in
    let within : c.loop-step.step-index < length items = omega arith in
    let at : get_or items c.loop-step.step-index item ≡ item = search rules in
    at_fault c.from_residual-in_err-write_full.result
    (stops_pushed f (contents c.args.writer.now) b d [] c.loop-step.text.items c.push_step.new.text.items items c.loop-step.step-index item within at c.loop-step.invariant c.in_ok-push_step.ensures c.in_err-write_full.ensures.stopped)

pub returns-clause-written : goal.returns-clause-written
returns-clause-written g c =
    let contents = g.W.Write.contents in
    let f = step_line c.args.names.now in
    let a = contents c.args.writer.now in
    let b = contents c.loop-step.writer in
    on_ok_weaker c.write_rest.result (sends_rest a b (contents c.write_rest.new.writer) c.loop-step.text.items _ (sends_all f a b [] c.loop-step.text.items c.args.steps.now c.loop-step.step-index (omega arith) c.loop-step.invariant)) c.write_rest.ensures.written

pub returns-clause-stopped : goal.returns-clause-stopped
returns-clause-stopped g c =
    let contents = g.W.Write.contents in
    let f = step_line c.args.names.now in
    on_err_weaker c.write_rest.result (stops_at_end f (contents c.args.writer.now) (contents c.loop-step.writer) (contents c.write_rest.new.writer) [] c.loop-step.text.items c.args.steps.now c.loop-step.step-index (omega arith) c.loop-step.invariant) c.write_rest.ensures.stopped
