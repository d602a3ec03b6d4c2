use Rattle.std.proofs.Common.{◌≡◌, ◌∙◌, ◌++◌, [], ℕ, List, sym, ap, subst}
use Rattle.std.proofs.lemmas.List.{append-nil}
use Rattle.std.proofs.lemmas.Result.{on_ok_weaker, on_err_weaker}
use Rattle.std.specs.List.{flat_map}
use Rattle.kt_text.specs.Writing.{Sends}
use Rattle.kt_text.proofs.PieceFacts.{sends_more, at_fault}
use Rattle.kt_report.specs.Lines.{instance_lines, refusal_line}
use Rattle.kt_report.proofs.SendingFacts.{stops_in_first, stops_in_second}
use Rattle.kt_report.proofs.writing.write_commands.Goals as goal

pub returns-clause-sent : goal.returns-clause-sent
returns-clause-sent g c =
    let contents = g.W.Write.contents in
    let names = c.args.names.now in
    let rows = c.args.rows.now in
    on_ok_weaker c.write_refusals.result
    (sends_more (contents c.args.writer.now) (contents c.write_instances.new.writer) (contents c.write_refusals.new.writer) c.args.text.now.items c.write_instances.new.text.items c.write_refusals.new.text.items
    (flat_map (instance_lines names rows) c.args.certificates.now) (flat_map (refusal_line names) rows) c.in_ok-write_instances.ensures.sent) c.write_refusals.ensures.sent

pub returns-clause-stopped : goal.returns-clause-stopped
returns-clause-stopped g c =
    let contents = g.W.Write.contents in
    let names = c.args.names.now in
    let rows = c.args.rows.now in
    on_err_weaker c.write_refusals.result
    (stops_in_second (contents c.args.writer.now) (contents c.write_instances.new.writer) (contents c.write_refusals.new.writer) c.args.text.now.items c.write_instances.new.text.items
    (flat_map (instance_lines names rows) c.args.certificates.now) (flat_map (refusal_line names) rows) c.in_ok-write_instances.ensures.sent) c.write_refusals.ensures.stopped

pub returns-then-not-told-clause-sent : goal.returns-then-not-told-clause-sent
returns-then-not-told-clause-sent g c =
    let contents = g.W.Write.contents in
    let names = c.args.names.now in
    let rows = c.args.rows.now in
    let instances = flat_map (instance_lines names rows) c.args.certificates.now in
    let none : flat_map (refusal_line names) rows ≡ [] = c.requires.refused c.if-not-told.true names in
    subst (λ (text : List ℕ). Sends (contents c.args.writer.now) (contents c.write_instances.new.writer) c.args.text.now.items c.write_instances.new.text.items text)
    (sym (ap (λ (text : List ℕ). instances ++ text) none ∙ append-nil instances)) c.in_ok-write_instances.ensures.sent

pub returns-in_err-write_instances-clause-stopped : goal.returns-in_err-write_instances-clause-stopped
returns-in_err-write_instances-clause-stopped g c =
    let contents = g.W.Write.contents in
    let names = c.args.names.now in
    let rows = c.args.rows.now in
    at_fault c.from_residual.result
    (stops_in_first (contents c.args.writer.now) (contents c.write_instances.new.writer) c.args.text.now.items (flat_map (instance_lines names rows) c.args.certificates.now) (flat_map (refusal_line names) rows)
    c.in_err-write_instances.ensures.stopped)
