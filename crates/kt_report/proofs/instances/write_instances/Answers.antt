use Rattle.std.proofs.Common.{rules, arith, ◌≡◌, ◌<◌, length, get_or}
use Rattle.kt_text.proofs.PieceFacts.{at_fault}
use Rattle.kt_report.specs.Lines.{instance_lines}
use Rattle.kt_report.proofs.SendingFacts.{sends_item, sends_all, stops_at_item}
use Rattle.kt_report.proofs.instances.write_instances.Goals as goal

pub loop-certificate-preserved : goal.loop-certificate-preserved
loop-certificate-preserved g c =
    let contents = g.W.Write.contents in
    let items = c.args.certificates.now in
    let within : c.loop-certificate.certificate-index < length items = omega arith in
    let at : get_or items c.loop-certificate.certificate-index c.certificate-item.result ≡ c.certificate-item.result = search rules in
    sends_item (instance_lines c.args.names.now c.args.rows.now) (contents c.args.writer.now) (contents c.loop-certificate.writer) (contents c.write_instance.new.writer) c.args.text.now.items
    c.loop-certificate.text.items c.write_instance.new.text.items items c.loop-certificate.certificate-index c.certificate-item.result within at c.loop-certificate.invariant c.in_ok-write_instance.ensures.sent

pub returns-clause-sent : goal.returns-clause-sent
returns-clause-sent g c = sends_all (instance_lines c.args.names.now c.args.rows.now) _ _ _ _ c.args.certificates.now c.loop-certificate.certificate-index (omega arith) c.loop-certificate.invariant

pub returns-in_err-write_instance-clause-stopped : goal.returns-in_err-write_instance-clause-stopped
returns-in_err-write_instance-clause-stopped g c =
    let contents = g.W.Write.contents in
    let items = c.args.certificates.now in
    let item = c.certificate-item.result in
    let within : c.loop-certificate.certificate-index < length items = omega arith in
    let at : get_or items c.loop-certificate.certificate-index item ≡ item = search rules in
    at_fault c.from_residual.result
    (stops_at_item (instance_lines c.args.names.now c.args.rows.now) (contents c.args.writer.now) (contents c.loop-certificate.writer) (contents c.write_instance.new.writer) c.args.text.now.items
    c.loop-certificate.text.items items c.loop-certificate.certificate-index item within at c.loop-certificate.invariant c.in_err-write_instance.ensures.stopped)
