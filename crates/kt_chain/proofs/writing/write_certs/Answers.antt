use Rattle.std.proofs.Common.{rules, arith, ◌≡◌, ◌<◌, length, get_or, []}
use Rattle.std.proofs.lemmas.Result.{on_err_weaker}
use Rattle.kt_text.proofs.PieceFacts.{at_fault}
use Rattle.kt_chain.proofs.WritingFacts.{sends_certificate, stops_at_certificate, stops_at_end}
use Rattle.kt_chain.proofs.writing.write_certs.Goals as goal

pub loop-certificate-preserved : goal.loop-certificate-preserved
loop-certificate-preserved g c =
    let contents = g.W.Write.contents in
    let certificates = c.args.certificates.now in
    let within : c.loop-certificate.certificate-index < length certificates = omega arith in
    let at : get_or certificates c.loop-certificate.certificate-index c.certificate-item.result ≡ c.certificate-item.result = search rules in
    sends_certificate (contents c.args.writer.now) (contents c.loop-certificate.writer) (contents c.write_certificate.new.writer) [] c.loop-certificate.text.items
    c.write_certificate.new.text.items certificates c.loop-certificate.certificate-index c.certificate-item.result within at c.loop-certificate.invariant c.in_ok-write_certificate.ensures.sent

pub returns-in_err-write_certificate-clause-stopped : goal.returns-in_err-write_certificate-clause-stopped
returns-in_err-write_certificate-clause-stopped g c =
    let contents = g.W.Write.contents in
    let certificates = c.args.certificates.now in
    let certificate = c.certificate-item.result in
    let within : c.loop-certificate.certificate-index < length certificates = omega arith in
    let at : get_or certificates c.loop-certificate.certificate-index certificate ≡ certificate = search rules in
    at_fault c.from_residual-in_err-write_certificate.result
    (stops_at_certificate (contents c.args.writer.now) (contents c.loop-certificate.writer) (contents c.write_certificate.new.writer) c.loop-certificate.text.items certificates
    c.loop-certificate.certificate-index certificate within at c.loop-certificate.invariant c.in_err-write_certificate.ensures.stopped)

pub returns-clause-stopped : goal.returns-clause-stopped
returns-clause-stopped g c =
    let contents = g.W.Write.contents in
    on_err_weaker c.write_rest.result
    (stops_at_end (contents c.args.writer.now) (contents c.loop-certificate.writer) (contents c.write_rest.new.writer) c.loop-certificate.text.items c.args.certificates.now
    c.loop-certificate.certificate-index (omega arith) c.loop-certificate.invariant) c.write_rest.ensures.stopped
