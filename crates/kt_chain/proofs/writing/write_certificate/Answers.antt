use Rattle.std.proofs.Common.{rules, arith, ◌≡◌, ◌<◌, ◌∙◌, ◌++◌, List, length, get_or, take, ap, sym, subst}
use Rattle.std.proofs.lemmas.List.{take_all}
use Rattle.std.proofs.lemmas.Result.{on_ok_weaker, on_err_weaker}
use Rattle.kt_text.specs.Writing.{Sends, line_of, text_of}
use Rattle.kt_text.proofs.PieceFacts.{sends_nothing, front_none, front_longer, front_last, at_fault}
use Rattle.kt_chain.specs.Spelling.{Member, member_record, certificate_records}
use Rattle.kt_chain.proofs.WritingFacts.{sends_member, records_to, stops_at_member}
use Rattle.kt_chain.proofs.writing.write_certificate.Goals as goal

pub loop-member-preserved : goal.loop-member-preserved
loop-member-preserved g c =
    let contents = g.W.Write.contents in
    let certificate = c.args.certificate.now in
    let same = c.list-member-items.ensures in
    let within : c.loop-member.member-index < length certificate.members = omega (arith, ap length same) in
    let here : get_or c.list-member-items.result.now c.loop-member.member-index c.member-item.result ≡ c.member-item.result = search rules in
    let at = ap (λ (x : List Member). get_or x c.loop-member.member-index c.member-item.result) (sym same) ∙ here in (
      c.in_ok-told.ensures.words,
      sends_member (contents c.args.writer.now) (contents c.loop-member.writer) (contents c.write_full.new.writer) c.args.text.now.items c.loop-member.text.items c.write_full.new.text.items
          c.push_member.new.text.items certificate c.loop-member.member-index c.member-item.result within at c.loop-member.invariant.1 c.in_ok-write_full.ensures.sent c.in_ok-told.ensures.record,
    )

pub returns-clause-sent : goal.returns-clause-sent
returns-clause-sent g c =
    let contents = g.W.Write.contents in
    let certificate = c.args.certificate.now in
    let all = take_all c.loop-member.member-index certificate.members (omega (arith, ap length c.list-member-items.ensures)) in
    on_ok_weaker c.write_full-2.result (λ h. rw all at (sends_nothing (contents c.args.writer.now) (contents c.loop-member.writer) (contents c.write_full-2.new.writer) c.args.text.now.items
    c.loop-member.text.items c.write_full-2.new.text.items (text_of (records_to certificate (take c.loop-member.member-index certificate.members))) c.loop-member.invariant.1 h)) c.write_full-2.ensures.sent

pub returns-clause-stopped : goal.returns-clause-stopped
returns-clause-stopped g c =
    let contents = g.W.Write.contents in
    let a = contents c.args.writer.now in
    let b = contents c.loop-member.writer in
    let x = c.args.text.now.items in
    let y = c.loop-member.text.items in
    let certificate = c.args.certificate.now in
    let all = take_all c.loop-member.member-index certificate.members (omega (arith, ap length c.list-member-items.ensures)) in
    let sent = subst (λ (ms : List Member). Sends a b x y (text_of (records_to certificate ms))) all c.loop-member.invariant.1 in
    on_err_weaker c.write_full-2.result (front_last a b (contents c.write_full-2.new.writer) x y (text_of (certificate_records certificate)) sent) c.write_full-2.ensures.stopped

pub returns-in_err-write_full-clause-stopped : goal.returns-in_err-write_full-clause-stopped
returns-in_err-write_full-clause-stopped g c =
    let contents = g.W.Write.contents in
    let b = contents c.loop-member.writer in
    let d = contents c.write_full.new.writer in
    let y = c.loop-member.text.items in
    let certificate = c.args.certificate.now in
    let same = c.list-member-items.ensures in
    let member = c.member-item.result in
    let within : c.loop-member.member-index < length certificate.members = omega (arith, ap length same) in
    let here : get_or c.list-member-items.result.now c.loop-member.member-index member ≡ member = search rules in
    let at = ap (λ (ms : List Member). get_or ms c.loop-member.member-index member) (sym same) ∙ here in
    at_fault c.from_residual-in_err-write_full.result
    (stops_at_member (contents c.args.writer.now) b d c.args.text.now.items y certificate c.loop-member.member-index member within at c.loop-member.invariant.1
    (front_longer b d y (line_of (member_record certificate.inst member)) c.in_err-write_full.ensures.stopped))

pub returns-in_err-told-clause-stopped : goal.returns-in_err-told-clause-stopped
returns-in_err-told-clause-stopped g c =
    let contents = g.W.Write.contents in
    let a = contents c.args.writer.now in
    let d = contents c.write_full.new.writer in
    let x = c.args.text.now.items in
    let z = c.write_full.new.text.items in
    let certificate = c.args.certificate.now in
    let same = c.list-member-items.ensures in
    let member = c.member-item.result in
    let within : c.loop-member.member-index < length certificate.members = omega (arith, ap length same) in
    let here : get_or c.list-member-items.result.now c.loop-member.member-index member ≡ member = search rules in
    let at = ap (λ (ms : List Member). get_or ms c.loop-member.member-index member) (sym same) ∙ here in
    let sent = sends_nothing a (contents c.loop-member.writer) d x c.loop-member.text.items z (text_of (records_to certificate (take c.loop-member.member-index certificate.members))) c.loop-member.invariant.1 c.in_ok-write_full.ensures.sent in
    at_fault c.from_residual-in_err-told.result
    (stops_at_member a d d x z certificate c.loop-member.member-index member within at sent (front_none d (z ++ line_of (member_record certificate.inst member))))
