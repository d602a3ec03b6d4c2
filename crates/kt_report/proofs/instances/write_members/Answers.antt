use Rattle.std.proofs.Common.{rules, arith, ◌≡◌, ◌<◌, ◌∙◌, ◌++◌, List, length, get_or, ap, sym}
use Rattle.kt_chain.specs.Spelling.{Member}
use Rattle.kt_text.proofs.PieceFacts.{front_none, at_fault}
use Rattle.kt_report.specs.Lines.{member_line}
use Rattle.kt_report.proofs.SendingFacts.{sends_pushed, sends_all, stops_at_item, stops_pushed}
use Rattle.kt_report.proofs.instances.write_members.Goals as goal

pub loop-member-preserved : goal.loop-member-preserved
loop-member-preserved g c =
    let contents = g.W.Write.contents in
    let items = c.args.certificate.now.members in
    let same = c.list-member-items.ensures in
    let within : c.loop-member.member-index < length items = omega (arith, ap length same) in
    let here : get_or c.list-member-items.result.now c.loop-member.member-index c.member-item.result ≡ c.member-item.result = search rules in
    let at = ap (λ (x : List Member). get_or x c.loop-member.member-index c.member-item.result) (sym same) ∙ here in (
      c.in_ok-told.ensures.words,
      sends_pushed (member_line c.args.names.now c.args.rows.now) (contents c.args.writer.now) (contents c.loop-member.writer) (contents c.write_full.new.writer) c.args.text.now.items
          c.loop-member.text.items c.push_member.new.text.items c.write_full.new.text.items items c.loop-member.member-index c.member-item.result within at c.loop-member.invariant.1
          c.in_ok-told.ensures.line c.in_ok-write_full.ensures.sent,
    )

pub returns-clause-sent : goal.returns-clause-sent
returns-clause-sent g c = sends_all (member_line c.args.names.now c.args.rows.now) _ _ _ _ c.args.certificate.now.members c.loop-member.member-index (omega (arith, ap length c.list-member-items.ensures)) c.loop-member.invariant.1

pub returns-in_err-told-clause-stopped : goal.returns-in_err-told-clause-stopped
returns-in_err-told-clause-stopped g c =
    let contents = g.W.Write.contents in
    let f = member_line c.args.names.now c.args.rows.now in
    let d = contents c.loop-member.writer in
    let items = c.args.certificate.now.members in
    let item = c.member-item.result in
    let same = c.list-member-items.ensures in
    let within : c.loop-member.member-index < length items = omega (arith, ap length same) in
    let here : get_or c.list-member-items.result.now c.loop-member.member-index item ≡ item = search rules in
    let at = ap (λ (ms : List Member). get_or ms c.loop-member.member-index item) (sym same) ∙ here in
    at_fault c.from_residual.result
    (stops_at_item f (contents c.args.writer.now) d d c.args.text.now.items c.loop-member.text.items items c.loop-member.member-index item within at c.loop-member.invariant.1
    (front_none d (c.loop-member.text.items ++ f item)))

pub returns-in_err-write_full-clause-stopped : goal.returns-in_err-write_full-clause-stopped
returns-in_err-write_full-clause-stopped g c =
    let contents = g.W.Write.contents in
    let f = member_line c.args.names.now c.args.rows.now in
    let b = contents c.loop-member.writer in
    let d = contents c.write_full.new.writer in
    let items = c.args.certificate.now.members in
    let item = c.member-item.result in
    let same = c.list-member-items.ensures in
    let within : c.loop-member.member-index < length items = omega (arith, ap length same) in
    let here : get_or c.list-member-items.result.now c.loop-member.member-index item ≡ item = search rules in
    let at = ap (λ (ms : List Member). get_or ms c.loop-member.member-index item) (sym same) ∙ here in
    at_fault c.from_residual-in_err-write_full.result
    (stops_pushed f (contents c.args.writer.now) b d c.args.text.now.items c.loop-member.text.items c.push_member.new.text.items items c.loop-member.member-index item within at c.loop-member.invariant.1 c.in_ok-told.ensures.line c.in_err-write_full.ensures.stopped)
