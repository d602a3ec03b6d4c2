use Rattle.std.proofs.Common.{◌≡◌, List, ℕ, Bool, ap, subst, sym, ◌++◌, ◌∙◌, if◌then◌else◌}
use Rattle.std.proofs.lemmas.Result.{on_ok_weaker, on_err_weaker}
use Rattle.std.specs.List.{flat_map}
use Rattle.kt_text.specs.Writing.{Sends, WritesFront}
use Rattle.kt_report.specs.Lines.{instance_line, member_line, unwilling_line}
use Rattle.kt_report.specs.Unwilling.{answer_line}
use Rattle.kt_report.proofs.AnswerFacts.{answer_lines, part_lines}
use Rattle.kt_report.proofs.SendingFacts.{sends_after, stops_after}
use Rattle.kt_report.proofs.instances.write_instance.Goals as goal

pub returns-else-certificate-clause-sent : goal.returns-else-certificate-clause-sent
returns-else-certificate-clause-sent g c =
    let contents = g.W.Write.contents in
    let names = c.args.names.now in
    let certificate = c.args.certificate.now in
    let same = c.of.ensures.answers ∙ c.requires certificate.inst c.of.ensures.in_range in
    let lines : flat_map (answer_line names) c.of.result.now ≡ part_lines names c.args.rows.now certificate =
    ap (flat_map (answer_line names)) same ∙ answer_lines names certificate.inst c.args.rows.now
    ∙ sym (ap (λ (b : Bool). if b then flat_map (member_line names c.args.rows.now) certificate.members else flat_map (unwilling_line names certificate.inst) c.args.rows.now) c.if-certificate.false) in
    on_ok_weaker c.write_unwilling.result (λ h. sends_after (contents c.args.writer.now) (contents c.write_unwilling.new.writer) c.args.text.now.items c.push_instance.new.text.items
    c.write_unwilling.new.text.items (instance_line names certificate) (part_lines names c.args.rows.now certificate) c.in_ok-push_instance.ensures
    (subst (λ (t : List ℕ). Sends (contents c.args.writer.now) (contents c.write_unwilling.new.writer) c.push_instance.new.text.items c.write_unwilling.new.text.items t) lines h)) c.write_unwilling.ensures.sent

pub returns-else-certificate-clause-stopped : goal.returns-else-certificate-clause-stopped
returns-else-certificate-clause-stopped g c =
    let contents = g.W.Write.contents in
    let a = contents c.args.writer.now in
    let d = contents c.write_unwilling.new.writer in
    let names = c.args.names.now in
    let certificate = c.args.certificate.now in
    let same = c.of.ensures.answers ∙ c.requires certificate.inst c.of.ensures.in_range in
    let lines : flat_map (answer_line names) c.of.result.now ≡ part_lines names c.args.rows.now certificate =
    ap (flat_map (answer_line names)) same ∙ answer_lines names certificate.inst c.args.rows.now
    ∙ sym (ap (λ (b : Bool). if b then flat_map (member_line names c.args.rows.now) certificate.members else flat_map (unwilling_line names certificate.inst) c.args.rows.now) c.if-certificate.false) in
    on_err_weaker c.write_unwilling.result (λ h. stops_after a d c.args.text.now.items c.push_instance.new.text.items (instance_line names certificate) (part_lines names c.args.rows.now certificate) c.in_ok-push_instance.ensures
    (subst (λ (t : List ℕ). WritesFront a d (c.push_instance.new.text.items ++ t)) lines h)) c.write_unwilling.ensures.stopped

pub returns-then-certificate-clause-stopped : goal.returns-then-certificate-clause-stopped
returns-then-certificate-clause-stopped g c =
    let contents = g.W.Write.contents in
    let a = contents c.args.writer.now in
    let d = contents c.write_members.new.writer in
    let names = c.args.names.now in
    let certificate = c.args.certificate.now in
    let lines : flat_map (member_line names c.args.rows.now) certificate.members ≡ part_lines names c.args.rows.now certificate =
    sym (ap (λ (b : Bool). if b then flat_map (member_line names c.args.rows.now) certificate.members else flat_map (unwilling_line names certificate.inst) c.args.rows.now) c.if-certificate.true) in
    on_err_weaker c.write_members.result (λ h. stops_after a d c.args.text.now.items c.push_instance.new.text.items (instance_line names certificate) (part_lines names c.args.rows.now certificate) c.in_ok-push_instance.ensures
    (subst (λ (t : List ℕ). WritesFront a d (c.push_instance.new.text.items ++ t)) lines h)) c.write_members.ensures.stopped
