use Rattle.std.proofs.Common.{◌≡◌, ◌++◌, List, ℕ, subst, map, ap}
use Rattle.std.proofs.lemmas.Result.{on_ok_weaker, on_err_weaker}
use Rattle.std.specs.Io.KnownBytes.{Appends}
use Rattle.kt_text.specs.Writing.{WritesFront}
use Rattle.kt_text.proofs.PieceFacts.{at_fault}
use Rattle.kt_report.specs.declared.offers.Offers.{Offers}
use Rattle.kt_report.specs.Lines.{losses_line}
use Rattle.kt_report.specs.Report.{object_lines, report_with}
use Rattle.kt_report.proofs.ReportFacts.{commands_of, parts_go_out, stops_gathering, parts_stop, stops_early}
use Rattle.kt_report.proofs.writing.write_parts.Goals as goal

pub returns : goal.returns
returns g c =
    let contents = g.W.Write.contents in
    let a = contents c.args.writer.now in
    let b = contents c.write_commands.new.writer in
    let d = contents c.write_rest.new.writer in
    let names = c.args.names.now in
    let rows = c.args.rows.now in
    let commands = commands_of names rows c.args.certificates.now in
    let offers = map (λ (o : Offers). o.now) c.args.objects.now in
    let losses = losses_line c.args.lost c.in_ok-told.told.dropped in
    let same : commands ++ object_lines names offers ++ losses ≡ report_with names rows c.args.certificates.now offers c.args.lost =
    ap (λ (n : ℕ). commands ++ object_lines names offers ++ losses_line c.args.lost n) c.in_ok-told.ensures.dropped in
    record {
      written = on_ok_weaker c.write_rest.result (λ out. subst (λ (t : List ℕ). Appends a d t) same
          (parts_go_out a b d c.in_ok-text.text.items c.write_commands.new.text.items c.push_objects.new.text.items c.push_losses.new.text.items commands (object_lines names offers) losses
          c.in_ok-text.ensures c.in_ok-write_commands.ensures.sent c.in_ok-push_objects.ensures c.in_ok-push_losses.ensures out)) c.write_rest.ensures.written;
      front = on_err_weaker c.write_rest.result (λ out. subst (λ (t : List ℕ). WritesFront a d t) same
          (parts_stop a b d c.in_ok-text.text.items c.write_commands.new.text.items c.push_objects.new.text.items c.push_losses.new.text.items commands (object_lines names offers) losses
          c.in_ok-text.ensures c.in_ok-write_commands.ensures.sent c.in_ok-push_objects.ensures c.in_ok-push_losses.ensures out)) c.write_rest.ensures.stopped;
    }

pub returns-in_err-write_commands-clause-front : goal.returns-in_err-write_commands-clause-front
returns-in_err-write_commands-clause-front g c =
    let contents = g.W.Write.contents in
    let a = contents c.args.writer.now in
    let d = contents c.write_commands.new.writer in
    let commands = commands_of c.args.names.now c.args.rows.now c.args.certificates.now in
    let out : WritesFront a d commands = subst (λ (t : List ℕ). WritesFront a d (t ++ commands)) c.in_ok-text.ensures c.in_err-write_commands.ensures.stopped in
    at_fault c.from_residual-in_err-write_commands.result (stops_early a d c.args.names.now c.args.rows.now c.args.certificates.now (map (λ (o : Offers). o.now) c.args.objects.now) c.args.lost out)

pub returns-in_err-push_objects-clause-front : goal.returns-in_err-push_objects-clause-front
returns-in_err-push_objects-clause-front g c =
    let contents = g.W.Write.contents in
    let a = contents c.args.writer.now in
    let d = contents c.write_commands.new.writer in
    let commands = commands_of c.args.names.now c.args.rows.now c.args.certificates.now in
    let out : WritesFront a d commands = stops_gathering a d c.in_ok-text.text.items c.write_commands.new.text.items commands c.in_ok-text.ensures c.in_ok-write_commands.ensures.sent in
    at_fault c.from_residual-in_err-push_objects.result (stops_early a d c.args.names.now c.args.rows.now c.args.certificates.now (map (λ (o : Offers). o.now) c.args.objects.now) c.args.lost out)

pub returns-in_err-push_losses-clause-front : goal.returns-in_err-push_losses-clause-front
returns-in_err-push_losses-clause-front g c =
    let contents = g.W.Write.contents in
    let a = contents c.args.writer.now in
    let d = contents c.write_commands.new.writer in
    let commands = commands_of c.args.names.now c.args.rows.now c.args.certificates.now in
    let out : WritesFront a d commands = stops_gathering a d c.in_ok-text.text.items c.write_commands.new.text.items commands c.in_ok-text.ensures c.in_ok-write_commands.ensures.sent in
    at_fault c.from_residual-in_err-push_losses.result (stops_early a d c.args.names.now c.args.rows.now c.args.certificates.now (map (λ (o : Offers). o.now) c.args.objects.now) c.args.lost out)
