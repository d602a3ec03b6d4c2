use Rattle.std.proofs.Common.{◌≡◌, ◌∙◌, List, ℕ, ap, subst, sym, map}
use Rattle.std.proofs.lemmas.Result.{on_ok_weaker, on_err_weaker}
use Rattle.std.specs.Io.KnownBytes.{Appends}
use Rattle.kt_plan.specs.Limits.{Planned}
use Rattle.kt_meaning.specs.Legal.{IsLegal}
use Rattle.kt_text.specs.Writing.{WritesFront}
use Rattle.kt_report.specs.declared.offers.Offers.{Offers}
use Rattle.kt_report.specs.Exact.{lost_in}
use Rattle.kt_report.proofs.ReportFacts.{is_exact, replayed_offers}
use Rattle.kt_report.proofs.writing.report_of_run.Goals as goal

pub returns : goal.returns
returns g c =
    let a = g.W.Write.contents c.args.writer.now in
    let d = g.W.Write.contents c.write_parts.new.writer in
    let kinds = c.plan.inside.kinds.items in
    let plan : Planned = record { names = c.plan.inside.names; kinds = kinds; commands = c.plan.inside.commands.items } in
    let rows = c.rows-rows.result.now in
    let log = c.args.log.now.rows in
    let shown = c.as_slice-2.result.now in
    let offers = map (λ (o : Offers). o.now) shown in
    let same_rows : rows ≡ log = c.rows-rows.ensures.rows in
    let here : IsLegal rows = subst IsLegal (sym same_rows) c.requires.legal in
    let exact = is_exact plan c.args.plan.now rows log c.args.certificates.now offers 0 c.plan.view_is same_rows
    (replayed_offers c.in_ok-replay.replay.objects.items shown kinds c.as_slice.result.now rows c.as_slice-2.ensures.value c.as_slice.ensures.value (c.in_ok-replay.ensures.exact here).offers)
    (sym (ap lost_in same_rows ∙ c.requires.none_lost)) in
    record {
      exact = on_ok_weaker c.write_parts.result (subst (λ (t : List ℕ). Appends a d t) exact) c.write_parts.ensures.written;
      front = on_err_weaker c.write_parts.result (subst (λ (t : List ℕ). WritesFront a d t) exact) c.write_parts.ensures.front;
    }
