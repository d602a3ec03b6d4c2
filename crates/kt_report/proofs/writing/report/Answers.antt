use Rattle.std.proofs.Common.{◌≡◌, ◌∙◌, List, ℕ, ap, subst, sym, length, map}
use Rattle.std.proofs.lemmas.List.{length-map}
use Rattle.std.proofs.lemmas.Result.{on_ok_weaker, on_err_weaker}
use Rattle.std.specs.Io.KnownBytes.{Appends}
use Rattle.kt_plan.specs.Limits.{Planned}
use Rattle.kt_meaning.specs.Legal.{IsLegal}
use Rattle.kt_text.specs.Writing.{WritesFront}
use Rattle.kt_text.proofs.PieceFacts.{at_fault}
use Rattle.kt_report.specs.declared.offers.Offers.{Offers}
use Rattle.kt_report.specs.Report.{WritesReport, WritesReportFront}
use Rattle.kt_report.proofs.ReportFacts.{writes_report, stops_report, stops_unbegun, is_exact, replayed_offers}
use Rattle.kt_report.proofs.writing.report.Goals as goal

pub returns : goal.returns
returns g c =
    let a = g.W.Write.contents c.args.writer.now in
    let d = g.W.Write.contents c.write_parts.new.writer in
    let names = c.plan.inside.names in
    let kinds = c.plan.inside.kinds.items in
    let plan : Planned = record { names = names; kinds = kinds; commands = c.plan.inside.commands.items } in
    let rows = c.rows-rows.result.now in
    let log = c.args.log.now.rows in
    let certificates = c.args.certificates.now in
    let objects = c.in_ok-replay.replay.objects.items in
    let shown = c.as_slice-2.result.now in
    let offers = map (λ (o : Offers). o.now) shown in
    let lost = c.in_ok-lost.lost in
    let same_rows : rows ≡ log = c.rows-rows.ensures.rows in
    let same_names : names ≡ c.args.plan.now.names = ap (λ p. p.names) c.plan.view_is in
    let all_shown : shown ≡ objects = c.as_slice-2.ensures.value in
    let sliced : c.as_slice.result.now ≡ kinds = c.as_slice.ensures.value in
    let one_each = length-map shown (λ (o : Offers). o.now) ∙ ap length all_shown ∙ c.in_ok-replay.ensures.count ∙ ap length sliced ∙ c.plan.invariant.one_kind_each in
    let exact = λ (legal : IsLegal log).
    let here : IsLegal rows = subst IsLegal (sym same_rows) legal in
    is_exact plan c.args.plan.now rows log certificates offers lost c.plan.view_is same_rows
    (replayed_offers objects shown kinds c.as_slice.result.now rows all_shown sliced (c.in_ok-replay.ensures.exact here).offers) (c.in_ok-lost.ensures here) in
    record {
      written = on_ok_weaker c.write_parts.result (λ out. subst (λ (ns : List (List ℕ)). WritesReport a d ns log certificates) same_names
          (rw (← same_rows) (writes_report a d names rows certificates offers lost one_each out))) c.write_parts.ensures.written;
      exact = on_ok_weaker c.write_parts.result (λ out legal. subst (λ (t : List ℕ). Appends a d t) (exact legal) out) c.write_parts.ensures.written;
      stopped = on_err_weaker c.write_parts.result (λ out. subst (λ (ns : List (List ℕ)). WritesReportFront a d ns log certificates) same_names
          (rw (← same_rows) (stops_report a d names rows certificates offers lost one_each out))) c.write_parts.ensures.front;
      front = on_err_weaker c.write_parts.result (λ out legal. subst (λ (t : List ℕ). WritesFront a d t) (exact legal) out) c.write_parts.ensures.front;
    }

pub returns-in_err-replay-clause-stopped : goal.returns-in_err-replay-clause-stopped
returns-in_err-replay-clause-stopped g c =
    at_fault c.from_residual.result (stops_unbegun (g.W.Write.contents c.args.writer.now) c.args.plan.now.names c.args.log.now.rows c.args.certificates.now)

pub returns-in_err-lost-clause-stopped : goal.returns-in_err-lost-clause-stopped
returns-in_err-lost-clause-stopped g c =
    at_fault c.from_residual-in_err-lost.result (stops_unbegun (g.W.Write.contents c.args.writer.now) c.args.plan.now.names c.args.log.now.rows c.args.certificates.now)
