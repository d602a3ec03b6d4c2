use Rattle.std.proofs.Common.{◌≡◌, refl, subst, sym, ap, ◌∙◌}
use Rattle.kt_spacetime.specs.declared.event.Event.{Event}
use Rattle.kt_spacetime.specs.declared.event.Event.TheVariants.{Unwilling}
use Rattle.kt_meaning.specs.Unwilling.{is_unwilling}
use Rattle.kt_histories.specs.Finding.{IsFirstRow}
use Rattle.kt_explain.proofs.CauseRows.{decided_unwilling, decided_willing}
use Rattle.kt_histories.proofs.FoundRows.{unwilling_row}
use Rattle.kt_explain.proofs.explanation.objection.Goals as goal

pub returns-in_default : goal.returns-in_default
returns-in_default c = λ certificates answer.
    (refl, decided_willing c.args.rows.now certificates c.args.inst c.args.decided answer c.in_default.ensures, c.in_default.ensures)

pub returns : goal.returns
returns c = λ certificates answer.
    let k = c.args.inst in
    let rows = c.args.rows.now in
    let first : IsFirstRow (is_unwilling k) rows c.in-Some.found.number c.in-Some.found.row = c.in-Some.ensures in
    let row = unwilling_row k c.in-Some.found.row first.passes in
    let is : c.in-Some.found.row ≡ Unwilling c.process.result k row.0 = row.1 ∙ ap (λ p. Unwilling p k row.0) (sym c.process.ensures) in
    (refl, decided_unwilling rows certificates k c.args.decided c.in-Some.found.number c.in-Some.found.row answer first, row.0, subst (λ (r : Event). IsFirstRow (is_unwilling k) rows c.in-Some.found.number r) is first)
