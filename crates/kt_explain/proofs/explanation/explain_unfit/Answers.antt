use Rattle.std.proofs.Common.{◌≡◌, Some, List, length, refl, ap, subst, arith}
use Rattle.kt_spacetime.specs.declared.event.Event.{Event}
use Rattle.kt_meaning.proofs.Items.{some_same}
use Rattle.kt_meaning.specs.Fitness.{IsUnfit}
use Rattle.kt_spacetime.specs.declared.unfit.Unfit.{Unfit}
use Rattle.kt_spacetime.specs.declared.verdict.Why.TheVariants as why
use Rattle.kt_explain.proofs.Faults.{log_fault}
use Rattle.kt_explain.proofs.explanation.explain_unfit.Goals as goal

pub bad_row-requires-clause-within : goal.bad_row-requires-clause-within
bad_row-requires-clause-within c =
    let rows = c.args.log.now.rows in
    let row = c.in-BadLog.row in
    let rule = c.in-BadLog.rule in
    let broken = subst (λ (w : Unfit). IsUnfit rows w) c.in-BadLog.is c.requires.unfit in
    let h = log_fault rows (Some row) (why.BadLog rule) (row, rule, refl, broken) in
    let same : row ≡ h.number = some_same h.row_is in
    let as_long = ap (λ (list : List Event). length list) c.rows.ensures.rows in
    omega (arith, same, h.within, as_long)
