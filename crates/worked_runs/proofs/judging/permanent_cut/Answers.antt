use Rattle.std.proofs.Common.{◌<◌, length, arith, ap, sym, inl, inr, ◌∙◌}
use Rattle.std.proofs.lemmas.Bool.{cases_eq}
use Rattle.std.proofs.lemmas.Grind.{get_or-set_at}
use Rattle.std.proofs.lemmas.List.{get_or-set_other, length-set}
use Rattle.kt_meaning.specs.Past.{past}
use Rattle.kt_meaning.specs.Cuts.{permanent_cut}
use Rattle.worked_runs.proofs.judging.permanent_cut.Goals as goal

pub loop-number-preserved : goal.loop-number-preserved
loop-number-preserved c =
    let inv = c.loop-number.invariant in
    let low : c.nth-p.result < length c.loop-number.cut = omega (arith, c.nth-p.ensures, c.loop-number-test.true, inv.long) in
    rw c.set.ensures (record {
      long = length-set c.loop-number.cut c.nth-p.result c.permanent.result ∙ inv.long;
      lengths = λ rows p h below. elim (cases_eq p c.nth-p.result) [
        | inl same ↦
            get_or-set_at c.loop-number.cut c.nth-p.result p c.permanent.result 0 same low ∙ (c.permanent.ensures rows h ∙ ap (permanent_cut (past rows)) (sym same))
        | inr other ↦
            get_or-set_other c.loop-number.cut c.nth-p.result p c.permanent.result 0 other ∙ inv.lengths rows p h (omega (arith, below, other, c.nth-p.ensures))
      ];
    })
