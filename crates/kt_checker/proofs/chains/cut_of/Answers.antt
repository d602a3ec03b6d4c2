use Rattle.std.proofs.Common.{◌<◌, length, arith, ap, sym, inl, inr, ◌∙◌}
use Rattle.std.proofs.lemmas.Bool.{cases_eq}
use Rattle.std.proofs.lemmas.Grind.{get_or-set_at}
use Rattle.std.proofs.lemmas.List.{get_or-set_other, length-set}
use Rattle.kt_meaning.specs.Past.{past}
use Rattle.kt_meaning.specs.Passing.{decided_cut}
use Rattle.kt_checker.proofs.chains.cut_of.Goals as goal

pub loop-number-preserved : goal.loop-number-preserved
loop-number-preserved c =
    let inv = c.loop-number.invariant in
    let low : c.nth-p.result < length c.loop-number.cut = omega (arith, c.nth-p.ensures, c.loop-number-test.true, inv.long) in
    rw c.set.ensures (record {
      long = length-set c.loop-number.cut c.nth-p.result c.length_in_cut.result ∙ inv.long;
      lengths = λ rows p h ready below. elim (cases_eq p c.nth-p.result) [
        | inl same ↦
            get_or-set_at c.loop-number.cut c.nth-p.result p c.length_in_cut.result 0 same low ∙ (c.length_in_cut.ensures rows h ready ∙ ap (decided_cut (past rows) c.args.certificate.now.inst c.args.certificate.now.kind) (sym same))
        | inr other ↦
            get_or-set_other c.loop-number.cut c.nth-p.result p c.length_in_cut.result 0 other ∙ inv.lengths rows p h ready (omega (arith, below, other, c.nth-p.ensures))
      ];
    })
