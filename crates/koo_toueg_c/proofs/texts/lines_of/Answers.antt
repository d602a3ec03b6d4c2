use Rattle.std.proofs.Common.{List, sym, subst}
use Rattle.kt_spacetime.specs.declared.certificate.Certificate.{Certificate}
use Rattle.kt_meaning.specs.Answers.{IsCheckerAnswer}
use Rattle.koo_toueg_c.proofs.texts.lines_of.Goals as goal

pub explain-requires : goal.explain-requires
explain-requires c = record {
  answer = subst (λ (list : List Certificate). IsCheckerAnswer c.args.run.now.log.log.rows list c.args.verdict.now) (sym c.as_slice-list.ensures.value) c.requires;
}
