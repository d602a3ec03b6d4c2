use Rattle.std.proofs.Common.{◌≡◌, Bool, List, rules, subst}
use Rattle.kt_spacetime.specs.declared.certificate.Certificate.{Certificate}
use Rattle.kt_meaning.specs.Answers.{IsCheckerAnswer}
use Rattle.koo_toueg_c.specs.Numbers.{answer_status}
use Rattle.koo_toueg_c.proofs.texts.explained_run.Goals as goal

pub lines_of-requires : goal.lines_of-requires
lines_of-requires c =
    subst (λ (list : List Certificate). IsCheckerAnswer c.args.run.now.log.log.rows list c.in-Ok.verdict) c.as_slice-list.ensures.value c.in-Ok.ensures.answer

pub returns-in-Ok-write-clause-text : goal.returns-in-Ok-write-clause-text
returns-in-Ok-write-clause-text c = record {
  verdict = c.in-Ok.verdict;
  checked = subst (λ (list : List Certificate). IsCheckerAnswer c.args.run.now.log.log.rows list c.in-Ok.verdict) c.as_slice-list.ensures.value c.in-Ok.ensures.answer;
  ends = subst (λ (passed : Bool). c.answer_status.result ≡ answer_status passed) c.passes.ensures c.answer_status.ensures.exact;
  lines = c.in-Ok-lines_of.lines.bytes.items;
  begins = search rules;
}
