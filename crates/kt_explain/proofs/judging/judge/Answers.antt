use Rattle.std.proofs.Common.{List, subst}
use Rattle.kt_spacetime.specs.declared.certificate.Certificate.{Certificate}
use Rattle.kt_meaning.specs.Answers.{IsCheckerAnswer}
use Rattle.kt_explain.proofs.Bases.{reason_of}
use Rattle.kt_explain.proofs.judging.judge.Goals as goal

pub verdict_by-requires : goal.verdict_by-requires
verdict_by-requires c = record { unfit = reason_of c.args.log.now.rows _ c.in_ok-basis.basis.unfit _ c.in_ok-basis.ensures.basis }

pub returns-clause-checked : goal.returns-clause-checked
returns-clause-checked c =
    subst (λ (list : List Certificate). IsCheckerAnswer c.args.log.now.rows list c.in_ok-verdict.verdict) c.as_slice-certificates.ensures.value c.in_ok-verdict.ensures.answer
