use Rattle.std.proofs.Common.{◌≡◌, ◌∙◌}
use Rattle.kt_program.specs.Judging.{IsAnswered}
use Rattle.kt_program.proofs.judging.answer_to.Goals as goal

pub returns-clause-answer : goal.returns-clause-answer
returns-clause-answer c =
    let judgement = c.in_ok-judgement.judgement in (
      judgement.answer,
      c.as_str-3.result.now,
      record {
        certificates = judgement.certificates.items;
        verdict = judgement.verdict;
        checked = c.in_ok-judgement.ensures.checked;
        answered = c.in_ok-judgement.ensures.answered;
        explanation = judgement.explanation;
        told = c.in_ok-judgement.ensures.told;
        untold = λ quiet. c.as_str-3.ensures.value ∙ c.in_ok-lines.ensures.none quiet;
      },
      c.passes.ensures,
      c.in_ok-answer_text.ensures.text,
    )
