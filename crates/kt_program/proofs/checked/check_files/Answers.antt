use Rattle.std.proofs.Common.{rules, []}
use Rattle.kt_explain.specs.declared.answer.Answer.TheVariants.{Checked}
use Rattle.kt_program.proofs.checked.check_files.Goals as goal

pub returns-clause-answer : goal.returns-clause-answer
returns-clause-answer g c = (Checked c.in_ok-judge_texts.field-0, [], c.passes.ensures, search rules)
