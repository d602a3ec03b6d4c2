use Rattle.std.proofs.Common.{◌∙◌, sym}
use Rattle.kt_run.proofs.EachOnce.{each_listed, once}
use Rattle.kt_run.proofs.EvenWords.{even}
use Rattle.kt_run.proofs.laws.even_draws.Goals as goal

pub returns-clause-listed : goal.returns-clause-listed
returns-clause-listed c = each_listed

pub returns-clause-once : goal.returns-clause-once
returns-clause-once c = once

pub returns-clause-words : goal.returns-clause-words
returns-clause-words c = λ n one other l m. even n one l ∙ sym (even n other m)
