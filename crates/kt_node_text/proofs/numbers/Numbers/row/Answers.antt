use Rattle.std.proofs.Common.{◌∙◌, ◌++◌, take, drop, ap}
use Rattle.std.proofs.lemmas.List.{take_at, drop_at}
use Rattle.kt_node_text.proofs.numbers.Numbers.row.Goals as goal

pub returns-clause-read : goal.returns-clause-read
returns-clause-read c = λ xs after long e.
    let left = (c.in_ok-count.ensures.read _ (xs ++ after) e).1 in (
      c.copy_from_slice.ensures.after ∙ (c.split_at.ensures.front ∙ (ap (take 64) left ∙ take_at xs after 64 long)),
      c.split_at.ensures.back ∙ (ap (drop 64) left ∙ drop_at xs after 64 long),
    )
