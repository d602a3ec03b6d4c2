use Rattle.std.proofs.Common.{rules, of_calls, nat_lt, ◌∙◌}
use Rattle.std.proofs.lemmas.Fn.{always_returns_same}
use Rattle.kt_histories.proofs.ListFacts.{find_from_point, parted}
use Rattle.kt_histories.proofs.messages.Messages.first_from.Goals as goal

pub returns : goal.returns
returns c = λ rises.
    let list = c.as_slice.ensures.value ∙ c.self.view_is in
    let point = c.partition_point-index.ensures.partitioned (λ n. nat_lt n c.args.msg) (always_returns_same _ _ _ (λ a r f k. search (rules, of_calls))) (rw list (parted _ c.args.msg rises)) in
    let found = find_from_point c.as_slice.result.now c.args.msg c.partition_point-index.result point in
    c.get.ensures ∙ (rw list at found)
