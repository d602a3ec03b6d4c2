use Rattle.std.proofs.Common.{rules}
use Rattle.std.proofs.lemmas.Fn.{filter_same}
use Rattle.kt_manager.specs.Messages.{is_within}
use Rattle.kt_manager.proofs.received.drop_above.Goals as goal

pub returns-clause-items : goal.returns-clause-items
returns-clause-items c = rw c.in-Some.is (filter_same _ (is_within c.in-Some.label) _ (λ x b f' k. search rules) _ _ c.retain.ensures.filtered)
