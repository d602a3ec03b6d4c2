use Rattle.std.proofs.Common.{◌∙◌, sym}
use Rattle.kt_node.proofs.ActSteps.{acts_shown}
use Rattle.kt_node.proofs.ClockedActs.{run_acts}
use Rattle.kt_node.proofs.RaisedNets.{same_acts}
use Rattle.kt_node.proofs.laws.acts_of_nets.Goals as goal

pub returns-clause-same : goal.returns-clause-same
returns-clause-same c = acts_shown

pub returns-clause-clocked : goal.returns-clause-clocked
returns-clause-clocked c = λ n first steps x. run_acts n (λ p. first) steps x ∙ acts_shown n first steps x

pub returns-clause-raised : goal.returns-clause-raised
returns-clause-raised c = λ n first. same_acts first n

pub returns-clause-clocked_raised : goal.returns-clause-clocked_raised
returns-clause-clocked_raised c = λ n first steps x. run_acts n first steps x ∙ (same_acts first n steps x ∙ sym (run_acts n (λ p. 0) steps x))
