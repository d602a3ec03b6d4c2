use Rattle.kt_node.proofs.NodeCalls.{step_tells}
use Rattle.kt_node.proofs.laws.calls_of_nodes.Goals as goal

pub returns : goal.returns
returns c = record { calls = step_tells }
