use Rattle.kt_node.proofs.Counts.{zero_each}
use Rattle.std.proofs.Common.{refl}
use Rattle.kt_node.proofs.reach.Reach.none.Goals as goal

pub returns : goal.returns
returns c = record { sent = refl; received = λ q b. zero_each 64 q }
