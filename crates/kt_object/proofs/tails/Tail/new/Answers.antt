use Rattle.kt_object.proofs.ReliableKinds.{reliable}
use Rattle.kt_object.proofs.tails.Tail.new.Goals as goal

pub returns-clause-reliable : goal.returns-clause-reliable
returns-clause-reliable c = reliable 2
