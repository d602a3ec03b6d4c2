use Rattle.kt_object.proofs.ReliableKinds.{reliable}
use Rattle.kt_object.proofs.lasts.Last.new.Goals as goal

pub returns-clause-reliable : goal.returns-clause-reliable
returns-clause-reliable c = reliable 1
