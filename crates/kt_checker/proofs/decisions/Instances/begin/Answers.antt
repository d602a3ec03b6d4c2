use Rattle.std.proofs.Common.{refl}
use Rattle.kt_checker.proofs.Gathering.{gathered_began}
use Rattle.kt_checker.proofs.decisions.Instances.begin.Goals as goal

pub returns : goal.returns
returns c = λ certs rows inst h. rw c.in_ok-push.ensures.items (gathered_began _ rows c.args.initiator inst c.args.kind _ h refl refl refl refl c.new.ensures.items)
