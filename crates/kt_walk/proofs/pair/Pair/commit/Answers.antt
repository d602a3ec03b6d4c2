use Rattle.kt_walk.specs.Pairs.{IsPairMadePermanent}
use Rattle.kt_walk.proofs.pair.Pair.commit.Goals as goal

pub returns-in-Checkpoint : goal.returns-in-Checkpoint
returns-in-Checkpoint c =
    let last_permanent : IsPairMadePermanent c.args.members c.args.permanent.now c.args.self.now c.forget_permanent.new.self = record {
      receiver = c.forget_permanent.ensures.receiver;
      sender = c.forget_permanent.ensures.sender;
      pair_state = λ rs ss dropped i j more most l. c.forget_permanent.ensures.pair_state rs ss dropped i j more most.no_less l;
      none = λ rising already. c.forget_permanent.ensures.none rising;
    } in
    rw c.in-Checkpoint.is last_permanent
