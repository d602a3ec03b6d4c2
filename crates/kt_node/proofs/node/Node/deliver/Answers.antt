use Rattle.std.proofs.Common.{rules}
use Rattle.kt_node.proofs.Meets.{met_spoken}
use Rattle.kt_node.proofs.node.Node.deliver.Goals as goal

pub returns-clause-done : goal.returns-clause-done
returns-clause-done c = λ y h. c.in_ok-take.ensures.done y h.manager (met_spoken c.args.self.now y c.args.from c.args.able c.args.envelope.now h (search rules) (cc (c.meet.ensures, c.in_ok-meet.was, c.if-not-branch.false)))
