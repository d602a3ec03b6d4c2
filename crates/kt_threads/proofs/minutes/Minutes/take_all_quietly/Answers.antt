use Rattle.std.proofs.Common.{rules, ◌≡◌, true}
use Rattle.kt_threads.proofs.Quieting.{quiet_next}
use Rattle.kt_threads.proofs.minutes.Minutes.take_all_quietly.Goals as goal

pub loop-preserved : goal.loop-preserved
loop-preserved g c =
    let taken : c.take_quietly.result ≡ true = search rules in
    quiet_next c.args.self.now c.loop.self c.take_quietly.new.self c.args.p c.take_quietly.result c.loop.invariant taken c.take_quietly.ensures.made
