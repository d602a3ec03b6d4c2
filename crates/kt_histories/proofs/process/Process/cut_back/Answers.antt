use Rattle.std.proofs.Common.{ap, arith}
use Rattle.kt_histories.specs.declared.process.Process.{Process}
use Rattle.kt_histories.proofs.ProcessFacts.{cutting_more}
use Rattle.kt_histories.proofs.process.Process.cut_back.Goals as goal

pub loop-self-preserved : goal.loop-self-preserved
loop-self-preserved c =
    let position = ap (λ (v : Process). v.permanent) c.loop-self.invariant.others in
    cutting_more _ c.loop-self.self c.pop.new.self _ c.loop-self.undone c.add_sent.new.list c.in-Some.last c.loop-self.invariant c.in-Some.ensures.last (omega (arith, c.loop-self-test.true, c.len.ensures, position)) c.in_ok-add_sent.ensures.kept c.in_ok-add_sent.ensures.sent
