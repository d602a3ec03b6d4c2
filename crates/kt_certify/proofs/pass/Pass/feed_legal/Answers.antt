use Rattle.std.proofs.lemmas.Result.{on_ok_weaker}
use Rattle.kt_certify.proofs.Rows.{entered_more}
use Rattle.kt_certify.proofs.pass.Pass.feed_legal.Goals as goal

pub returns-in-Ok-clause-instances : goal.returns-in-Ok-clause-instances
returns-in-Ok-clause-instances c = on_ok_weaker c.feed_legal.result (λ fed rows legal walk h.
    entered_more rows c.args.row.now c.args.self.now.instances.items c.enter.new.instances.items legal (c.in-Ok.ensures.entered rows (λ _. walk)) h) c.feed_legal.ensures.fed

pub returns-in-Ok-clause-walk : goal.returns-in-Ok-clause-walk
returns-in-Ok-clause-walk c = on_ok_weaker c.feed_legal.result (λ fed rows legal walk. fed rows walk legal) c.feed_legal.ensures.fed
