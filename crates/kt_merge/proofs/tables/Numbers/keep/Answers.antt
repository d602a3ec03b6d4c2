use Rattle.std.proofs.lemmas.Result.{on_ok_weaker}
use Rattle.kt_merge.proofs.tables.Numbers.keep.Goals as goal

pub returns-in-Sent : goal.returns-in-Sent
returns-in-Sent c = on_ok_weaker c.keep_sent.result (λ more g s next. rw c.in-Sent.is (more g c.in-Sent.to c.in-Sent.body s)) c.keep_sent.ensures

pub returns-in-Began : goal.returns-in-Began
returns-in-Began c = on_ok_weaker c.keep_begun.result (λ more g s next. rw c.in-Began.is (more g c.in-Began.kind s)) c.keep_begun.ensures
