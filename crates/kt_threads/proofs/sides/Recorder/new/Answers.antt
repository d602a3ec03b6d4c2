use Rattle.kt_threads.proofs.Counting.{none_counted}
use Rattle.kt_threads.proofs.sides.Recorder.new.Goals as goal

pub invariant_of-result : goal.invariant_of-result
invariant_of-result g c = none_counted c.named-book.result.1 c.named-book.ensures
