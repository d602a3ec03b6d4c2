use Rattle.std.proofs.Common.{◌≡◌, [], length}
use Rattle.std.specs.Prelude.{All}
use Rattle.kt_fifo.specs.Queues.{Queue}
use Rattle.kt_fifo.proofs.channels.Channels.new.Given as goal

abbrev pub invariant-loop-pair : goal.invariant-loop-pair
invariant-loop-pair l = (length l.fifos.items ≡ l._pair) × All (λ (q : Queue). q.parcels ≡ []) l.fifos.items
