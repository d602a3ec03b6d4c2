use Rattle.std.proofs.Common.{◌≡◌, ℕ, suc, ◌<◌, Some}
use Rattle.std.specs.List.{slice_get}
use Rattle.kt_walk.specs.declared.in_transit.Sent.{Sent}
use Rattle.kt_walk.proofs.gap_buffer.GapBuffer.is_rising.Given as goal

abbrev pub invariant-loop-index : goal.invariant-loop-index
invariant-loop-index l = (k : ℕ) (a b : Sent) → suc k < l.index → slice_get l.self.messages k ≡ Some a → slice_get l.self.messages (suc k) ≡ Some b → a.msg < b.msg
