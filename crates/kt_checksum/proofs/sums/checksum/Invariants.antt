use Rattle.std.proofs.Common.{◌≡◌, drop, length}
use Rattle.kt_checksum.specs.Checksums.{ones, after_bytes}
use Rattle.kt_checksum.proofs.sums.checksum.Given as goal

abbrev pub invariant-loop-rest : goal.invariant-loop-rest
invariant-loop-rest l = after_bytes l.register l.rest ≡ after_bytes ones l.bytes

abbrev pub decreases-loop-rest : goal.decreases-loop-rest
decreases-loop-rest l = length l.rest

abbrev pub invariant-loop-byte : goal.invariant-loop-byte
invariant-loop-byte l = after_bytes l.register (drop l.byte-index l.byte-items) ≡ after_bytes ones l.fn.bytes
