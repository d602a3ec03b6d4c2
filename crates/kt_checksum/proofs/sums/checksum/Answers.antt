use Rattle.std.proofs.Common.{◌∙◌, arith}
use Rattle.kt_checksum.specs.Checksums.{after_bytes}
use Rattle.kt_checksum.proofs.ByWords.{by_eight}
use Rattle.kt_checksum.proofs.sums.checksum.Goals as goal

pub loop-rest-preserved : goal.loop-rest-preserved
loop-rest-preserved c =
    (λ i. after_bytes (c.after_word-register.ensures i) (c.split_at.ensures.back i))
    ∙ (by_eight c.loop-rest.register c.first_word.result c.loop-rest.rest.now c.bytes_fit.ensures (omega arith) c.first_word.ensures ∙ c.loop-rest.invariant)
