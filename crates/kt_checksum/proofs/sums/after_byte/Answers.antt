use Rattle.std.proofs.Common.{◌∙◌, ap, bit_xor}
use Rattle.kt_checksum.specs.Checksums.{after_bits}
use Rattle.kt_checksum.proofs.Tables.{by_table}
use Rattle.kt_checksum.proofs.sums.after_byte.Goals as goal

pub returns : goal.returns
returns c = by_table (bit_xor c.args.register c.from.result) ∙ ap (λ b. after_bits 8 (bit_xor c.args.register b)) c.from.ensures
