use Rattle.std.proofs.Common.{◌∙◌, ◌<◌, ◌^◌, ap, arith, bit_xor}
use Rattle.std.proofs.lemmas.Nat.{xor_lt}
use Rattle.kt_checksum.specs.Checksums.{after_bits}
use Rattle.kt_checksum.proofs.Tables.{by_word}
use Rattle.kt_checksum.proofs.sums.after_word.Goals as goal

pub bounds-mixed : goal.bounds-mixed
bounds-mixed c =
    let few : bit_xor c.from.result c.args.word < 2 ^ 64 = xor_lt 64 c.from.result c.args.word (omega arith) (omega arith) in
    omega (arith, few)

pub returns : goal.returns
returns c =
    by_word (bit_xor c.from.result c.args.word) (xor_lt 64 c.from.result c.args.word (omega arith) (omega arith))
    ∙ ap (λ r. after_bits 64 (bit_xor r c.args.word)) c.from.ensures
