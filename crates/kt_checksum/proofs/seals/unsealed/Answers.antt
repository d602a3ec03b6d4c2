use Rattle.std.proofs.Common.{◌≡◌, ◌∙◌, arith, subst}
use Rattle.kt_checksum.specs.Checksums.{sealed, DifferInOneByte}
use Rattle.kt_checksum.proofs.SealedTexts.{is_cut, is_sealed, is_that, is_not_sealed, is_short, sealed_apart}
use Rattle.kt_checksum.proofs.seals.unsealed.Goals as goal

pub returns-then-bytes-lt4-clause-own : goal.returns-then-bytes-lt4-clause-own
returns-then-bytes-lt4-clause-own c = λ text e. absurd (is_short c.args.bytes.now (omega arith) text e)

pub returns-then-first_number-checksum-clause-some : goal.returns-then-first_number-checksum-clause-some
returns-then-first_number-checksum-clause-some c =
    let cut = is_cut c.args.bytes.now c.split_at.result.0.now c.split_at.result.1.now c.first_number.result (omega arith) c.split_at.ensures.front c.split_at.ensures.back c.first_number.ensures.bytes in
    is_sealed _ _ _ _ cut (c.if-first_number-checksum.true ∙ c.checksum.ensures)

pub returns-then-first_number-checksum-clause-own : goal.returns-then-first_number-checksum-clause-own
returns-then-first_number-checksum-clause-own c = λ text e.
    let cut = is_cut c.args.bytes.now c.split_at.result.0.now c.split_at.result.1.now c.first_number.result (omega arith) c.split_at.ensures.front c.split_at.ensures.back c.first_number.ensures.bytes in
    is_that _ _ _ text _ cut e

pub returns-then-first_number-checksum-clause-changed : goal.returns-then-first_number-checksum-clause-changed
returns-then-first_number-checksum-clause-changed c = λ text f d.
    let cut = is_cut c.args.bytes.now c.split_at.result.0.now c.split_at.result.1.now c.first_number.result (omega arith) c.split_at.ensures.front c.split_at.ensures.back c.first_number.ensures.bytes in
    let is : c.args.bytes.now ≡ sealed c.split_at.result.0.now = is_sealed _ _ _ _ cut (c.if-first_number-checksum.true ∙ c.checksum.ensures) in
    absurd (sealed_apart text c.split_at.result.0.now f c.bytes_fit.ensures (subst (DifferInOneByte (sealed text)) is d))

pub returns-else-first_number-checksum-clause-own : goal.returns-else-first_number-checksum-clause-own
returns-else-first_number-checksum-clause-own c = λ text e.
    let cut = is_cut c.args.bytes.now c.split_at.result.0.now c.split_at.result.1.now c.first_number.result (omega arith) c.split_at.ensures.front c.split_at.ensures.back c.first_number.ensures.bytes in
    absurd (is_not_sealed _ _ _ _ c.checksum.result cut (omega arith) (omega arith) c.checksum.ensures c.if-first_number-checksum.false text e)
