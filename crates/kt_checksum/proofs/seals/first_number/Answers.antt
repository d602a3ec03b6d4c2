use Rattle.std.proofs.Common.{◌≡◌, ◌<◌, ℕ, length, take, get_or, arith, rules, length-take-le}
use Rattle.std.specs.Int.{w32, from_le_bytes}
use Rattle.std.proofs.lemmas.Nat.{le_bytes_4}
use Rattle.kt_checksum.proofs.SealedTexts.{front_fits}
use Rattle.kt_checksum.proofs.seals.first_number.Goals as goal

pub returns-clause-bytes : goal.returns-clause-bytes
returns-clause-bytes c =
    let bytes = c.args.bytes.now in
    let number : c.from_le_bytes.result ≡ from_le_bytes w32 (take 4 bytes) = search rules in
    let long : length (take 4 bytes) ≡ 4 = length-take-le 4 bytes (omega arith) in
    let fits : (i : ℕ) → get_or (take 4 bytes) i 0 < 256 = front_fits bytes (λ i. omega (arith, c.type_inv.bytes i)) in
    le_bytes_4 (take 4 bytes) c.from_le_bytes.result long fits number
