use Rattle.std.proofs.Common.{◌≡◌, ◌<◌, ℕ, length, take, get_or, arith, rules, length-take-le}
use Rattle.std.specs.Int.{w64, from_le_bytes}
use Rattle.std.proofs.lemmas.Nat.{le_bytes_8}
use Rattle.kt_node_text.proofs.Words.{front_fits}
use Rattle.kt_node_text.proofs.bytes.first_number.Goals as goal

pub returns-clause-bytes : goal.returns-clause-bytes
returns-clause-bytes c =
    let bytes = c.args.bytes.now in
    let number : c.from_le_bytes.result ≡ from_le_bytes w64 (take 8 bytes) = search rules in
    let long : length (take 8 bytes) ≡ 8 = length-take-le 8 bytes (omega arith) in
    let fits : (i : ℕ) → get_or (take 8 bytes) i 0 < 256 = front_fits bytes (λ i. omega (arith, c.type_inv.bytes i)) in
    le_bytes_8 (take 8 bytes) c.from_le_bytes.result long fits number
