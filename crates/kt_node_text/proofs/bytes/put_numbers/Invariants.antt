use Rattle.std.specs.Int.{w64, to_le_bytes}
use Rattle.kt_node_text.proofs.Rests.{IsWithRest}
use Rattle.std.proofs.Common.{◌*◌, ◌+◌, ◌≤◌, length, vec_len}
use Rattle.std.specs.Prelude.{vec_capacity}
use Rattle.kt_node_text.proofs.bytes.put_numbers.Given as goal

abbrev pub invariant-loop-number : goal.invariant-loop-number
invariant-loop-number l =
    (IsWithRest (to_le_bytes w64) l.fn.out.items l.numbers l.number-index l.out.items)
    × (vec_len l.out + 8 * length l.numbers + 4 ≤ vec_capacity l.out + 8 * l.number-index)
