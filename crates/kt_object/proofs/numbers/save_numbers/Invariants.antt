use Rattle.std.proofs.Common.{◌≡◌, ◌≤◌, ◌+◌, ◌-◌, ◌*◌, ◌∷◌, ◌++◌, length, take, vec_len, vec_capacity}
use Rattle.std.specs.List.{flat_map}
use Rattle.kt_object.specs.Bytes.{number_bytes}
use Rattle.kt_object.proofs.numbers.save_numbers.Given as goal

abbrev pub invariant-loop-number : goal.invariant-loop-number
invariant-loop-number l = record {
  items : l.out.items ≡ l.fn.out.items ++ l.kind ∷ length l.numbers ∷ flat_map number_bytes (take l.number-index l.numbers);
  room : vec_len l.out + 8 * (length l.numbers - l.number-index) ≤ vec_capacity l.out;
}
