use Rattle.std.proofs.Common.{◌≡◌, ◌*◌, length, take, All}
use Rattle.std.specs.Prelude.{FitsSigned}
use Rattle.std.specs.Int.{w64}
use Rattle.std.specs.List.{flat_map}
use Rattle.kt_object.specs.Bytes.{number_bytes}
use Rattle.kt_object.proofs.numbers.numbers_at.Given as goal

abbrev pub invariant-loop-place : goal.invariant-loop-place
invariant-loop-place l = record {
  read : take (8 * l.place) l.bytes ≡ flat_map number_bytes l.numbers;
  count : length l.numbers ≡ l.place;
  fit : All (λ number. FitsSigned w64 number) l.numbers;
}
