use Rattle.std.proofs.Common.{◌<◌, ◌^◌}
use Rattle.kt_text.proofs.NumberFacts.{IsReading}
use Rattle.kt_text.proofs.fields.value_of.Given as goal

abbrev pub invariant-loop-byte : goal.invariant-loop-byte
invariant-loop-byte l = record {
  reading : IsReading l.text l.byte-index l.number;
  small : l.number < 10 ^ l.byte-index;
}
