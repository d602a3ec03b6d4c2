use Rattle.std.proofs.Common.{◌≡◌, ◌++◌, take}
use Rattle.std.specs.List.{flat_map}
use Rattle.kt_picture.specs.Escaping.{escaped_byte}
use Rattle.kt_picture.proofs.layers.push_escaped.Given as goal

abbrev pub invariant-loop-byte : goal.invariant-loop-byte
invariant-loop-byte l = l.text.items ≡ l.fn.text.items ++ flat_map escaped_byte (take l.byte-index l.other)
