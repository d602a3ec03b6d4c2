use Rattle.std.proofs.Common.{◌≡◌, ◌≤◌, ◌+◌}
use Rattle.slab.specs.Slab.{slab_len}
use Rattle.kt_object.proofs.slots.SlotBook.collect.Given as goal

-- what is left and what was freed are what there was
abbrev pub invariant-loop-number : goal.invariant-loop-number
invariant-loop-number l = record {
  slots : slab_len l.self-inside.slots + l.freed ≡ l.fn.self;
  few : l.freed ≤ l.number;
}
