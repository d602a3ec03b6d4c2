use Rattle.std.proofs.Common.{arith, refl, w64}
use Rattle.std.proofs.lemmas.Nat.{or_lt}
use Rattle.std.proofs.lemmas.Nat.Bits.{bit_at_set_same, bit_at_set_other}
use Rattle.kt_base.proofs.sets.ProcSet.with.Goals as goal

pub returns-clause-added : goal.returns-clause-added
returns-clause-added c = rw (← c.get.ensures.value, bit_at_set_same w64 c.self.inside.bits c.get.result c.get.ensures.in_range) refl

pub returns-clause-others : goal.returns-clause-others
returns-clause-others c q other =
    rw (bit_at_set_other w64 c.self.inside.bits c.get.result c.get.ensures.in_range q (rw (← c.get.ensures.value) at other), ← c.self.view_is) refl

pub invariant_of-result : goal.invariant_of-result
invariant_of-result c = or_lt 64 _ _ c.self.invariant (omega arith)
