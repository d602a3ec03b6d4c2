use Rattle.std.proofs.Common.{◌<◌, ℕ}
use Rattle.kt_explain.specs.Compared.{SameAt}
use Rattle.kt_explain.proofs.compared.first_unlike.Given as goal

abbrev pub invariant-loop-index : goal.invariant-loop-index
invariant-loop-index l = (n : ℕ) → n < l.index → SameAt l.chains l.listed l.meant n
