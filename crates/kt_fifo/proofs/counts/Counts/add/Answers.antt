use Rattle.std.specs.Prelude.{slice_index}
use Rattle.std.proofs.Common.{List, ℕ, ap, ◌∙◌, ◌/◌, arith}
use Rattle.kt_fifo.proofs.Counting.{sums_set, eight_few}
use Rattle.kt_fifo.proofs.counts.Counts.add.Goals as goal

pub overflow_add-self-2 : goal.overflow_add-self-2
overflow_add-self-2 c = omega (arith, eight_few c.self.inside.each c.self.inside.eights (c.index-place.result / 8) c.self.invariant (omega arith))

pub invariant_of-self : goal.invariant_of-self
invariant_of-self c =
    let here = ap (λ (n : ℕ). slice_index c.self.inside.each n) c.index-place.ensures.value ∙ ap (λ (l : List ℕ). slice_index l c.args.p) c.self.view_is in
    sums_set c.self.inside.each c.self.inside.eights c.index-place.result (c.index-place.result / 8) _ _ c.self.invariant (omega arith) (omega arith) (omega arith) (omega arith) (omega (arith, here, c.requires)) (omega (arith, here, c.requires))
