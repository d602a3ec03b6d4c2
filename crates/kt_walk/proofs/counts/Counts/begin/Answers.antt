use Rattle.std.proofs.Common.{◌≡◌, ◌+◌, ℕ, List, get_or, arith, ap, ◌∙◌}
use Rattle.kt_walk.specs.Marks.{Marking}
use Rattle.kt_walk.proofs.TreeFacts.{of_zeros, no_marks, marks_count, no_leaves, zeros_made}
use Rattle.kt_walk.proofs.counts.Counts.begin.Goals as goal

pub invariant_of-self-2 : goal.invariant_of-self-2
invariant_of-self-2 c =
    let was = no_leaves c.self.inside.nodes.items c.self.inside.width c.self.inside.base c.self.invariant.leaves (ap (λ (v : Marking). v.marks) c.self.view_is ∙ c.end.ensures) in
    let zeros : (j : ℕ) → get_or c.resize.new.self.items j 0 ≡ 0 = λ j. ap (λ (l : List ℕ). get_or l j 0) c.in_ok-resize.ensures.items ∙ zeros_made c.self.inside.nodes.items _ _ j was in
    let tree = of_zeros c.resize.new.self.items c.power_of_two-width.result c.args.before zeros (omega (arith, c.in_ok-resize.ensures.len, c.resize.new.self.ok.0)) c.power_of_two-width.ensures.power c.power_of_two-width.ensures.small (omega (arith, c.power_of_two-width.ensures.enough, c.requires.some)) in
    tree

pub returns-clause-wanted : goal.returns-clause-wanted
returns-clause-wanted c =
    let was = no_leaves c.self.inside.nodes.items c.self.inside.width c.self.inside.base c.self.invariant.leaves (ap (λ (v : Marking). v.marks) c.self.view_is ∙ c.end.ensures) in
    let zeros : (j : ℕ) → get_or c.resize.new.self.items j 0 ≡ 0 = λ j. ap (λ (l : List ℕ). get_or l j 0) c.in_ok-resize.ensures.items ∙ zeros_made c.self.inside.nodes.items _ _ j was in
    let tree = of_zeros c.resize.new.self.items c.power_of_two-width.result c.args.before zeros (omega (arith, c.in_ok-resize.ensures.len, c.resize.new.self.ok.0)) c.power_of_two-width.ensures.power c.power_of_two-width.ensures.small (omega (arith, c.power_of_two-width.ensures.enough, c.requires.some)) in
    omega (arith, marks_count c.resize.new.self.items c.power_of_two-width.result c.args.before tree.leaves, c.power_of_two-width.ensures.enough)

pub returns-clause-unset : goal.returns-clause-unset
returns-clause-unset c =
    let was = no_leaves c.self.inside.nodes.items c.self.inside.width c.self.inside.base c.self.invariant.leaves (ap (λ (v : Marking). v.marks) c.self.view_is ∙ c.end.ensures) in
    let zeros : (j : ℕ) → get_or c.resize.new.self.items j 0 ≡ 0 = λ j. ap (λ (l : List ℕ). get_or l j 0) c.in_ok-resize.ensures.items ∙ zeros_made c.self.inside.nodes.items _ _ j was in
    λ k. no_marks c.resize.new.self.items (c.power_of_two-width.result + c.args.before) zeros k
