use Rattle.std.proofs.Common.{ℕ, max, ◌∙◌, ap, ap₂, subst, arith, rules, ◌<◌, length}
use Rattle.std.specs.Prelude.{slice_index, slice_set}
use Rattle.kt_node.proofs.Reaching.{reach_receives}
use Rattle.kt_node.proofs.reach.Reach.receive.Goals as goal

pub returns : goal.returns
returns c = λ calls h.
    let small : c.args.from < 64 = subst (λ (n : ℕ). n < 64) c.index-2.ensures.value c.index-2.ensures.in_range in
    let within : c.args.from < length c.args.self.now.received = first_of (omega arith, search rules) in
    reach_receives c.args.self.now calls c.args.from c.args.label c.max.result _ (ap (λ (i : ℕ). slice_set c.args.self.now.received i c.max.result) c.index-2.ensures.value)
    (c.max.ensures ∙ ap₂ (λ (i l : ℕ). max (slice_index c.args.self.now.received i) l) c.index.ensures.value c.get.ensures.value) within small h
