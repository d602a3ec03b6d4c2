use Rattle.std.proofs.Common.{length, sym, ap, ◌<◌, ◌^◌, subst, ◌∙◌, ℕ}
use Rattle.kt_walk.specs.Pairs.{with_new}
use Rattle.kt_walk.proofs.HeldFacts.{all_counted}
use Rattle.kt_walk.proofs.NewPairs.{entries_with}
use Rattle.kt_walk.proofs.all_pairs.Pairs.count.Goals as goal

pub returns : goal.returns
returns c =
    let same = ap length (entries_with c.self.inside.pairs.items) in
    let counted = rw c.deref.ensures.value at c.count_all.ensures in
    all_counted (with_new c.self.inside.pairs.items) c.args.self.now c.count_all.result c.self.view_is c.self.invariant.0 (λ low. counted (subst (λ (n : ℕ). n < 2 ^ 64) same low) ∙ sym same)
