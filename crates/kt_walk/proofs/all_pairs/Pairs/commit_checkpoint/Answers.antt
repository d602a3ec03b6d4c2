use Rattle.std.proofs.Common.{List, length, sym, ap, subst, ◌∙◌}
use Rattle.kt_base.specs.declared.words.Kind.TheVariants.{Checkpoint}
use Rattle.kt_walk.specs.Pairs.{PairState, ShowsPairs, IsPairCommitted, with_new}
use Rattle.kt_meaning.proofs.Items.{written}
use Rattle.kt_walk.proofs.PairsFacts.{pairs_kept, permanent_pairs}
use Rattle.kt_walk.proofs.NewPairs.{changed_with}
use Rattle.kt_walk.proofs.UsedFacts.{idle_stays}
use Rattle.kt_walk.proofs.all_pairs.Pairs.commit_checkpoint.Goals as goal

pub returns : goal.returns
returns c = λ s p k h makes.
    let items = c.self.inside.pairs.items in
    let was = c.deref_mut.ensures.value in
    let count = rw was at c.commit_all.ensures.count in
    let whole = written c.self.inside.pairs.len c.commit_all.new.pairs items (c.commit_all.ensures.count ∙ (ap length was ∙ sym c.self.inside.pairs.ok.0)) in
    let changed = changed_with (IsPairCommitted Checkpoint c.args.members c.args.permanent.now) items c.commit_all.new.pairs (idle_stays Checkpoint c.args.members c.args.permanent.now) count (rw was at c.commit_all.ensures.each) in
    rw whole (permanent_pairs (with_new items) (with_new c.commit_all.new.pairs) s p k c.args.members c.args.permanent.now c.self.invariant.0 changed.0 changed.1
    (subst (λ (x : List PairState). ShowsPairs x s) (sym c.self.view_is) h) makes)

pub invariant_of-self : goal.invariant_of-self
invariant_of-self c =
    let items = c.self.inside.pairs.items in
    let was = c.deref_mut.ensures.value in
    let count = rw was at c.commit_all.ensures.count in
    let whole = written c.self.inside.pairs.len c.commit_all.new.pairs items (c.commit_all.ensures.count ∙ (ap length was ∙ sym c.self.inside.pairs.ok.0)) in
    let changed = changed_with (IsPairCommitted Checkpoint c.args.members c.args.permanent.now) items c.commit_all.new.pairs (idle_stays Checkpoint c.args.members c.args.permanent.now) count (rw was at c.commit_all.ensures.each) in
    rw whole (pairs_kept (with_new items) (with_new c.commit_all.new.pairs) c.self.invariant.0 changed.0 (λ i w e. let v = changed.1 i w e in (v.0, v.1, v.2.receiver, v.2.sender)), c.commit_all.ensures.in_use)
