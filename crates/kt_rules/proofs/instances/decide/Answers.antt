use Rattle.std.proofs.Common.{◌≡◌, ◌≤◌, ◌-◌, arith, ap}
use Rattle.kt_rules.proofs.MessageTables.{is_decided, judged_item}
use Rattle.kt_rules.proofs.instances.decide.Goals as goal

pub returns-clause-decided : goal.returns-clause-decided
returns-clause-decided c = λ v a.
    let few : 1 ≤ c.args.inst = omega (arith, c.get.ensures.value, c.get.ensures.in_range.0) in
    let index : c.get.result - 1 ≡ c.args.inst - 1 = ap (λ n. n - 1) c.get.ensures.value in
    rw (← c.index-instances-index.is) (is_decided c.args.instances.now (c.get.result - 1) c.args.inst c.args.commit c.index-instances-index.result v index few c.if-index-instances.false c.index-instances-index.is a)

pub returns-clause-instance : goal.returns-clause-instance
returns-clause-instance c = λ v a.
    let few : 1 ≤ c.args.inst = omega (arith, c.get.ensures.value, c.get.ensures.in_range.0) in
    let index : c.get.result - 1 ≡ c.args.inst - 1 = ap (λ n. n - 1) c.get.ensures.value in
    judged_item c.args.instances.now (c.get.result - 1) c.args.inst c.args.commit c.index-instances-index.result v c.index-instances-index-2.result index few c.if-index-instances.false c.index-instances-index.is a
    (rw (← c.index-instances-index.is) at c.index-instances-index-2.is)
