use Rattle.std.proofs.Common.{◌≡◌, ◌≤◌, ◌-◌, arith, ap, sym, ◌∙◌}
use Rattle.std.proofs.lemmas.Option.{slice_get_past}
use Rattle.kt_rules.proofs.MessageTables.{is_joined, number_at}
use Rattle.kt_rules.proofs.instances.join.Goals as goal

pub returns-then-index-instances : goal.returns-then-index-instances
returns-then-index-instances c = λ v a.
    let few : 1 ≤ c.args.inst = omega (arith, c.get.ensures.value, c.get.ensures.in_range.0) in
    let index : c.get.result - 1 ≡ c.args.inst - 1 = ap (λ n. n - 1) c.get.ensures.value in
    let add = rw (← c.index-instances-index.is) at c.add.ensures in (
      c.add.new.self,
      is_joined c.args.instances.now (c.get.result - 1) c.args.inst c.args.p c.args.position c.index-instances-index.result v c.add.new.self index few c.if-index-instances.true c.index-instances-index.is a
          add.initiator add.kind add.decision add.joined add.others add.positions,
    )

pub returns-else-index-instances : goal.returns-else-index-instances
returns-else-index-instances c = λ v a.
    let few : 1 ≤ c.args.inst = omega (arith, c.get.ensures.value, c.get.ensures.in_range.0) in
    let index : c.get.result - 1 ≡ c.args.inst - 1 = ap (λ n. n - 1) c.get.ensures.value in
    let none = slice_get_past c.args.instances.now (c.get.result - 1) c.if-index-instances.false in
    absurd (cc (sym a ∙ (number_at c.args.instances.now (c.get.result - 1) c.args.inst index few ∙ none)))
