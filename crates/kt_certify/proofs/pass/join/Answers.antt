use Rattle.std.proofs.Common.{ℕ, ◌≤◌, subst, ◌∙◌, ◌-◌}
use Rattle.std.proofs.lemmas.Option.{slice_get_read}
use Rattle.kt_certify.specs.Instances.{joined_by}
use Rattle.kt_certify.proofs.AtNumber.{set_number, left_number}
use Rattle.kt_certify.proofs.pass.join.Goals as goal

pub returns-in_ok-join : goal.returns-in_ok-join
returns-in_ok-join c =
    let es = c.args.instances.now.items in
    let at = slice_get_read es c.len.result (c.get.result - 1) c.index_mut.result.now (c.len.ensures ∙ c.args.instances.now.ok.0) c.if-index-len.true c.index_mut.ensures.value in
    set_number es c.get.result c.args.inst (joined_by c.args.p) c.index_mut.result.now c.join.new.self c.get.ensures.value c.get.ensures.in_range.0 at c.in_ok-join.ensures

pub returns-else-index-len : goal.returns-else-index-len
returns-else-index-len c = left_number c.args.instances.now.items c.get.result c.args.inst (joined_by c.args.p) c.get.ensures.value c.get.ensures.in_range.0 (subst (λ (n : ℕ). n ≤ c.get.result - 1) (c.len.ensures ∙ c.args.instances.now.ok.0) c.if-index-len.false)
