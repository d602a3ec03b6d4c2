use Rattle.std.proofs.Common.{ℕ, ◌≤◌, sym, subst, ◌∙◌, ◌-◌}
use Rattle.std.proofs.lemmas.Option.{slice_get_read}
use Rattle.kt_meaning.specs.Past.{past}
use Rattle.kt_meaning.proofs.Items.{some_same}
use Rattle.kt_certify.specs.Instances.{InstanceParts, decided_as}
use Rattle.kt_certify.specs.Stops.{HasChains}
use Rattle.kt_certify.proofs.AtNumber.{set_number, left_number, number_there, number_past}
use Rattle.kt_certify.proofs.pass.decide.Goals as goal
use Rattle.kt_certify.proofs.pass.decide.Goals.{then-index-len+in_ok-decide, else-index-len}

pub returns-clause-decided : goal.returns-clause-decided
returns-clause-decided c = elim c.if-index-len.branch [
  | then-index-len+in_ok-decide w ↦ λ rows h.
      let es = c.args.instances.now.items in
      let at = slice_get_read es c.len.result (c.get.result - 1) w.index_mut.result.now (c.len.ensures ∙ c.args.instances.now.ok.0) w.if-index-len.true w.index_mut.ensures.value in
      (λ i. (w.instances-is i).items) ∙ set_number es c.get.result c.args.inst (decided_as (past rows) c.args.inst c.args.commit) w.index_mut.result.now w.decide.new.self c.get.ensures.value c.get.ensures.in_range.0 at (w.in_ok-decide.ensures.decided rows h)
  | else-index-len w ↦ λ rows h.
      (λ i. (w.instances-is i).items) ∙ left_number c.args.instances.now.items c.get.result c.args.inst (decided_as (past rows) c.args.inst c.args.commit) c.get.ensures.value c.get.ensures.in_range.0 (subst (λ (n : ℕ). n ≤ c.get.result - 1) (c.len.ensures ∙ c.args.instances.now.ok.0) w.if-index-len.false)
]

pub returns-clause-chained : goal.returns-clause-chained
returns-clause-chained c = elim c.if-index-len.branch [
  | then-index-len+in_ok-decide w ↦ λ rows e h commit there.
      let es = c.args.instances.now.items in
      let at = slice_get_read es c.len.result (c.get.result - 1) w.index_mut.result.now (c.len.ensures ∙ c.args.instances.now.ok.0) w.if-index-len.true w.index_mut.ensures.value in
      subst (λ (x : InstanceParts). HasChains (past rows) c.args.inst x) (some_same (sym (number_there es c.get.result c.args.inst w.index_mut.result.now c.get.ensures.value c.get.ensures.in_range.0 at) ∙ there)) (w.in_ok-decide.ensures.chained rows h commit)
  | else-index-len w ↦ λ rows e h commit there.
      absurd (number_past c.args.instances.now.items c.get.result c.args.inst e c.get.ensures.value c.get.ensures.in_range.0 (subst (λ (n : ℕ). n ≤ c.get.result - 1) (c.len.ensures ∙ c.args.instances.now.ok.0) w.if-index-len.false) there)
]
