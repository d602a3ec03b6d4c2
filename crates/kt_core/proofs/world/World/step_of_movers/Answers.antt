use Rattle.std.specs.Prelude.{slice_get}
use Rattle.std.proofs.Common.{◌≡◌, ◌+◌, ◌∙◌, ℕ, Some, arith, ap, sym, subst}
use Rattle.std.proofs.lemmas.Option.{slice_get_past}
use Rattle.kt_core.specs.Choices.{choices}
use Rattle.kt_core.specs.Worlds.{World}
use Rattle.kt_core.proofs.Counted.{counted_none, counted_more, counted_all, counted_to_end, counted_step}
use Rattle.kt_core.proofs.world.World.step_of_movers.Goals as goal

pub loop-number-init : goal.loop-number-init
loop-number-init c = (0, counted_none c.args.self.now c.args.movers c.requires, omega arith)

pub loop-number-preserved : goal.loop-number-preserved
loop-number-preserved c =
    let inv = c.loop-number.invariant in
    let is = inv.2 in
    let past = c.if-after-count.false in (
      inv.0 + c.count_of-count.result,
      counted_more c.args.self.now c.loop-number.left inv.0 c.loop-number._number inv.1 c.without-left.result c.in_ok-p.p c.count_of-count.result c.in_ok-p.ensures.member c.in_ok-p.ensures.least c.without-left.ensures.removed c.without-left.ensures.others c.count_of-count.ensures.count,
      omega (arith, is, past),
    )

pub returns-in_err-p : goal.returns-in_err-p
returns-in_err-p c =
    let inv = c.loop-number.invariant in
    let all = counted_all c.args.self.now c.loop-number.left inv.0 c.loop-number._number inv.1 c.in_err-p.ensures.none in
    let is = inv.2 in
    c.from_residual.ensures ∙ sym (slice_get_past (choices c.args.self.now) c.args.place (omega (arith, all, is)))

pub returns-then-after-count : goal.returns-then-after-count
returns-then-after-count c =
    let inv = c.loop-number.invariant in
    sym (subst (λ (i : ℕ). slice_get (choices c.args.self.now) i ≡ Some c.step_at.result) inv.2
    (counted_step c.args.self.now c.loop-number.left inv.0 c.loop-number._number inv.1 c.in_ok-p.p c.loop-number.after c.step_at.result c.in_ok-p.ensures.member c.in_ok-p.ensures.least c.step_at.ensures))

pub returns : goal.returns
returns c =
    let inv = c.loop-number.invariant in
    let all = c.processes-number-end.ensures.processes in
    let over = c.loop-number-test.false in
    let size = ap (λ (w : World). w.system.size) c.self.view_is in
    let counted = counted_to_end c.args.self.now c.loop-number.left inv.0 c.loop-number._number inv.1 (omega (arith, all, over, size)) in
    let is = inv.2 in
    sym (slice_get_past (choices c.args.self.now) c.args.place (omega (arith, counted, is)))
