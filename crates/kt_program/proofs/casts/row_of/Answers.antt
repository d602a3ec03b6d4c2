use Rattle.std.proofs.Common.{rules, subst}
use Rattle.std.specs.Prelude.{Ok}
use Rattle.kt_program.proofs.Casting.{all_one, all_more}
use Rattle.kt_program.proofs.casts.row_of.Goals as goal

pub loop-number-init : goal.loop-number-init
loop-number-init g c =
    let here = subst (λ r. goal.F-step g c.args.make.now c.args.kind r c.make.new.self) c.in_ok-make.was c.make.ensures in
    (search rules, all_one c.new-row.result.items c.push.new.self.items c.in_ok-make.field-0 (λ object. (before after : _) × goal.F-step g before c.args.kind (Ok object) after) (search rules) c.in_ok-push.ensures.items (c.args.make.now, c.make.new.self, here))

pub loop-number-preserved : goal.loop-number-preserved
loop-number-preserved g c =
    let here = subst (λ r. goal.F-step g c.loop-number.make c.args.kind r c.make-in-loop-number.new.self) c.in_ok-make-2.was c.make-in-loop-number.ensures in (
      search rules,
      all_more c.loop-number.row.items c.push-in-loop-number.new.self.items c.in_ok-make-2.field-0 (λ object. (before after : _) × goal.F-step g before c.args.kind (Ok object) after) c.in_ok-push-2.ensures.items c.loop-number.invariant.1
          (c.loop-number.make, c.make-in-loop-number.new.self, here),
    )
