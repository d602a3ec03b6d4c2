use Rattle.std.proofs.Common.{Option, refl, subst}
use Rattle.kt_spacetime.specs.declared.unfit.Unfit.{Unfit}
use Rattle.kt_explain.specs.Judging.{IsUnlinkedOr}
use Rattle.kt_explain.proofs.judging.answer_by.Goals.{else-at_rest-via-then-at_rest+else-leaves_open, else-at_rest-via-else-at_rest}
use Rattle.kt_explain.proofs.judging.answer_by.Goals as goal

pub returns-then-leaves_open : goal.returns-then-leaves_open
returns-then-leaves_open c = λ rows named list basis told.
    let judging = subst (λ (why : Option Unfit). IsUnlinkedOr rows named why list) c.in_default.is basis in
    let left = c.if-leaves_open.ensures rows list c.args.verdict (told c.if-at_rest.true) in
    (left.0, judging, c.if-at_rest.true, left.1)

pub returns : goal.returns
returns c = λ rows named list basis told.
    let judging = subst (λ (why : Option Unfit). IsUnlinkedOr rows named why list) c.in_default.is basis in (
      refl,
      judging,
      λ strict yes. elim c.else-at_rest.branch [
        | else-at_rest-via-then-at_rest+else-leaves_open w ↦ w.if-leaves_open.ensures rows list c.args.verdict (told strict) yes
        | else-at_rest-via-else-at_rest w ↦ absurd (cc (strict, w.if-at_rest.false))
      ],
    )
