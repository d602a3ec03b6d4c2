use Rattle.std.proofs.Common.{rules, ◌≡◌, ◌∙◌, sym, refl, length, arith, vec_len}
use Rattle.kt_core.proofs.Nexts.{nothing_built, one_more_from_end}
use Rattle.kt_core.proofs.agenda.places.Goals as goal

pub loop-back-init : goal.loop-back-init
loop-back-init c = λ i e.
    let v : vec_len c.in_ok-following.following ≡ length c.in_ok-following.following.items = search rules in
    nothing_built c.args.commands.now c.in_ok-following.following.items (length c.args.commands.now) i refl (sym v ∙ c.in_ok-following.ensures.len) e

pub loop-back-preserved : goal.loop-back-preserved
loop-back-preserved c = λ i e. one_more_from_end c.args.commands.now c.loop-back.next c.loop-back.following.items (length c.args.commands.now) c.loop-back.back i c.index-by.result c.index-commands-place.result
    refl e c.index-by.ensures.value c.index-by.ensures.in_range c.loop-back.invariant

pub returns : goal.returns
returns c = record { places = c.loop-back.invariant 0 (omega (arith, c.loop-back-test.false, c.loop-back.auto.back-end)) }
