use Rattle.std.proofs.Common.{◌≡◌, ◌+◌, ◌≤◌, ◌∷◌, ◌++◌, [], ℕ, Some, List, map, take, length, refl, sym, ap, subst, ◌∙◌, arith}
use Rattle.std.specs.List.{slice_get}
use Rattle.std.proofs.lemmas.List.{map-append, take-take}
use Rattle.std.proofs.lemmas.Option.{slice_get_read}
use Rattle.kt_meaning.proofs.Items.{take_item}
use Rattle.kt_checker.specs.declared.path.Step.{Step}
use Rattle.kt_checker.specs.Followed.{message_of}
use Rattle.kt_checker.proofs.Links.{same_from}
use Rattle.kt_checker.proofs.path.Path.front.Goals as goal

pub loop-index-preserved : goal.loop-index-preserved
loop-index-preserved c =
    let steps = c.self.inside.steps in
    let messages = c.args.messages.now in
    let i = c.loop-index.index in
    let step = c.index-self-index.result in
    let msg = c.index-messages-index.result in
    let low : i + 1 ≤ length messages = omega (arith, c.loop-index-test.true, c.min-most.ensures) in
    let within : i + 1 ≤ length steps = omega (arith, c.loop-index-test.true, c.min-most.ensures, c.self.invariant.0, c.self.invariant.1) in
    let step_at : slice_get steps i ≡ Some step = slice_get_read steps (length steps) i step refl (omega (arith, within)) c.index-self-index.is in
    let msg_at : slice_get messages i ≡ Some msg = slice_get_read messages (length messages) i msg refl (omega (arith, low)) c.index-messages-index.is in
    let same : step.msg ≡ msg = ap (λ (x : Step). x.msg) c.index-self-index.is ∙ same_from _ msg (sym c.if-ne.false ∙ c.ne.ensures) in
    ap (map message_of) (take_item steps i (i + 1) step refl step_at) ∙ (map-append message_of (take i steps) (step ∷ [])
    ∙ ((λ j. c.loop-index.invariant j ++ same j ∷ []) ∙ sym (take_item messages i (i + 1) msg refl msg_at)))

pub returns-then-ne-clause-same : goal.returns-then-ne-clause-same
returns-then-ne-clause-same c =
    let low : c.loop-index.index ≤ c.self.inside.length = omega (arith, c.loop-index-test.true, c.min-most.ensures) in
    ap (λ (l : List Step). map message_of (take c.loop-index.index l)) (sym c.self.view_is) ∙ (ap (map message_of) (take-take c.loop-index.index c.self.inside.length c.self.inside.steps low) ∙ c.loop-index.invariant)

pub returns-clause-same : goal.returns-clause-same
returns-clause-same c =
    let low : c.min-most.result ≤ c.self.inside.length = omega (arith, c.min-most.ensures) in
    let all : c.loop-index.index ≡ c.min-most.result = omega (arith, c.loop-index-test.false, c.loop-index.auto.index-end) in
    ap (λ (l : List Step). map message_of (take c.min-most.result l)) (sym c.self.view_is) ∙ (ap (map message_of) (take-take c.min-most.result c.self.inside.length c.self.inside.steps low)
    ∙ subst (λ (n : ℕ). map message_of (take n c.self.inside.steps) ≡ take n c.args.messages.now) all c.loop-index.invariant)
