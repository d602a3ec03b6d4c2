use Rattle.std.proofs.Common.{arith, ◌<◌, ◌∙◌, ◌++◌, List, length, ap}
use Rattle.std.proofs.lemmas.List.{length-map}
use Rattle.kt_report.specs.Unwilling.{UnwillingAnswer, unwilling_in, answers_to}
use Rattle.kt_spacetime.specs.declared.event.Event.TheVariants as event
use Rattle.kt_report.proofs.AnswerFacts.{answers-more}
use Rattle.kt_report.proofs.unwilling.Unwilling.push.Goals as goal

pub returns : goal.returns
returns c other known =
    let lists = c.self.inside.lists.items in
    let within : c.index-place.result < length lists = omega (arith, c.requires, c.index-place.ensures.value, ap length c.self.view_is, length-map lists (λ v. v.items)) in
    answers-more (λ v. v.items) lists c.index-place.result c.index_mut-list.result.now c.push.new.self c.args.inst other (c.args.p, c.args.cause) within c.index-place.ensures.value known.0
    c.index_mut-list.ensures.value c.in_ok-push.ensures.items
    ∙ ap (λ (l : List (List UnwillingAnswer)). answers_to l other ++ unwilling_in other (event.Unwilling c.args.p c.args.inst c.args.cause)) c.self.view_is
