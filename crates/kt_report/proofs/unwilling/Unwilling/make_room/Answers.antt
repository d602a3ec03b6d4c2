use Rattle.std.proofs.Common.{◌∙◌, length, ap, arith}
use Rattle.std.proofs.lemmas.List.{length_push}
use Rattle.kt_report.proofs.AnswerFacts.{answers_kept}
use Rattle.kt_report.proofs.unwilling.Unwilling.make_room.Goals as goal

pub loop-preserved : goal.loop-preserved
loop-preserved c =
    let more = c.in_ok-push.ensures.items in
    let long = ap length more ∙ length_push c.loop.self-inside.lists.items c.new.result in
    (let so_far = c.loop.invariant.0 in omega (arith, long, so_far), λ other. answers_kept (λ v. v.items) _ _ c.new.result other more c.new.ensures.items ∙ c.loop.invariant.1 other)
