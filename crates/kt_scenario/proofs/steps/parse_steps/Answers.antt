use Rattle.std.proofs.Common.{◌∙◌, ℕ, List, [], Bor, ap, subst, arith, length}
use Rattle.std.specs.Prelude.{Option, option_map}
use Rattle.kt_scenario.specs.Lines.{lines_of, lines_left, SaysLine}
use Rattle.kt_scenario.specs.Steps.{StepSays}
use Rattle.kt_scenario.proofs.LineFacts.{gathers_more, fewer_left, bytes_left}
use Rattle.kt_plan.specs.Limits.{Planned}
use Rattle.kt_scenario.proofs.steps.parse_steps.Goals as goal

pub loop-left-preserved : goal.loop-left-preserved
loop-left-preserved c =
    let now : Bor (List ℕ) → List ℕ = λ text. text.now in
    let known = c.loop-left.invariant in
    let split = ap (λ (o : Option (Bor (List ℕ))). lines_left (option_map now o)) c.in-Some.is ∙ c.split_line.ensures.line in
    let was = ap (λ (o : Option (Bor (List ℕ))). bytes_left (option_map now o)) c.in-Some.is in
    let short = fewer_left now c.split_line.result.1 (length c.in-Some.text.now) c.split_line.ensures.shorter in
    let names = ap (λ (plan : Planned). plan.names) c.plan.view_is in
    let says = subst (λ (names : List (List ℕ)). SaysLine (StepSays names) c.loop-left.steps.items c.split_line.result.0.now c.note_line.new.steps.items) names c.in_default-note_line.ensures.ok in (
      gathers_more (StepSays c.args.plan.now.names) [] (lines_of c.args.text.now) c.loop-left.steps.items _ c.loop-left.number c.split_line.result.0.now (lines_left (option_map now c.split_line.result.1)) c.note_line.new.steps.items known.0 split says,
      omega (arith, known.1, was, short),
    )
