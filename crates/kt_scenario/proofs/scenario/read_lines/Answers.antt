use Rattle.std.proofs.Common.{◌∙◌, ℕ, List, Bor, ap, arith, length}
use Rattle.std.specs.Prelude.{Option, option_map}
use Rattle.kt_scenario.specs.Draft.{said_of}
use Rattle.kt_scenario.specs.Lines.{lines_of, lines_left}
use Rattle.kt_scenario.specs.Said.{nothing_said}
use Rattle.kt_scenario.specs.Scenario.{Says}
use Rattle.kt_scenario.proofs.LineFacts.{gathers_more, fewer_left, bytes_left}
use Rattle.kt_scenario.proofs.scenario.read_lines.Goals as goal

pub loop-left-preserved : goal.loop-left-preserved
loop-left-preserved c =
    let now : Bor (List ℕ) → List ℕ = λ text. text.now in
    let known = c.loop-left.invariant in
    let split = ap (λ (o : Option (Bor (List ℕ))). lines_left (option_map now o)) c.in-Some.is ∙ c.split_line.ensures.line in
    let was = ap (λ (o : Option (Bor (List ℕ))). bytes_left (option_map now o)) c.in-Some.is in
    let short = fewer_left now c.split_line.result.1 (length c.in-Some.text.now) c.split_line.ensures.shorter in (
      gathers_more Says nothing_said (lines_of c.args.text.now) (said_of c.loop-left.draft) _ c.loop-left.number c.split_line.result.0.now (lines_left (option_map now c.split_line.result.1)) (said_of c.note_line.new.draft) known.0 split c.in_default-note_line.ensures.ok,
      omega (arith, known.1, c.in_default-note_line.ensures.phase),
      omega (arith, known.2, was, short),
    )
