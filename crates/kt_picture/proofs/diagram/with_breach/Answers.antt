use Rattle.std.proofs.Common.{◌∙◌, ◌++◌, ap, sym, Option}
use Rattle.kt_picture.specs.declared.window.BrokenRow.{BrokenRow}
use Rattle.kt_picture.specs.BrokenRow.{breach_rows}
use Rattle.kt_picture.specs.Lanes.{is_named}
use Rattle.kt_picture.proofs.DiagramFacts.{named_none, named_push}
use Rattle.kt_picture.proofs.diagram.with_breach.Goals as goal

pub returns-in-Some : goal.returns-in-Some
returns-in-Some c = λ rows h q l.
    named_push c.args.named c.with_named.result rows c.in-Some.breach.event h c.with_named.ensures q l
    ∙ ap (λ (b : Option BrokenRow). is_named (rows ++ breach_rows b) q) (sym c.in-Some.is)

pub returns-in-None : goal.returns-in-None
returns-in-None c = λ rows h q l. named_none c.args.named rows h q l ∙ ap (λ (b : Option BrokenRow). is_named (rows ++ breach_rows b) q) (sym c.in-None.is)
