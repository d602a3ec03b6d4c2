use Rattle.std.proofs.Common.{◌≡◌, ◌∙◌, Option, None, Some, arith, subst, sym}
use Rattle.kt_picture.specs.declared.diagram.Sheet.{Sheet}
use Rattle.kt_draw.specs.Followed.{ShowsWindow}
use Rattle.kt_draw.proofs.Following.{sheet_open}
use Rattle.kt_draw.proofs.Fronts.{ok_weaker}
use Rattle.kt_draw.proofs.drawing.Followed.sheet.Goals as goal

pub sheet-requires : goal.sheet-requires
sheet-requires c =
    let had = c.requires.few in
    record { few = omega (arith, had.1.walk.control.number, had.2) }

pub returns-in-Some-clause-exact : goal.returns-in-Some-clause-exact
returns-in-Some-clause-exact c = λ rows h begun.
    let f = c.args.self.now in
    let is : f.sheet ≡ Some c.in-Some.sheet = sym c.take.ensures.value ∙ c.in-Some.is in
    (subst (λ (o : Option Sheet). ShowsWindow o f.diagram f.walk f.before f.last rows) is h.window).1

pub returns-in-None-clause-exact : goal.returns-in-None-clause-exact
returns-in-None-clause-exact c =
    let f = c.args.self.now in
    let is : f.sheet ≡ None = sym c.take.ensures.value ∙ c.in-None.is in
    ok_weaker c.sheet.result _ _ c.sheet.ensures.exact
    (λ s made rows h begun. sheet_open s f.diagram f.walk f.before f.last rows (subst (λ (o : Option Sheet). ShowsWindow o f.diagram f.walk f.before f.last rows) is h.window) begun made)
