use Rattle.std.proofs.Common.{◌∙◌, ap, sym}
use Rattle.std.specs.String.{string_bytes}
use Rattle.kt_picture.specs.declared.layers.Layer.{Layer}
use Rattle.kt_picture.specs.Layers.{row_mark, titled_if, titled_text}
use Rattle.kt_picture.specs.declared.looks.Place.{Place}
use Rattle.kt_picture.specs.Marks.{figure_at, place_at}
use Rattle.kt_picture.specs.Pages.{view_in}
use Rattle.kt_picture.proofs.Gathering.{gathered, same_piece}
use Rattle.kt_picture.proofs.layers.push_row.Goals as goal

pub returns-in-Some : goal.returns-in-Some
returns-in-Some c =
    let t0 = string_bytes c.args.text.now in
    let t1 = string_bytes c.push_path.new.text in
    let view = view_in c.args.page.now in
    gathered c.push_path.result c.push_path.ensures (λ e. same_piece t0 t1 _ _ e (ap (titled_if view c.args.s.now) (sym c.in-Some.is ∙ c.arrow_at.ensures) ∙ ap (λ (l : Layer). row_mark l view c.args.s.now) (sym c.in-Arrows.is)))

pub returns-in-Figures : goal.returns-in-Figures
returns-in-Figures c =
    let t0 = string_bytes c.args.text.now in
    let t1 = string_bytes c.push_path-in-Figures.new.text in
    let view = view_in c.args.page.now in
    let s = c.args.s.now in
    let figure = c.figure_at.ensures ∙ ap (λ (at : Place). figure_at at s s.event) (c.place-at.ensures ∙ ap (place_at view s.column) c.process-in-Figures.ensures) in
    gathered c.push_path-in-Figures.result c.push_path-in-Figures.ensures (λ e. same_piece t0 t1 _ _ e (ap (titled_text view s) figure ∙ ap (λ (l : Layer). row_mark l view s) (sym c.in-Figures.is)))
