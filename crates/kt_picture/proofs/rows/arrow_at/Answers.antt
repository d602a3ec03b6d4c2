use Rattle.std.proofs.Common.{◌≡◌, ◌∙◌, Bool, Some, None, ap, sym}
use Rattle.std.specs.Prelude.{if◌then◌else◌, nat_lt}
use Rattle.kt_picture.specs.declared.looks.Look.TheVariants as look
use Rattle.kt_picture.specs.declared.looks.Outline.TheVariants as outline
use Rattle.kt_picture.specs.Looks.{path_at}
use Rattle.kt_picture.specs.Marks.{arrow_at, place_at, short_arrow}
use Rattle.kt_picture.specs.Pages.{view_in}
use Rattle.kt_picture.proofs.rows.arrow_at.Goals as goal

pub returns-in-Sent : goal.returns-in-Sent
returns-in-Sent c =
    let view = view_in c.args.page.now in
    let s = c.args.s.now in
    let p = c.in-Sent.p in
    let to = c.in-Sent.to in
    let from = c.place-from.ensures ∙ ap (place_at view s.column) c.process.ensures in
    let path : c.at.result ≡ short_arrow view s p to = c.at.ensures ∙ (λ j. path_at (from j) look.Way None (outline.Way (nat_lt (c.of.ensures j) (c.of-in-Sent.ensures j)))) in
    ap Some path ∙ ap (λ (b : Bool). if b then Some (short_arrow view s p to) else None) (sym c.if-s.true) ∙ ap (arrow_at view s) (sym c.in-Sent.is)
