use Rattle.std.proofs.Common.{◌∙◌, ap, sym}
use Rattle.std.specs.String.{string_bytes}
use Rattle.kt_picture.specs.Layers.{broken_text, wrong_text}
use Rattle.kt_picture.specs.Pages.{view_in}
use Rattle.kt_picture.proofs.Gathering.{same_piece, then_piece}
use Rattle.kt_picture.proofs.layers.push_breach.Goals as goal

pub returns : goal.returns
returns c =
    let t0 = string_bytes c.args.text.now in
    let t1 = string_bytes c.write.new.self in
    let t2 = string_bytes c.push_row.new.text in
    let t3 = string_bytes c.push_row-2.new.text in
    let t4 = string_bytes c.writeln.new.self in
    let view = view_in c.args.page.now in
    let s = c.shown-s.result in
    same_piece t0 t4 (wrong_text view s) _
    (then_piece t0 t1 t4 _ _ c.in_ok-write.ensures.bytes (then_piece t1 t2 t4 _ _ c.in_ok-push_row.ensures
    (then_piece t2 t3 t4 _ _ c.in_ok-push_row-2.ensures c.in_ok-writeln.ensures.bytes)))
    (ap (wrong_text view) c.shown-s.ensures ∙ ap (broken_text view) (sym c.in-Some.is))
