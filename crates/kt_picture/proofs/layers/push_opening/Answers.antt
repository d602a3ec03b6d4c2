use Rattle.std.proofs.Common.{rules, ◌≡◌, ◌+◌, ◌*◌, ◌/◌}
use Rattle.std.specs.String.{string_bytes}
use Rattle.kt_picture.specs.Layers.{opening_text, width_of}
use Rattle.kt_picture.proofs.Gathering.{same_piece, then_piece}
use Rattle.kt_picture.proofs.layers.push_opening.Goals as goal

pub returns : goal.returns
returns c =
    let t0 = string_bytes c.args.text.now in
    let t1 = string_bytes c.writeln.new.self in
    let t2 = string_bytes c.writeln-2.new.self in
    let t3 = string_bytes c.writeln-3.new.self in
    let width : c.max-width.result ≡ width_of c.args.page.now.columns c.args.line = search rules in
    same_piece t0 t3 _ _ (then_piece t0 t1 t3 _ _ c.in_ok-writeln.ensures.bytes (then_piece t1 t2 t3 _ _ c.in_ok-writeln-2.ensures.bytes c.in_ok-writeln-3.ensures.bytes))
    (λ j. opening_text (width j) (c.top_of.ensures.exact j + 18 * ((c.requires.exact j + 1) / 2)))
