use Rattle.std.specs.String.{string_bytes}
use Rattle.kt_picture.proofs.Gathering.{gathered, then_piece}
use Rattle.kt_picture.proofs.layers.push_marks.Goals as goal

pub returns : goal.returns
returns c =
    let t0 = string_bytes c.args.text.now in
    let t1 = string_bytes c.writeln.new.self in
    let t2 = string_bytes c.push_rows.new.text in
    let t3 = string_bytes c.push_lanes.new.text in
    let t4 = string_bytes c.push_cuts.new.text in
    let t5 = string_bytes c.push_rows-2.new.text in
    let t6 = string_bytes c.push_rows-3.new.text in
    let t7 = string_bytes c.push_breach.new.text in
    gathered c.push_breach.result c.push_breach.ensures (λ e. then_piece t0 t1 t7 _ _ c.in_ok-writeln.ensures.bytes (then_piece t1 t2 t7 _ _ c.in_ok-push_rows.ensures (then_piece t2 t3 t7 _ _ c.in_ok-push_lanes.ensures (then_piece t3 t4 t7 _ _ c.in_ok-push_cuts.ensures (then_piece t4 t5 t7 _ _ c.in_ok-push_rows-2.ensures (then_piece t5 t6 t7 _ _ c.in_ok-push_rows-3.ensures e))))))
