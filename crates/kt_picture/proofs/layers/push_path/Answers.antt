use Rattle.std.proofs.Common.{◌++◌, codes}
use Rattle.std.specs.Fmt.{decimal}
use Rattle.std.specs.String.{string_bytes}
use Rattle.kt_picture.proofs.Gathering.{same_piece, then_piece}
use Rattle.kt_picture.proofs.layers.push_path.Goals as goal

pub returns : goal.returns
returns c =
    let t0 = string_bytes c.args.text.now in
    let t1 = string_bytes c.write.new.self in
    let t2 = string_bytes c.push_reason.new.text in
    let t3 = string_bytes c.writeln.new.self in
    then_piece t0 t1 t3 _ _ (same_piece t0 t1 _ _ c.in_ok-write.ensures.bytes (λ j. codes "<g><title>row " ++ (decimal c.args.s.now.row ++ (codes ": " ++ c.in_ok-fields.ensures j))))
    (then_piece t1 t2 t3 _ _ c.in_ok-push_reason.ensures c.in_ok-writeln.ensures.bytes)
