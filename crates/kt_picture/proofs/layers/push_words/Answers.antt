use Rattle.std.proofs.Common.{◌∙◌, ◌∷◌, [], ap, codes}
use Rattle.std.specs.Fmt.{decimal}
use Rattle.std.specs.List.{concat}
use Rattle.std.specs.String.{string_bytes}
use Rattle.kt_picture.specs.Layers.{legend_text}
use Rattle.kt_picture.specs.Looks.{y_of}
use Rattle.kt_picture.specs.Texts.{drawn}
use Rattle.kt_picture.proofs.Gathering.{same_piece, then_piece}
use Rattle.kt_picture.proofs.layers.push_words.Goals as goal

pub returns : goal.returns
returns c =
    let t0 = string_bytes c.args.text.now in
    let t1 = string_bytes c.writeln.new.self in
    let t2 = string_bytes c.push_lanes.new.text in
    let t3 = string_bytes c.push_rows.new.text in
    let t4 = string_bytes c.push_word.new.text in
    let t5 = string_bytes c.push_legend.new.text in
    let t6 = string_bytes c.write.new.self in
    let y = c.y_of-y.ensures ∙ ap y_of c.count.ensures in
    then_piece t0 t1 t6 _ _ c.in_ok-writeln.ensures.bytes (then_piece t1 t2 t6 _ _ c.in_ok-push_lanes.ensures (then_piece t2 t3 t6 _ _ c.in_ok-push_rows.ensures
    (then_piece t3 t4 t6 _ _ (same_piece t3 t4 _ _ c.in_ok-push_word.ensures (ap drawn c.rule_of.ensures))
    (then_piece t4 t5 t6 _ _ (same_piece t4 t5 _ _ c.in_ok-push_legend.ensures (λ j. legend_text (c.requires.signs j) (c.top_of.ensures.exact j)))
    (same_piece t5 t6 _ _ c.in_ok-write.ensures.bytes (λ j. concat (codes "<text x='12' y='" ∷ decimal (y j) ∷ codes "' dy='10'>" ∷ [])))))))
