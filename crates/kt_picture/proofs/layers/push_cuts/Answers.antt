use Rattle.std.proofs.Common.{arith, ◌≡◌, ◌∙◌, ◌%◌, ◌++◌, ◌∷◌, [], Bool, List, ap, codes, sym}
use Rattle.std.proofs.lemmas.List.{append-nil}
use Rattle.std.specs.Fmt.{decimal}
use Rattle.std.specs.List.{concat, flat_map}
use Rattle.std.specs.Prelude.{if◌then◌else◌}
use Rattle.std.specs.String.{string_bytes}
use Rattle.kt_picture.specs.declared.window.CutMark.{CutMark}
use Rattle.kt_picture.specs.Layers.{cut_line, cut_text}
use Rattle.kt_picture.specs.Pages.{view_in}
use Rattle.kt_picture.proofs.Gathering.{gathers_item, gathers_all, same_piece, then_piece}
use Rattle.kt_picture.proofs.layers.push_cuts.Goals as goal
use Rattle.kt_picture.proofs.layers.push_cuts.Goals.{then-cut+in_ok-write+in_ok-push_lanes+in_ok-writeln, else-cut}

pub loop-cut-preserved : goal.loop-cut-preserved
loop-cut-preserved c =
    let view = view_in c.args.page.now in
    let items = c.deref-cut-items.result.now in
    let cut = c.cut-item.result in
    let t0 = string_bytes c.loop-cut.text in
    let piece : string_bytes c.if-cut.text ≡ t0 ++ cut_text view cut = elim c.if-cut.branch [
      | then-cut+in_ok-write+in_ok-push_lanes+in_ok-writeln w ↦
          let t1 = string_bytes w.write.new.self in
          let t2 = string_bytes w.push_lanes.new.text in
          let t3 = string_bytes w.writeln.new.self in
          ap string_bytes w.text-is ∙ same_piece t0 t3 (cut_line view cut) _
          (then_piece t0 t1 t3 _ _ (same_piece t0 t1 _ _ w.in_ok-write.ensures.bytes (λ j. concat (codes "<polyline class='cut c" ∷ decimal (w.get-inst.ensures.value j % 6) ∷ codes "' points='" ∷ [])))
          (then_piece t1 t2 t3 _ _ w.in_ok-push_lanes.ensures
          (same_piece t2 t3 _ _ w.in_ok-writeln.ensures.bytes (λ j. concat (codes "'><title>permanent cut after instance " ∷ decimal (w.get-inst.ensures.value j) ∷ codes "</title></polyline>\n" ∷ [])))))
          (ap (λ (b : Bool). if b then cut_line view cut else []) (sym w.if-cut.true))
      | else-cut w ↦ ap string_bytes w.text-is ∙ sym (append-nil t0) ∙ ap (λ (b : Bool). t0 ++ (if b then cut_line view cut else [])) (sym w.if-cut.false)
    ] in
    gathers_item (cut_text view) (string_bytes c.args.text.now) t0 (string_bytes c.if-cut.text) items c.loop-cut.cut-index cut c.loop-cut-test.true (sym c.cut-item.is) c.loop-cut.invariant piece

pub returns : goal.returns
returns c = gathers_all (cut_text (view_in c.args.page.now)) (string_bytes c.args.text.now) _ c.deref-cut-items.result.now c.loop-cut.cut-index (omega arith) c.loop-cut.invariant
    ∙ ap (λ (x : List CutMark). string_bytes c.args.text.now ++ flat_map (cut_text (view_in c.args.page.now)) x) c.deref-cut-items.ensures.value
