use Rattle.std.proofs.Common.{rules, arith, ◌≡◌, ◌∙◌, ◌<◌, ◌++◌, List, ap, length, get_or}
use Rattle.std.specs.List.{flat_map}
use Rattle.std.specs.String.{string_bytes}
use Rattle.kt_picture.specs.declared.window.Shown.{Shown}
use Rattle.kt_picture.specs.Layers.{row_mark}
use Rattle.kt_picture.specs.Pages.{view_in}
use Rattle.kt_picture.proofs.Gathering.{gathers_item, gathers_all}
use Rattle.kt_picture.proofs.layers.push_rows.Goals as goal

pub loop-row-preserved : goal.loop-row-preserved
loop-row-preserved c =
    let items = c.deref-row-items.result.now in
    let within : c.loop-row.row-index < length items = omega arith in
    let at : get_or items c.loop-row.row-index c.row-item.result ≡ c.row-item.result = search rules in
    gathers_item (row_mark c.args.layer (view_in c.args.page.now)) (string_bytes c.args.text.now) (string_bytes c.loop-row.text) (string_bytes c.push_row.new.text) items c.loop-row.row-index c.row-item.result within at c.loop-row.invariant c.in_ok-push_row.ensures

pub returns : goal.returns
returns c = gathers_all (row_mark c.args.layer (view_in c.args.page.now)) (string_bytes c.args.text.now) _ c.deref-row-items.result.now c.loop-row.row-index (omega arith) c.loop-row.invariant
    ∙ ap (λ (x : List Shown). string_bytes c.args.text.now ++ flat_map (row_mark c.args.layer (view_in c.args.page.now)) x) c.deref-row-items.ensures.value
