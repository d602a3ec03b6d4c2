use Rattle.std.proofs.Common.{rules, arith, ◌≡◌, ◌∙◌, ◌<◌, ◌++◌, ℕ, List, ap, length, get_or}
use Rattle.std.specs.List.{flat_map}
use Rattle.std.specs.String.{string_bytes}
use Rattle.kt_picture.specs.Layers.{lane_mark}
use Rattle.kt_picture.specs.Pages.{view_in}
use Rattle.kt_picture.proofs.Gathering.{gathers_item, gathers_all}
use Rattle.kt_picture.proofs.layers.push_lanes.Goals as goal

pub loop-p-preserved : goal.loop-p-preserved
loop-p-preserved c =
    let items = c.processes-p-items.result.now in
    let within : c.loop-p.p-index < length items = omega arith in
    let at : get_or items c.loop-p.p-index c.p-item.result ≡ c.p-item.result = search rules in
    gathers_item (lane_mark c.args.thread.now (view_in c.args.page.now)) (string_bytes c.args.text.now) (string_bytes c.loop-p.text) (string_bytes c.push_lane.new.text) items c.loop-p.p-index c.p-item.result within at c.loop-p.invariant c.in_ok-push_lane.ensures

pub returns : goal.returns
returns c = gathers_all (lane_mark c.args.thread.now (view_in c.args.page.now)) (string_bytes c.args.text.now) _ c.processes-p-items.result.now c.loop-p.p-index (omega arith) c.loop-p.invariant
    ∙ ap (λ (x : List ℕ). (string_bytes c.args.text.now) ++ flat_map (lane_mark c.args.thread.now (view_in c.args.page.now)) x) c.processes-p-items.ensures.processes
