use Rattle.std.proofs.Common.{arith, ◌<◌, length, get_or}
use Rattle.std.proofs.lemmas.List.{get_or_default}
use Rattle.kt_picture.specs.Escaping.{escaped_byte}
use Rattle.kt_picture.proofs.Gathering.{gathers_item, gathers_all}
use Rattle.kt_picture.proofs.layers.push_escaped.Goals as goal

pub loop-byte-preserved : goal.loop-byte-preserved
loop-byte-preserved c =
    let items = c.args.other.now in
    let i = c.loop-byte.byte-index in
    let within : i < length items = c.loop-byte-test.true in
    let item = get_or items i 0 in
    gathers_item escaped_byte c.args.text.now.items c.loop-byte.text.items c.push_byte.new.text.items items i item within (get_or_default items i item 0 within) c.loop-byte.invariant c.in_ok-push_byte.ensures

pub returns : goal.returns
returns c = gathers_all escaped_byte c.args.text.now.items _ c.args.other.now c.loop-byte.byte-index (omega arith) c.loop-byte.invariant
