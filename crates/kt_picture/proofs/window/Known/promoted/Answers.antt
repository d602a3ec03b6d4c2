use Rattle.std.proofs.Common.{◌∙◌, ◌<◌, sym, map, arith}
use Rattle.std.proofs.lemmas.List.{ext_get_or}
use Rattle.std.proofs.lemmas.List.FromFn.{length-map-range_with_len, get_or-map-range_with_len}
use Rattle.std.specs.List.{range_with_len}
use Rattle.kt_meaning.specs.Past.{past}
use Rattle.kt_picture.specs.KnownAtRow.{place_after}
use Rattle.kt_picture.proofs.window.Known.promoted.Goals as goal

pub returns : goal.returns
returns c = λ rows h.
    let f = place_after (past rows) c.args.inst c.args.self.now.taken c.args.self.now.places in
    let inv = c.loop-number.invariant in
    ext_get_or 0 c.loop-number.after (map f (range_with_len 0 64)) (inv.all ∙ sym (length-map-range_with_len f 0 64))
    (λ i l. let low : i < 64 = omega (arith, l, inv.all) in let within : i < c.loop-number.number = omega (arith, low) in inv.done rows i h within ∙ sym (get_or-map-range_with_len f 0 64 i i 0 low (omega arith)))
