use Rattle.std.proofs.Common.{arith, ◌<◌, refl, length}
use Rattle.std.proofs.lemmas.Option.{slice_get_read}
use Rattle.kt_report.proofs.InstanceFacts.{is_decided}
use Rattle.kt_report.proofs.closings.decide.Goals as goal

pub returns-then-index-len : goal.returns-then-index-len
returns-then-index-len c = λ s p begun h.
    let js = c.args.instances.now.items in
    let i = c.index-index.result in
    let v = c.index_mut.result.now in
    let within : i < length js = omega (arith, c.if-index-len.true, c.len.ensures, c.args.instances.now.ok.0) in
    is_decided js s p i c.args.inst c.args.commit v c.index-index.ensures.value (slice_get_read js (length js) i v refl within c.index_mut.ensures.value) within h
