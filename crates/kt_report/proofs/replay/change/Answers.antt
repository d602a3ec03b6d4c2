use Rattle.std.proofs.Common.{arith, ◌<◌, ◌≤◌, ◌∙◌, refl, length}
use Rattle.std.proofs.lemmas.Option.{slice_get_read}
use Rattle.kt_report.proofs.OfferFacts.{acted, no_object_acted}
use Rattle.kt_report.proofs.replay.change.Goals as goal

pub returns-then-place-len-clause-shows : goal.returns-then-place-len-clause-shows
returns-then-place-len-clause-shows c = λ kinds rows row whose is legal h.
    let list = c.args.objects.now.items in
    let place = c.index-place.result in
    let x = c.index_mut-object.result.now in
    let within : place < length list = omega (arith, c.if-place-len.true, c.len.ensures, c.args.objects.now.ok.0) in
    acted rows row legal list kinds place c.args.act x c.act.new.self (c.index-place.ensures.value ∙ whose) is (slice_get_read list (length list) place x refl within c.index_mut-object.ensures.value) c.act.ensures h

pub returns-else-place-len-clause-shows : goal.returns-else-place-len-clause-shows
returns-else-place-len-clause-shows c = λ kinds rows row whose is legal h.
    let list = c.args.objects.now.items in
    let past : length list ≤ c.index-place.result = omega (arith, c.if-place-len.false, c.len.ensures, c.args.objects.now.ok.0) in
    no_object_acted rows row legal list kinds c.index-place.result (c.index-place.ensures.value ∙ whose) past h
