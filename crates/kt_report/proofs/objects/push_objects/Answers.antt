use Rattle.std.proofs.Common.{arith, ◌≡◌, ◌<◌, ◌∙◌, ℤ, pos, Option, None, sym, length, get_or, codes, map}
use Rattle.std.proofs.lemmas.List.{get_or_default, get_or-map, length-map}
use Rattle.kt_report.specs.declared.offers.Offers.{Offers}
use Rattle.kt_report.proofs.ObjectFacts.{gathers_object}
use Rattle.kt_report.proofs.objects.push_objects.Goals as goal

pub loop-place-preserved : goal.loop-place-preserved
loop-place-preserved c =
    let names = c.args.names.now in
    let objects = c.args.objects.now in
    let place = c.loop-place.place in
    let name = c.name_at.result.now in
    let none : Offers = record { kind = 0; now = None; tentative = None; permanent = pos 0 } in
    let offer : Option ℤ = (get_or objects place none).now in
    let within : place < length names = omega (arith, c.loop-place-test.true, c.requires) in
    let at : get_or names place name ≡ name = get_or_default names place name (codes "-") within ∙ sym c.name_at.ensures.name in
    let at_offer : get_or (map (λ o. o.now) objects) place offer ≡ offer = get_or-map (λ (o : Offers). o.now) objects place none offer c.loop-place-test.true in
    gathers_object names (map (λ o. o.now) objects) place name c.args.text.now.items c.loop-place.text.items c.push_object.new.text.items offer (length-map objects (λ o. o.now) ∙ c.requires) within at at_offer
    c.loop-place.invariant c.in_ok-push_object.ensures
