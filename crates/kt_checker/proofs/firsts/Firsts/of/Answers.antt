use Rattle.std.proofs.Common.{◌≡◌, ◌+◌, ℕ, Option, Some, None, length, refl, sym, ap, ◌∙◌, subst}
use Rattle.std.specs.List.{slice_get}
use Rattle.std.proofs.lemmas.List.Elements.{All-replicate}
use Rattle.std.proofs.lemmas.Option.{slice_get_read}
use Rattle.kt_meaning.proofs.Items.{written}
use Rattle.kt_spacetime.specs.declared.certificate.Certificate.{Certificate}
use Rattle.kt_checker.specs.Judged.{AreFirsts}
use Rattle.kt_checker.proofs.FirstPlaces.{none_yet, none_cloned}
use Rattle.kt_checker.proofs.firsts.Firsts.of.Goals as goal

pub loop-index-init : goal.loop-index-init
loop-index-init c =
    let items = c.in_ok-places.ensures.items_if_clones_equal (none_cloned _ (λ n f. f)) in
    none_yet c.in_ok-places.places.items c.args.certificates.now (rw items (All-replicate (λ (place : Option ℕ). place ≡ None) 4096 None refl)) (sym c.in_ok-places.places.ok.0 ∙ c.in_ok-places.ensures.len)

pub note_first-requires : goal.note_first-requires
note_first-requires c = ap length c.deref_mut.ensures.value ∙ c.loop-index.invariant.all

pub loop-index-preserved : goal.loop-index-preserved
loop-index-preserved c =
    let items = c.args.certificates.now in
    let index = c.loop-index.index in
    let item = c.index-certificates-index.result in
    let at : slice_get items index ≡ Some item = slice_get_read items (length items) index item refl c.loop-index-test.true c.index-certificates-index.is in
    let old = c.loop-index.places.items in
    let value = c.deref_mut.ensures.value in
    let entered = c.note_first.ensures items item (subst (λ ps. AreFirsts ps items index) (sym value) c.loop-index.invariant) at (ap (λ (x : Certificate). x.inst) c.index-certificates-index.is) in
    let many : length c.note_first.new.places ≡ c.loop-index.places.len = c.note_first.auto.places ∙ (ap length value ∙ sym c.loop-index.places.ok.0) in
    subst (λ ps. AreFirsts ps items (index + 1)) (sym (written c.loop-index.places.len c.note_first.new.places old many)) entered
