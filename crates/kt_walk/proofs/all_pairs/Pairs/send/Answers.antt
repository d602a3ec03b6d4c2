use Rattle.std.proofs.Common.{◌≡◌, List, length, map, set, refl, sym, ap, subst, ◌∙◌}
use Rattle.std.proofs.lemmas.List.{set-get_or}
use Rattle.std.proofs.lemmas.Option.{slice_get_read}
use Rattle.kt_meaning.specs.Past.{after}
use Rattle.kt_spacetime.specs.declared.event.Event.TheVariants as event
use Rattle.kt_walk.specs.Arrivals.{IsByPair}
use Rattle.kt_walk.specs.Pairs.{PairState, ShowsPairs, AreInUse, received_from_of, with_new}
use Rattle.kt_walk.proofs.PairsFacts.{pairs_same, sent_by_call}
use Rattle.kt_walk.proofs.NewPairs.{there, with_set, in_use_more}
use Rattle.kt_walk.proofs.UsedFacts.{in_use_added}
use Rattle.kt_walk.proofs.all_pairs.Pairs.send.Goals as goal

pub invariant_of-self : goal.invariant_of-self
invariant_of-self c =
    let same = c.make_up_to.ensures.same in (
      subst (λ (x : List PairState). IsByPair (map received_from_of x)) (sym same) c.self.invariant.0,
      in_use_more c.self.inside.pairs.items c.make_up_to.new.pairs.items c.self.inside.used same c.self.invariant.1,
    )

pub invariant_of-self-in_err-send : goal.invariant_of-self-in_err-send
invariant_of-self-in_err-send c =
    let made = c.make_up_to.new.pairs.items in
    let same = c.make_up_to.ensures.same in
    let place = c.index_of-place.result in
    let back : set made place c.send.new.self ≡ made = ap (set made place) (c.in_err-send.ensures.err ∙ c.index_mut.ensures.value) ∙ set-get_or made place c.index_mut.result.now in (
      subst (λ (x : List PairState). IsByPair (map received_from_of (with_new x))) (sym back) (subst (λ (x : List PairState). IsByPair (map received_from_of x)) (sym same) c.self.invariant.0),
      subst (λ (x : List PairState). AreInUse x c.self.inside.used) (sym back) (in_use_more c.self.inside.pairs.items made c.self.inside.used same c.self.invariant.1),
    )

pub invariant_of-self-2 : goal.invariant_of-self-2
invariant_of-self-2 c =
    let made = c.make_up_to.new.pairs.items in
    let same = c.make_up_to.ensures.same in
    let place = c.index_of-place.result in
    let low = c.in_ok-make_up_to.ensures.made in
    let v = c.index_mut.result.now in
    let at = slice_get_read made (length made) place v refl low c.index_mut.ensures.value in (
      subst (λ (x : List PairState). IsByPair (map received_from_of x)) (with_set made place c.send.new.self low)
          (pairs_same (with_new made) place v c.send.new.self (subst (λ (x : List PairState). IsByPair (map received_from_of x)) (sym same) c.self.invariant.0) (there made place v at) (ap received_from_of c.in_ok-send.ensures.ok)),
      in_use_added made c.self.inside.used c.add.new.self place c.send.new.self c.add.ensures.added c.add.ensures.others (in_use_more c.self.inside.pairs.items made c.self.inside.used same c.self.invariant.1),
    )

pub returns-clause-ok : goal.returns-clause-ok
returns-clause-ok c = λ s body h fit apart number place_is.
    let index = c.index_of-place.ensures in
    let made = c.make_up_to.new.pairs.items in
    let same = c.make_up_to.ensures.same in
    let place = c.index_of-place.result in
    let low = c.in_ok-make_up_to.ensures.made in
    let v = c.index_mut.result.now in
    let at = slice_get_read made (length made) place v refl low c.index_mut.ensures.value in
    subst (λ (x : List PairState). ShowsPairs x (after s (event.Sent c.args.p c.args.to body))) (with_set made place c.send.new.self low)
    (sent_by_call (with_new made) s c.args.p c.args.to place body c.args.message v c.send.new.self (subst (λ (x : List PairState). IsByPair (map received_from_of x)) (sym same) c.self.invariant.0) index.sender_in_range index.receiver_in_range index.value
    (there made place v at) c.in_ok-send.ensures.ok (subst (λ (x : List PairState). ShowsPairs x s) (sym (same ∙ c.self.view_is)) h) fit apart number place_is)
