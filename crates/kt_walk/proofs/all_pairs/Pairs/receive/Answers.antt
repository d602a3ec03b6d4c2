use Rattle.std.proofs.Common.{◌+◌, ◌*◌, List, length, map, arith, refl, sym, subst, ◌∙◌}
use Rattle.std.specs.List.{slice_get}
use Rattle.std.proofs.lemmas.Option.{slice_get_read, slice_get_within}
use Rattle.kt_meaning.specs.Past.{after}
use Rattle.kt_spacetime.specs.declared.event.Event.TheVariants as event
use Rattle.kt_walk.specs.Arrivals.{IsByPair}
use Rattle.kt_walk.specs.Pairs.{PairState, ShowsPairs, received_from_of, with_new}
use Rattle.kt_walk.proofs.ArrivalFacts.{ok_gives}
use Rattle.kt_walk.proofs.PairsFacts.{pairs_set, as_received, busy_way, received_by_call}
use Rattle.kt_walk.proofs.NewPairs.{there, there_if_found, with_set}
use Rattle.kt_walk.proofs.UsedFacts.{in_use_kept}
use Rattle.kt_walk.proofs.all_pairs.Pairs.receive.Goals as goal

pub index_mut-requires : goal.index_mut-requires
index_mut-requires c =
    let items = c.self.inside.pairs.items in
    let place = c.index_of-place.result in
    let index = c.index_of-place.ensures in
    let inv = c.self.invariant in
    let low = there_if_found items c.args.self.now place (c.args.p * 64 + c.args.from) c.args.index _ inv.0 c.self.view_is index.value (omega (arith, index.value, index.receiver_in_range, index.sender_in_range)) c.requires in
    omega (arith, low, c.self.inside.pairs.ok.0)

pub receive-requires : goal.receive-requires
receive-requires c =
    let items = c.self.inside.pairs.items in
    let place = c.index_of-place.result in
    let index = c.index_of-place.ensures in
    let inv = c.self.invariant in
    let low = there_if_found items c.args.self.now place (c.args.p * 64 + c.args.from) c.args.index _ inv.0 c.self.view_is index.value (omega (arith, index.value, index.receiver_in_range, index.sender_in_range)) c.requires in
    let v = c.index_mut.result.now in
    let at = slice_get_read items (length items) place v refl low c.index_mut.ensures.value in
    let found = c.requires v ((λ i. slice_get (sym c.self.view_is i) (sym index.value i)) ∙ there items place v at) in
    slice_get_within v.in_transit c.args.index _ found

pub invariant_of-self : goal.invariant_of-self
invariant_of-self c =
    let items = c.self.inside.pairs.items in
    let place = c.index_of-place.result in
    let index = c.index_of-place.ensures in
    let inv = c.self.invariant in
    let low = there_if_found items c.args.self.now place (c.args.p * 64 + c.args.from) c.args.index _ inv.0 c.self.view_is index.value (omega (arith, index.value, index.receiver_in_range, index.sender_in_range)) c.requires in
    let v = c.index_mut.result.now in
    let at = slice_get_read items (length items) place v refl low c.index_mut.ensures.value in
    let found = c.requires v ((λ i. slice_get (sym c.self.view_is i) (sym index.value i)) ∙ there items place v at) in
    let same = as_received c.receive.result v c.receive.new.self c.args.index c.args.arrival c.receive.ensures.ok c.receive.ensures.err in (
      subst (λ (x : List PairState). IsByPair (map received_from_of x)) (with_set items place c.receive.new.self low) (pairs_set (with_new items) place v c.receive.new.self inv.0 (there items place v at) same.0 same.1),
      in_use_kept items c.self.inside.used place c.receive.new.self (inv.1.each place v at (busy_way v c.args.index _ found)) inv.1,
    )

pub returns-clause-ok : goal.returns-clause-ok
returns-clause-ok c =
    let items = c.self.inside.pairs.items in
    let place = c.index_of-place.result in
    let index = c.index_of-place.ensures in
    let inv = c.self.invariant in
    let low = there_if_found items c.args.self.now place (c.args.p * 64 + c.args.from) c.args.index _ inv.0 c.self.view_is index.value (omega (arith, index.value, index.receiver_in_range, index.sender_in_range)) c.requires in
    let v = c.index_mut.result.now in
    let at = slice_get_read items (length items) place v refl low c.index_mut.ensures.value in
    let found = c.requires v ((λ i. slice_get (sym c.self.view_is i) (sym index.value i)) ∙ there items place v at) in
    ok_gives c.receive.result _ _ (λ new s h fit order allowed place_is.
    subst (λ (x : List PairState). ShowsPairs x (after s (event.Received c.args.p c.args.from c.args.arrival.msg))) (with_set items place c.receive.new.self low)
    (received_by_call (with_new items) s c.args.p c.args.from place c.args.index c.args.arrival v c.receive.new.self inv.0 index.receiver_in_range index.sender_in_range index.value (there items place v at) new found
    (subst (λ (x : List PairState). ShowsPairs x s) (sym c.self.view_is) h) fit order allowed place_is)) c.receive.ensures.ok
