use Rattle.std.proofs.Common.{◌+◌, ◌*◌, List, length, map, arith, refl, sym, ap, subst, ◌∙◌}
use Rattle.std.specs.List.{slice_get}
use Rattle.std.proofs.lemmas.Option.{slice_get_read, slice_get_within}
use Rattle.kt_meaning.specs.Past.{after}
use Rattle.kt_spacetime.specs.declared.event.Event.TheVariants as event
use Rattle.kt_walk.specs.Arrivals.{IsByPair}
use Rattle.kt_walk.specs.Pairs.{PairState, ShowsPairs, received_from_of, with_new}
use Rattle.kt_walk.proofs.PairsFacts.{pairs_same, busy_way, dropped_pairs}
use Rattle.kt_walk.proofs.NewPairs.{there, there_if_found, with_set}
use Rattle.kt_walk.proofs.UsedFacts.{in_use_kept, in_use_removed}
use Rattle.kt_walk.proofs.all_pairs.Pairs.drop_message.Goals as goal

pub index_mut-pair-requires : goal.index_mut-pair-requires
index_mut-pair-requires c =
    let items = c.self.inside.pairs.items in
    let place = c.index_of-place.result in
    let index = c.index_of-place.ensures in
    let inv = c.self.invariant in
    let low = there_if_found items c.args.self.now place (c.args.p * 64 + c.args.from) c.args.index _ inv.0 c.self.view_is index.value (omega (arith, index.value, index.receiver_in_range, index.sender_in_range)) c.requires in
    omega (arith, low, c.self.inside.pairs.ok.0)

pub drop_message-requires : goal.drop_message-requires
drop_message-requires c =
    let items = c.self.inside.pairs.items in
    let place = c.index_of-place.result in
    let index = c.index_of-place.ensures in
    let inv = c.self.invariant in
    let low = there_if_found items c.args.self.now place (c.args.p * 64 + c.args.from) c.args.index _ inv.0 c.self.view_is index.value (omega (arith, index.value, index.receiver_in_range, index.sender_in_range)) c.requires in
    let v = c.index_mut-pair.result.now in
    let at = slice_get_read items (length items) place v refl low c.index_mut-pair.ensures.value in
    let found = c.requires v ((λ i. slice_get (sym c.self.view_is i) (sym index.value i)) ∙ there items place v at) in
    slice_get_within v.in_transit c.args.index _ found

pub invariant_of-self-then-is_idle : goal.invariant_of-self-then-is_idle
invariant_of-self-then-is_idle c =
    let items = c.self.inside.pairs.items in
    let place = c.index_of-place.result in
    let index = c.index_of-place.ensures in
    let inv = c.self.invariant in
    let low = there_if_found items c.args.self.now place (c.args.p * 64 + c.args.from) c.args.index _ inv.0 c.self.view_is index.value (omega (arith, index.value, index.receiver_in_range, index.sender_in_range)) c.requires in
    let v = c.index_mut-pair.result.now in
    let at = slice_get_read items (length items) place v refl low c.index_mut-pair.ensures.value in (
      subst (λ (x : List PairState). IsByPair (map received_from_of x)) (with_set items place c.drop_message.new.self low) (pairs_same (with_new items) place v c.drop_message.new.self inv.0 (there items place v at) (ap received_from_of c.in_ok-drop_message.ensures.ok)),
      in_use_removed items c.self.inside.used c.remove.new.self place v c.drop_message.new.self at (sym c.is_idle.ensures ∙ c.if-is_idle.true) c.remove.ensures.others inv.1,
    )

pub invariant_of-self-else-is_idle : goal.invariant_of-self-else-is_idle
invariant_of-self-else-is_idle c =
    let items = c.self.inside.pairs.items in
    let place = c.index_of-place.result in
    let index = c.index_of-place.ensures in
    let inv = c.self.invariant in
    let low = there_if_found items c.args.self.now place (c.args.p * 64 + c.args.from) c.args.index _ inv.0 c.self.view_is index.value (omega (arith, index.value, index.receiver_in_range, index.sender_in_range)) c.requires in
    let v = c.index_mut-pair.result.now in
    let at = slice_get_read items (length items) place v refl low c.index_mut-pair.ensures.value in
    let found = c.requires v ((λ i. slice_get (sym c.self.view_is i) (sym index.value i)) ∙ there items place v at) in (
      subst (λ (x : List PairState). IsByPair (map received_from_of x)) (with_set items place c.drop_message.new.self low) (pairs_same (with_new items) place v c.drop_message.new.self inv.0 (there items place v at) (ap received_from_of c.in_ok-drop_message.ensures.ok)),
      in_use_kept items c.self.inside.used place c.drop_message.new.self (inv.1.each place v at (busy_way v c.args.index _ found)) inv.1,
    )

pub returns-then-is_idle-clause-ok : goal.returns-then-is_idle-clause-ok
returns-then-is_idle-clause-ok c = λ s h fit.
    let items = c.self.inside.pairs.items in
    let place = c.index_of-place.result in
    let index = c.index_of-place.ensures in
    let inv = c.self.invariant in
    let low = there_if_found items c.args.self.now place (c.args.p * 64 + c.args.from) c.args.index _ inv.0 c.self.view_is index.value (omega (arith, index.value, index.receiver_in_range, index.sender_in_range)) c.requires in
    let v = c.index_mut-pair.result.now in
    let at = slice_get_read items (length items) place v refl low c.index_mut-pair.ensures.value in
    let found = c.requires v ((λ i. slice_get (sym c.self.view_is i) (sym index.value i)) ∙ there items place v at) in
    subst (λ (x : List PairState). ShowsPairs x (after s (event.Dropped c.args.p c.args.from c.args.message.msg))) (with_set items place c.drop_message.new.self low)
    (dropped_pairs (with_new items) s c.args.p c.args.from place c.args.index c.args.message v c.drop_message.new.self inv.0 index.receiver_in_range index.sender_in_range index.value (there items place v at) c.in_ok-drop_message.ensures.ok found fit
    (subst (λ (x : List PairState). ShowsPairs x s) (sym c.self.view_is) h))

pub returns-else-is_idle-clause-ok : goal.returns-else-is_idle-clause-ok
returns-else-is_idle-clause-ok c = λ s h fit.
    let items = c.self.inside.pairs.items in
    let place = c.index_of-place.result in
    let index = c.index_of-place.ensures in
    let inv = c.self.invariant in
    let low = there_if_found items c.args.self.now place (c.args.p * 64 + c.args.from) c.args.index _ inv.0 c.self.view_is index.value (omega (arith, index.value, index.receiver_in_range, index.sender_in_range)) c.requires in
    let v = c.index_mut-pair.result.now in
    let at = slice_get_read items (length items) place v refl low c.index_mut-pair.ensures.value in
    let found = c.requires v ((λ i. slice_get (sym c.self.view_is i) (sym index.value i)) ∙ there items place v at) in
    subst (λ (x : List PairState). ShowsPairs x (after s (event.Dropped c.args.p c.args.from c.args.message.msg))) (with_set items place c.drop_message.new.self low)
    (dropped_pairs (with_new items) s c.args.p c.args.from place c.args.index c.args.message v c.drop_message.new.self inv.0 index.receiver_in_range index.sender_in_range index.value (there items place v at) c.in_ok-drop_message.ensures.ok found fit
    (subst (λ (x : List PairState). ShowsPairs x s) (sym c.self.view_is) h))
