use Rattle.std.proofs.Common.{refl, arith, sym, ◌∙◌}
use Rattle.std.proofs.lemmas.List.{length-set}
use Rattle.std.proofs.lemmas.Option.{slice_get-get_or, slice_get_within}
use Rattle.kt_walk.specs.Pairs.{IsPairCommitted, with_new}
use Rattle.kt_walk.proofs.NewPairs.{there, in_use_with, few_there}
use Rattle.kt_walk.proofs.UsedFacts.{swept_start, swept_to, swept_next, swept_all, in_use_kept, in_use_removed, stays, used_if_among}
use Rattle.kt_walk.proofs.all_pairs.commit_all.Goals as goal
use Rattle.kt_walk.proofs.all_pairs.commit_all.Goals.{then-is_idle, else-is_idle}

pub loop-place-init : goal.loop-place-init
loop-place-init c = record {
  count = refl;
  low = omega arith;
  swept = swept_start (IsPairCommitted c.args.kind c.args.members c.args.permanent.now) c.args.pairs.now;
  in_use = c.requires.in_use;
  ahead = λ i from. refl;
}

pub loop-place-preserved : goal.loop-place-preserved
loop-place-preserved c =
    let inv = c.loop-place.invariant in
    let found = c.in-Some.ensures.found in
    let in_use = in_use_with c.args.pairs.now c.args.used.now c.requires.in_use in
    let place = c.in-Some.place in
    let here = slice_get-get_or c.loop-place.pairs place c.index-pairs-place.result found.1 in
    let held = inv.ahead place found.0 ∙ used_if_among c.args.members c.args.used.now c.of-places.result place found.2 c.of-places.ensures found.3 in
    record {
      count = length-set _ _ _ ∙ inv.count;
      low = omega (arith, found.2);
      swept = swept_next (IsPairCommitted c.args.kind c.args.members c.args.permanent.now) c.args.pairs.now c.loop-place.pairs place _ _ here c.commit.ensures
          (swept_to (IsPairCommitted c.args.kind c.args.members c.args.permanent.now) c.args.pairs.now c.loop-place.pairs c.loop-place.next place found.0
          (λ i v from below at. stays c.args.kind c.args.members c.args.permanent.now (with_new c.args.pairs.now) c.args.used.now c.of-places.result i v c.requires.by_pair in_use c.of-places.ensures (there c.args.pairs.now i v at) (found.4 i from below)) inv.swept);
      in_use = elim c.if-is_idle.branch [
        | then-is_idle w ↦ rw w.used-is (in_use_removed c.loop-place.pairs c.loop-place.used w.remove.new.self place _ c.commit.new.self here (sym c.is_idle.ensures ∙ w.if-is_idle.true) w.remove.ensures.others inv.in_use)
        | else-is_idle w ↦ rw w.used-is (in_use_kept c.loop-place.pairs c.loop-place.used place c.commit.new.self held inv.in_use)
      ];
      ahead = λ i from. elim c.if-is_idle.branch [
        | then-is_idle w ↦ rw w.used-is (w.remove.ensures.others i (λ same. omega (arith, same, from)) ∙ inv.ahead i (omega (arith, from, found.0)))
        | else-is_idle w ↦ rw w.used-is (inv.ahead i (omega (arith, from, found.0)))
      ];
    }

pub returns-clause-each : goal.returns-clause-each
returns-clause-each c =
    let inv = c.loop-place.invariant in
    let in_use = in_use_with c.args.pairs.now c.args.used.now c.requires.in_use in
    swept_all (IsPairCommitted c.args.kind c.args.members c.args.permanent.now) c.args.pairs.now c.loop-place.pairs 4096 (omega (arith, inv.count, few_there c.args.pairs.now c.requires.by_pair))
    (swept_to (IsPairCommitted c.args.kind c.args.members c.args.permanent.now) c.args.pairs.now c.loop-place.pairs c.loop-place.next 4096 inv.low
    (λ i v from below at. stays c.args.kind c.args.members c.args.permanent.now (with_new c.args.pairs.now) c.args.used.now c.of-places.result i v c.requires.by_pair in_use c.of-places.ensures (there c.args.pairs.now i v at)
    (c.in_default.ensures.none i from (omega (arith, slice_get_within c.args.pairs.now i v at, inv.count)) below)) inv.swept)
