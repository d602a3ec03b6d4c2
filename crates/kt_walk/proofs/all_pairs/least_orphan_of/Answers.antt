use Rattle.std.proofs.Common.{◌≡◌, true, false, length, refl, arith, inl, inr, sym, ap, subst, ◌∙◌}
use Rattle.std.specs.List.{slice_get, slice_index}
use Rattle.std.proofs.lemmas.Bool.{cases_eq, cases_lt}
use Rattle.std.proofs.lemmas.Option.{slice_get_read, slice_get_within}
use Rattle.kt_walk.specs.Pairs.{PairState}
use Rattle.kt_meaning.proofs.Items.{some_same}
use Rattle.kt_rules.proofs.OrphanFacts.{some_earlier, some_weaker, at_most_first, at_most_second}
use Rattle.kt_walk.proofs.ArrivalFacts.{KnowsLeast}
use Rattle.kt_walk.proofs.ReceivedFacts.{IsOrphanOf}
use Rattle.kt_walk.proofs.PairsFacts.{IsOrphanIn}
use Rattle.kt_walk.proofs.all_pairs.least_orphan_of.Goals as goal

pub loop-place-preserved : goal.loop-place-preserved
loop-place-preserved c =
    let found = c.in-Some.ensures.found in
    let at = slice_get_read c.args.pairs.now (length c.args.pairs.now) c.in-Some.place c.index-pairs-place.result refl found.1 c.index-pairs-place.is in
    let cut = slice_index c.args.cut.now in
    rw c.earlier-least.ensures (record {
      orphan = some_earlier (IsOrphanIn c.args.pairs.now c.args.places.now cut) _ _ c.loop-place.invariant.orphan
          (some_weaker (IsOrphanOf c.index-pairs-place.result.received_from cut) (IsOrphanIn c.args.pairs.now c.args.places.now cut) _ (λ m o. (_, c.index-pairs-place.result, at, found.3, o)) c.orphan.ensures.orphan);
      least = λ k v s m l there f last_permanent t o. elim (cases_eq k c.in-Some.place) [
        | inl same ↦
            let item : c.index-pairs-place.result ≡ v = some_same (sym at ∙ (ap (slice_get c.args.pairs.now) (sym same) ∙ f)) in
            at_most_second _ _ m ((subst (λ (x : PairState). KnowsLeast x.received_from cut s m c.orphan.result) item (c.orphan.ensures.least s m)) last_permanent t o)
        | inr other ↦ elim (cases_lt k c.loop-place.next) [
          | inl before ↦ at_most_first _ _ m (c.loop-place.invariant.least k v s m before there f last_permanent t o)
          | inr from ↦
              let clash : true ≡ false = sym there ∙ found.4 k from (omega (arith, l, other)) in
              absurd (cc clash)
        ]
      ];
    })

pub returns-clause-least : goal.returns-clause-least
returns-clause-least c = λ k v s m there f last_permanent t o. elim (cases_lt k c.loop-place.next) [
  | inl before ↦ c.loop-place.invariant.least k v s m before there f last_permanent t o
  | inr from ↦
      let within = slice_get_within c.args.pairs.now k v f in
      let clash : true ≡ false = sym there ∙ c.in_default.ensures.none k from within (omega (arith, within, c.requires)) in
      absurd (cc clash)
]
