use Rattle.std.proofs.Common.{◌≡◌, length, refl, arith, inl, inr, sym, ap, ◌∙◌}
use Rattle.std.specs.List.{slice_get}
use Rattle.std.proofs.lemmas.Bool.{cases_eq}
use Rattle.std.proofs.lemmas.Option.{slice_get_read, slice_get_within}
use Rattle.kt_meaning.proofs.Items.{some_same}
use Rattle.kt_walk.proofs.HeldFacts.{missed}
use Rattle.kt_walk.proofs.lookup.first_trace.Goals as goal

pub loop-pair-preserved : goal.loop-pair-preserved
loop-pair-preserved c =
    let at = slice_get_read c.args.pairs.now (length c.args.pairs.now) c.loop-pair.pair-index c.pair-item.result refl c.loop-pair-test.true c.pair-item.is in
    record {
      none = λ i v t l f. elim (cases_eq i c.loop-pair.pair-index) [
        | inl same ↦ λ in_order rising has.
            let item : c.pair-item.result ≡ v = some_same (sym at ∙ (ap (slice_get c.args.pairs.now) (sym same) ∙ f)) in
            missed c.trace-found.result c.is_some.result c.pair-item.result v c.args.msg c.is_some.ensures c.if-is_some.false c.trace-found.ensures.none item in_order rising t has
        | inr other ↦ c.loop-pair.invariant.none i v t (omega (arith, l, other)) f
      ];
    }

pub returns-clause-none : goal.returns-clause-none
returns-clause-none c = λ i v t f in_order rising has. c.loop-pair.invariant.none i v t (omega (arith, slice_get_within c.args.pairs.now i v f, c.loop-pair-test.false)) f in_order rising has
