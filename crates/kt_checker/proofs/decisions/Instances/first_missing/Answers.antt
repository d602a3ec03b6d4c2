use Rattle.std.proofs.Common.{◌≡◌, ◌<◌, false, true, Some, length, sym, ap, ◌∙◌, arith, inl, inr}
use Rattle.std.specs.List.{slice_get}
use Rattle.std.proofs.lemmas.Bool.{cases_eq}
use Rattle.std.proofs.lemmas.Option.{get_or_from_slice_get, slice_get-get_or}
use Rattle.kt_meaning.proofs.Items.{some_same}
use Rattle.kt_checker.specs.declared.decisions.Instance.{Instance}
use Rattle.kt_checker.proofs.decisions.Instances.first_missing.Goals as goal

pub returns-in-Some-clause-missing : goal.returns-in-Some-clause-missing
returns-in-Some-clause-missing c =
    let list = c.args.self.now.list.items in
    let low : c.loop-index.index < length list = omega (arith, c.loop-index-test.true, c.len-index-end.ensures, c.args.self.now.list.ok.0) in
    let at : slice_get list c.loop-index.index ≡ Some c.index.result.now = slice_get-get_or list c.loop-index.index c.index.result.now low ∙ ap Some (sym c.index.ensures) in (
      c.loop-index.index,
      c.index.result.now,
      at,
      c.in-Some.ensures.decided,
      λ seen. c.in-Some.ensures.unseen (get_or_from_slice_get c.args.seen.now c.loop-index.index true false seen),
      c.loop-index.invariant,
    )

pub loop-index-preserved : goal.loop-index-preserved
loop-index-preserved c = λ k v d low there decided. elim (cases_eq k c.loop-index.index) [
  | inl same ↦
      let list = c.args.self.now.list.items in
      let within : c.loop-index.index < length list = omega (arith, c.loop-index-test.true, c.len-index-end.ensures, c.args.self.now.list.ok.0) in
      let at : slice_get list c.loop-index.index ≡ Some c.index.result.now = slice_get-get_or list c.loop-index.index c.index.result.now within ∙ ap Some (sym c.index.ensures) in
      let item : c.index.result.now ≡ v = some_same (sym at ∙ (ap (slice_get list) (sym same) ∙ there)) in
      let seen = c.in_default.ensures.none d (ap (λ (x : Instance). x.decision) item ∙ decided) in
      ap (slice_get c.args.seen.now) same ∙ (slice_get-get_or c.args.seen.now c.loop-index.index false (omega (arith, within, c.requires)) ∙ ap Some seen)
  | inr other ↦ c.loop-index.invariant k v d (omega (arith, low, other)) there decided
]
