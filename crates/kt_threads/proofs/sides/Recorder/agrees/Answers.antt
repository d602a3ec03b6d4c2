use Rattle.std.proofs.Common.{◌≡◌, ◌∙◌, ◌<◌, ℕ, List, arith, slice_index_or, sym, subst}
use Rattle.std.proofs.lemmas.Bool.{eqb-true}
use Rattle.kt_threads.specs.declared.asked.Entry.{Entry}
use Rattle.kt_threads.specs.Books.{DoneBy, errands_by}
use Rattle.kt_threads.proofs.Counting.{as_many}
use Rattle.kt_threads.proofs.sides.Recorder.agrees.Goals as goal

pub returns : goal.returns
returns g c = λ same.
    let p = c.done.inside.me in
    let all = c.begins_with.ensures in
    let here : c.index.result ≡ p = c.index.ensures.value in
    let low : p < 64 = let r = c.index.ensures.in_range in omega (arith, r, here) in
    let counts : slice_index_or c.self.inside.counts p 0 ≡ c.done.inside.count =
    subst (λ (k : ℕ). slice_index_or c.self.inside.counts k 0 ≡ c.done.inside.count) here (eqb-true _ _ same) in
    let one : errands_by p c.self.inside.front ≡ errands_by p c.done.inside.front =
    as_many p c.self.inside.front c.done.inside.front all.0 all.1 all.2 (sym (c.self.invariant.each p low) ∙ (counts ∙ c.done.invariant)) in
    subst (λ (d : DoneBy). errands_by d.by c.args.self.now ≡ d.errands) c.done.view_is
    (subst (λ (l : List Entry). errands_by p l ≡ errands_by p c.done.inside.front) c.self.view_is one)
