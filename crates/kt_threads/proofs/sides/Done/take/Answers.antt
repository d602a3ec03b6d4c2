use Rattle.std.proofs.Common.{rules, ℕ, ◌≡◌, ◌∙◌, ◌+◌, [], ◌∷◌, ◌++◌, List, ap, sym, subst}
use Rattle.kt_threads.specs.declared.asked.Entry.{Entry}
use Rattle.kt_threads.specs.declared.asked.Errand.{Errand}
use Rattle.kt_threads.specs.Books.{DoneBy, errands_by}
use Rattle.kt_threads.proofs.Counting.{one_more}
use Rattle.kt_threads.proofs.sides.Done.take.Goals as goal

abbrev done_by : ℕ → List Errand → DoneBy
done_by p errands = record { by = p; errands = errands }

pub returns-clause-took : goal.returns-clause-took
returns-clause-took g c = λ _.
    let p = c.self.inside.me in
    let all = c.begins_with.ensures in
    let last = c.receipt.inside.entry.value in
    let next : c.receipt.inside.count ≡ c.self.inside.count + 1 = search rules in
    let one : last.by ≡ c.args.receipt.now.by = ap (λ (e : Entry). e.by) c.receipt.view_is in
    let other : p ≡ c.args.self.now.by = ap (λ (d : DoneBy). d.by) c.self.view_is in
    let by : last.by ≡ p = one ∙ (c.requires ∙ sym other) in
    let more : errands_by p c.again.result ≡ errands_by p c.self.inside.front ++ last.errand ∷ [] =
    ap (errands_by p) c.again.ensures
    ∙ one_more p c.self.inside.front c.receipt.inside.front all.0 last c.self.inside.count c.receipt.inside.count by c.receipt.invariant c.self.invariant next all.1 all.2 in
    subst (λ (d : DoneBy). done_by p (errands_by p c.again.result) ≡ done_by d.by (d.errands ++ c.args.receipt.now.errand ∷ [])) c.self.view_is
    (ap (done_by p) (more ∙ ap (λ (e : Entry). errands_by p c.self.inside.front ++ e.errand ∷ []) c.receipt.view_is))
