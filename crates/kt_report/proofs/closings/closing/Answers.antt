use Rattle.std.proofs.Common.{◌∙◌, length, refl, sym, Some, None}
use Rattle.std.proofs.lemmas.Option.{slice_get_read, slice_get_past}
use Rattle.kt_machine.specs.Values.{closing}
use Rattle.kt_report.proofs.InstanceFacts.{closing_known}
use Rattle.kt_report.proofs.closings.closing.Goals as goal

pub returns-in-Some : goal.returns-in-Some
returns-in-Some c = λ s h.
    let js = c.args.instances.now in
    let i = c.index.result in
    let v = c.in-Some.instance.now in
    let there = slice_get_read js (length js) i v refl c.in-Some.ensures.lookup.3.0 c.in-Some.ensures.lookup.1 in
    let known = closing_known js s i c.args.inst (Some v) c.index.ensures.value there h in
    c.closing_of.ensures ∙ (λ j. closing (sym known.0 j) (sym known.1 j))

pub returns-in-None : goal.returns-in-None
returns-in-None c = λ s h.
    let js = c.args.instances.now in
    let i = c.index.result in
    let known = closing_known js s i c.args.inst None c.index.ensures.value (slice_get_past js i c.in-None.ensures.lookup.3) h in
    λ j. closing (sym known.0 j) (sym known.1 j)
