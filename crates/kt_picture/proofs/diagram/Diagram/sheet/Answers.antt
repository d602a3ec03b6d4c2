use Rattle.std.proofs.Common.{◌≡◌, ◌∙◌, ◌++◌, List, ap, arith, refl, rules, subst, sym}
use Rattle.kt_picture.specs.declared.entry.Entry.{Entry}
use Rattle.kt_picture.specs.DiagramOf.{seen_in}
use Rattle.kt_picture.specs.Followed.{AreFollowed, told_rows}
use Rattle.kt_picture.proofs.DiagramFacts.{columns_few, sheet_of}
use Rattle.kt_picture.proofs.diagram.Diagram.sheet.Goals as goal

pub returns-clause-exact : goal.returns-clause-exact
returns-clause-exact c = λ front window h.
    let d = c.args.self.now in
    let w = c.args.walk.now in
    let log = front ++ window in
    let made : c.as_slice.result.now ≡ d.entries.items = search rules in
    let cuts : c.as_slice-2.result.now ≡ d.cuts.items = search rules in
    let few = columns_few d w front window h in
    sheet_of d w front window _ h refl (omega (arith, few, c.rows-rows.ensures.rows, c.saturating_sub-before.ensures, c.requires.few)) (omega (arith, c.rows-rows.ensures.rows, c.saturating_sub-before.ensures, c.requires.few))
    (c.in_ok-shown.ensures log h.known.walk (subst (λ (l : List Entry). AreFollowed log l) (sym made) h.followed) ∙ ap (told_rows log) made)
    (c.in_ok-from_slice.ensures.items ∙ cuts)
    (c.in_ok-ends.ensures (seen_in front window) log h.known)
