use Rattle.std.proofs.Common.{◌≡◌, ◌∙◌, ◌+◌, ℕ, Bool, if◌then◌else◌, arith, ap, length, refl, subst, sym, take}
use Rattle.std.proofs.lemmas.List.{length-drop, length-take}
use Rattle.std.proofs.lemmas.Result.{err_from_is_err_and}
use Rattle.kt_picture.specs.Picture.{picture_of}
use Rattle.kt_picture.proofs.DiagramFacts.{byte_is}
use Rattle.kt_draw.specs.Drawn.{IsUndrawnLog, breach_drawn}
use Rattle.kt_draw.proofs.Following.{begun, drawn_else, drawn_then, reading_pictured, reading_undrawn, rows_for}
use Rattle.kt_draw.proofs.drawing.Reading.picture.Goals.{then-kept-last, else-kept-last}
use Rattle.kt_draw.proofs.drawing.Reading.picture.Goals as goal

pub sheet-requires : goal.sheet-requires
sheet-requires c =
    let h = c.requires.few.1 in
    record { few = (h.kept, h.followed, omega (arith, h.read.within, c.requires.few.2)) }

pub picture-requires : goal.picture-requires
picture-requires c =
    let h = c.requires.few.1 in
    let r = c.args.self.now in
    let f = r.followed in
    let kept : c.rows-kept.result ≡ length h.kept = c.rows-kept.ensures.rows ∙ h.followed.walk.control.number in
    let seen = ap (λ (n : ℕ). c.rows-kept.result + n) (c.from.ensures ∙ byte_is _ ∙ ap (λ (b : Bool). if b then 1 else 0) c.is_some.ensures) in
    let begins = begun r c.args.span c.requires.few.0 c.rows-kept.result r.count _ h kept seen c.in_ok-last.ensures.rows in
    let sheet = c.in_ok-sheet.ensures.exact h.kept h.followed begins in
    record { few = omega (arith, sheet.before_is, sheet.columns, length-drop f.before (take f.last h.kept), length-take f.last h.kept, h.followed.some, begins, h.read.within, c.requires.few.2) }

pub returns-clause-picture : goal.returns-clause-picture
returns-clause-picture c = λ read h told.
    let r = c.args.self.now in
    let f = r.followed in
    let certificates = c.args.evidence.now.certificates.now in
    let n = c.rows-kept.result in
    let last = c.in_ok-last.last in
    let kept : n ≡ length h.kept = c.rows-kept.ensures.rows ∙ h.followed.walk.control.number in
    let seen = ap (λ (k : ℕ). n + k) (c.from.ensures ∙ byte_is _ ∙ ap (λ (b : Bool). if b then 1 else 0) c.is_some.ensures) in
    let begins = begun r c.args.span read n r.count _ h kept seen c.in_ok-last.ensures.rows in
    let drawn : c.if-kept-last.breach ≡ breach_drawn n last r.breach = elim c.if-kept-last.branch [
      | then-kept-last w ↦ drawn_then n last r.breach c.if-kept-last.breach w.if-kept-last.true w.breach-is
      | else-kept-last w ↦ drawn_else n last r.breach c.if-kept-last.breach w.if-kept-last.false w.breach-is
    ] in
    reading_pictured c.args.names.now c.args.span r read n r.count _ last certificates c.args.evidence.now.orphan c.args.line.now c.in_ok-picture.field-0.items h kept refl seen c.in_ok-last.ensures.rows c.in_ok-last.ensures.short c.in_ok-last.ensures.last
    (c.in_ok-picture.ensures (take f.last h.kept) f.before (c.in_ok-sheet.ensures.exact h.kept h.followed begins) (rows_for c.args.rows.now read h.kept f.last certificates h.front told)
    ∙ (λ j. picture_of c.args.names.now (take f.last h.kept) f.before (drawn j) certificates c.args.evidence.now.orphan c.args.line.now))

pub returns-in_err-last-clause-fault : goal.returns-in_err-last-clause-fault
returns-in_err-last-clause-fault c = λ read h.
    let r = c.args.self.now in
    let p = err_from_is_err_and c.from_residual.result c.from_residual.ensures.1 in
    let seen = ap (λ (n : ℕ). c.rows-kept.result + n) (c.from.ensures ∙ byte_is _ ∙ ap (λ (b : Bool). if b then 1 else 0) c.is_some.ensures) in
    rw (p.1)
    (subst (IsUndrawnLog c.args.span read) (sym p.2)
    (reading_undrawn c.args.span r read c.rows-kept.result r.count _ c.in_err-last.field-0.0 h (c.rows-kept.ensures.rows ∙ h.followed.walk.control.number) refl seen c.in_err-last.ensures.fault))
