use Rattle.std.proofs.Common.{◌≡◌, ◌∙◌, ap, sym, inl, inr}
use Rattle.kt_picture.specs.declared.words.Saying.TheVariants as say
use Rattle.kt_picture.specs.Marks.{body_of, label, word_at}
use Rattle.kt_picture.specs.Pages.{view_in}
use Rattle.kt_picture.proofs.rows.word_at.Goals as goal

pub returns-in-Received : goal.returns-in-Received
returns-in-Received c =
    let view = view_in c.args.page.now in
    let s = c.args.s.now in
    let p = c.in-Received.p in
    let from = c.in-Received.from in
    let msg = c.in-Received.msg in
    let is : label view s p from (say.Message msg (body_of view msg)) ≡ word_at view s c.args.event =
    elim c.in-Received.is [ inl e ↦ ap (word_at view s) (sym e) | inr e ↦ ap (word_at view s) (sym e) ] in
    c.label-in-Received.ensures ∙ (λ j. label view s p from (say.Message (c.get.ensures.value j) (c.body_of-body.ensures j))) ∙ is
