use Rattle.std.proofs.Common.{◌∙◌, ◌+◌, ap}
use Rattle.std.proofs.lemmas.Result.{IfOk-weaker}
use Rattle.kt_picture.specs.BrokenRow.{caption_of}
use Rattle.kt_draw.proofs.drawing.Reading.caption.Goals as goal

pub returns : goal.returns
returns c = IfOk-weaker c.caption.result _ _ (λ line made span read h. made ∙ ap (λ n. caption_of (n + 1) c.args.self.now.breach) (c.rows.ensures.rows ∙ h.followed.walk.control.number)) c.caption.ensures.exact
