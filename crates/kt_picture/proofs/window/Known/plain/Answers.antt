use Rattle.std.proofs.Common.{◌∙◌, ◌+◌, ℕ, ap, refl}
use Rattle.kt_picture.specs.KnownAtRow.{stretch_from}
use Rattle.kt_picture.proofs.WindowFacts.{plain_is}
use Rattle.kt_picture.proofs.window.Known.plain.Goals as goal

pub returns : goal.returns
returns c = λ s rows h.
    plain_is c.args.self.now c.args.walk.now s rows c.args.row.now _ h (ap (λ (n : ℕ). n + 1) (c.rows.ensures.count rows h.walk)) refl refl
    (c.stretch.ensures s rows h ∙ ap (stretch_from s) c.process.ensures) refl refl refl refl
