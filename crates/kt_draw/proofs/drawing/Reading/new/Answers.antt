use Rattle.std.proofs.Common.{◌≡◌, ◌∙◌, ◌-◌, ℕ, ap, refl}
use Rattle.kt_draw.specs.Drawn.{first_row}
use Rattle.kt_draw.specs.Followed.{last_wanted}
use Rattle.kt_draw.proofs.Following.{reading_none, window_none}
use Rattle.kt_draw.proofs.drawing.Reading.new.Goals as goal

pub returns : goal.returns
returns c =
    let before : c.saturating_sub-before.result ≡ first_row c.args.span.from - 1 = c.saturating_sub-before.ensures ∙ ap (λ (n : ℕ). n - 1) c.first_row.ensures.exact in
    reading_none _ c.args.span refl refl (record {
      walk = c.in_ok-new.ensures;
      some = c.last_wanted.ensures.after;
      window = window_none c.new-2.result c.in_ok-new.field-0 c.saturating_sub-before.result c.last_wanted.result (c.new-2.ensures c.in_ok-new.field-0 c.in_ok-new.ensures);
    }) before (c.last_wanted.ensures.exact ∙ ap (λ (n : ℕ). last_wanted n c.args.span.to) before)
