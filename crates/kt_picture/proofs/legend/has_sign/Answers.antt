use Rattle.std.proofs.Common.{rules, tests, ◌≡◌, ◌∙◌, ap, refl, sym}
use Rattle.std.specs.List.{list_any}
use Rattle.std.proofs.lemmas.Iterator.{YieldsList-from_slice}
use Rattle.std.proofs.lemmas.Iterator.Search.{any_from_yields_List}
use Rattle.kt_picture.specs.declared.legend.Sign.{Sign}
use Rattle.kt_picture.specs.declared.legend.Sign.TheVariants as sign
use Rattle.kt_picture.specs.declared.window.CutMark.{CutMark}
use Rattle.kt_picture.specs.Legend.{has_sign, row_shows}
use Rattle.kt_picture.specs.Pages.{view_in}
use Rattle.kt_picture.specs.View.{View}
use Rattle.kt_picture.proofs.legend.has_sign.Goals as goal

pub returns-in-Cut : goal.returns-in-Cut
returns-in-Cut c =
    any_from_yields_List (λ (x : CutMark). x.is_new) _ _ c.any.result c.any.ensures.ran (YieldsList-from_slice c.deref.result.now cc) (λ x b q k. search (rules, tests))
    ∙ ap (list_any (λ (x : CutMark). x.is_new)) c.deref.ensures.value
    ∙ ap (has_sign (view_in c.args.page.now)) (sym c.in-Cut.is)

-- of the other marks that one of its rows has
of_rows : (view : View) (s : Sign) → (s ≡ sign.Cut → ⊥) → (s ≡ sign.Wrong → ⊥) → list_any (row_shows view s) view.shown ≡ has_sign view s
of_rows view sign.Message cut wrong = refl
of_rows view sign.Undone cut wrong = refl
of_rows view sign.Chain cut wrong = refl
of_rows view sign.Transit cut wrong = refl
of_rows view sign.Dropped cut wrong = refl
of_rows view sign.Instance cut wrong = refl
of_rows view sign.Checkpoint cut wrong = refl
of_rows view sign.Rollback cut wrong = refl
of_rows view sign.Decision cut wrong = refl
of_rows view sign.Cut cut wrong = absurd (cut refl)
of_rows view sign.Failure cut wrong = refl
of_rows view sign.Refusal cut wrong = refl
of_rows view sign.Wrong cut wrong = absurd (wrong refl)

pub returns-in_default : goal.returns-in_default
returns-in_default c =
    let view = view_in c.args.page.now in
    any_from_yields_List (row_shows view c.args.sign) _ _ c.any-in_default.result c.any-in_default.ensures.ran (YieldsList-from_slice c.deref-in_default.result.now cc) (λ x b q k. search (rules, tests))
    ∙ ap (list_any (row_shows view c.args.sign)) c.deref-in_default.ensures.value
    ∙ of_rows view c.args.sign c.in_default.not-Cut c.in_default.not-Wrong
