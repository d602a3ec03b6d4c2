use Rattle.std.proofs.Common.{◌≡◌, ◌≢◌, ◌∙◌, ◌+◌, Bool, true, false, ℕ, Option, Some, None, List, length, refl, sym, ap, take, arith}
use Rattle.std.specs.Prelude.{◌↔◌}
use Rattle.kt_spacetime.specs.declared.event.Event.{Event}
use Rattle.kt_spacetime.specs.declared.event.Event.TheVariants.{Took, Ready}
use Rattle.kt_meaning.specs.Past.{past}
use Rattle.kt_meaning.proofs.RowRules.{may_take, may_get_ready}
use Rattle.kt_meaning.proofs.LegalLogs.{next_unbroken}
use Rattle.kt_picture.specs.Fates.{joined_decision}
use Rattle.kt_picture.specs.declared.looks.Outline.TheVariants.{Square, Triangle}
use Rattle.kt_picture.specs.Looks.{class_text, outline_text}
use Rattle.kt_picture.specs.Marks.{fill_look, is_crossed}
use Rattle.kt_picture.specs.Window.{shown_of}
use Rattle.kt_picture.proofs.ShownFacts.{place_in, shows_row}
use Rattle.kt_picture.proofs.DecisionFacts.{decided_in_window}
use Rattle.kt_picture.proofs.laws.joinings_tell_decisions.Goals as goal

pub returns-clause-took : goal.returns-clause-took
returns-clause-took c = λ rows before p k commit s legal h is.
    let at = place_in (shown_of rows before) s h in
    let v = shows_row rows before at.0 s at.1 in
    let row = v.at ∙ ap (λ (x : Event). Some x) is in
    let may = may_take (past (take (before + at.0) rows)) p k (next_unbroken rows (before + at.0) (Took p k) legal row) in
    let same = v.decision ∙ ap (joined_decision rows) is in
    let decided = decided_in_window rows before at.0 k commit legal may.undecided in
    (λ e. decided.0 (sym same ∙ e), λ row. same ∙ decided.1 row)

pub returns-clause-ready : goal.returns-clause-ready
returns-clause-ready c = λ rows before p k commit s legal h is.
    let at = place_in (shown_of rows before) s h in
    let v = shows_row rows before at.0 s at.1 in
    let row = v.at ∙ ap (λ (x : Event). Some x) is in
    let may = may_get_ready (past (take (before + at.0) rows)) p k (next_unbroken rows (before + at.0) (Ready p k) legal row) in
    let same = v.decision ∙ ap (joined_decision rows) is in
    let decided = decided_in_window rows before at.0 k commit legal may.undecided in
    (λ e. decided.0 (sym same ∙ e), λ row. same ∙ decided.1 row)

undecided : (b : Bool) → None ≡ Some b → ⊥
undecided b e = absurd (cc)

-- texts of other lengths are others
apart : (xs ys : List ℕ) → length xs ≢ length ys → xs ≢ ys
apart xs ys differ same = differ (ap length same)

filled : (d : Option Bool) → (class_text (fill_look d) ≢ class_text (fill_look None)) ↔ (d ≡ Some true)
filled None = (λ n. absurd (n refl), λ e. absurd (undecided true e))
filled (Some false) = (λ n. absurd (n refl), λ e. absurd (cc))
filled (Some true) = (λ n. refl, λ e. λ same. absurd (cc))

pub returns-clause-filled : goal.returns-clause-filled
returns-clause-filled c = filled

crossed_square : (d : Option Bool) → (outline_text (Square (is_crossed d)) ≢ outline_text (Square false)) ↔ (d ≡ Some false)
crossed_square None = (λ n. absurd (n refl), λ e. absurd (undecided false e))
crossed_square (Some true) = (λ n. absurd (n refl), λ e. absurd (cc))
crossed_square (Some false) = (λ n. refl, λ e. apart (outline_text (Square true)) (outline_text (Square false)) (λ same. let h : ◌≡◌ {A = ℕ} 23 17 = same in absurd (omega arith)))

pub returns-clause-crossed_square : goal.returns-clause-crossed_square
returns-clause-crossed_square c = crossed_square

crossed_triangle : (d : Option Bool) → (outline_text (Triangle (is_crossed d)) ≢ outline_text (Triangle false)) ↔ (d ≡ Some false)
crossed_triangle None = (λ n. absurd (n refl), λ e. absurd (undecided false e))
crossed_triangle (Some true) = (λ n. absurd (n refl), λ e. absurd (cc))
crossed_triangle (Some false) = (λ n. refl, λ e. apart (outline_text (Triangle true)) (outline_text (Triangle false)) (λ same. let h : ◌≡◌ {A = ℕ} 27 16 = same in absurd (omega arith)))

pub returns-clause-crossed_triangle : goal.returns-clause-crossed_triangle
returns-clause-crossed_triangle c = crossed_triangle
