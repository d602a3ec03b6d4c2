use Rattle.std.proofs.Common.{◌∙◌, ◌+◌, ℕ, Some, sym, ap, subst, drop, arith}
use Rattle.kt_spacetime.specs.declared.event.Event.{Event}
use Rattle.kt_picture.specs.Arrows.{StaysReceived}
use Rattle.kt_picture.specs.Fates.{is_message_undone, is_receive_undone}
use Rattle.kt_picture.specs.Window.{shown_of}
use Rattle.kt_picture.proofs.ShownFacts.{place_in, shows_row, row_shown}
use Rattle.kt_picture.proofs.ArrowFacts.{drawn_at, undone_is, received_message, dropped_message, stays_received, received_for_good}
use Rattle.kt_picture.proofs.laws.arrows_tell_messages.Goals as goal

pub returns-clause-drawn : goal.returns-clause-drawn
returns-clause-drawn c = λ view rows before s h.
    let at = place_in (shown_of rows before) s h in
    let v = shows_row rows before at.0 s at.1 in
    drawn_at view rows s s.event v.in_transit

pub returns-clause-tail : goal.returns-clause-tail
returns-clause-tail c = λ rows before s h.
    let at = place_in (shown_of rows before) s h in
    let v = shows_row rows before at.0 s at.1 in
    omega (arith, v.number, v.column)

pub returns-clause-left_end : goal.returns-clause-left_end
returns-clause-left_end c = λ before msg l. omega (arith, l)

pub returns-clause-sent_undone : goal.returns-clause-sent_undone
returns-clause-sent_undone c = λ rows before p q body s h is.
    let at = place_in (shown_of rows before) s h in
    let v = shows_row rows before at.0 s at.1 in
    v.undone ∙ ap (is_message_undone rows s.row) is ∙ undone_is rows s.row p q (body, row_shown rows before at.0 s v ∙ ap (λ (x : Event). Some x) is)

pub returns-clause-received_undone : goal.returns-clause-received_undone
returns-clause-received_undone c = λ rows before p q msg s legal h is.
    let at = place_in (shown_of rows before) s h in
    let v = shows_row rows before at.0 s at.1 in
    v.undone ∙ ap (is_message_undone rows s.row) is
    ∙ undone_is rows msg q p (received_message rows (before + at.0) p q msg legal (v.at ∙ ap (λ (x : Event). Some x) is))

pub returns-clause-dropped_undone : goal.returns-clause-dropped_undone
returns-clause-dropped_undone c = λ rows before p q msg s legal h is.
    let at = place_in (shown_of rows before) s h in
    let v = shows_row rows before at.0 s at.1 in
    v.undone ∙ ap (is_message_undone rows s.row) is
    ∙ undone_is rows msg q p (dropped_message rows (before + at.0) p q msg legal (v.at ∙ ap (λ (x : Event). Some x) is))

pub returns-clause-taken_back : goal.returns-clause-taken_back
returns-clause-taken_back c = λ rows before p q msg s legal h is.
    let at = place_in (shown_of rows before) s h in
    let v = shows_row rows before at.0 s at.1 in
    let j = before + at.0 in
    let row = v.at ∙ ap (λ (x : Event). Some x) is in
    let same = v.taken_back ∙ ap (λ (x : Event). is_receive_undone rows x (drop (j + 1) rows)) is in (
      λ no. subst (λ (n : ℕ). StaysReceived rows n p q msg) (sym v.number) (stays_received rows j p q msg legal row (sym same ∙ no)),
      λ stays. same ∙ received_for_good rows j p q msg legal row (subst (λ (n : ℕ). StaysReceived rows n p q msg) v.number stays),
    )
